use Rattle.std.proofs.Common.{◌≡◌, ◌+◌, ◌^◌, ◌<◌, length, drop}
use Rattle.decimal.specs.Number.{leading, value_on}
use Rattle.decimal.proofs.digits.Given as goal

abbrev pub invariant-loop-byte : goal.invariant-loop-byte
invariant-loop-byte l =
    (l.value < 2 ^ 32) × (l.size ≡ l.byte-index)
    × (value_on l.value (leading (drop l.byte-index l.text)) ≡ value_on 0 (leading l.text))
    × (l.byte-index + length (leading (drop l.byte-index l.text)) ≡ length (leading l.text))
