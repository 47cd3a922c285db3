use Rattle.std.proofs.Common.{◌≡◌, ℕ, ◌<◌, get_or}
use Rattle.machine.specs.Rows.{byte}
use Rattle.table_format.specs.Stepping.{binary_digit}
use Rattle.step_table.proofs.filling.set_bits.Given as goal

abbrev pub invariant-loop-bit : goal.invariant-loop-bit
invariant-loop-bit l = (k : ℕ) → k < l.bit → get_or l.byte-items k 0 ≡ byte (binary_digit l.value k)
