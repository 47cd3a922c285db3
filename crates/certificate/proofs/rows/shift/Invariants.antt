use Rattle.std.proofs.Common.{◌≡◌, ℕ, ◌/◌, ◌<◌, ◌≤◌, get_or}
use Rattle.certificate.proofs.rows.shift.Given as goal

abbrev pub invariant-loop-byte : goal.invariant-loop-byte
invariant-loop-byte l =
    ((j : ℕ) → j < l.byte-index → get_or l.bytes j 0 ≡ get_or l.initial.bytes j 0 / 2)
    × ((j : ℕ) → l.byte-index ≤ j → get_or l.bytes j 0 ≡ get_or l.initial.bytes j 0)
