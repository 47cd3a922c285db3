use Rattle.std.proofs.Common.{◌≡◌, ℕ, ◌+◌, ◌/◌, ◌%◌, ◌<◌, ◌≤◌, get_or}
use Rattle.machine.specs.Meaning.{lit}
use Rattle.machine.specs.Rows.{byte, bits}
use Rattle.certificate.proofs.rows.mark_next.Given as goal

-- bit 0 of every byte stands; bit 1 is the next state so far, and clear ahead
abbrev pub invariant-loop-bit : goal.invariant-loop-bit
invariant-loop-bit g l =
    let m = g.M.Machine.meaning l.machine in
    ((k : ℕ) → k < m.variables → get_or l.row k 0 % 2 ≡ get_or l.initial.row k 0)
    × ((j : ℕ) → j < l.bit → get_or l.row (1 + m.inputs + j) 0 / 2 ≡ byte (lit (bits l.initial.row) (get_or m.next j 0)))
    × ((j : ℕ) → l.bit ≤ j → j < m.state_bits → get_or l.row (1 + m.inputs + j) 0 < 2)
