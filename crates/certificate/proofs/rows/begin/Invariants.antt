use Rattle.std.proofs.Common.{◌≡◌, ℕ, ◌<◌, false, get_or}
use Rattle.machine.specs.Rows.{byte}
use Rattle.certificate.proofs.rows.begin.Given as goal

abbrev pub invariant-loop-bit : goal.invariant-loop-bit
invariant-loop-bit g l =
    let m = g.M.Machine.meaning l.machine in
    (j : ℕ) → j < l.bit → get_or l.byte-items j 0 ≡ byte (get_or m.start j false)
