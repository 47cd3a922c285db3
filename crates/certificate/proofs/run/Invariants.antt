use Rattle.std.proofs.Common.{length}
use Rattle.certificate.specs.Views.{view, Steady}
use Rattle.certificate.proofs.Loop.{Going}
use Rattle.certificate.proofs.run.Given as goal

abbrev pub invariant-loop-phase : goal.invariant-loop-phase
invariant-loop-phase g l =
    let m = g.M.Machine.meaning l.machine in
    Going m l.rule l.bytes l.cursor.rest.now l.cursor.offset l.records (view m l.phase l.row)
    × Steady m l.phase l.row

abbrev pub decreases-loop-phase : goal.decreases-loop-phase
decreases-loop-phase g l = length l.cursor.rest.now
