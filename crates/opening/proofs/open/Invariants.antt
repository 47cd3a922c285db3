use Rattle.std.proofs.Common.{length}
use Rattle.opening.specs.Steps.{room_in}
use Rattle.opening.specs.Views.{view, Steady}
use Rattle.opening.proofs.Loop.{Going}
use Rattle.opening.proofs.open.Given as goal

abbrev pub invariant-loop-phase : goal.invariant-loop-phase
invariant-loop-phase g l =
    Going (g.M.Machine.meaning l.machine) (room_in (length l.initial.literals) (length l.initial.spans)) l.initial.cursor.offset l.initial.cursor.rest.now
    l.cursor.rest.now l.cursor.offset l.records (view l.phase l.frames l.literals l.spans)
    × Steady l.phase l.frames l.literals l.spans

abbrev pub decreases-loop-phase : goal.decreases-loop-phase
decreases-loop-phase g l = length l.cursor.rest.now
