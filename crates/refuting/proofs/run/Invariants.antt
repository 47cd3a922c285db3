use Rattle.std.proofs.Common.{◌≡◌, ◌+◌, ◌≤◌, length}
use Rattle.refuting.specs.Rooms.{room_of, Ready}
use Rattle.refuting.proofs.Loop.{Running}
use Rattle.refuting.proofs.run.Given as goal

abbrev pub invariant-loop-record : goal.invariant-loop-record
invariant-loop-record g l =
    (l.records + l.initial.cursor.offset ≤ l.cursor.offset)
    × (l.cursor.offset + length l.cursor.rest.now ≡ l.initial.cursor.offset + length l.initial.cursor.rest.now)
    × (Ready (g.L.ClauseList.literal_mark l.list) (g.L.ClauseList.span_mark l.list) (room_of l.initial.refutation l.initial.literals l.initial.spans)
    → Running (g.L.ClauseList.clauses l.list l.initial.literals l.initial.spans) (room_of l.initial.refutation l.initial.literals l.initial.spans) l.question l.initial.cursor.offset l.initial.cursor.rest.now l.initial.literals l.initial.spans l.refutation l.literals l.spans l.cursor.rest.now l.records)

abbrev pub decreases-loop-record : goal.decreases-loop-record
decreases-loop-record g l = length l.cursor.rest.now
