use Rattle.std.proofs.Common.{ℕ, ◌+◌, ◌≤◌, List, length}
use Rattle.checking.specs.Begun.{Puts}
use Rattle.checking.proofs.Loop.{UnderWay}
use Rattle.checking.proofs.refutations.check_questions.Given as goal

abbrev pub invariant-loop-number : goal.invariant-loop-number
invariant-loop-number g l =
    (l.records ≤ l.cursor.offset)
    × ((qs : List (List (List ℕ))) → Puts (goal.F-post g l.question) g.L.ClauseList.clauses g.L.ClauseList.literal_mark g.L.ClauseList.span_mark l.opening.frames l.initial.literals l.initial.spans l.total qs →
    UnderWay l.opening.frames l.initial.literals l.initial.spans qs (l.initial.cursor.offset + length l.initial.cursor.rest.now) l.initial.cursor.rest.now l.opening.records
    l.number l.cursor.rest.now l.cursor.offset l.records l.literals l.spans)
