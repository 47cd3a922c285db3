use Rattle.std.proofs.Common.{◌≡◌, false, length}
use Rattle.refute.proofs.Runs.{Running}
use Rattle.refute.proofs.attempt.Given as goal

abbrev pub invariant-loop-step : goal.invariant-loop-step
invariant-loop-step g l =
    (l.refutation.spent ≡ false)
    × (g.L.ClauseList.literal_mark l.list ≡ 0 → g.L.ClauseList.span_mark l.list ≡ 0
    → Running (g.L.ClauseList.clauses l.list l.initial.literals l.initial.spans) (length l.initial.literals) (length l.initial.spans) l.steps l.step-index l.refutation l.literals l.spans)
