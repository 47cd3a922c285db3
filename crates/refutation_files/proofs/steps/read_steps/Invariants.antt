use Rattle.std.proofs.Common.{vec_items}
use Rattle.refutation_files.proofs.ManySteps.{Stepped, left}
use Rattle.refutation_files.proofs.steps.read_steps.Given as goal

abbrev pub invariant-loop-step : goal.invariant-loop-step
invariant-loop-step l = Stepped l.bytes l.cursor.rest.now (vec_items l.steps) l.record

abbrev pub decreases-loop-step : goal.decreases-loop-step
decreases-loop-step l = left l.cursor.rest.now l.record
