use Rattle.std.proofs.Common.{ℕ, List, subst}
use Rattle.certificate.specs.Records.{Taken}
use Rattle.refutation_files.proofs.ManySteps.{stepped_none, stepped_more, stepped_whole, left_less}
use Rattle.refutation_files.proofs.steps.read_steps.Goals as goal

pub loop-step-init : goal.loop-step-init
loop-step-init c =
    let after = c.next-record.new.self.rest.now in
    stepped_none _ _ _ _ c.new-steps.ensures.items
    (subst (λ (x : List ℕ). Taken x after c.next-record.result) c.new-cursor.ensures.rest c.next-record.ensures.exact)

pub loop-step-smaller : goal.loop-step-smaller
loop-step-smaller c = left_less _ _ _ _ c.in-Some.step c.in-Some.ensures c.next-record-in-Some.ensures.exact

pub loop-step-preserved : goal.loop-step-preserved
loop-step-preserved c =
    stepped_more _ _ _ _ c.loop-step.invariant c.in-Some.step c.in-Some.ensures _ c.in_ok-push.ensures.items _ _ c.next-record-in-Some.ensures.exact

pub returns : goal.returns
returns c = stepped_whole _ _ _ _ c.loop-step.invariant c.ending-ending.result c.in_default.ensures c.ending-ending.ensures
