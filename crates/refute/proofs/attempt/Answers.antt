use Rattle.std.proofs.Common.{replicate, ap, ◌∙◌}
use Rattle.std.proofs.lemmas.Result.{err_from_is_err_and, MatchResult-weaker}
use Rattle.refute.specs.declared.steps.Step.TheVariants.{Take}
use Rattle.refute.proofs.Runs.{still, goes, stops, all_taken, begins, spent_is, zero_is, answer_is}
use Rattle.refute.proofs.attempt.Goals as goal

pub loop-step-init : goal.loop-step-init
loop-step-init g c =
    (ap (λ t. t.spent) c.requires.fresh, λ _ _. begins _ c.args.steps.now c.args.refutation.now c.args.literals.now c.args.spans.now c.requires.fresh c.requires.admits)

pub loop-step-preserved : goal.loop-step-preserved
loop-step-preserved g c =
    let e = c.in_ok-apply.ensures in (
      e.spent ∙ c.loop-step.invariant.0,
      λ a b. goes _ _ _ _ c.args.steps.now c.loop-step.step-index (Take 0) c.loop-step.refutation c.apply.new.refutation c.loop-step.literals c.apply.new.literals c.loop-step.spans c.apply.new.spans
          (still (g.L.ClauseList.clauses c.args.list.now) (g.L.ClauseList.literal_mark c.args.list.now) (g.L.ClauseList.span_mark c.args.list.now) (g.L.ClauseList.stands c.args.list.now) a b c.args.literals.now c.loop-step.literals c.args.spans.now c.loop-step.spans)
          (c.loop-step.invariant.1 a b) c.loop-step-test.true c.in_ok-apply.field-0 e.step e.carries c.apply.auto.literals c.apply.auto.spans,
    )

pub returns-in_err-apply : goal.returns-in_err-apply
returns-in_err-apply g c =
    let e = c.in_err-apply.ensures in
    let p = err_from_is_err_and c.from_residual.result c.from_residual.ensures.1 in
    rw (p.1, p.2)
    (record {
      answer = λ a b. stops _ _ _ _ c.args.steps.now c.loop-step.step-index (Take 0) c.loop-step.refutation c.apply.new.refutation c.loop-step.literals c.apply.new.literals c.loop-step.spans c.apply.new.spans
          (still (g.L.ClauseList.clauses c.args.list.now) (g.L.ClauseList.literal_mark c.args.list.now) (g.L.ClauseList.span_mark c.args.list.now) (g.L.ClauseList.stands c.args.list.now) a b c.args.literals.now c.loop-step.literals c.args.spans.now c.loop-step.spans)
          (c.loop-step.invariant.1 a b) c.loop-step-test.true c.in_err-apply.field-0.0 e.step;
      refuted = λ _ _. tt;
      spent = e.spent ∙ c.loop-step.invariant.0;
      zero = tt;
    })

pub returns : goal.returns
returns g c =
    let t = c.loop-step.refutation in
    let r = c.finish.result in
    let e = c.finish.ensures in
    record {
      answer = λ a b. answer_is r _ _ e.answer (all_taken _ _ _ c.args.steps.now c.loop-step.step-index t c.loop-step.literals c.loop-step.spans (c.loop-step.invariant.1 a b) c.loop-step-test.false);
      refuted = λ a b. MatchResult-weaker r e.refuted (λ _ h. h _ (c.loop-step.invariant.1 a b).follows) (λ _ _. tt);
      spent = spent_is r t c.finish.new.self c.loop-step.invariant.0 e.refutation;
      zero = zero_is r _ _ _ _ _ _ _ _ e.literals e.spans (ap (λ n. replicate n 0) c.loop-step.auto.literals) (ap (λ n. replicate n (record { start = 0; length = 0 })) c.loop-step.auto.spans);
    }
