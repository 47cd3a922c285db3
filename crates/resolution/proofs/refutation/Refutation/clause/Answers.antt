use Rattle.std.proofs.Common.{◌≡◌, ◌+◌, get_or, take, sym, ap, ◌∙◌, arith}
use Rattle.stack.specs.Runs.{run}
use Rattle.stack.proofs.Places.{take_min}
use Rattle.resolution.proofs.Owned.{length_own, own_at}
use Rattle.resolution.proofs.refutation.Refutation.clause.Goals as goal

pub returns-in_err-span : goal.returns-in_err-span
returns-in_err-span c =
    let t = c.args.self.now in
    let l = length_own t.literals.used t.first t.spans.used c.args.literals.now c.args.spans.now in
    let h = c.in_err-span.ensures in
    let s = c.saturating_add.ensures in
    rw c.from_residual.ensures (omega arith)

pub returns : goal.returns
returns c =
    let t = c.args.self.now in
    let l = length_own t.literals.used t.first t.spans.used c.args.literals.now c.args.spans.now in
    let h = c.in_ok-span.ensures in
    let s = c.saturating_add.ensures in
    let e : c.saturating_add.result ≡ c.args.self.now.first + c.args.number = omega arith in (
      omega arith,
      c.bounds.ensures.order.0,
      omega arith,
      omega arith,
      c.bounds.ensures.marks c.args.literals.now (omega arith)
          ∙ ap (λ k. run (take k c.args.literals.now) c.in_ok-span.span) c.min.ensures
          ∙ ap (λ ls. run ls c.in_ok-span.span) (take_min t.literals.used c.args.literals.now)
          ∙ ap (run (take t.literals.used c.args.literals.now)) (h.1 ∙ ap (λ k. get_or c.args.spans.now k c.in_ok-span.span) e)
          ∙ sym (own_at t.literals.used t.first t.spans.used c.args.literals.now c.args.spans.now c.args.number c.in_ok-span.span (omega arith) (omega arith)),
    )
