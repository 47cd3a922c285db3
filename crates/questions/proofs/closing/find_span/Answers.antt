use Rattle.std.proofs.Common.{◌≡◌, take, sym, ap, ◌∙◌, arith}
use Rattle.questions.specs.Places.{halved}
use Rattle.questions.proofs.Halving.{half, halved_done, turn_on, turn_off}
use Rattle.questions.proofs.closing.find_span.Goals as goal

pub loop-bit-preserved-then-has_begun : goal.loop-bit-preserved-then-has_begun
loop-bit-preserved-then-has_begun c =
    let ps = take c.args.frames.now.spans.used c.args.spans.now in
    let h = half c.loop-bit.bit c.loop-bit-test.true in
    let e = c.if-has_begun.ensures in (
      turn_on ps c.args.literal c.loop-bit.bit c.loop-bit.span _ c.loop-bit-test.true c.loop-bit.invariant.0 _ (omega arith) e,
      omega (arith, c.loop-bit.invariant.1),
    )

pub loop-bit-preserved : goal.loop-bit-preserved
loop-bit-preserved c =
    let ps = take c.args.frames.now.spans.used c.args.spans.now in
    let h = half c.loop-bit.bit c.loop-bit-test.true in
    let e = c.if-has_begun.ensures in (
      turn_off ps c.args.literal c.loop-bit.bit c.loop-bit.span _ c.loop-bit-test.true c.loop-bit.invariant.0 _ (omega arith) e,
      omega (arith, c.loop-bit.invariant.1),
    )

pub returns-clause-span : goal.returns-clause-span
returns-clause-span c =
    let ps = take c.args.frames.now.spans.used c.args.spans.now in
    let z : c.loop-bit.bit ≡ 0 = omega arith in
    sym (c.loop-bit.invariant.0 ∙ ap (λ b. halved ps c.args.literal b c.loop-bit.span) z ∙ halved_done ps c.args.literal c.loop-bit.span)
