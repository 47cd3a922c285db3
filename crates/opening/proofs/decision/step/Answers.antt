use Rattle.std.proofs.Common.{length, sym, ap, ◌∙◌}
use Rattle.certificate.specs.declared.record.Record.TheVariants.{Claim, FrameEnd}
use Rattle.opening.specs.declared.phase.Phase.TheVariants.{Opening, Framing}
use Rattle.opening.proofs.Arms.{known, frame_early}
use Rattle.opening.proofs.decision.step.Goals as goal

pub returns-in-Claim-Opening : goal.returns-in-Claim-Opening
returns-in-Claim-Opening g c =
    let m = g.M.Machine.meaning c.args.machine.now in
    let w = c.in-Claim-Opening in
    let f = c.args.frames.now in
    let ls = c.args.literals.now in
    let ps = c.args.spans.now in
    known m c.args.phase Opening c.args.record (Claim w.claim w.size) f ls ps c.claimed.result f ls ps w.is-1 w.is-0 (c.claimed.ensures m f ls ps)

pub returns-in-FrameEnd-Framing : goal.returns-in-FrameEnd-Framing
returns-in-FrameEnd-Framing g c =
    let m = g.M.Machine.meaning c.args.machine.now in
    let w = c.in-FrameEnd-Framing in
    let f = c.args.frames.now in
    let ls = c.args.literals.now in
    let ps = c.args.spans.now in
    known m c.args.phase (Framing w.size) c.args.record FrameEnd f ls ps c.end_frame.result c.end_frame.new.frames ls ps w.is-1 w.is-0
    (c.end_frame.ensures m ls ps (sym (ap length c.open-open.ensures) ∙ c.if-open-eq0.true))

pub returns-in_default-4 : goal.returns-in_default-4
returns-in_default-4 g c =
    let m = g.M.Machine.meaning c.args.machine.now in
    let w = c.in-FrameEnd-Framing in
    let f = c.args.frames.now in
    let ls = c.args.literals.now in
    let ps = c.args.spans.now in
    known m c.args.phase (Framing w.size) c.args.record FrameEnd f ls ps _ f ls ps w.is-1 w.is-0
    (frame_early m f ls ps w.size (λ e. c.if-open-eq0.false (ap length c.open-open.ensures ∙ e)))
