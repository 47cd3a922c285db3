use Rattle.std.proofs.Common.{length, ap, ◌∙◌, arith}
use Rattle.frames.specs.Held.{before_frame, frame}
use Rattle.questions.proofs.ClosingSections.{closing_count}
use Rattle.questions.proofs.list.TraceList.count_closing.Goals as goal

pub returns : goal.returns
returns g c a ls =
    let f = c.args.self.now.frames.now in
    let ps = c.args.spans.now in
    let last = c.last_frame-last.ensures in
    let n = c.count_framed.ensures.size ls ∙ ap (λ k. length (frame f ls ps k)) last in
    let m = ap (λ m. m.literals) (c.before-2.ensures ∙ ap (before_frame f) last) in
    omega (arith, closing_count a f ls ps)
