use Rattle.std.proofs.Common.{[], ◌∷◌, get_or, arith}
use Rattle.frames.specs.Held.{frame}
use Rattle.question_theory.specs.Traces.{safe_question}
use Rattle.questions.proofs.RowSections.{sections_count}
use Rattle.questions.proofs.list.TraceList.count_safe.Goals as goal

pub returns : goal.returns
unfolding safe_question
returns g c =
    let m = g.M.Machine.meaning c.args.self.now.machine.now in
    let f = c.args.self.now.frames.now in
    let ls = c.args.literals.now in
    let cs = frame f ls c.args.spans.now c.args.index in
    let all = sections_count m 0 cs ((get_or m.rule c.args.self.now.rule 0 ∷ []) ∷ []) in
    let u = c.count_rows-rows.ensures.size in
    let n = c.count_framed.ensures.size ls in
    omega arith
