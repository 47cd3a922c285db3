use Rattle.std.proofs.Common.{map, length, ap, arith}
use Rattle.std.proofs.lemmas.List.{length-map}
use Rattle.resolution.proofs.Parts.{length_part}
use Rattle.frames.specs.Held.{frame}
use Rattle.questions.specs.Lists.{denied_next, step_clauses, next_clause}
use Rattle.questions.proofs.RowSections.{sections_count}
use Rattle.questions.proofs.list.TraceList.count_step.Goals as goal

pub returns : goal.returns
unfolding step_clauses
returns g c =
    let m = g.M.Machine.meaning c.args.self.now.machine.now in
    let f = c.args.self.now.frames.now in
    let ls = c.args.literals.now in
    let ps = c.args.spans.now in
    let cs = frame f ls ps c.args.index in
    let next = next_clause f ls ps c.args.index c.args.clause in
    let all = sections_count m 1 cs (map (denied_next m) next) in
    let u = c.count_rows-rows.ensures.size in
    let n = c.count_framed-framed.ensures.size ls in
    let o = c.find_next-next.ensures.order in
    let k = length_part ls c.find_next-next.result.start c.find_next-next.result.end o.0 o.1 in
    let l = ap length c.find_next-next.ensures.marks in
    let w = length-map next (denied_next m) in
    omega arith
