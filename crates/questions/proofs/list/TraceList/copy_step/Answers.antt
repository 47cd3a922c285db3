use Rattle.std.proofs.Common.{◌-◌, map, subst, arith}
use Rattle.frames.specs.Held.{frame}
use Rattle.resolution.specs.Lists.{CopiedAs}
use Rattle.questions.specs.Lists.{denied_next, step_clauses, next_clause}
use Rattle.questions.proofs.RowSections.{copied_row, copied_framed, copied_asked}
use Rattle.questions.proofs.list.TraceList.copy_step.Goals as goal

pub returns-then-number-rows : goal.returns-then-number-rows
unfolding step_clauses
returns-then-number-rows g c =
    let m = g.M.Machine.meaning c.args.self.now.machine.now in
    let f = c.args.self.now.frames.now in
    let ls = c.args.literals.now in
    let ps = c.args.spans.now in
    let u = c.count_rows-rows.ensures.size in
    copied_row m 1 (frame f ls ps c.args.index) (map (denied_next m) (next_clause f ls ps c.args.index c.args.clause))
    c.args.number c.args.stack.now.used c.copy_row.new.stack.used ls c.copy_row.new.literals c.copy_row.result (omega arith) c.copy_row.ensures

pub returns-then-number-rows-2 : goal.returns-then-number-rows-2
unfolding step_clauses
returns-then-number-rows-2 g c =
    let m = g.M.Machine.meaning c.args.self.now.machine.now in
    let f = c.args.self.now.frames.now in
    let ls = c.args.literals.now in
    let ps = c.args.spans.now in
    let u = c.count_rows-rows.ensures.size in
    let n = c.count_framed-framed.ensures.size ls in
    copied_framed m 1 (frame f ls ps c.args.index) (map (denied_next m) (next_clause f ls ps c.args.index c.args.clause))
    c.args.number c.args.stack.now.used c.copy_framed.new.stack.used ls c.copy_framed.new.literals c.copy_framed.result
    (c.args.number - c.count_rows-rows.result) (omega arith) (omega arith) c.copy_framed.ensures

pub returns : goal.returns
unfolding step_clauses
returns g c =
    let m = g.M.Machine.meaning c.args.self.now.machine.now in
    let f = c.args.self.now.frames.now in
    let ls = c.args.literals.now in
    let ps = c.args.spans.now in
    let u = c.count_rows-rows.ensures.size in
    let n = c.count_framed-framed.ensures.size ls in
    let j = c.args.number - c.count_rows-rows.result - c.count_framed-framed.result in
    copied_asked m 1 (frame f ls ps c.args.index) (map (denied_next m) (next_clause f ls ps c.args.index c.args.clause))
    c.args.number c.args.stack.now.used c.copy_denied.new.stack.used ls c.copy_denied.new.literals c.copy_denied.result
    j (omega arith)
    (subst (λ xs. CopiedAs (map (denied_next m) xs) j c.args.stack.now.used c.copy_denied.new.stack.used ls c.copy_denied.new.literals c.copy_denied.result) c.find_next-next.ensures.marks c.copy_denied.ensures)
