use Rattle.std.proofs.Common.{Ok, ◌+◌, [], get_or, sym, ap, ◌∙◌, arith}
use Rattle.stack.specs.Runs.{part}
use Rattle.frames.specs.Held.{clauses_of, frame}
use Rattle.questions.proofs.FramedClauses.{clauses_count, frame_count, frame_at, some_from_ok}
use Rattle.questions.proofs.Sections.{copied_none, copied_push}
use Rattle.questions.proofs.framed.copy_framed.Goals as goal

pub returns-in_err-clause : goal.returns-in_err-clause
returns-in_err-clause c =
    let f = c.args.frames.now in
    let ls = c.args.literals.now in
    let ps = c.args.spans.now in
    let a = ap (λ m. m.clauses) c.before-first.ensures in
    let n = c.count_framed.ensures.size ls in
    let s = frame_count f ls ps c.args.index in
    let all = clauses_count f ls ps in
    copied_none (frame f ls ps c.args.index) c.args.number c.args.stack.now.used ls c.from_residual.result (grind arith) (grind arith)

pub returns-in_err-push_again : goal.returns-in_err-push_again
unfolding part
returns-in_err-push_again c =
    let f = c.args.frames.now in
    let ls = c.args.literals.now in
    let ps = c.args.spans.now in
    let i = c.args.index in
    let a = ap (λ m. m.clauses) c.before-first.ensures in
    let n = c.count_framed.ensures.size ls in
    let s = frame_count f ls ps i in
    let h = some_from_ok _ _ c.find_clause.result _ c.ok_or.result c.in_ok-clause.clause c.find_clause.ensures c.ok_or.ensures.value c.in_ok-clause.was in
    copied_push (frame f ls ps i) c.args.number c.args.stack.now.used c.push_again.new.self.used ls c.push_again.new.area c.push_again.result c.from_residual-in_err-push_again.result _
    (omega arith) (frame_at f ls ps i c.args.number (omega arith) ∙ ap (λ k. get_or (clauses_of f ls ps) (k + c.args.number) []) (sym a) ∙ sym h.3) c.push_again.ensures (grind arith)

pub returns : goal.returns
unfolding part
returns c =
    let f = c.args.frames.now in
    let ls = c.args.literals.now in
    let ps = c.args.spans.now in
    let i = c.args.index in
    let a = ap (λ m. m.clauses) c.before-first.ensures in
    let n = c.count_framed.ensures.size ls in
    let s = frame_count f ls ps i in
    let h = some_from_ok _ _ c.find_clause.result _ c.ok_or.result c.in_ok-clause.clause c.find_clause.ensures c.ok_or.ensures.value c.in_ok-clause.was in
    copied_push (frame f ls ps i) c.args.number c.args.stack.now.used c.push_again.new.self.used ls c.push_again.new.area c.push_again.result (Ok tt) _
    (omega arith) (frame_at f ls ps i c.args.number (omega arith) ∙ ap (λ k. get_or (clauses_of f ls ps) (k + c.args.number) []) (sym a) ∙ sym h.3) c.push_again.ensures (grind arith)
