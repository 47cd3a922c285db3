use Rattle.std.proofs.Common.{◌≡◌, ◌-◌, [], ◌∷◌, get_or, Ok, sym, refl, ap, arith}
use Rattle.frames.specs.Held.{frame}
use Rattle.question_theory.specs.Traces.{safe_question}
use Rattle.unrolling.proofs.Answered.{got_or}
use Rattle.questions.proofs.RowSections.{sections_count, copied_row, copied_framed, copied_asked}
use Rattle.questions.proofs.Sections.{copied_none, copied_push}
use Rattle.questions.proofs.list.TraceList.copy_safe.Goals as goal

pub returns-then-number-rows : goal.returns-then-number-rows
unfolding safe_question
returns-then-number-rows g c =
    let m = g.M.Machine.meaning c.args.self.now.machine.now in
    let ls = c.args.literals.now in
    let u = c.count_rows-rows.ensures.size in
    copied_row m 0 (frame c.args.self.now.frames.now ls c.args.spans.now c.args.index) ((get_or m.rule c.args.self.now.rule 0 ∷ []) ∷ [])
    c.args.number c.args.stack.now.used c.copy_row.new.stack.used ls c.copy_row.new.literals c.copy_row.result (omega arith) c.copy_row.ensures

pub returns-then-number-rows-2 : goal.returns-then-number-rows-2
unfolding safe_question
returns-then-number-rows-2 g c =
    let m = g.M.Machine.meaning c.args.self.now.machine.now in
    let ls = c.args.literals.now in
    let u = c.count_rows-rows.ensures.size in
    let n = c.count_framed-framed.ensures.size ls in
    copied_framed m 0 (frame c.args.self.now.frames.now ls c.args.spans.now c.args.index) ((get_or m.rule c.args.self.now.rule 0 ∷ []) ∷ [])
    c.args.number c.args.stack.now.used c.copy_framed.new.stack.used ls c.copy_framed.new.literals c.copy_framed.result
    (c.args.number - c.count_rows-rows.result) (omega arith) (omega arith) c.copy_framed.ensures

pub returns-then-number-rows-3 : goal.returns-then-number-rows-3
unfolding safe_question
returns-then-number-rows-3 g c =
    let m = g.M.Machine.meaning c.args.self.now.machine.now in
    let ls = c.args.literals.now in
    let cs = frame c.args.self.now.frames.now ls c.args.spans.now c.args.index in
    let all = sections_count m 0 cs ((get_or m.rule c.args.self.now.rule 0 ∷ []) ∷ []) in
    let u = c.count_rows-rows.ensures.size in
    let n = c.count_framed-framed.ensures.size ls in
    copied_none (safe_question m c.args.self.now.rule cs) c.args.number c.args.stack.now.used ls _ (omega arith) refl

pub returns-in_err-push : goal.returns-in_err-push
unfolding safe_question
returns-in_err-push g c =
    let m = g.M.Machine.meaning c.args.self.now.machine.now in
    let ls = c.args.literals.now in
    let rule = get_or m.rule c.args.self.now.rule 0 in
    let u = c.count_rows-rows.ensures.size in
    let n = c.count_framed-framed.ensures.size ls in
    let b : c.unwrap_or-broken.result ≡ get_or m.rule c.args.self.now.rule 0 =
    got_or m.rule c.args.self.now.rule 0 c.unwrap_or-broken.result c.rule_literal.result c.rule_literal.ensures c.unwrap_or-broken.ensures in
    copied_asked m 0 (frame c.args.self.now.frames.now ls c.args.spans.now c.args.index) ((rule ∷ []) ∷ [])
    c.args.number c.args.stack.now.used c.push.new.self.used ls c.push.new.area c.from_residual.result
    0 (omega arith)
    (copied_push ((rule ∷ []) ∷ []) 0 c.args.stack.now.used c.push.new.self.used ls c.push.new.area c.push.result c.from_residual.result (c.unwrap_or-broken.result ∷ []) (omega arith) (ap (λ x. x ∷ []) (sym b)) c.push.ensures (grind arith))

pub returns : goal.returns
unfolding safe_question
returns g c =
    let m = g.M.Machine.meaning c.args.self.now.machine.now in
    let ls = c.args.literals.now in
    let rule = get_or m.rule c.args.self.now.rule 0 in
    let u = c.count_rows-rows.ensures.size in
    let n = c.count_framed-framed.ensures.size ls in
    let b : c.unwrap_or-broken.result ≡ get_or m.rule c.args.self.now.rule 0 =
    got_or m.rule c.args.self.now.rule 0 c.unwrap_or-broken.result c.rule_literal.result c.rule_literal.ensures c.unwrap_or-broken.ensures in
    copied_asked m 0 (frame c.args.self.now.frames.now ls c.args.spans.now c.args.index) ((rule ∷ []) ∷ [])
    c.args.number c.args.stack.now.used c.push.new.self.used ls c.push.new.area (Ok tt)
    0 (omega arith)
    (copied_push ((rule ∷ []) ∷ []) 0 c.args.stack.now.used c.push.new.self.used ls c.push.new.area c.push.result (Ok tt) (c.unwrap_or-broken.result ∷ []) (omega arith) (ap (λ x. x ∷ []) (sym b)) c.push.ensures (grind arith))
