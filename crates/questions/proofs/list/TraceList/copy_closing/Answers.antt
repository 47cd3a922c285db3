use Rattle.std.proofs.Common.{length, Ok, refl, ap, ◌∙◌, subst, arith}
use Rattle.frames.specs.Held.{before_frame, frame}
use Rattle.resolution.specs.Lists.{CopiedAs}
use Rattle.questions.proofs.ClosingSections.{closing_count, copied_frame, copied_choice, copied_denial}
use Rattle.questions.proofs.Sections.{copied_none}
use Rattle.questions.proofs.list.TraceList.copy_closing.Goals as goal

pub returns-then-number-framed : goal.returns-then-number-framed
returns-then-number-framed g c =
    let f = c.args.self.now.frames.now in
    let v = (g.M.Machine.meaning c.args.self.now.machine.now).variables in
    let ls = c.args.literals.now in
    let ps = c.args.spans.now in
    let used = c.args.stack.now.used in
    let last = c.last_frame-last.ensures in
    let n = c.count_framed-framed.ensures.size ls ∙ ap (λ k. length (frame f ls ps k)) last in
    copied_frame v f ls ps c.args.number used c.copy_framed.new.stack.used c.copy_framed.new.literals c.copy_framed.result (omega arith)
    (subst (λ k. CopiedAs (frame f ls ps k) c.args.number used c.copy_framed.new.stack.used ls c.copy_framed.new.literals c.copy_framed.result) last c.copy_framed.ensures)

pub returns-in_err-push_selectors : goal.returns-in_err-push_selectors
returns-in_err-push_selectors g c =
    let f = c.args.self.now.frames.now in
    let v = (g.M.Machine.meaning c.args.self.now.machine.now).variables in
    let ls = c.args.literals.now in
    let ps = c.args.spans.now in
    let used = c.args.stack.now.used in
    let last = c.last_frame-last.ensures in
    let n = c.count_framed-framed.ensures.size ls ∙ ap (λ k. length (frame f ls ps k)) last in
    copied_choice v f ls ps c.args.number used c.push_selectors.new.stack.used c.push_selectors.new.literals c.from_residual.result c.push_selectors.result
    _ (omega arith) (omega arith) c.push_selectors.ensures (grind arith)

pub returns-then-choice-last : goal.returns-then-choice-last
returns-then-choice-last g c =
    let f = c.args.self.now.frames.now in
    let v = (g.M.Machine.meaning c.args.self.now.machine.now).variables in
    let ls = c.args.literals.now in
    let ps = c.args.spans.now in
    let used = c.args.stack.now.used in
    let last = c.last_frame-last.ensures in
    let n = c.count_framed-framed.ensures.size ls ∙ ap (λ k. length (frame f ls ps k)) last in
    copied_choice v f ls ps c.args.number used c.push_selectors.new.stack.used c.push_selectors.new.literals (Ok tt) c.push_selectors.result
    _ (omega arith) (omega arith) c.push_selectors.ensures (grind arith)

pub returns-then-literal-before : goal.returns-then-literal-before
returns-then-literal-before g c =
    let f = c.args.self.now.frames.now in
    let v = (g.M.Machine.meaning c.args.self.now.machine.now).variables in
    let ls = c.args.literals.now in
    let ps = c.args.spans.now in
    let used = c.args.stack.now.used in
    let last = c.last_frame-last.ensures in
    let n = c.count_framed-framed.ensures.size ls ∙ ap (λ k. length (frame f ls ps k)) last in
    let m = ap (λ m. m.literals) (c.before-2.ensures ∙ ap (before_frame f) last) in
    copied_none _ c.args.number used ls _ (omega (arith, closing_count v f ls ps)) refl

pub returns-in_err-push_denial : goal.returns-in_err-push_denial
returns-in_err-push_denial g c =
    let f = c.args.self.now.frames.now in
    let v = (g.M.Machine.meaning c.args.self.now.machine.now).variables in
    let ls = c.args.literals.now in
    let ps = c.args.spans.now in
    let used = c.args.stack.now.used in
    let last = c.last_frame-last.ensures in
    let n = c.count_framed-framed.ensures.size ls ∙ ap (λ k. length (frame f ls ps k)) last in
    let m = ap (λ m. m.literals) (c.before-2.ensures ∙ ap (before_frame f) last) in
    copied_denial v f ls ps c.args.number used c.push_denial.new.stack.used c.push_denial.new.literals c.from_residual-in_err-push_denial.result c.push_denial.result
    _ (omega arith) (omega arith) c.push_denial.ensures (grind arith)

pub returns : goal.returns
returns g c =
    let f = c.args.self.now.frames.now in
    let v = (g.M.Machine.meaning c.args.self.now.machine.now).variables in
    let ls = c.args.literals.now in
    let ps = c.args.spans.now in
    let used = c.args.stack.now.used in
    let last = c.last_frame-last.ensures in
    let n = c.count_framed-framed.ensures.size ls ∙ ap (λ k. length (frame f ls ps k)) last in
    let m = ap (λ m. m.literals) (c.before-2.ensures ∙ ap (before_frame f) last) in
    copied_denial v f ls ps c.args.number used c.push_denial.new.stack.used c.push_denial.new.literals (Ok tt) c.push_denial.result
    _ (omega arith) (omega arith) c.push_denial.ensures (grind arith)
