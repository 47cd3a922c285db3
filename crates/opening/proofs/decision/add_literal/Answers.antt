use Rattle.std.proofs.Common.{ℕ, List, ap, ◌∙◌}
use Rattle.std.proofs.lemmas.Result.{err_from_is_err_and}
use Rattle.opening.specs.Steps.{is_next_literal}
use Rattle.opening.proofs.Arms.{literal_wrong, literal_full, literal_goes}
use Rattle.opening.proofs.decision.add_literal.Goals as goal

pub returns-then-not-is_next : goal.returns-then-not-is_next
returns-then-not-is_next g c = λ size ps st.
    let m = g.M.Machine.meaning c.args.machine.now in
    literal_wrong m c.args.frames.now c.args.literals.now ps size st _ _ c.args.literal
    (c.if-not-is_next.ensures ∙ ap (λ (x : List ℕ). is_next_literal m x c.args.literal) c.open.ensures)

pub returns-in_err-push : goal.returns-in_err-push
returns-in_err-push g c = λ size ps st.
    let m = g.M.Machine.meaning c.args.machine.now in
    let p = err_from_is_err_and c.from_residual.result c.from_residual.ensures.1 in
    rw (p.1, p.2)
    (literal_full m c.args.frames.now c.args.literals.now ps size st c.push.new.self c.push.new.literals c.args.literal
    (c.if-not-is_next.ensures ∙ ap (λ (x : List ℕ). is_next_literal m x c.args.literal) c.open.ensures) c.in_err-push.ensures.room)

pub returns : goal.returns
returns g c = λ size ps st.
    let m = g.M.Machine.meaning c.args.machine.now in
    literal_goes m c.args.frames.now c.args.literals.now ps size st c.push.new.self c.push.new.literals c.args.literal
    (c.if-not-is_next.ensures ∙ ap (λ (x : List ℕ). is_next_literal m x c.args.literal) c.open.ensures) c.in_ok-push.ensures.room
    (c.in_ok-push.ensures.adds ps st.0)
