use Rattle.std.proofs.lemmas.Result.{err_from_is_err_and}
use Rattle.opening.proofs.Arms.{stands_is, clause_full, clause_fails, clause_goes}
use Rattle.opening.proofs.decision.end_clause.Goals as goal

pub returns-in_err-end_clause : goal.returns-in_err-end_clause
returns-in_err-end_clause g c = λ size st.
    let p = err_from_is_err_and c.from_residual.result c.from_residual.ensures.1 in
    rw (p.1, p.2)
    (clause_full (g.M.Machine.meaning c.args.machine.now) c.args.frames.now c.args.literals.now c.args.spans.now size st
    c.end_clause.new.self c.end_clause.new.spans c.in_err-end_clause.ensures.room)

pub returns-then-not-stands : goal.returns-then-not-stands
returns-then-not-stands g c = λ size st.
    clause_fails (g.M.Machine.meaning c.args.machine.now) c.args.frames.now c.args.literals.now c.args.spans.now size st
    c.end_clause.new.self c.end_clause.new.spans c.in_ok-end_clause.ensures.room
    (stands_is (g.M.Machine.meaning c.args.machine.now) c.args.frames.now c.args.literals.now c.args.spans.now size st
    _ c.open.result.now c.open.ensures c.if-not-stands.ensures)

pub returns : goal.returns
returns g c = λ size st.
    clause_goes (g.M.Machine.meaning c.args.machine.now) c.args.frames.now c.args.literals.now c.args.spans.now size st
    c.end_clause.new.self c.end_clause.new.spans c.in_ok-end_clause.ensures.room
    (stands_is (g.M.Machine.meaning c.args.machine.now) c.args.frames.now c.args.literals.now c.args.spans.now size st
    _ c.open.result.now c.open.ensures c.if-not-stands.ensures) (c.in_ok-end_clause.ensures.adds c.args.literals.now st.0)
