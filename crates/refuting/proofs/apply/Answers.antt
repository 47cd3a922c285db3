use Rattle.std.proofs.lemmas.Result.{err_from_is_err_and}
use Rattle.refuting.proofs.Moving.{take_went, take_stopped, resolve_went, resolve_stopped}
use Rattle.refuting.proofs.apply.Goals as goal

pub returns-in_err-take-in-Take-clause-moved : goal.returns-in_err-take-in-Take-clause-moved
returns-in_err-take-in-Take-clause-moved g c s =
    let p = err_from_is_err_and c.from_residual.result c.from_residual.ensures.1 in
    rw (p.1, p.2)
    (take_stopped (g.L.ClauseList.clauses c.args.list.now c.args.literals.now c.args.spans.now) c.args.refutation.now c.take.new.self c.args.literals.now c.take.new.literals c.args.spans.now c.take.new.spans s
    c.args.record c.in-Take.number c.in-Take.is c.in_err-take-in-Take.field-0.0 c.in_err-take-in-Take.ensures.step)

pub returns-in_err-resolve-in-Resolve-clause-moved : goal.returns-in_err-resolve-in-Resolve-clause-moved
returns-in_err-resolve-in-Resolve-clause-moved g c s =
    let w = c.in-Resolve in
    let p = err_from_is_err_and c.from_residual-in_err-resolve-in-Resolve.result c.from_residual-in_err-resolve-in-Resolve.ensures.1 in
    rw (p.1, p.2)
    (resolve_stopped (g.L.ClauseList.clauses c.args.list.now c.args.literals.now c.args.spans.now) c.args.refutation.now c.resolve.new.self c.args.literals.now c.resolve.new.literals c.args.spans.now c.resolve.new.spans s
    c.args.record w.left w.right w.pivot w.is c.in_err-resolve-in-Resolve.field-0.0 c.in_err-resolve-in-Resolve.ensures.step)

pub returns-in_ok-take-in-Take-clause-moved : goal.returns-in_ok-take-in-Take-clause-moved
returns-in_ok-take-in-Take-clause-moved g c s =
    let e = c.in_ok-take-in-Take.ensures in
    take_went (g.L.ClauseList.clauses c.args.list.now c.args.literals.now c.args.spans.now) c.args.refutation.now c.take.new.self c.args.literals.now c.take.new.literals c.args.spans.now c.take.new.spans s
    c.args.record c.in-Take.number c.in-Take.is c.in_ok-take-in-Take.field-0 e.step (e.carries s)

pub returns-in_ok-resolve-in-Resolve-clause-moved : goal.returns-in_ok-resolve-in-Resolve-clause-moved
returns-in_ok-resolve-in-Resolve-clause-moved g c s =
    let e = c.in_ok-resolve-in-Resolve.ensures in
    let w = c.in-Resolve in
    resolve_went (g.L.ClauseList.clauses c.args.list.now c.args.literals.now c.args.spans.now) c.args.refutation.now c.resolve.new.self c.args.literals.now c.resolve.new.literals c.args.spans.now c.resolve.new.spans s
    c.args.record w.left w.right w.pivot w.is c.in_ok-resolve-in-Resolve.field-0 e.step (e.carries (g.L.ClauseList.clauses c.args.list.now c.args.literals.now c.args.spans.now) s)
