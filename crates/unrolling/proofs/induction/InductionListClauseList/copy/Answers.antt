use Rattle.unrolling.specs.Asked.{asked}
use Rattle.unrolling.proofs.Copied.{pushed_copy}
use Rattle.unrolling.proofs.induction.InductionListClauseList.copy.Goals as goal

pub returns : goal.returns
returns g c =
    let self = c.args.self.now in
    pushed_copy (asked (g.M.Machine.meaning self.machine.now) self.rule self.question) c.args.number c.clause.result
    c.args.stack.now.used c.push_clause.new.stack.used c.args.literals.now c.push_clause.new.literals c.push_clause.result c.clause.ensures c.push_clause.ensures
