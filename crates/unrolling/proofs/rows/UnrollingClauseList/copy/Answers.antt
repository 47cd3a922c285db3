use Rattle.question_theory.specs.Unrolling.{unroll}
use Rattle.unrolling.proofs.Copied.{pushed_copy}
use Rattle.unrolling.proofs.rows.UnrollingClauseList.copy.Goals as goal

pub returns : goal.returns
returns g c =
    pushed_copy (unroll (g.M.Machine.meaning c.args.self.now.machine.now) c.args.self.now.depth) c.args.number c.clause.result
    c.args.stack.now.used c.push_clause.new.stack.used c.args.literals.now c.push_clause.new.literals c.push_clause.result c.clause.ensures c.push_clause.ensures
