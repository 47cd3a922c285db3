use Rattle.std.proofs.Common.{ap₂, arith}
use Rattle.question_theory.specs.Shapes.{unroll_size}
use Rattle.unrolling.proofs.QuestionNumbers.{asked_count}
use Rattle.unrolling.proofs.induction.InductionListClauseList.count.Goals as goal

pub returns : goal.returns
returns g c =
    let machine = c.args.self.now.machine.now in
    let q = c.args.self.now.question in
    let e = ap₂ (λ x n. unroll_size (g.M.Machine.meaning x) n) c.rows.ensures.machine c.rows.ensures.depth in
    omega (arith, c.size.ensures, e, c.count_assumptions.ensures, asked_count (g.M.Machine.meaning machine) (g.M.Machine.lawful machine) c.args.self.now.rule q.kind q.depth)
