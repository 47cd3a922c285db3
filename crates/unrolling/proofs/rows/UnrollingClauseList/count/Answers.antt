use Rattle.std.proofs.Common.{sym, ◌∙◌}
use Rattle.question_theory.proofs.UnrollOrder.{unroll_in_order}
use Rattle.unrolling.proofs.rows.UnrollingClauseList.count.Goals as goal

pub returns : goal.returns
returns g c =
    let machine = c.args.self.now.machine.now in
    c.size.ensures ∙ sym (unroll_in_order (g.M.Machine.meaning machine) (g.M.Machine.lawful machine) c.args.self.now.depth).count
