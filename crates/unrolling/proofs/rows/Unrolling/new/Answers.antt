use Rattle.question_theory.proofs.LinkedRows.{unrolls}
use Rattle.question_theory.proofs.UnrollOrder.{unroll_in_order}
use Rattle.unrolling.proofs.rows.Unrolling.new.Goals as goal

pub returns-clause-rows : goal.returns-clause-rows
returns-clause-rows g c = unrolls (g.M.Machine.meaning c.args.machine.now) (g.M.Machine.lawful c.args.machine.now) c.min.result

pub returns-clause-fine : goal.returns-clause-fine
returns-clause-fine g c = (unroll_in_order (g.M.Machine.meaning c.args.machine.now) (g.M.Machine.lawful c.args.machine.now) c.min.result).fine
