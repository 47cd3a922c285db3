use Rattle.unrolling.proofs.Decisions.{decides, asked_fine}
use Rattle.unrolling.proofs.induction.InductionList.new.Goals as goal

pub returns-clause-fine : goal.returns-clause-fine
returns-clause-fine g c h = asked_fine (g.M.Machine.meaning c.args.machine.now) (g.M.Machine.lawful c.args.machine.now) c.args.rule h c.args.question.kind c.args.question.depth

pub returns-clause-decides : goal.returns-clause-decides
returns-clause-decides g c h k = decides (g.M.Machine.meaning c.args.machine.now) (g.M.Machine.lawful c.args.machine.now) c.args.rule h k
