use Rattle.questions.proofs.Telling.{tells}
use Rattle.questions.proofs.list.TraceList.new.Goals as goal

pub returns-clause-tells : goal.returns-clause-tells
returns-clause-tells g c = tells (g.M.Machine.meaning c.args.machine.now) (g.M.Machine.lawful c.args.machine.now) c.args.rule c.args.frames.now
