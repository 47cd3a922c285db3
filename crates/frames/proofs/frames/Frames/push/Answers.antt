use Rattle.std.proofs.Common.{refl}
use Rattle.frames.proofs.Writing.{adds_literal}
use Rattle.frames.proofs.frames.Frames.push.Goals as goal

pub returns-clause-adds : goal.returns-clause-adds
returns-clause-adds c = adds_literal c.args.self.now _ c.args.literal c.args.literals.now c.push.new.area c.push.result refl refl refl c.push.ensures
