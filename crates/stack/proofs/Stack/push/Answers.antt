use Rattle.std.proofs.Common.{refl, arith}
use Rattle.stack.proofs.Places.{placed_one}
use Rattle.stack.proofs.Stack.push.Goals as goal

pub returns : goal.returns
returns g c = (omega arith, refl, placed_one c.args.area.now c.args.self.now.used c.args.entry (omega arith))
