use Rattle.resolution.proofs.Owned.{fresh_stands}
use Rattle.resolution.proofs.refutation.Refutation.above.Goals as goal

pub returns-clause-stands : goal.returns-clause-stands
returns-clause-stands c = λ ls ps. fresh_stands c.args.literals.used c.args.spans.used ls ps
