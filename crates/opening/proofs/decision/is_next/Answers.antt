use Rattle.std.proofs.Common.{arith}
use Rattle.std.proofs.lemmas.Bool.Decides.{nat_tests}
use Rattle.opening.specs.Steps.{is_next_literal}
use Rattle.opening.proofs.decision.is_next.Goals as goal

pub returns-then-contains : goal.returns-then-contains
unfolding is_next_literal
returns-then-contains g c = grind (arith, nat_tests)

pub returns-else-contains : goal.returns-else-contains
unfolding is_next_literal
returns-else-contains g c = grind (arith, nat_tests)
