use Rattle.std.proofs.Common.{arith}
use Rattle.aiger.proofs.Law.{clauses_count}
use Rattle.circuit.proofs.CircuitMachine.clauses.Goals as goal

pub returns : goal.returns
returns c = let self = c.args.self.now in omega (arith, clauses_count self.header self.area.now self.good self.whole)
