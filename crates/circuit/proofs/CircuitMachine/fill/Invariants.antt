use Rattle.circuit.proofs.Filling.{GatesFilled}
use Rattle.circuit.proofs.CircuitMachine.fill.Given as goal

abbrev pub invariant-loop-gate : goal.invariant-loop-gate
invariant-loop-gate l = GatesFilled l.self.header l.self.area.now l.initial.row l.row l.gate
