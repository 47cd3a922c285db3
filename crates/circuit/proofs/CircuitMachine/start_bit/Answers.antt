use Rattle.std.proofs.Common.{false, ltb, ap, ◌∙◌}
use Rattle.std.specs.Bool.{then_some}
use Rattle.machine.proofs.Entries.{entry_same}
use Rattle.circuit.proofs.CircuitMachine.start_bit.Goals as goal

pub returns : goal.returns
returns c = c.then_some.ensures ∙ ap (λ n. then_some (ltb c.args.bit n) false) c.state_bits.ensures ∙ entry_same c.args.self.now.header.latches c.args.bit false
