use Rattle.std.proofs.Common.{false, ltb, ap, get_or, ◌∙◌}
use Rattle.std.specs.Bool.{then_some}
use Rattle.machine.proofs.Entries.{entry_same}
use Rattle.step_table.proofs.StepTableMachine.start_bit.Goals as goal

pub returns : goal.returns
returns c = c.then_some.ensures ∙ ap (λ n. then_some (ltb c.args.bit n) false) c.state_bits.ensures ∙ entry_same (get_or c.args.self.now.bytes.now 2 0) c.args.bit false
