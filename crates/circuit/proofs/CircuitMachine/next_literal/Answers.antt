use Rattle.std.proofs.Common.{take, ap, ◌∙◌}
use Rattle.machine.specs.Lists.{entry}
use Rattle.machine.proofs.Entries.{entry_copied}
use Rattle.circuit.proofs.CircuitMachine.next_literal.Goals as goal

pub returns : goal.returns
returns c =
    let area = c.args.self.now.area.now in
    let bit = c.args.bit in
    let found = c.get.ensures.lookup in
    c.copied.ensures ∙ entry_copied (take c.state_bits.result area) bit c.get.result found.0 found.1 ∙ ap (λ n. entry (take n area) bit) c.state_bits.ensures
