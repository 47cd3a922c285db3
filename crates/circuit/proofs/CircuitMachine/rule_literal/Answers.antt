use Rattle.std.proofs.Common.{◌≡◌, ◌-◌, take, drop, ap, ◌∙◌, arith}
use Rattle.machine.specs.Lists.{entry}
use Rattle.machine.proofs.Entries.{entry_copied}
use Rattle.circuit.proofs.CircuitMachine.rule_literal.Goals as goal

pub returns : goal.returns
returns c =
    let h = c.args.self.now.header in
    let area = c.args.self.now.area.now in
    let rule = c.args.rule in
    let first = c.state_bits.result in
    let count : c.heads.result - first ≡ h.outputs = omega (arith, c.heads.ensures, c.state_bits.ensures) in
    let found = c.get.ensures.lookup in
    c.copied.ensures ∙ entry_copied (take (c.heads.result - first) (drop first area)) rule c.get.result found.0 found.1
    ∙ ap (λ n. entry (take n (drop first area)) rule) count ∙ ap (λ n. entry (take h.outputs (drop n area)) rule) c.state_bits.ensures
