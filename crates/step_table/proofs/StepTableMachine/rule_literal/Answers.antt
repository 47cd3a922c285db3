use Rattle.std.proofs.Common.{◌*◌, ltb, ap, ◌∙◌, arith}
use Rattle.table_format.specs.Tables.{table_of}
use Rattle.table_format.specs.Stepping.{rule_variable}
use Rattle.step_table.proofs.Numbered.{made_if}
use Rattle.step_table.proofs.StepTableMachine.rule_literal.Goals as goal

pub returns : goal.returns
returns c =
    let t = table_of c.args.self.now.bytes.now in
    made_if (λ k. 2 * rule_variable t k) t.rules c.args.rule c.then.result (c.then.ensures.variant ∙ ap (ltb c.args.rule) c.rules.ensures) c.then.ensures.some (λ x k. omega (arith, k, c.first_outcome.ensures, c.state_bits.ensures))
