use Rattle.std.proofs.Common.{◌*◌, ltb, ap, ◌∙◌, arith}
use Rattle.table_format.specs.Tables.{table_of}
use Rattle.table_format.specs.Stepping.{next_variable}
use Rattle.step_table.proofs.Numbered.{made_if}
use Rattle.step_table.proofs.StepTableMachine.next_literal.Goals as goal

pub returns : goal.returns
returns c =
    let t = table_of c.args.self.now.bytes.now in
    made_if (λ k. 2 * next_variable t k) t.state_bits c.args.bit c.then.result (c.then.ensures.variant ∙ ap (ltb c.args.bit) c.state_bits.ensures) c.then.ensures.some (λ x k. omega (arith, k, c.first_outcome-first.ensures))
