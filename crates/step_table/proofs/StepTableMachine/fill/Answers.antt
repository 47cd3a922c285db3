use Rattle.std.proofs.Common.{arith}
use Rattle.std.proofs.lemmas.List.{length-set}
use Rattle.table_format.specs.Tables.{table_of}
use Rattle.step_table.proofs.FilledRow.{can, number_in, filled}
use Rattle.step_table.proofs.StepTableMachine.fill.Goals as goal

pub invariant_of-given_row : goal.invariant_of-given_row
invariant_of-given_row c =
    record {
      within = number_in (table_of c.args.self.now.bytes.now) c.args.row.now c.given-given.result c.variables.result c.given-given.ensures c.variables.ensures
          (c.can_fill.ensures.yes c.if-not-can_fill.false) c.row_number-number.result c.row_number-number.ensures;
    }

pub mark_row-requires : goal.mark_row-requires
mark_row-requires c =
    let ready = c.can_fill.ensures.yes c.if-not-can_fill.false in
    let within = number_in (table_of c.args.self.now.bytes.now) c.args.row.now c.given-given.result c.variables.result c.given-given.ensures c.variables.ensures ready c.row_number-number.result c.row_number-number.ensures in
    (omega (arith, within, c.rows.ensures), omega (arith, ready.0, length-set c.args.row.now 0 0, c.variables.ensures, c.given-given.ensures, c.rows.ensures))

pub returns : goal.returns
returns c =
    let t = table_of c.args.self.now.bytes.now in
    let ready = c.can_fill.ensures.yes c.if-not-can_fill.false in (
      can t c.args.row.now c.given-given.result c.variables.result c.given-given.ensures c.variables.ensures ready,
      filled t c.args.row.now c.given-given.result c.variables.result c.given-given.ensures c.variables.ensures ready
          c.set_bits-2.new.row c.mark_row.new.row c.set_bits.new.row
          c.first_outcome-first.result c.rows.result c.state_bits.result c.state_bits-2.result c.rules.result
          c.row_number-number.result c.next_state.result c.broken_rules.result
          c.first_outcome-first.ensures c.rows.ensures c.state_bits.ensures c.state_bits-2.ensures c.rules.ensures
          c.row_number-number.ensures c.next_state.ensures c.broken_rules.ensures c.mark_row.ensures c.set_bits.ensures c.set_bits-2.ensures,
    )
