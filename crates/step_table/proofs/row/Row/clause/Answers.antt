use Rattle.std.proofs.Common.{ℕ, ◌+◌, ◌-◌, ◌∙◌, arith}
use Rattle.machine.specs.Clauses.{listed}
use Rattle.table_format.specs.Tables.{table_of}
use Rattle.step_table.proofs.RowClause.{binds, meets, steps, breaks}
use Rattle.step_table.proofs.row.Row.clause.Goals as goal

pub returns-then-place-given : goal.returns-then-place-given
returns-then-place-given c =
    let t = table_of c.args.self.now.table.bytes.now in
    c.of.ensures ∙ binds t c.args.self.now.number c.given-given.result c.args.place c.given-given.ensures c.row_literal-not_row.result c.row_literal-not_row.ensures c.literal.result c.if-place-given.true c.literal.ensures

pub returns-then-place-given-2 : goal.returns-then-place-given-2
returns-then-place-given-2 c =
    let t = table_of c.args.self.now.table.bytes.now in
    meets t c.args.self.now.number c.given-given.result c.args.place c.given-given.ensures (listed c.given_clause.result) c.if-place-given-2.true c.given_clause.ensures

pub returns-then-outcome-state_bits : goal.returns-then-outcome-state_bits
returns-then-outcome-state_bits c =
    let t = table_of c.args.self.now.table.bytes.now in
    let given = c.given-given.result in
    let k : ℕ = c.args.place - given - 1 in
    c.of-then-outcome-state_bits.ensures
    ∙ steps t c.args.self.now.number given c.args.place c.given-given.ensures c.row_literal-not_row.result c.row_literal-not_row.ensures c.literal-then-outcome-state_bits.result (c.first_outcome.result + k) k c.next_state.result
    (omega arith) (omega arith) (omega arith) (omega (arith, c.given-given.ensures, c.first_outcome.ensures)) c.next_state.ensures c.literal-then-outcome-state_bits.ensures

pub returns : goal.returns
returns c =
    let t = table_of c.args.self.now.table.bytes.now in
    let given = c.given-given.result in
    let k : ℕ = c.args.place - given - 1 in
    c.of-2.ensures
    ∙ breaks t c.args.self.now.number given c.args.place c.given-given.ensures c.row_literal-not_row.result c.row_literal-not_row.ensures c.literal-2.result (c.first_outcome.result + k) (k - c.state_bits-state_bits.result) c.broken_rules.result
    (omega (arith, c.state_bits-state_bits.ensures)) (omega (arith, c.state_bits-state_bits.ensures))
    (omega (arith, c.given-given.ensures, c.state_bits-state_bits.ensures, c.requires)) (omega (arith, c.given-given.ensures, c.state_bits-state_bits.ensures, c.first_outcome.ensures)) c.broken_rules.ensures c.literal-2.ensures
