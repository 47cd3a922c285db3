use Rattle.std.proofs.Common.{Some, sym, ap, ◌∙◌}
use Rattle.table_format.specs.Tables.{table_of}
use Rattle.std.specs.Option.{option_map}
use Rattle.machine.specs.Clauses.{listed}
use Rattle.step_table.specs.declared.table.StepTable.{StepTable}
use Rattle.step_table.proofs.Numbered.{clause_first, clause_past, clause_found}
use Rattle.step_table.proofs.StepTableMachine.clause.Goals as goal

pub returns-then-number-eq0 : goal.returns-then-number-eq0
returns-then-number-eq0 c =
    ap Some c.of.ensures ∙ sym (clause_first (table_of c.args.self.now.bytes.now) c.args.number c.if-number-eq0.true)

pub returns-in_err-row : goal.returns-in_err-row
returns-in_err-row c =
    let t = table_of c.args.self.now.bytes.now in
    let past = c.in_err-row.ensures in
    ap (option_map listed) c.from_residual.ensures
    ∙ sym (clause_past t c.args.number c.clauses_per_row-per_row.result c.clauses_per_row-per_row.ensures c.if-number-eq0.false past)

pub returns : goal.returns
returns c =
    let t = table_of c.args.self.now.bytes.now in
    let row = c.in_ok-row.row in
    let found = c.in_ok-row.ensures in
    ap Some c.clause.ensures
    ∙ sym (clause_found t c.args.number c.clauses_per_row-per_row.result c.clauses_per_row-per_row.ensures c.if-number-eq0.false
    (table_of row.table.bytes.now) row.number (ap (λ (s : StepTable). table_of s.bytes.now) found.0) found.1 row.within)
