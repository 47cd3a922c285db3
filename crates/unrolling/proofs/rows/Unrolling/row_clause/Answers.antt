use Rattle.std.proofs.Common.{[], map, ap, ◌∙◌}
use Rattle.std.proofs.lemmas.List.{take_all}
use Rattle.machine.specs.Clauses.{listed}
use Rattle.question_theory.specs.Unrolling.{moved}
use Rattle.unrolling.proofs.Answered.{there_as, got_as}
use Rattle.unrolling.proofs.MovedClauses.{literal_low}
use Rattle.unrolling.proofs.rows.Unrolling.row_clause.Goals as goal

pub unwrap-clause-requires : goal.unwrap-clause-requires
unwrap-clause-requires g c =
    there_as listed (g.M.Machine.meaning c.args.self.now.machine.now).clauses c.args.number [] c.clause.result c.requires.known c.clause.ensures

pub move_literal-requires-clause-low : goal.move_literal-requires-clause-low
move_literal-requires-clause-low g c =
    let m = g.M.Machine.meaning c.args.self.now.machine.now in
    let law = g.M.Machine.lawful c.args.self.now.machine.now in
    let e = c.as_slice-literal-items.ensures ∙ got_as listed m.clauses c.args.number [] c.clause.result c.unwrap-clause.result c.requires.known c.clause.ensures c.unwrap-clause.ensures in
    literal_low m law c.args.number c.loop-literal.literal-index c.as_slice-literal-items.result.now c.requires.known e c.loop-literal-test.true

pub returns : goal.returns
returns g c =
    let m = g.M.Machine.meaning c.args.self.now.machine.now in
    let xs = c.as_slice-literal-items.result.now in
    let e = c.as_slice-literal-items.ensures ∙ got_as listed m.clauses c.args.number [] c.clause.result c.unwrap-clause.result c.requires.known c.clause.ensures c.unwrap-clause.ensures in
    c.loop-literal.invariant ∙ ap (map (moved m c.args.row)) (take_all c.loop-literal.literal-index xs c.loop-literal-test.false ∙ e)
