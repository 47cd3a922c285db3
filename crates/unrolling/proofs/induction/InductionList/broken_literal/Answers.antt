use Rattle.std.proofs.Common.{ap, ◌∙◌, arith}
use Rattle.question_theory.specs.Unrolling.{moved}
use Rattle.unrolling.proofs.Answered.{got_or}
use Rattle.unrolling.proofs.LowLiterals.{rule_low}
use Rattle.unrolling.proofs.induction.InductionList.broken_literal.Goals as goal

pub move_literal-requires-clause-low : goal.move_literal-requires-clause-low
move_literal-requires-clause-low g c =
    let m = g.M.Machine.meaning c.args.self.now.machine.now in
    let law = g.M.Machine.lawful c.args.self.now.machine.now in
    let is = got_or m.rule c.args.self.now.rule 0 c.unwrap_or-broken.result c.rule_literal.result c.rule_literal.ensures c.unwrap_or-broken.ensures in
    omega (arith, rule_low m law c.args.self.now.rule)

pub returns : goal.returns
returns g c =
    let m = g.M.Machine.meaning c.args.self.now.machine.now in
    c.move_literal.ensures ∙ ap (moved m c.args.row) (got_or m.rule c.args.self.now.rule 0 c.unwrap_or-broken.result c.rule_literal.result c.rule_literal.ensures c.unwrap_or-broken.ensures)
