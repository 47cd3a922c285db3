use Rattle.std.proofs.Common.{◌/◌, ◌<◌, ap, ◌∙◌, arith}
use Rattle.machine.specs.Meaning.{lit}
use Rattle.machine.specs.Rows.{bits}
use Rattle.certificate.proofs.Filling.{there, got, low_lit, small_low, was_filled, rule_is}
use Rattle.certificate.proofs.rows.broken.Goals as goal

pub unwrap-literal-requires : goal.unwrap-literal-requires
unwrap-literal-requires g c =
    let law = g.M.Machine.lawful c.args.machine.now in
    there (g.M.Machine.meaning c.args.machine.now).rule c.args.rule 0 c.rule_literal.result (omega (arith, law.rule_size)) c.rule_literal.ensures

pub value-requires : goal.value-requires
value-requires g c =
    let m = g.M.Machine.meaning c.args.machine.now in
    let law = g.M.Machine.lawful c.args.machine.now in
    let v = got m.rule c.args.rule 0 c.rule_literal.result c.unwrap-literal.result (omega (arith, law.rule_size)) c.rule_literal.ensures c.unwrap-literal.ensures in
    omega (arith, law.rule_low c.args.rule c.requires.known, c.requires.fillable.room)

pub returns : goal.returns
returns g c =
    let m = g.M.Machine.meaning c.args.machine.now in
    let law = g.M.Machine.lawful c.args.machine.now in
    let old = c.args.row.now in
    let new = c.fill.new.row in
    let l = c.unwrap-literal.result in
    let filled = was_filled m old new c.fill.result c.unwrap.result c.unwrap.ensures c.fill.ensures in
    let v = got m.rule c.args.rule 0 c.rule_literal.result l (omega (arith, law.rule_size)) c.rule_literal.ensures c.unwrap-literal.ensures in
    let low : l / 2 < m.variables = omega (arith, law.rule_low c.args.rule c.requires.known) in
    c.value.ensures ∙ low_lit new new l (small_low new (l / 2) (filled.small (l / 2) low)) ∙ ap (lit (bits new)) v ∙ rule_is m law old new filled c.args.rule c.requires.known
