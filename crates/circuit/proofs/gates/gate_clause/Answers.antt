use Rattle.std.proofs.Common.{[], ◌∷◌, ◌∙◌, arith}
use Rattle.circuit.proofs.GateClauses.{two_less, two_greater, two_same, third}
use Rattle.circuit.proofs.gates.gate_clause.Goals as goal

pub returns-in_default : goal.returns-in_default
returns-in_default c =
    let x = c.deny-not_a.result in
    let y = c.deny-not_b.result in
    c.of-in_default.ensures ∙ two_less x y (c.args.gate ∷ []) c.if-not_a-not_b.true
    ∙ third c.args.gate c.args.a c.args.b c.args.place x y (omega arith) c.deny-not_a.ensures c.deny-not_b.ensures

pub returns-in_default-2 : goal.returns-in_default-2
returns-in_default-2 c =
    let x = c.deny-not_a.result in
    let y = c.deny-not_b.result in
    c.of-in_default-2.ensures ∙ two_greater x y (c.args.gate ∷ []) c.if-not_b-not_a.true
    ∙ third c.args.gate c.args.a c.args.b c.args.place x y (omega arith) c.deny-not_a.ensures c.deny-not_b.ensures

pub returns-in_default-3 : goal.returns-in_default-3
returns-in_default-3 c =
    let x = c.deny-not_a.result in
    let y = c.deny-not_b.result in
    c.of-in_default-3.ensures ∙ two_same x y (c.args.gate ∷ []) c.if-not_b-not_a.false c.if-not_a-not_b.false
    ∙ third c.args.gate c.args.a c.args.b c.args.place x y (omega arith) c.deny-not_a.ensures c.deny-not_b.ensures
