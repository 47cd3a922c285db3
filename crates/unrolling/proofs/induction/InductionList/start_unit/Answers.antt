use Rattle.std.proofs.Common.{ℕ, false, [], ◌∷◌, sym, ap, ◌∙◌, arith}
use Rattle.resolution.specs.Clauses.{denial}
use Rattle.question_theory.specs.Inductions.{bit_literal}
use Rattle.unrolling.proofs.Answered.{there, got}
use Rattle.unrolling.proofs.induction.InductionList.start_unit.Goals as goal

pub unwrap-requires : goal.unwrap-requires
unwrap-requires g c =
    let m = g.M.Machine.meaning c.args.self.now.machine.now in
    let law = g.M.Machine.lawful c.args.self.now.machine.now in
    there m.start c.args.bit false c.start_bit.result (omega (arith, law.start_size)) c.start_bit.ensures

pub returns-then-unwrap : goal.returns-then-unwrap
returns-then-unwrap g c =
    let m = g.M.Machine.meaning c.args.self.now.machine.now in
    let law = g.M.Machine.lawful c.args.self.now.machine.now in
    let is = got m.start c.args.bit false c.start_bit.result c.unwrap.result (omega (arith, law.start_size)) c.start_bit.ensures c.unwrap.ensures in
    c.unit.ensures ∙ ap (λ (l : ℕ). l ∷ []) (c.state_literal-literal.ensures ∙ ap (bit_literal m c.args.bit) (sym c.if-unwrap.true ∙ is))

pub returns-else-unwrap : goal.returns-else-unwrap
returns-else-unwrap g c =
    let m = g.M.Machine.meaning c.args.self.now.machine.now in
    let law = g.M.Machine.lawful c.args.self.now.machine.now in
    let is = got m.start c.args.bit false c.start_bit.result c.unwrap.result (omega (arith, law.start_size)) c.start_bit.ensures c.unwrap.ensures in
    c.unit-else-unwrap.ensures ∙ ap (λ (l : ℕ). l ∷ []) (c.deny.ensures ∙ ap denial c.state_literal-literal.ensures ∙ ap (bit_literal m c.args.bit) (sym c.if-unwrap.false ∙ is))
