use Rattle.std.proofs.Common.{ℕ, ◌+◌, ◌*◌, ◌<◌, ◌≤◌, length, get_or, ap, ◌∙◌, arith}
use Rattle.std.proofs.lemmas.List.{length-set}
use Rattle.circuit.proofs.Filling.{no_gates, gates_more, filled}
use Rattle.circuit.proofs.CircuitMachine.fill.Goals as goal

pub loop-gate-init : goal.loop-gate-init
loop-gate-init c =
    let h = c.args.self.now.header in
    let can = c.can_fill.ensures.yes c.if-not-can_fill.false in
    no_gates h c.args.self.now.area.now c.args.row.now (omega (arith, can.0)) (λ k l. can.1 k (omega (arith, c.given-given.ensures)))

pub loop-gate-preserved : goal.loop-gate-preserved
loop-gate-preserved c =
    let self = c.args.self.now in
    let row = c.loop-gate.row in
    let j = c.loop-gate.gate in
    let n = 1 + c.given-given.result + j in
    let can = c.can_fill.ensures.yes c.if-not-can_fill.false in
    let room : n < length row = omega (arith, length-set c.args.row.now 0 0, can.0, self.good.0.0, c.given-given.ensures, c.variables.ensures) in
    let area = self.area.now in
    let at = c.heads-first.result + 2 * j in
    let heads = c.heads-first.ensures in
    gates_more self.header area _ row j n (get_or area at 0) (get_or area (at + 1) 0) _ _ self.good self.whole c.loop-gate.invariant c.loop-gate-test.true
    (omega (arith, c.given-given.ensures)) (ap (λ (k : ℕ). get_or area k 0) (omega (arith, heads))) (ap (λ (k : ℕ). get_or area k 0) (omega (arith, heads)))
    room c.value.ensures c.value-in-loop-gate.ensures

pub returns : goal.returns
returns c =
    let self = c.args.self.now in
    let can = c.can_fill.ensures.yes c.if-not-can_fill.false in
    let wide : self.header.maximum + 1 ≤ length c.args.row.now = omega (arith, can.0, c.variables.ensures) in (
      record { room = wide; small = λ k l. can.1 k (omega (arith, c.given-given.ensures)) },
      filled self.header self.area.now c.args.row.now c.loop-gate.row self.good self.whole wide
          (c.loop-gate.auto.row ∙ length-set c.args.row.now 0 0) c.loop-gate.gate (omega arith) c.loop-gate.invariant,
    )
