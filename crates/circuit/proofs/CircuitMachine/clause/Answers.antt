use Rattle.std.proofs.Common.{Some, sym, ap, ◌∙◌}
use Rattle.circuit.proofs.GateClauses.{clause_first, clause_past, clause_gate}
use Rattle.circuit.proofs.CircuitMachine.clause.Goals as goal

pub returns-then-number-eq0 : goal.returns-then-number-eq0
returns-then-number-eq0 c =
    let self = c.args.self.now in
    ap Some c.of.ensures ∙ sym (clause_first self.header self.area.now self.good self.whole c.args.number c.if-number-eq0.true)

pub returns-then-gate-self : goal.returns-then-gate-self
returns-then-gate-self c =
    let self = c.args.self.now in
    sym (clause_past self.header self.area.now self.good self.whole c.args.number c.if-number-eq0.false c.if-gate-self.true)

pub returns : goal.returns
returns c =
    let self = c.args.self.now in
    ap Some c.gate_clause.ensures
    ∙ sym (clause_gate self.header self.area.now self.good self.whole c.args.number c.gate_literal-literal.result c.operands-a.result.0 c.operands-a.result.1 c.if-number-eq0.false c.if-gate-self.false
    c.gate_literal-literal.ensures c.operands-a.ensures.greater c.operands-a.ensures.less)
