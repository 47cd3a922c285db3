use Rattle.std.proofs.Common.{◌/◌, sym, ap, ◌∙◌, arith}
use Rattle.resolution.specs.Clauses.{denial}
use Rattle.unrolling.proofs.Answered.{there, got}
use Rattle.unrolling.proofs.MovedClauses.{next_moved, bit_moved, two}
use Rattle.unrolling.proofs.UnrolledNumbers.{tie_even, tie_odd}
use Rattle.unrolling.proofs.rows.Unrolling.tie_clause.Goals as goal

pub unwrap-next-requires : goal.unwrap-next-requires
unwrap-next-requires g c =
    let m = g.M.Machine.meaning c.args.self.now.machine.now in
    let law = g.M.Machine.lawful c.args.self.now.machine.now in
    there m.next (c.args.number / 2) 0 c.next_literal.result (omega (arith, law.next_size)) c.next_literal.ensures

pub move_literal-from-requires-clause-low : goal.move_literal-from-requires-clause-low
move_literal-from-requires-clause-low g c =
    let m = g.M.Machine.meaning c.args.self.now.machine.now in
    let law = g.M.Machine.lawful c.args.self.now.machine.now in
    let v = got m.next (c.args.number / 2) 0 c.next_literal.result c.unwrap-next.result (omega (arith, law.next_size)) c.next_literal.ensures c.unwrap-next.ensures in
    omega (arith, law.next_low (c.args.number / 2) c.requires.known)

pub returns-then-number-eq0 : goal.returns-then-number-eq0
returns-then-number-eq0 g c =
    let m = g.M.Machine.meaning c.args.self.now.machine.now in
    let law = g.M.Machine.lawful c.args.self.now.machine.now in
    let from = next_moved m law c.args.row (c.args.number / 2) c.requires.known c.next_literal.result c.unwrap-next.result c.move_literal-from.result c.next_literal.ensures c.unwrap-next.ensures c.move_literal-from.ensures in
    let to = bit_moved m c.args.row (c.args.number / 2) c.state_literal.result c.move_literal-to.result c.state_literal.ensures c.move_literal-to.ensures in
    c.pair.ensures ∙ two from (c.deny.ensures ∙ ap denial to) ∙ sym (tie_even m c.args.row c.args.number c.if-number-eq0.true)

pub returns-else-number-eq0 : goal.returns-else-number-eq0
returns-else-number-eq0 g c =
    let m = g.M.Machine.meaning c.args.self.now.machine.now in
    let law = g.M.Machine.lawful c.args.self.now.machine.now in
    let from = next_moved m law c.args.row (c.args.number / 2) c.requires.known c.next_literal.result c.unwrap-next.result c.move_literal-from.result c.next_literal.ensures c.unwrap-next.ensures c.move_literal-from.ensures in
    let to = bit_moved m c.args.row (c.args.number / 2) c.state_literal.result c.move_literal-to.result c.state_literal.ensures c.move_literal-to.ensures in
    c.pair-else-number-eq0.ensures ∙ two (c.deny-else-number-eq0.ensures ∙ ap denial from) to ∙ sym (tie_odd m c.args.row c.args.number (omega (arith, c.if-number-eq0.false)))
