use Rattle.std.proofs.Common.{◌+◌, ap, ◌∙◌, arith}
use Rattle.std.proofs.lemmas.Result.{MatchResult-at_ok}
use Rattle.resolution.specs.Clauses.{denial}
use Rattle.machine.specs.Clauses.{listed}
use Rattle.table_format.specs.Stepping.{valued, binary_digit}
use Rattle.step_table.proofs.RowClause.{denials_length, denials_more}
use Rattle.step_table.proofs.row.Row.given_clause.Goals as goal

pub unwrap-requires : goal.unwrap-requires
unwrap-requires c =
    let n = denials_length (λ k. valued (1 + k) (binary_digit c.args.self.now.number k)) (listed c.loop-bit.clause) c.loop-bit.bit c.loop-bit.invariant in
    c.push.ensures.room.1 (omega (arith, n, c.given-bit-end.ensures, c.args.self.now.table.good.0.few_bits))

pub loop-bit-preserved : goal.loop-bit-preserved
loop-bit-preserved c =
    denials_more (λ k. valued (1 + k) (binary_digit c.args.self.now.number k)) (listed c.loop-bit.clause) c.loop-bit.bit c.loop-bit.invariant
    (listed c.push.new.self) c.deny.result (MatchResult-at_ok _ _ c.unwrap.result c.unwrap.ensures c.push.ensures.literals) (c.deny.ensures ∙ ap denial c.literal.ensures)

pub unwrap-requires-2 : goal.unwrap-requires-2
unwrap-requires-2 c =
    let n = denials_length (λ k. valued (1 + k) (binary_digit c.args.self.now.number k)) (listed c.loop-bit.clause) c.loop-bit.bit c.loop-bit.invariant in
    c.push-2.ensures.room.1 (omega (arith, n, c.given-bit-end.ensures, c.args.self.now.table.good.0.few_bits))
