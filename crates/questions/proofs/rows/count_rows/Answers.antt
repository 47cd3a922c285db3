use Rattle.std.proofs.Common.{◌≡◌, min, length, ◌∙◌, ap₂, arith}
use Rattle.question_theory.specs.Unrolling.{unroll}
use Rattle.questions.proofs.RowSections.{rows_few}
use Rattle.questions.proofs.rows.count_rows.Goals as goal

pub returns-clause-few : goal.returns-clause-few
returns-clause-few g c =
    let m = g.M.Machine.meaning c.args.machine.now in
    let d : min c.args.depth 64 ≡ c.args.depth = omega arith in
    let e = c.count.ensures ∙ ap₂ (λ x k. length (unroll (g.M.Machine.meaning x) k)) c.new.ensures.machine (c.new.ensures.depth ∙ d) in
    omega (arith, rows_few m (g.M.Machine.lawful c.args.machine.now) c.args.depth c.requires)
