use Rattle.std.proofs.Common.{[], ◌∷◌, ap, ap₂, ◌∙◌, arith}
use Rattle.std.specs.Option.{option_map}
use Rattle.machine.specs.Clauses.{listed}
use Rattle.machine.specs.Lists.{entry}
use Rattle.question_theory.specs.Unrolling.{unroll}
use Rattle.question_theory.specs.Shapes.{unroll_size}
use Rattle.unrolling.proofs.QuestionNumbers.{of_unrolling, of_assumptions, of_rule, of_none}
use Rattle.unrolling.proofs.induction.InductionList.clause.Goals as goal

pub returns-in_default : goal.returns-in_default
returns-in_default g c =
    let self = c.args.self.now in
    let q = self.question in
    let u = ap₂ (λ x n. unroll_size (g.M.Machine.meaning x) n) c.rows-rows.ensures.machine c.rows-rows.ensures.depth in
    of_unrolling (g.M.Machine.meaning self.machine.now) (g.M.Machine.lawful self.machine.now) self.rule q.kind q.depth c.args.number (option_map listed c.clause.result)
    (grind (arith, u))
    (c.clause.ensures ∙ ap₂ (λ x n. entry (unroll (g.M.Machine.meaning x) n) c.args.number) c.rows-rows.ensures.machine c.rows-rows.ensures.depth)

pub returns-in-Less : goal.returns-in-Less
returns-in-Less g c =
    let self = c.args.self.now in
    let q = self.question in
    let u = ap₂ (λ x n. unroll_size (g.M.Machine.meaning x) n) c.rows-rows.ensures.machine c.rows-rows.ensures.depth in
    of_assumptions (g.M.Machine.meaning self.machine.now) (g.M.Machine.lawful self.machine.now) self.rule q.kind q.depth c.args.number c.in-Some.behind (grind (arith, u))
    (listed c.assumption.result) (grind arith) c.assumption.ensures

pub returns-in-Equal : goal.returns-in-Equal
returns-in-Equal g c =
    let self = c.args.self.now in
    let q = self.question in
    let u = ap₂ (λ x n. unroll_size (g.M.Machine.meaning x) n) c.rows-rows.ensures.machine c.rows-rows.ensures.depth in
    of_rule (g.M.Machine.meaning self.machine.now) (g.M.Machine.lawful self.machine.now) self.rule q.kind q.depth c.args.number c.in-Some.behind (grind (arith, u))
    (listed c.unit.result) (grind arith) (c.unit.ensures ∙ ap (λ l. l ∷ []) c.broken_literal.ensures)

pub returns-in-Greater : goal.returns-in-Greater
returns-in-Greater g c =
    let self = c.args.self.now in
    let q = self.question in
    let u = ap₂ (λ x n. unroll_size (g.M.Machine.meaning x) n) c.rows-rows.ensures.machine c.rows-rows.ensures.depth in
    of_none (g.M.Machine.meaning self.machine.now) (g.M.Machine.lawful self.machine.now) self.rule q.kind q.depth c.args.number c.in-Some.behind (grind (arith, u)) (grind arith)
