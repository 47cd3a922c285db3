-- The clauses of a question of an induction, and what the questions decide.
use Rattle.std.specs.Prelude.{ℕ, false, List, [], ◌∷◌, slice_index, slice_index_or}
use Rattle.std.specs.List.{AllByRecursion}
use Rattle.resolution.specs.Clauses.{denial, Unsat}
use Rattle.machine.specs.Meaning.{Meaning}
use Rattle.machine.specs.Runs.{Kept}
use Rattle.question_theory.specs.Unrolling.{moved}
use Rattle.question_theory.specs.Inductions.{bit_literal, base_question, last_question, questions_of_induction, Inductive}
use Rattle.unrolling.specs.declared.question.Kind.{Kind}
use Rattle.unrolling.specs.declared.question.Kind.TheVariants.{Base, Last}
use Rattle.unrolling.specs.declared.question.InductionQuestion.{InductionQuestion}

-- the clauses of a question of a kind about n + 1 rows
abbrev pub asked_as : Meaning → ℕ → Kind → ℕ → List (List ℕ)
asked_as m o Base n = base_question m o n
asked_as m o Last n = last_question m o n

-- the clauses of a question about rule o
abbrev pub asked : Meaning → ℕ → InductionQuestion → List (List ℕ)
asked m o q = asked_as m o q.kind q.depth

-- how many units a question about n + 1 rows assumes: the start's bits, or that each row before the last keeps the rule
abbrev pub assumptions : Meaning → Kind → ℕ → ℕ
assumptions m Base n = m.state_bits
assumptions m Last n = n

-- unit j of them
abbrev pub assumption_at : Meaning → ℕ → Kind → ℕ → List ℕ
assumption_at m o Base j = bit_literal m j (slice_index_or m.start j false) ∷ []
assumption_at m o Last j = denial (moved m j (slice_index m.rule o)) ∷ []

-- no question of the induction over k rows has an answer exactly where it holds, and where it holds the rule is kept
pub record Decides (m : Meaning) (o k : ℕ) : Type 0 where
  pub sound : AllByRecursion Unsat (questions_of_induction m o k) → Inductive m o k
  pub complete : Inductive m o k → AllByRecursion Unsat (questions_of_induction m o k)
  pub kept : Inductive m o k → Kept m o
