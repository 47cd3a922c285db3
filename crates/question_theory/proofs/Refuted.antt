-- That no question has an answer, question by question.
use Rattle.std.proofs.Common.{ℕ, suc, ◌<◌, ◌≤◌, List}
use Rattle.std.specs.List.{AllByRecursion}
use Rattle.resolution.specs.Clauses.{Unsat}
use Rattle.machine.specs.Meaning.{Meaning}
use Rattle.question_theory.specs.Traces.{step_question, safe_question, closing_question}
use Rattle.question_theory.specs.Inductions.{base_question, last_question}

-- no question of the trace F 0, .., F n has an answer
pub record TraceRefuted (m : Meaning) (o : ℕ) (F : ℕ → List (List ℕ)) (n : ℕ) : Type 0 where
  pub steps : (i : ℕ) → i < n → AllByRecursion (λ c. Unsat (step_question m (F i) c)) (F (suc i))
  pub safe : (i : ℕ) → i ≤ n → Unsat (safe_question m o (F i))
  pub closing : Unsat (closing_question m F n)

-- no question of the induction over k rows has an answer
pub record InductionRefuted (m : Meaning) (o k : ℕ) : Type 0 where
  pub base : (i : ℕ) → i < k → Unsat (base_question m o i)
  pub last : Unsat (last_question m o k)
