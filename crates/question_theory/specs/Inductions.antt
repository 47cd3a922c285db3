-- Induction over k rows, and the questions that say that it holds.
use Rattle.std.specs.Prelude.{◌≡◌, ℕ, zero, suc, ◌+◌, ◌<◌, ◌≤◌, Bool, false, cond, List, [], ◌∷◌, ◌++◌, length, slice_index}
use Rattle.std.specs.List.{AllByRecursion}
use Rattle.resolution.specs.Clauses.{denial, Unsat}
use Rattle.machine.specs.Meaning.{Meaning, Lawful}
use Rattle.machine.specs.Runs.{Run, Breaks, Kept}
use Rattle.question_theory.specs.Unrolling.{moved, unroll, literal_of_state, Inputs, broken_at}

-- the literal that says that state bit i is b
abbrev pub bit_literal : Meaning → ℕ → Bool → ℕ
bit_literal m i b = cond b (literal_of_state m i) (denial (literal_of_state m i))

-- state bits i, i + 1, .. are these
abbrev pub units : Meaning → ℕ → List Bool → List (List ℕ)
units m i [] = []
units m i (b ∷ bs) = (bit_literal m i b ∷ []) ∷ units m (i + 1) bs

-- the rule is broken in none of the rows before n
abbrev pub unbroken : Meaning → ℕ → ℕ → List (List ℕ)
unbroken m o zero = []
unbroken m o (suc t) = unbroken m o t ++ (denial (moved m t (slice_index m.rule o)) ∷ []) ∷ []

-- is there a run of i + 1 rows that breaks the rule?
unfoldable pub base_question : Meaning → ℕ → ℕ → List (List ℕ)
base_question m o i = unroll m i ++ units m 0 m.start ++ (moved m i (slice_index m.rule o) ∷ []) ∷ []

-- are there k + 1 linked rows of which only the last breaks the rule?
unfoldable pub last_question : Meaning → ℕ → ℕ → List (List ℕ)
last_question m o k = unroll m k ++ unbroken m o k ++ (moved m k (slice_index m.rule o) ∷ []) ∷ []

-- for each i below k, whether a run of i + 1 rows breaks the rule
abbrev pub base_questions : Meaning → ℕ → ℕ → List (List (List ℕ))
base_questions m o zero = []
base_questions m o (suc i) = base_questions m o i ++ base_question m o i ∷ []

-- the questions of the induction, in their order
unfoldable pub questions_of_induction : Meaning → ℕ → ℕ → List (List (List ℕ))
questions_of_induction m o k = base_questions m o k ++ last_question m o k ∷ []

-- no run of at most k rows breaks the rule, and no k + 1 linked rows, from any state on, break it only in the last
pub record Inductive (m : Meaning) (o k : ℕ) : Type 0 where
  pub base : (rows : List (List Bool)) → Run m rows → length rows ≤ k → Breaks m o rows → ⊥
  pub last : (s : List Bool) (ins : ℕ → List Bool) → length s ≡ m.state_bits → Inputs m ins k →
      ((t : ℕ) → t < k → broken_at m o s ins t ≡ false) → broken_at m o s ins k ≡ false

-- where no question of the induction has an answer it holds, and the rule is kept
abbrev pub InductionLaw : Type 0
InductionLaw = (m : Meaning) → Lawful m → (o : ℕ) → o < m.rules → (k : ℕ) → AllByRecursion Unsat (questions_of_induction m o k) → Inductive m o k × Kept m o

-- where the induction holds, none of its questions has an answer
abbrev pub InductionComplete : Type 0
InductionComplete = (m : Meaning) → Lawful m → (o : ℕ) → o < m.rules → (k : ℕ) → Inductive m o k → AllByRecursion Unsat (questions_of_induction m o k)
