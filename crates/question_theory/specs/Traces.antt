-- Traces of frames, and the questions that say that a trace is safe and closed.
use Rattle.std.specs.Prelude.{◌≡◌, ℕ, zero, suc, ◌+◌, ◌-◌, ◌*◌, ◌/◌, ◌<◌, ◌≤◌, Bool, true, false, List, [], ◌∷◌, ◌++◌, map, length, slice_index, slice_index_or}
use Rattle.std.specs.List.{AllByRecursion}
use Rattle.resolution.specs.Clauses.{denial, models, Unsat}
use Rattle.machine.specs.Meaning.{Meaning, Lawful}
use Rattle.machine.specs.Runs.{Kept}
use Rattle.question_theory.specs.Unrolling.{moved, unroll}

-- the literal of a state bit
abbrev pub OfState : Meaning → ℕ → Type 0
OfState m l = (1 + m.inputs ≤ l / 2) × (l / 2 < 1 + m.inputs + m.state_bits)

-- every literal of the clauses is one of a state bit
abbrev pub StateClauses : Meaning → List (List ℕ) → Type 0
StateClauses m cs = AllByRecursion (AllByRecursion (OfState m)) cs

-- the setting that a state gives the variables of the state bits
abbrev pub state_setting : Meaning → List Bool → ℕ → Bool
state_setting m s k = slice_index_or s (k - (1 + m.inputs)) false

-- the state is in the frame with these clauses: they hold in it
abbrev pub In : Meaning → List (List ℕ) → List Bool → Type 0
In m cs s = models (state_setting m s) cs ≡ true

-- is there a row whose state is in the frame, and whose next state denies clause c?
unfoldable pub step_question : Meaning → List (List ℕ) → List ℕ → List (List ℕ)
step_question m frame c = unroll m 1 ++ frame ++ map (λ (l : ℕ). denial (moved m 1 l) ∷ []) c

-- is there a row whose state is in the frame, and that breaks the rule?
unfoldable pub safe_question : Meaning → ℕ → List (List ℕ) → List (List ℕ)
safe_question m o frame = unroll m 0 ++ frame ++ (slice_index m.rule o ∷ []) ∷ []

-- the clauses of the frames before n, one after another
abbrev pub before : (ℕ → List (List ℕ)) → ℕ → List (List ℕ)
before F zero = []
before F (suc n) = before F n ++ F n

-- the selectors of these clauses, the first of which is variable a
abbrev pub selectors : ℕ → List (List ℕ) → List ℕ
selectors a [] = []
selectors a (c ∷ cs) = 2 * a ∷ selectors (a + 1) cs

-- for each frame before n the clause of its selectors: one of its clauses is selected
abbrev pub choices : Meaning → (ℕ → List (List ℕ)) → ℕ → List (List ℕ)
choices m F zero = []
choices m F (suc n) = choices m F n ++ selectors (m.variables + length (before F n)) (F n) ∷ []

-- where a clause is selected, each literal of it is denied
abbrev pub denials : ℕ → List (List ℕ) → List (List ℕ)
denials a [] = []
denials a (c ∷ cs) = map (λ (l : ℕ). denial l ∷ (2 * a + 1) ∷ []) c ++ denials (a + 1) cs

-- is there a state in the last frame, n, that is in none before it?
unfoldable pub closing_question : Meaning → (ℕ → List (List ℕ)) → ℕ → List (List ℕ)
closing_question m F n = F n ++ choices m F n ++ denials m.variables (before F n)

-- for each i below n, and each clause of frame i + 1, whether a step from frame i denies it
abbrev pub step_questions : Meaning → (ℕ → List (List ℕ)) → ℕ → List (List (List ℕ))
step_questions m F zero = []
step_questions m F (suc i) = step_questions m F i ++ map (step_question m (F i)) (F (suc i))

-- for each i below n, whether the rule is broken in frame i
abbrev pub safe_questions : Meaning → ℕ → (ℕ → List (List ℕ)) → ℕ → List (List (List ℕ))
safe_questions m o F zero = []
safe_questions m o F (suc i) = safe_questions m o F i ++ safe_question m o (F i) ∷ []

-- the questions of the trace F 0, .., F n, in their order
unfoldable pub questions_of_trace : Meaning → ℕ → (ℕ → List (List ℕ)) → ℕ → List (List (List ℕ))
questions_of_trace m o F n = step_questions m F n ++ safe_questions m o F (suc n) ++ closing_question m F n ∷ []

-- the start is in frame 0, a step leads from each frame into the next, no frame breaks the rule, and the last lies within the union of the others
pub record SafeTrace (m : Meaning) (o : ℕ) (F : ℕ → List (List ℕ)) (n : ℕ) : Type 0 where
  pub starts : In m (F 0) m.start
  pub steps : (i : ℕ) → i < n → (s x : List Bool) → length s ≡ m.state_bits → length x ≡ m.inputs → In m (F i) s → In m (F (suc i)) (m.step s x)
  pub safe : (i : ℕ) → i ≤ n → (s x : List Bool) → length s ≡ m.state_bits → length x ≡ m.inputs → In m (F i) s → m.broken o s x ≡ false
  pub closed : (s : List Bool) → length s ≡ m.state_bits → In m (F n) s → (j : ℕ) × (j < n) × In m (F j) s

-- a trace whose first frame has the start, and whose questions have no answer, is safe, and its rule is kept
abbrev pub TraceLaw : Type 0
TraceLaw = (m : Meaning) → Lawful m → (o : ℕ) → o < m.rules → (F : ℕ → List (List ℕ)) (n : ℕ) → 0 < n →
    ((i : ℕ) → i ≤ n → StateClauses m (F i)) → In m (F 0) m.start → AllByRecursion Unsat (questions_of_trace m o F n) → SafeTrace m o F n × Kept m o

-- no question of a safe trace has an answer
abbrev pub TraceComplete : Type 0
TraceComplete = (m : Meaning) → Lawful m → (o : ℕ) → o < m.rules → (F : ℕ → List (List ℕ)) (n : ℕ) → 0 < n →
    ((i : ℕ) → i ≤ n → StateClauses m (F i)) → SafeTrace m o F n → AllByRecursion Unsat (questions_of_trace m o F n)
