-- Questions and their clauses by number, each counted from 0, and what every clause is like.
use Rattle.std.specs.Prelude.{◌≡◌, ℕ, zero, suc, ◌+◌, ◌-◌, ◌*◌, ◌<◌, ◌≤◌, false, cond, List, [], ◌∷◌, map, length, get_or, take, drop, nat_lt, slice_index, slice_index_or}
use Rattle.std.specs.List.{flat_map, AllByRecursion}
use Rattle.resolution.specs.Clauses.{denial, Rising}
use Rattle.machine.specs.Meaning.{Meaning, Lawful}
use Rattle.question_theory.specs.Unrolling.{moved, literal_of_state, unroll}
use Rattle.question_theory.specs.Traces.{StateClauses, step_question, safe_question, before, selectors, denials, closing_question, questions_of_trace}
use Rattle.question_theory.specs.Inductions.{bit_literal, base_question, last_question, questions_of_induction}

-- each clause rises, and its literals are below a bound
abbrev pub Fine : ℕ → List (List ℕ) → Type 0
Fine bound cs = AllByRecursion (λ c. Rising c × AllByRecursion (λ l. l < bound) c) cs

-- Clauses of an unrolling

-- how many clauses unroll n has
abbrev pub unroll_size : Meaning → ℕ → ℕ
unroll_size m n = suc n * length m.clauses + n * (2 * m.state_bits)

-- clause k of unroll n: clause c of the machine moved to frame t; bit i of frame t + 1 is true only if, and is true if, its next literal is
pub record UnrollShape (m : Meaning) (n : ℕ) : Type 0 where
  pub count : length (unroll m n) ≡ unroll_size m n
  pub machine : (k t c : ℕ) → k ≡ t * length m.clauses + c → t ≤ n → c < length m.clauses →
      slice_index_or (unroll m n) k [] ≡ map (moved m t) (slice_index_or m.clauses c [])
  pub only_if : (k t i : ℕ) → k ≡ suc n * length m.clauses + (t * (2 * m.state_bits) + 2 * i) → t < n → i < m.state_bits →
      slice_index_or (unroll m n) k [] ≡ moved m t (slice_index m.next i) ∷ denial (moved m (suc t) (literal_of_state m i)) ∷ []
  pub true_if : (k t i : ℕ) → k ≡ suc n * length m.clauses + (t * (2 * m.state_bits) + (2 * i + 1)) → t < n → i < m.state_bits →
      slice_index_or (unroll m n) k [] ≡ denial (moved m t (slice_index m.next i)) ∷ moved m (suc t) (literal_of_state m i) ∷ []
  pub fine : Fine (2 * (suc n * m.variables)) (unroll m n)

abbrev pub UnrollInOrder : Type 0
UnrollInOrder = (m : Meaning) → Lawful m → (n : ℕ) → UnrollShape m n

-- Questions of a trace

-- how many clauses frames 1 to i have
abbrev pub step_count : (ℕ → List (List ℕ)) → ℕ → ℕ
step_count F zero = 0
step_count F (suc i) = step_count F i + length (F (suc i))

-- question q of a trace
pub record TraceOrder (m : Meaning) (o : ℕ) (F : ℕ → List (List ℕ)) (n : ℕ) : Type 0 where
  pub count : length (questions_of_trace m o F n) ≡ step_count F n + (n + 1) + 1
  pub step : (q i c : ℕ) → q ≡ step_count F i + c → i < n → c < length (F (suc i)) →
      slice_index_or (questions_of_trace m o F n) q [] ≡ step_question m (F i) (slice_index_or (F (suc i)) c [])
  pub safe : (q i : ℕ) → q ≡ step_count F n + i → i ≤ n → slice_index_or (questions_of_trace m o F n) q [] ≡ safe_question m o (F i)
  pub closing : (q : ℕ) → q ≡ step_count F n + (n + 1) → slice_index_or (questions_of_trace m o F n) q [] ≡ closing_question m F n

abbrev pub TraceInOrder : Type 0
TraceInOrder = (m : Meaning) (o : ℕ) (F : ℕ → List (List ℕ)) (n : ℕ) → TraceOrder m o F n

-- clause k of a step question: of the unrolling, of the frame, a literal of the next frame's clause denied
pub record StepShape (m : Meaning) (frame : List (List ℕ)) (c : List ℕ) : Type 0 where
  pub count : length (step_question m frame c) ≡ unroll_size m 1 + length frame + length c
  pub unrolled : (k : ℕ) → k < unroll_size m 1 → slice_index_or (step_question m frame c) k [] ≡ slice_index_or (unroll m 1) k []
  pub framed : (k j : ℕ) → k ≡ unroll_size m 1 + j → j < length frame → slice_index_or (step_question m frame c) k [] ≡ slice_index_or frame j []
  pub denied : (k j : ℕ) → k ≡ unroll_size m 1 + length frame + j → j < length c →
      slice_index_or (step_question m frame c) k [] ≡ denial (moved m 1 (slice_index c j)) ∷ []

abbrev pub StepInOrder : Type 0
StepInOrder = (m : Meaning) → Lawful m → (frame : List (List ℕ)) (c : List ℕ) → StepShape m frame c

-- clause k of a safe question: of the unrolling, of the frame, the rule's literal
pub record SafeShape (m : Meaning) (o : ℕ) (frame : List (List ℕ)) : Type 0 where
  pub count : length (safe_question m o frame) ≡ unroll_size m 0 + length frame + 1
  pub unrolled : (k : ℕ) → k < unroll_size m 0 → slice_index_or (safe_question m o frame) k [] ≡ slice_index_or (unroll m 0) k []
  pub framed : (k j : ℕ) → k ≡ unroll_size m 0 + j → j < length frame → slice_index_or (safe_question m o frame) k [] ≡ slice_index_or frame j []
  pub broken : (k : ℕ) → k ≡ unroll_size m 0 + length frame → slice_index_or (safe_question m o frame) k [] ≡ slice_index m.rule o ∷ []

abbrev pub SafeInOrder : Type 0
SafeInOrder = (m : Meaning) → Lawful m → (o : ℕ) (frame : List (List ℕ)) → SafeShape m o frame

-- the literals of the clauses, one after another
abbrev pub flat : List (List ℕ) → List ℕ
flat cs = flat_map (λ (c : List ℕ). c) cs

-- the number of the clause that literal q of the clauses lies in
abbrev pub owner : List (List ℕ) → ℕ → ℕ
owner [] q = zero
owner (c ∷ cs) q = cond (nat_lt q (length c)) zero (suc (owner cs (q - length c)))

-- clause k of the closing question: of the last frame, the selectors of frame j, the denial of literal q of the frames before
pub record ClosingShape (m : Meaning) (F : ℕ → List (List ℕ)) (n : ℕ) : Type 0 where
  pub count : length (closing_question m F n) ≡ length (F n) + n + length (flat (before F n))
  pub framed : (k : ℕ) → k < length (F n) → slice_index_or (closing_question m F n) k [] ≡ slice_index_or (F n) k []
  pub choice : (k j : ℕ) → k ≡ length (F n) + j → j < n → slice_index_or (closing_question m F n) k [] ≡ selectors (m.variables + length (before F j)) (F j)
  pub denied : (k q : ℕ) → k ≡ length (F n) + n + q → q < length (flat (before F n)) →
      slice_index_or (closing_question m F n) k [] ≡ denial (slice_index (flat (before F n)) q) ∷ (2 * (m.variables + owner (before F n) q) + 1) ∷ []

abbrev pub ClosingInOrder : Type 0
ClosingInOrder = (m : Meaning) (F : ℕ → List (List ℕ)) (n : ℕ) → ClosingShape m F n

-- selectors by number
abbrev pub SelectorsInOrder : Type 0
SelectorsInOrder = (a : ℕ) (cs : List (List ℕ)) → (length (selectors a cs) ≡ length cs) × ((j : ℕ) → j < length cs → slice_index (selectors a cs) j ≡ 2 * (a + j))

-- denials by the number of the literal
abbrev pub DenialsInOrder : Type 0
DenialsInOrder = (a : ℕ) (cs : List (List ℕ)) → (length (denials a cs) ≡ length (flat cs)) ×
    ((q : ℕ) → q < length (flat cs) → slice_index_or (denials a cs) q [] ≡ denial (slice_index (flat cs) q) ∷ (2 * (a + owner cs q) + 1) ∷ [])

-- literal q, which is literal j of clause c
pub record LiteralPlace (cs : List (List ℕ)) (q c j : ℕ) : Type 0 where
  pub within : q < length (flat cs)
  pub literal : get_or (flat cs) q 0 ≡ slice_index (slice_index_or cs c []) j
  pub clause : owner cs q ≡ c

abbrev pub LiteralsInOrder : Type 0
LiteralsInOrder = (cs : List (List ℕ)) (q c j : ℕ) → q ≡ length (flat (take c cs)) + j → c < length cs → j < length (slice_index_or cs c []) → LiteralPlace cs q c j

-- the clauses of a trace's questions rise, and their literals are low
pub record TraceFineness (m : Meaning) (o : ℕ) (F : ℕ → List (List ℕ)) (n : ℕ) : Type 0 where
  pub step : (i c : ℕ) → i < n → c < length (F (suc i)) → Fine (2 * (2 * m.variables)) (step_question m (F i) (slice_index_or (F (suc i)) c []))
  pub safe : (i : ℕ) → i ≤ n → Fine (2 * m.variables) (safe_question m o (F i))
  pub closing : Fine (2 * (m.variables + length (before F n))) (closing_question m F n)

abbrev pub TraceFine : Type 0
TraceFine = (m : Meaning) → Lawful m → (o : ℕ) → o < m.rules → (F : ℕ → List (List ℕ)) (n : ℕ) →
    ((i : ℕ) → i ≤ n → StateClauses m (F i)) → ((i : ℕ) → i ≤ n → AllByRecursion Rising (F i)) → TraceFineness m o F n

-- Frames of a trace

-- the clauses before frame i + 1 are those of frame 0 and of frames 1 to i
abbrev pub FramesCounted : Type 0
FramesCounted = (F : ℕ → List (List ℕ)) (i : ℕ) → length (before F (suc i)) ≡ length (F 0) + step_count F i

-- frames that stand in a list: those before n are the first n, one after another
abbrev pub FramesListed : Type 0
FramesListed = (Fs : List (List (List ℕ))) (n : ℕ) → n ≤ length Fs → before (λ i. get_or Fs i []) n ≡ flat_map (λ (F : List (List ℕ)). F) (take n Fs)

-- frames that lie one after another in one list of clauses, with a mark where each begins: those before n are the clauses before mark n
abbrev pub FramesMarked : Type 0
FramesMarked = (cs : List (List ℕ)) (mark : ℕ → ℕ) (n : ℕ) → mark 0 ≡ 0 → ((i : ℕ) → i < n → mark i ≤ mark (suc i)) → mark n ≤ length cs →
    before (λ i. take (mark (suc i) - mark i) (drop (mark i) cs)) n ≡ take (mark n) cs

-- Questions of an induction

-- question q of an induction
pub record InductionOrder (m : Meaning) (o k : ℕ) : Type 0 where
  pub count : length (questions_of_induction m o k) ≡ k + 1
  pub base : (q : ℕ) → q < k → slice_index_or (questions_of_induction m o k) q [] ≡ base_question m o q
  pub last : (q : ℕ) → q ≡ k → slice_index_or (questions_of_induction m o k) q [] ≡ last_question m o k

abbrev pub InductionInOrder : Type 0
InductionInOrder = (m : Meaning) (o k : ℕ) → InductionOrder m o k

-- clause k of base question i: of the unrolling, a bit of the start, the rule's literal in the last row
pub record BaseShape (m : Meaning) (o i : ℕ) : Type 0 where
  pub count : length (base_question m o i) ≡ unroll_size m i + m.state_bits + 1
  pub unrolled : (k : ℕ) → k < unroll_size m i → slice_index_or (base_question m o i) k [] ≡ slice_index_or (unroll m i) k []
  pub started : (k j : ℕ) → k ≡ unroll_size m i + j → j < m.state_bits → slice_index_or (base_question m o i) k [] ≡ bit_literal m j (slice_index_or m.start j false) ∷ []
  pub broken : (k : ℕ) → k ≡ unroll_size m i + m.state_bits → slice_index_or (base_question m o i) k [] ≡ moved m i (slice_index m.rule o) ∷ []

abbrev pub BaseInOrder : Type 0
BaseInOrder = (m : Meaning) → Lawful m → (o i : ℕ) → BaseShape m o i

-- clause k of the last question of an induction over n rows: of the unrolling, the rule's literal denied in row t, and in the last row
pub record LastShape (m : Meaning) (o n : ℕ) : Type 0 where
  pub count : length (last_question m o n) ≡ unroll_size m n + n + 1
  pub unrolled : (k : ℕ) → k < unroll_size m n → slice_index_or (last_question m o n) k [] ≡ slice_index_or (unroll m n) k []
  pub unbroken : (k t : ℕ) → k ≡ unroll_size m n + t → t < n → slice_index_or (last_question m o n) k [] ≡ denial (moved m t (slice_index m.rule o)) ∷ []
  pub broken : (k : ℕ) → k ≡ unroll_size m n + n → slice_index_or (last_question m o n) k [] ≡ moved m n (slice_index m.rule o) ∷ []

abbrev pub LastInOrder : Type 0
LastInOrder = (m : Meaning) → Lawful m → (o n : ℕ) → LastShape m o n

-- the clauses of an induction's questions rise, and their literals are of the rows' variables
pub record InductionFineness (m : Meaning) (o k : ℕ) : Type 0 where
  pub base : (i : ℕ) → i < k → Fine (2 * (suc i * m.variables)) (base_question m o i)
  pub last : Fine (2 * (suc k * m.variables)) (last_question m o k)

abbrev pub InductionFine : Type 0
InductionFine = (m : Meaning) → Lawful m → (o : ℕ) → o < m.rules → (k : ℕ) → InductionFineness m o k
