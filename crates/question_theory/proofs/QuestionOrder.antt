-- The questions of a trace and of an induction, in their order.
use Rattle.std.proofs.Common.{◌≡◌, ℕ, zero, suc, ◌+◌, ◌<◌, ◌≤◌, List, [], ◌∷◌, ◌++◌, map, length, get_or, sym, refl, ap, ◌∙◌, subst, ap₂, ⊎_elim, arith}
use Rattle.std.specs.List.{AllByRecursion}
use Rattle.std.proofs.lemmas.List.{length-append, length-map, length_push, get_or_append_left, get_or-append-add, get_or-map, get_or_push}
use Rattle.std.proofs.ByRecursion.{All-append, All-push, All-map, All-get_or, All-from_get_or}
use Rattle.std.proofs.lemmas.Bool.{cases_lt}
use Rattle.resolution.specs.Clauses.{Unsat}
use Rattle.machine.specs.Meaning.{Meaning}
use Rattle.question_theory.specs.Traces.{step_question, safe_question, closing_question, step_questions, safe_questions, questions_of_trace}
use Rattle.question_theory.specs.Inductions.{base_question, last_question, base_questions, questions_of_induction}
use Rattle.question_theory.specs.Shapes.{step_count, TraceInOrder, InductionInOrder}
use Rattle.question_theory.proofs.FramesBefore.{steps_within}
use Rattle.question_theory.proofs.OneByOne.{each_count, each_at, each_from, parts_count, first_at, second_at, third_at}
use Rattle.question_theory.proofs.Refuted.{TraceRefuted, InductionRefuted}

steps_count : (m : Meaning) (F : ℕ → List (List ℕ)) (n : ℕ) → length (step_questions m F n) ≡ step_count F n
steps_count m F zero = refl
steps_count m F (suc n) =
    length-append (step_questions m F n) (map (step_question m (F n)) (F (suc n)))
    ∙ ap₂ ◌+◌ (steps_count m F n) (length-map (F (suc n)) (step_question m (F n)))

step_at : (m : Meaning) (F : ℕ → List (List ℕ)) (n i c : ℕ) → i < n → c < length (F (suc i)) →
    get_or (step_questions m F n) (step_count F i + c) [] ≡ step_question m (F i) (get_or (F (suc i)) c [])
step_at m F zero i c h l = let none : ⊥ = omega arith in absurd none
step_at m F (suc n) i c h l =
    let size = steps_count m F n in
    let ih : i < n → get_or (step_questions m F n) (step_count F i + c) [] ≡ step_question m (F i) (get_or (F (suc i)) c []) = λ a. step_at m F n i c a l in
    let more : List (List (List ℕ)) = map (step_question m (F n)) (F (suc n)) in
    ⊎_elim
    (λ (a : i < n). get_or_append_left (step_questions m F n) more [] (step_count F i + c) (omega (arith, steps_within F i n a)) ∙ ih a)
    (λ (b : n ≤ i).
    let e : n ≡ i = omega arith in
    let first : step_count F n + c ≡ length (step_questions m F n) + c = omega arith in
    subst (λ (k : ℕ). c < length (F (suc k)) → get_or (step_questions m F n ++ more) (step_count F k + c) [] ≡ step_question m (F k) (get_or (F (suc k)) c [])) e
    (λ c<. ap (λ (j : ℕ). get_or (step_questions m F n ++ more) j []) first
    ∙ get_or-append-add (step_questions m F n) more c [] ∙ get_or-map (step_question m (F n)) (F (suc n)) c [] [] c<) l)
    (cases_lt i n)

steps_from : (m : Meaning) (F : ℕ → List (List ℕ)) (n : ℕ) → ((i : ℕ) → i < n → AllByRecursion (λ c. Unsat (step_question m (F i) c)) (F (suc i))) → AllByRecursion Unsat (step_questions m F n)
steps_from m F zero h = tt
steps_from m F (suc n) h =
    All-append Unsat (step_questions m F n) (map (step_question m (F n)) (F (suc n)))
    (steps_from m F n (λ i l. h i (omega arith))) (All-map Unsat (step_question m (F n)) (F (suc n)) (h n (omega arith)))

pub trace_in_order : TraceInOrder
unfolding questions_of_trace
trace_in_order m o F n = record {
  count = parts_count steps safes (closing_question m F n ∷ []) (step_count F n) (n + 1) (steps_count m F n) safe_count;
  step = λ q i c e h l.
      let w = steps_within F i n h in
      first_at steps safes (closing_question m F n ∷ []) (step_count F n) (n + 1) (steps_count m F n) safe_count q [] (omega arith)
      ∙ ap (λ (j : ℕ). get_or steps j []) e ∙ step_at m F n i c h l;
  safe = λ q i e h.
      second_at steps safes (closing_question m F n ∷ []) (step_count F n) (n + 1) (steps_count m F n) safe_count q i [] e (omega arith)
      ∙ each_at (λ i. safe_question m o (F i)) (safe_questions m o F) refl (λ _. refl) (suc n) i [] (omega arith);
  closing = λ q e. third_at steps safes (closing_question m F n ∷ []) (step_count F n) (n + 1) (steps_count m F n) safe_count q 0 [] (omega arith);
}
  where
    steps : List (List (List ℕ))
    steps = step_questions m F n

    safes : List (List (List ℕ))
    safes = safe_questions m o F (suc n)

    safe_count : length safes ≡ n + 1
    safe_count = let c = each_count (λ i. safe_question m o (F i)) (safe_questions m o F) refl (λ _. refl) (suc n) in omega arith

-- the questions in their order have no answer if, and only if, each by itself has none
pub trace_each : (m : Meaning) (o : ℕ) (F : ℕ → List (List ℕ)) (n : ℕ) → AllByRecursion Unsat (questions_of_trace m o F n) → TraceRefuted m o F n
trace_each m o F n h =
    let order = trace_in_order m o F n in
    let size = order.count in
    let by : (q : ℕ) → q < length (questions_of_trace m o F n) → Unsat (get_or (questions_of_trace m o F n) q []) = λ q l. All-get_or Unsat (questions_of_trace m o F n) q [] l h in
    record {
      steps = λ i l. All-from_get_or (λ c. Unsat (step_question m (F i) c)) (F (suc i)) [] (λ c c<.
          let w = steps_within F i n l in
          subst Unsat (order.step (step_count F i + c) i c refl l c<) (by (step_count F i + c) (omega arith)));
      safe = λ i l. subst Unsat (order.safe (step_count F n + i) i refl l) (by (step_count F n + i) (omega arith));
      closing = subst Unsat (order.closing (step_count F n + (n + 1)) refl) (by (step_count F n + (n + 1)) (omega arith));
    }

pub trace_all : (m : Meaning) (o : ℕ) (F : ℕ → List (List ℕ)) (n : ℕ) → TraceRefuted m o F n → AllByRecursion Unsat (questions_of_trace m o F n)
unfolding questions_of_trace
trace_all m o F n r =
    All-push Unsat (step_questions m F n ++ safe_questions m o F (suc n)) (closing_question m F n)
    (All-append Unsat (step_questions m F n) (safe_questions m o F (suc n)) (steps_from m F n r.steps)
    (each_from (λ i. safe_question m o (F i)) (safe_questions m o F) refl (λ _. refl) Unsat (suc n) (λ i l. r.safe i (omega arith))))
    r.closing

pub induction_in_order : InductionInOrder
unfolding questions_of_induction
induction_in_order m o k = record {
  count = let a = length_push (base_questions m o k) (last_question m o k) in omega (arith, size);
  base = λ q l. get_or_append_left (base_questions m o k) (last_question m o k ∷ []) [] q (omega (arith, size))
      ∙ each_at (base_question m o) (base_questions m o) refl (λ _. refl) k q [] l;
  last = λ q e. get_or_push (base_questions m o k) (last_question m o k) [] q (size ∙ sym e);
}
  where
    size : length (base_questions m o k) ≡ k
    size = each_count (base_question m o) (base_questions m o) refl (λ _. refl) k

pub induction_each : (m : Meaning) (o k : ℕ) → AllByRecursion Unsat (questions_of_induction m o k) → InductionRefuted m o k
induction_each m o k h =
    let order = induction_in_order m o k in
    let size = order.count in
    let by : (q : ℕ) → q < length (questions_of_induction m o k) → Unsat (get_or (questions_of_induction m o k) q []) = λ q l. All-get_or Unsat (questions_of_induction m o k) q [] l h in
    record {
      base = λ i l. subst Unsat (order.base i l) (by i (omega arith));
      last = subst Unsat (order.last k refl) (by k (omega arith));
    }

pub induction_all : (m : Meaning) (o k : ℕ) → InductionRefuted m o k → AllByRecursion Unsat (questions_of_induction m o k)
unfolding questions_of_induction
induction_all m o k r =
    All-push Unsat (base_questions m o k) (last_question m o k) (each_from (base_question m o) (base_questions m o) refl (λ _. refl) Unsat k r.base) r.last
