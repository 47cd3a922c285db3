-- Questions of a trace that stands on the stacks, by their numbers.
use Rattle.std.proofs.Common.{◌≡◌, ℕ, zero, suc, ◌+◌, ◌-◌, ◌<◌, ◌≤◌, min, List, [], ◌∷◌, ◌++◌, map, length, get_or, Some, None, Option, MatchOption, sym, refl, ap, ◌∙◌, ap₂, arith}
use Rattle.std.specs.List.{AllByRecursion}
use Rattle.std.proofs.ByRecursion.{All-get_or}
use Rattle.resolution.specs.Clauses.{denial}
use Rattle.machine.specs.Meaning.{Meaning, Lawful}
use Rattle.stack.specs.declared.spans.Span.{Span}
use Rattle.frames.specs.declared.frames.Frames.{Frames}
use Rattle.frames.specs.Held.{before_frame, frame, Stacked}
use Rattle.frames.proofs.Views.{frame_count, frame_at}
use Rattle.question_theory.specs.Unrolling.{moved, unroll}
use Rattle.question_theory.specs.Traces.{OfState, StateClauses, step_question}
use Rattle.question_theory.proofs.QuestionOrder.{trace_in_order}
use Rattle.questions.specs.declared.question.TraceQuestion.{TraceQuestion}
use Rattle.questions.specs.declared.question.TraceQuestion.TheVariants.{Step, Safe, Closing}
use Rattle.questions.specs.Closing.{last_frame}
use Rattle.questions.specs.Lists.{denied_next, step_clauses, next_clause, asked}
use Rattle.questions.specs.Numbers.{steps_of, questions_of, AfterFrame, QuestionAt}
use Rattle.questions.specs.Laws.{Found, questions_on}
use Rattle.questions.proofs.StackedFrames.{marks_up, steps_are}
use Rattle.questions.proofs.ClosingStacked.{closing_is}

-- literals of state bits are not moved beyond the highest
denied_same : (m : Meaning) → Lawful m → (c : List ℕ) → AllByRecursion (OfState m) c → map (denied_next m) c ≡ map (λ (l : ℕ). denial (moved m 1 l) ∷ []) c
denied_same m law [] h = refl
denied_same m law (l ∷ c) h =
    let few = law.few in
    let room = law.room in
    let low = h.0 in
    let e : min (moved m 1 l) 4294967295 ≡ moved m 1 l = omega arith in
    ap₂ (λ (x : ℕ) (cs : List (List ℕ)). (denial x ∷ []) ∷ cs) e (denied_same m law c h.1)

pub step_is : (m : Meaning) → Lawful m → (cs : List (List ℕ)) (c : List ℕ) → AllByRecursion (OfState m) c → step_clauses m cs c ≡ step_question m cs c
unfolding step_clauses step_question
step_is m law cs c h = ap (λ (ds : List (List ℕ)). unroll m 1 ++ cs ++ ds) (denied_same m law c h)

module _ (f : Frames) (ls : List ℕ) (ps : List Span) (s : Stacked f ls ps) where
  -- clause k, where the frame after i is the first that ends beyond it
  starts_before : (k i : ℕ) → (before_frame f 1).clauses ≤ k → AfterFrame f k i → (before_frame f (suc i)).clauses ≤ k
  starts_before k zero h a = h
  starts_before k (suc i) h a = a.first i (omega arith)

  pub next_is : (i c : ℕ) → c < (before_frame f (suc (suc i))).clauses - (before_frame f (suc i)).clauses → next_clause f ls ps i c ≡ get_or (frame f ls ps (suc i)) c []
  next_is i c h = sym (frame_at f ls ps s.spans_fit (suc i) c h)

  pub counted : (m : Meaning) (o : ℕ) → questions_of f ≡ length (questions_on m o f ls ps)
  counted m o =
      let e = (trace_in_order m o (frame f ls ps) (last_frame f)).count in
      let d = steps_are f ls ps s (last_frame f) (omega arith) in
      omega arith

  module _ (m : Meaning) (law : Lawful m) (o : ℕ) (states : (i : ℕ) → i ≤ last_frame f → StateClauses m (frame f ls ps i)) where
    found_step : (q i c : ℕ) → q < steps_of f → AfterFrame f ((before_frame f 1).clauses + q) i → c ≡ (before_frame f 1).clauses + q - (before_frame f (suc i)).clauses →
        asked m o f ls ps (Step i c) ≡ get_or (questions_on m o f ls ps) q []
    found_step q i c h a e =
        let F = frame f ls ps in
        let i< = a.within in
        let end = a.ends in
        let low = starts_before ((before_frame f 1).clauses + q) i (omega arith) a in
        let up = marks_up f ls ps s 1 (suc i) (omega arith) (omega arith) in
        let size = frame_count f ls ps s.spans_fit (suc i) in
        let steps = steps_are f ls ps s i (omega arith) in
        let c< : c < (before_frame f (suc (suc i))).clauses - (before_frame f (suc i)).clauses = omega arith in
        let c<F : c < length (frame f ls ps (suc i)) = omega arith in
        ap (step_clauses m (F i)) (next_is i c c<)
        ∙ step_is m law (F i) (get_or (F (suc i)) c []) (All-get_or (AllByRecursion (OfState m)) (F (suc i)) c [] c<F (states (suc i) (omega arith)))
        ∙ sym ((trace_in_order m o F (last_frame f)).step q i c (omega arith) i< c<F)

    found_safe : (q i : ℕ) → i ≤ last_frame f → q ≡ steps_of f + i → asked m o f ls ps (Safe i) ≡ get_or (questions_on m o f ls ps) q []
    found_safe q i h e =
        let d = steps_are f ls ps s (last_frame f) (omega arith) in
        sym ((trace_in_order m o (frame f ls ps) (last_frame f)).safe q i (omega arith) h)

    found_closing : (q : ℕ) → q ≡ steps_of f + (last_frame f + 1) → asked m o f ls ps Closing ≡ get_or (questions_on m o f ls ps) q []
    found_closing q e =
        let d = steps_are f ls ps s (last_frame f) (omega arith) in
        closing_is f ls ps s m ∙ sym ((trace_in_order m o (frame f ls ps) (last_frame f)).closing q (omega arith))

pub found : (f : Frames) (q : ℕ) (r : Option TraceQuestion) → QuestionAt f q r → Found f q r
found f q (Some (Step i c)) h m law o ls ps fr =
    let n = counted f ls ps fr.stacked m o in (omega (arith, h.0), found_step f ls ps fr.stacked m law o fr.states q i c h.0 h.1 h.2)
found f q (Some (Safe i)) h m law o ls ps fr =
    let n = counted f ls ps fr.stacked m o in (omega (arith, h.0, h.1), found_safe f ls ps fr.stacked m law o fr.states q i h.0 h.1)
found f q (Some Closing) h m law o ls ps fr =
    let n = counted f ls ps fr.stacked m o in (omega arith, found_closing f ls ps fr.stacked m law o fr.states q h)
found f q None h m law o ls ps fr = let n = counted f ls ps fr.stacked m o in omega arith

-- the first frame that ends beyond clause k, among the first n
pub after_first : (f : Frames) (k n : ℕ) (r : Option ℕ) → n ≡ last_frame f →
    MatchOption r ((j : ℕ) → 0 ≤ j → j < n → (before_frame f (suc (suc j))).clauses ≤ k)
    (λ i. (0 ≤ i) × (i < n) × (k < (before_frame f (suc (suc i))).clauses) × ((j : ℕ) → 0 ≤ j → j < i → (before_frame f (suc (suc j))).clauses ≤ k)) →
    MatchOption r ((j : ℕ) → j < last_frame f → (before_frame f (suc (suc j))).clauses ≤ k) (λ i. AfterFrame f k i)
after_first f k n (Some i) e h = record { within = omega (arith, h.1); ends = h.2; first = λ j l. h.3 j (omega arith) l }
after_first f k n None e h = λ j l. h j (omega arith) (omega arith)
