-- The questions of a trace by their numbers.
use Rattle.std.proofs.Common.{◌≡◌, ℕ, zero, suc, ◌+◌, ◌<◌, ◌≤◌, List, [], ◌∷◌, ◌++◌, map, length, get_or, Some, Option, sym, refl, ap, ◌∙◌, subst, ap₂, arith, MatchOption}
use Rattle.stack.specs.declared.spans.Span.{Span}
use Rattle.machine.specs.Meaning.{Meaning, Lawful}
use Rattle.question_theory.specs.Traces.{step_question, safe_question, before, selectors, choices, denials, closing_question, step_questions, safe_questions, questions_of_trace}
use Rattle.frames.specs.Held.{ended_frames, frame}
use Rattle.certificate.specs.declared.claim.Claim.{Claim}
use Rattle.certificate.specs.declared.claim.Claim.TheVariants.{Trace}
use Rattle.opening.specs.declared.opening.Opening.{Opening}
use Rattle.opening.specs.Views.{held}
use Rattle.opening.specs.Openings.{frames_with}
use Rattle.opening.proofs.HeldFrames.{held_at}
use Rattle.questions.specs.declared.question.TraceQuestion.{TraceQuestion}
use Rattle.questions.specs.Closing.{last_frame}
use Rattle.questions.specs.Laws as laws
use Rattle.questions.specs.Laws.{questions_on, Counted, Found}
use Rattle.questions.specs.Lists.{asked}
use Rattle.checking.specs.Asked.{frame_of, questions}
use Rattle.checking.specs.Begun.{Opened}

-- traces of the same frames have the same questions
module _ (m : Meaning) (rule : ℕ) (F G : ℕ → List (List ℕ)) where
  same_before : (n : ℕ) → ((i : ℕ) → i < n → F i ≡ G i) → before F n ≡ before G n
  same_before zero h = refl
  same_before (suc n) h = ap₂ (λ (x y : List (List ℕ)). x ++ y) (same_before n (λ i l. h i (omega arith))) (h n (omega arith))

  same_choices : (n : ℕ) → ((i : ℕ) → i < n → F i ≡ G i) → choices m F n ≡ choices m G n
  same_choices zero h = refl
  same_choices (suc n) h =
      ap₂ (λ (x : List (List ℕ)) (y : List ℕ). x ++ y ∷ []) (same_choices n (λ i l. h i (omega arith)))
      (ap₂ (λ (x y : List (List ℕ)). selectors (m.variables + length x) y) (same_before n (λ i l. h i (omega arith))) (h n (omega arith)))

  same_steps : (n : ℕ) → ((i : ℕ) → i ≤ n → F i ≡ G i) → step_questions m F n ≡ step_questions m G n
  same_steps zero h = refl
  same_steps (suc n) h =
      ap₂ (λ (x y : List (List (List ℕ))). x ++ y) (same_steps n (λ i l. h i (omega arith)))
      (ap₂ (λ (x y : List (List ℕ)). map (step_question m x) y) (h n (omega arith)) (h (suc n) (omega arith)))

  same_safe : (n : ℕ) → ((i : ℕ) → i < n → F i ≡ G i) → safe_questions m rule F n ≡ safe_questions m rule G n
  same_safe zero h = refl
  same_safe (suc n) h =
      ap₂ (λ (x : List (List (List ℕ))) (y : List (List ℕ)). x ++ safe_question m rule y ∷ []) (same_safe n (λ i l. h i (omega arith))) (h n (omega arith))

  same_closing : (n : ℕ) → ((i : ℕ) → i ≤ n → F i ≡ G i) → closing_question m F n ≡ closing_question m G n
  unfolding closing_question
  same_closing n h =
      ap₂ (λ (x y : List (List ℕ)). x ++ y) (ap₂ (λ (x y : List (List ℕ)). x ++ y) (h n (omega arith)) (same_choices n (λ i l. h i (omega arith))))
      (ap (denials m.variables) (same_before n (λ i l. h i (omega arith))))

  pub same_questions : (n : ℕ) → ((i : ℕ) → i ≤ n → F i ≡ G i) → questions_of_trace m rule F n ≡ questions_of_trace m rule G n
  unfolding questions_of_trace
  same_questions n h =
      ap₂ (λ (x y : List (List (List ℕ))). x ++ y)
      (ap₂ (λ (x y : List (List (List ℕ))). x ++ y) (same_steps n h) (same_safe (suc n) (λ i l. h i (omega arith))))
      (ap (λ (x : List (List ℕ)). x ∷ []) (same_closing n h))

found_asks : (r : Option TraceQuestion) (t : TraceQuestion) (P : Type 0) (Q : TraceQuestion → Type 0) → MatchOption r P Q → r ≡ Some t → Q t
found_asks r t P Q c e = subst (λ (x : Option TraceQuestion). MatchOption x P Q) e c

module _ (m : Meaning) (law : Lawful m) (rule : ℕ) (o : Opening) (ls : List ℕ) (ps : List Span) (at : ℕ) (begun : Opened m Trace o at ls ps) where
  frame_count : ended_frames o.frames ≡ o.size + 1
  frame_count = begun.framed.count ∙ ap (λ (c : Claim). frames_with c o.size) begun.claims

  -- the frames of the trace stand on the stacks
  stands : laws.Framed m o.frames ls ps
  stands = let n = frame_count in record { stacked = begun.framed.settled.stacked; states = λ i l. begun.framed.of_state i (omega arith) }

  questions_are : questions_on m rule o.frames ls ps ≡ questions m rule o.claim o.size (held o.frames ls ps)
  questions_are =
      let n = frame_count in
      let last : last_frame o.frames ≡ o.size = omega arith in
      ap (questions_of_trace m rule (frame o.frames ls ps)) last
      ∙ same_questions m rule (frame o.frames ls ps) (frame_of (held o.frames ls ps)) o.size (λ i l. sym (held_at o.frames ls ps i (omega arith)))
      ∙ ap (λ (c : Claim). questions m rule c o.size (held o.frames ls ps)) (sym begun.claims)

  pub trace_count : (count : ℕ) → Counted o.frames count → count ≡ length (questions m rule o.claim o.size (held o.frames ls ps))
  trace_count count c = c m rule ls ps begun.framed.settled.stacked ∙ ap (λ (qs : List (List (List ℕ))). length qs) questions_are

  pub trace_asks : (number : ℕ) (r : Option TraceQuestion) → Found o.frames number r → (t : TraceQuestion) → r ≡ Some t →
      asked m rule o.frames ls ps t ≡ get_or (questions m rule o.claim o.size (held o.frames ls ps)) number []
  trace_asks number r f t e =
      subst (λ (qs : List (List (List ℕ))). asked m rule o.frames ls ps t ≡ get_or qs number []) questions_are
      (found_asks r t _ (λ q. (number < length (questions_on m rule o.frames ls ps)) × (asked m rule o.frames ls ps q ≡ get_or (questions_on m rule o.frames ls ps) number []))
      (f m law rule ls ps stands) e).1
