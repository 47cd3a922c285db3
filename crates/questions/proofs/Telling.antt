-- What the questions of a trace that stands on the stacks tell.
use Rattle.std.proofs.Common.{ℕ, zero, suc, ◌<◌, List, [], ◌++◌, map, length, get_or, refl, arith}
use Rattle.std.specs.List.{AllByRecursion}
use Rattle.std.proofs.ByRecursion.{All-push, All-append, All-map, All-weaker, All-from_get_or}
use Rattle.resolution.specs.Clauses.{Rising}
use Rattle.machine.specs.Meaning.{Meaning, Lawful}
use Rattle.frames.specs.declared.frames.Frames.{Frames}
use Rattle.frames.specs.Held.{frame}
use Rattle.question_theory.specs.Traces.{step_question, safe_question, closing_question, step_questions, safe_questions, questions_of_trace}
use Rattle.question_theory.specs.Shapes.{Fine, TraceFineness}
use Rattle.question_theory.proofs.OneByOne.{each_from}
use Rattle.question_theory.proofs.Fineness.{trace_fine}
use Rattle.question_theory.proofs.TraceLaw.{trace_law, trace_complete}
use Rattle.questions.specs.Closing.{last_frame}
use Rattle.questions.specs.Laws.{TellsOf}

-- clauses that are fine rise
fine_rise : (bound : ℕ) (cs : List (List ℕ)) → Fine bound cs → AllByRecursion Rising cs
fine_rise bound cs h = All-weaker (λ c. Rising c × AllByRecursion (λ l. l < bound) c) Rising (λ c p. p.0) cs h

module _ (m : Meaning) (o : ℕ) (F : ℕ → List (List ℕ)) where
  steps_rise : (n : ℕ) → ((i c : ℕ) → i < n → c < length (F (suc i)) → AllByRecursion Rising (step_question m (F i) (get_or (F (suc i)) c []))) → AllByRecursion (AllByRecursion Rising) (step_questions m F n)
  steps_rise zero h = tt
  steps_rise (suc n) h =
      All-append (AllByRecursion Rising) (step_questions m F n) (map (step_question m (F n)) (F (suc n)))
      (steps_rise n (λ i c l k. h i c (omega arith) k))
      (All-map (AllByRecursion Rising) (step_question m (F n)) (F (suc n)) (All-from_get_or (λ c. AllByRecursion Rising (step_question m (F n) c)) (F (suc n)) [] (λ c k. h n c (omega arith) k)))

  questions_rise : (n : ℕ) → TraceFineness m o F n → AllByRecursion (AllByRecursion Rising) (questions_of_trace m o F n)
  unfolding questions_of_trace
  questions_rise n fine =
      All-push (AllByRecursion Rising) (step_questions m F n ++ safe_questions m o F (suc n)) (closing_question m F n)
      (All-append (AllByRecursion Rising) (step_questions m F n) (safe_questions m o F (suc n))
      (steps_rise n (λ i c l k. fine_rise _ _ (fine.step i c l k)))
      (each_from (λ i. safe_question m o (F i)) (safe_questions m o F) refl (λ _. refl) (AllByRecursion Rising) (suc n) (λ i l. fine_rise _ _ (fine.safe i (omega arith)))))
      (fine_rise _ _ fine.closing)

pub tells : (m : Meaning) → Lawful m → (o : ℕ) (f : Frames) → TellsOf m o f
tells m law o f ls ps fr some known =
    let F = frame f ls ps in
    let n = last_frame f in
    record {
      sound = λ start unsat. trace_law m law o known F n (omega arith) fr.states start unsat;
      complete = λ safe. trace_complete m law o known F n (omega arith) fr.states safe;
      fine = λ rises. trace_fine m law o known F n fr.states rises;
      rising = λ rises. questions_rise m o F n (trace_fine m law o known F n fr.states rises);
    }
