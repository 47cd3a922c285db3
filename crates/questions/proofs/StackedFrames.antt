-- Frames that stand on the stacks with no gap, by their marks.
use Rattle.std.proofs.Common.{◌≡◌, ℕ, zero, suc, ◌+◌, ◌-◌, ◌<◌, ◌≤◌, List, [], ◌∷◌, length, get_or, take, refl, ap, ◌∙◌, ⊎_elim, arith}
use Rattle.std.proofs.lemmas.List.{length-append, length-take, take_more}
use Rattle.std.proofs.lemmas.Bool.{cases_lt}
use Rattle.stack.specs.declared.spans.Span.{Span}
use Rattle.frames.specs.declared.frames.Frames.{Frames}
use Rattle.frames.specs.Held.{ended_frames, clauses_of, before_frame, frame, Stacked}
use Rattle.frames.proofs.Growth.{flat_more}
use Rattle.frames.proofs.Views.{mark_within, frame_count}
use Rattle.question_theory.specs.Traces.{before}
use Rattle.question_theory.specs.Shapes.{flat, step_count}
use Rattle.question_theory.proofs.FramesBefore.{frames_marked}
use Rattle.questions.specs.Closing.{last_frame}

-- the first clauses of a list have no more literals than more of them
pub flat_upto : (cs : List (List ℕ)) (i j : ℕ) → i ≤ j → length (flat (take i cs)) ≤ length (flat (take j cs))
flat_upto cs zero j h = omega arith
flat_upto [] (suc i) zero h = omega arith
flat_upto [] (suc i) (suc j) h = omega arith
flat_upto (c ∷ cs) (suc i) zero h = let no : ⊥ = omega arith in absurd no
flat_upto (c ∷ cs) (suc i) (suc j) h =
    let a = length-append c (flat (take i cs)) in
    let b = length-append c (flat (take j cs)) in
    let ih = flat_upto cs i j (omega arith) in
    omega arith

-- one clause more
pub flat_next : (cs : List (List ℕ)) (i : ℕ) → i < length cs → length (flat (take (i + 1) cs)) ≡ length (flat (take i cs)) + length (get_or cs i [])
flat_next cs i h =
    ap (λ ds. length (flat ds)) (take_more cs i [] h) ∙ ap length (flat_more (take i cs) (get_or cs i [])) ∙ length-append (flat (take i cs)) (get_or cs i [])

module _ (f : Frames) (ls : List ℕ) (ps : List Span) (s : Stacked f ls ps) where
  pub marks_up : (i j : ℕ) → i ≤ j → j ≤ ended_frames f → (before_frame f i).clauses ≤ (before_frame f j).clauses
  marks_up zero zero h l = omega arith
  marks_up (suc i) zero h l = let no : ⊥ = omega arith in absurd no
  marks_up i (suc j) h l =
      ⊎_elim
      (λ (a : i < suc j). let ih = marks_up i j (omega arith) (omega arith) in let r = s.marks_rise j (omega arith) in omega arith)
      (λ (b : suc j ≤ i). let e : i ≡ suc j = omega arith in let k = ap (λ n. (before_frame f n).clauses) e in omega arith)
      (cases_lt i (suc j))

  -- the clauses of the frames before n
  pub before_is : (n : ℕ) → n ≤ ended_frames f → before (frame f ls ps) n ≡ take (before_frame f n).clauses (clauses_of f ls ps)
  unfolding frame
  before_is n h =
      frames_marked (clauses_of f ls ps) (λ i. (before_frame f i).clauses) n refl (λ i l. s.marks_rise i (omega arith)) (mark_within f ls ps s.spans_fit n)

  pub before_count : (n : ℕ) → n ≤ ended_frames f → length (before (frame f ls ps) n) ≡ (before_frame f n).clauses
  before_count n h = ap length (before_is n h) ∙ length-take (before_frame f n).clauses (clauses_of f ls ps) ∙ omega (arith, mark_within f ls ps s.spans_fit n)

  -- the step questions of the frames before i
  pub steps_are : (i : ℕ) → i ≤ last_frame f → step_count (frame f ls ps) i ≡ (before_frame f (suc i)).clauses - (before_frame f 1).clauses
  steps_are zero h = omega arith
  steps_are (suc i) h =
      let ih = steps_are i (omega arith) in
      let a = frame_count f ls ps s.spans_fit (suc i) in
      let b = marks_up 1 (suc i) (omega arith) (omega arith) in
      let d = marks_up (suc i) (suc (suc i)) (omega arith) (omega arith) in
      omega arith
