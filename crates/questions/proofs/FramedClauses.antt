-- The clauses of frames by their numbers, for all areas.
use Rattle.std.proofs.Common.{◌≡◌, ℕ, suc, ◌+◌, ◌-◌, ◌<◌, ◌≤◌, min, Some, None, Option, List, [], length, get_or, drop, Result, Ok, subst, sym, ap, ap₂, ◌∙◌, arith}
use Rattle.std.specs.Option.{MatchOption, UnwrapsOrElse, ok_or}
use Rattle.std.proofs.lemmas.List.{length-map, length-take, length-drop, get_or-take, get_or-drop, get_or_past}
use Rattle.stack.specs.declared.spans.Span.{Span}
use Rattle.stack.specs.declared.spans.Bounds.{Bounds}
use Rattle.stack.specs.Runs.{part}
use Rattle.frames.specs.declared.frames.Frames.{Frames}
use Rattle.frames.specs.Held.{clauses_of, before_frame, frame}
use Rattle.questions.specs.Lists.{next_clause}

module _ (f : Frames) (ls : List ℕ) (ps : List Span) where
  pub clauses_count : length (clauses_of f ls ps) ≡ min f.spans.used (length ps)
  clauses_count = simp (length-map, length-take)

  module _ (i : ℕ) where
    pub frame_count : length (frame f ls ps i) ≡ min (before_frame f (suc i)).clauses (min f.spans.used (length ps)) - (before_frame f i).clauses
    unfolding frame
    frame_count =
        let n = clauses_count in
        simp (length-take, length-drop) (omega arith)

    pub frame_at : (j : ℕ) → j < (before_frame f (suc i)).clauses - (before_frame f i).clauses → get_or (frame f ls ps i) j [] ≡ get_or (clauses_of f ls ps) ((before_frame f i).clauses + j) []
    unfolding frame
    frame_at j h =
        get_or-take ((before_frame f (suc i)).clauses - (before_frame f i).clauses) (drop (before_frame f i).clauses (clauses_of f ls ps)) j [] h
        ∙ get_or-drop (before_frame f i).clauses (clauses_of f ls ps) j []

  -- the clause of the frame after i that was found, or none
  pub next_is : (i c place : ℕ) (o : Option Bounds) (r : Bounds) → place ≡ min ((before_frame f (suc i)).clauses + c) 18446744073709551615 →
      MatchOption o (length (clauses_of f ls ps) ≤ place) (λ b. (place < length (clauses_of f ls ps)) × (b.start ≤ b.end) × (b.end ≤ min f.ended (length ls)) × (part ls b.start b.end ≡ get_or (clauses_of f ls ps) place [])) →
      UnwrapsOrElse o (λ d. (d.start ≡ 0) × (d.end ≡ 0)) r → part ls r.start r.end ≡ next_clause f ls ps i c
  unfolding part
  next_is i c place (Some b) r e h is =
      let low = f.limits in
      let n = clauses_count in
      let at : place ≡ (before_frame f (suc i)).clauses + c = omega (arith, h.0) in
      ap (λ x. part ls x.start x.end) is ∙ h.3 ∙ ap (λ k. get_or (clauses_of f ls ps) k []) at
  next_is i c place None r e h is =
      let low = f.limits in
      let n = clauses_count in
      ap₂ (part ls) is.0 is.1 ∙ sym (get_or_past (clauses_of f ls ps) ((before_frame f (suc i)).clauses + c) [] (omega arith))

-- the value that was there
pub some_from_ok : {A E : Type 0} (P : Type 0) (Q : A → Type 0) (o : Option A) (e : E) (r : Result A E) (x : A) → MatchOption o P Q → r ≡ ok_or o e → r ≡ Ok x → Q x
some_from_ok P Q (Some y) e r x h is at = subst Q (let same : ◌≡◌ {A = Result _ _} (Ok y) (Ok x) = sym is ∙ at in cc) h
some_from_ok P Q None e r x h is at = let no : ◌≡◌ {A = ℕ} 0 1 = cc in absurd (omega arith)
