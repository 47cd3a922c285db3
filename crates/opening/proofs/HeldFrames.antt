-- The frames that are held: their number, their clauses and literals, and what is written to them.
use Rattle.std.proofs.Common.{◌≡◌, ℕ, zero, suc, ◌+◌, ◌<◌, List, [], ◌∷◌, ◌++◌, map, length, Ok, get_or, take, drop, sym, refl, ap, ◌∙◌, ap₂, arith}
use lib.Seq.{drop-nil}
use Rattle.std.specs.List.{range_with_len}
use Rattle.std.proofs.lemmas.List.FromFn.{length-map-range_with_len, get_or-map-range_with_len, map-range_with_len_more, fill_by_all}
use Rattle.std.proofs.lemmas.List.{length-map, length-drop, length-take-le, take-append-drop, take_all}
use Rattle.stack.specs.declared.spans.Span.{Span}
use Rattle.stack.specs.Runs.{run}
use Rattle.frames.specs.declared.frames.Frames.{Frames}
use Rattle.frames.specs.Held.{flat, ended_frames, clauses_of, before_frame, frame, open_frame, open_clause, Stacked}
use Rattle.frames.specs.Writes.{Empty, SameFrames, OneFrameMore}
use Rattle.question_theory.specs.Traces.{before}
use Rattle.question_theory.proofs.FramesBefore.{frames_listed, frames_marked}
use Rattle.opening.specs.Steps.{clauses_in, clause_count, literal_count}
use Rattle.opening.specs.Views.{held}

before_same : (F G : ℕ → List (List ℕ)) (n : ℕ) → ((i : ℕ) → i < n → F i ≡ G i) → before F n ≡ before G n
before_same F G zero h = refl
before_same F G (suc n) h = ap₂ (λ (x y : List (List ℕ)). x ++ y) (before_same F G n (λ i l. h i (omega arith))) (h n (omega arith))

module _ (f : Frames) (ls : List ℕ) (ps : List Span) where
  pub held_count : length (held f ls ps) ≡ ended_frames f
  unfolding held
  held_count = length-map-range_with_len (frame f ls ps) 0 (ended_frames f)

  pub held_at : (i : ℕ) → i < ended_frames f → get_or (held f ls ps) i [] ≡ frame f ls ps i
  unfolding held
  held_at i h = get_or-map-range_with_len (frame f ls ps) 0 (ended_frames f) i i [] h (omega arith)

  held_is : (n : ℕ) (F : ℕ → List (List ℕ)) → ended_frames f ≡ n → ((i : ℕ) → i < n → frame f ls ps i ≡ F i) → held f ls ps ≡ map F (range_with_len 0 n)
  held_is n F c h = fill_by_all F (held f ls ps) n [] (held_count ∙ c) (λ i l. held_at i (omega arith) ∙ h i l)

  -- nothing yet
  pub empty_held : Empty f → held f ls ps ≡ []
  unfolding held
  empty_held e = ap (λ (n : ℕ). map (frame f ls ps) (range_with_len 0 n)) e.count

  pub empty_frame : Empty f → open_frame f ls ps ≡ []
  empty_frame e = ap (drop (before_frame f (ended_frames f)).clauses) (e.clauses ls ps) ∙ drop-nil (before_frame f (ended_frames f)).clauses

module _ (f : Frames) (ls : List ℕ) (ps : List Span) (s : Stacked f ls ps) where
  clauses_long : length (clauses_of f ls ps) ≡ f.spans.used
  clauses_long = length-map (take f.spans.used ps) (run (take f.ended ls)) ∙ length-take-le f.spans.used ps s.spans_fit

  -- the clauses of the frames and of the open one are all that are ended
  first_clauses : before (frame f ls ps) (ended_frames f) ≡ take (before_frame f (ended_frames f)).clauses (clauses_of f ls ps)
  unfolding frame
  first_clauses = frames_marked (clauses_of f ls ps) (λ i. (before_frame f i).clauses) (ended_frames f) refl s.marks_rise (let l = s.marks_low in omega (arith, clauses_long))

  held_clauses : clauses_in (held f ls ps) ≡ take (before_frame f (ended_frames f)).clauses (clauses_of f ls ps)
  held_clauses =
      let c = held_count f ls ps in
      ap clauses_in (sym (take_all (ended_frames f) (held f ls ps) (omega arith)))
      ∙ sym (frames_listed (held f ls ps) (ended_frames f) (omega arith))
      ∙ before_same (λ i. get_or (held f ls ps) i []) (frame f ls ps) (ended_frames f) (held_at f ls ps)
      ∙ first_clauses

  all_clauses : clauses_in (held f ls ps) ++ open_frame f ls ps ≡ clauses_of f ls ps
  all_clauses = ap (λ (x : List (List ℕ)). x ++ open_frame f ls ps) held_clauses ∙ take-append-drop (before_frame f (ended_frames f)).clauses (clauses_of f ls ps)

  pub clauses_used : clause_count (held f ls ps) (open_frame f ls ps) ≡ f.spans.used
  clauses_used = ap length all_clauses ∙ clauses_long

  flat_long : length (flat (clauses_of f ls ps)) ≡ f.ended
  flat_long = let b = f.limits.0 in let l = s.literals_fit in ap length s.gapless ∙ length-take-le f.ended ls (omega arith)

  open_long : f.ended + length (open_clause f ls) ≡ f.literals.used
  open_long =
      let b = f.limits.0 in
      omega (arith, length-drop f.ended (take f.literals.used ls), length-take-le f.literals.used ls s.literals_fit)

  pub literals_used : literal_count (held f ls ps) (open_frame f ls ps) (open_clause f ls) ≡ f.literals.used
  literals_used =
      ap (λ (x : List (List ℕ)). length (flat x) + length (open_clause f ls)) all_clauses
      ∙ ap (λ (n : ℕ). n + length (open_clause f ls)) flat_long ∙ open_long

-- what is written
pub same_held : (f : Frames) (ls : List ℕ) (ps : List Span) (g : Frames) (ms : List ℕ) (qs : List Span) → SameFrames f ls ps g ms qs → held g ms qs ≡ held f ls ps
unfolding held
same_held f ls ps g ms qs e = held_is g ms qs (ended_frames f) (frame f ls ps) e.count (λ i l. e.frames i)

pub more_held : (f g : Frames) (ls : List ℕ) (ps : List Span) → OneFrameMore f g (Ok tt) ls ps → held g ls ps ≡ held f ls ps ++ open_frame f ls ps ∷ []
unfolding held
more_held f g ls ps e =
    let firsts : map (frame g ls ps) (range_with_len 0 (ended_frames f)) ≡ held f ls ps =
    fill_by_all (frame f ls ps) (map (frame g ls ps) (range_with_len 0 (ended_frames f))) (ended_frames f) [] (length-map-range_with_len (frame g ls ps) 0 (ended_frames f))
    (λ i l. get_or-map-range_with_len (frame g ls ps) 0 (ended_frames f) i i [] l (omega arith) ∙ e.frames i l) in
    ap (λ (n : ℕ). map (frame g ls ps) (range_with_len 0 n)) e.count
    ∙ map-range_with_len_more (frame g ls ps) 0 (ended_frames f) (ended_frames f) (omega arith)
    ∙ ap₂ (λ (x : List (List (List ℕ))) (y : List (List ℕ)). x ++ y ∷ []) firsts (e.last refl)
