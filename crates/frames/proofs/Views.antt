-- What is seen of frames that stand on two stacks.
use Rattle.std.proofs.Common.{◌≡◌, ℕ, zero, suc, ◌+◌, ◌-◌, ◌<◌, ◌≤◌, List, [], length, get_or, take, drop, ap, ◌∙◌, ap₂, arith}
use Rattle.std.proofs.lemmas.List.{length-take, length-take-le, length-drop, length-map, get_or-take, get_or-drop}
use Rattle.stack.specs.declared.spans.Span.{Span}
use Rattle.stack.specs.Runs.{run, runs}
use Rattle.frames.specs.declared.frames.Frames.{Frames}
use Rattle.frames.specs.Held.{clauses_of, before_frame, frame}

-- before a frame stands no more than what is ended
pub mark_low : (f : Frames) (n : ℕ) → ((before_frame f n).clauses ≤ f.spans.used) × ((before_frame f n).literals ≤ f.ended)
mark_low f zero = (omega arith, omega arith)
mark_low f (suc i) = f.low i

-- areas with the same ended literals and the same spans hold the same frames
module _ (f : Frames) (ls ms : List ℕ) (ps qs : List Span) (e : take f.ended ms ≡ take f.ended ls) (d : take f.spans.used qs ≡ take f.spans.used ps) where
  pub clauses_kept : clauses_of f ms qs ≡ clauses_of f ls ps
  clauses_kept = ap₂ runs e d

  pub frame_kept : (i : ℕ) → frame f ms qs i ≡ frame f ls ps i
  unfolding frame
  frame_kept i = ap (λ (cs : List (List ℕ)). take ((before_frame f (suc i)).clauses - (before_frame f i).clauses) (drop (before_frame f i).clauses cs)) clauses_kept

module _ (f : Frames) (ls : List ℕ) (ps : List Span) (fit : f.spans.used ≤ length ps) where
  -- as many clauses as spans
  pub clauses_count : length (clauses_of f ls ps) ≡ f.spans.used
  clauses_count = length-map (take f.spans.used ps) (run (take f.ended ls)) ∙ length-take-le f.spans.used ps fit

  pub mark_within : (n : ℕ) → (before_frame f n).clauses ≤ length (clauses_of f ls ps)
  mark_within n = omega (arith, (mark_low f n).0, clauses_count)

  -- the size of frame i
  pub frame_count : (i : ℕ) → length (frame f ls ps i) ≡ (before_frame f (suc i)).clauses - (before_frame f i).clauses
  unfolding frame
  frame_count i =
      let a : ℕ = (before_frame f i).clauses in
      let b : ℕ = (before_frame f (suc i)).clauses in
      omega (arith, length-take (b - a) (drop a (clauses_of f ls ps)), length-drop a (clauses_of f ls ps), mark_within (suc i))

  -- clause c of frame i
  pub frame_at : (i c : ℕ) → c < (before_frame f (suc i)).clauses - (before_frame f i).clauses → get_or (frame f ls ps i) c [] ≡ get_or (clauses_of f ls ps) ((before_frame f i).clauses + c) []
  unfolding frame
  frame_at i c h =
      let a : ℕ = (before_frame f i).clauses in
      get_or-take ((before_frame f (suc i)).clauses - a) (drop a (clauses_of f ls ps)) c [] h ∙ get_or-drop a (clauses_of f ls ps) c []
