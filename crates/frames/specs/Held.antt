-- Frames of clauses that stand on two stacks.
use Rattle.std.specs.Prelude.{◌≡◌, ℕ, zero, suc, ◌+◌, ◌-◌, ◌<◌, ◌≤◌, List, length, take, drop, slice_index_or}
use Rattle.std.specs.List.{flat_map}
use Rattle.stack.specs.declared.spans.Span.{Span}
use Rattle.stack.specs.Runs.{runs}
use Rattle.frames.specs.declared.frames.Mark.{Mark}
use Rattle.frames.specs.declared.frames.Frames.{Frames}

-- no clause and no literal
abbrev pub none : Mark
none = record { clauses = 0; literals = 0 }

-- where each ended frame ends
abbrev pub marked : Frames → List Mark
marked f = take f.count f.marks

-- how many frames are ended
abbrev pub ended_frames : Frames → ℕ
ended_frames f = length (marked f)

-- the clauses that are ended, of all frames
abbrev pub clauses_of : Frames → List ℕ → List Span → List (List ℕ)
clauses_of f ls ps = runs (take f.ended ls) (take f.spans.used ps)

-- what stands before frame i
abbrev pub before_frame : Frames → ℕ → Mark
before_frame f zero = none
before_frame f (suc i) = slice_index_or (marked f) i none

-- the clauses of frame i
unfoldable pub frame : Frames → List ℕ → List Span → ℕ → List (List ℕ)
frame f ls ps i = take ((before_frame f (suc i)).clauses - (before_frame f i).clauses) (drop (before_frame f i).clauses (clauses_of f ls ps))

-- the clauses of the open frame
abbrev pub open_frame : Frames → List ℕ → List Span → List (List ℕ)
open_frame f ls ps = drop (before_frame f (ended_frames f)).clauses (clauses_of f ls ps)

-- the literals of the open clause
abbrev pub open_clause : Frames → List ℕ → List ℕ
open_clause f ls = drop f.ended (take f.literals.used ls)

-- the literals of clauses, one after another
abbrev pub flat : List (List ℕ) → List ℕ
flat cs = flat_map (λ (c : List ℕ). c) cs

-- span k of the area
abbrev pub span_at : List Span → ℕ → Span
span_at ps k = slice_index_or ps k (record { start = 0; length = 0 })

-- the areas are as the frames left them: clause after clause and frame after frame, with no gap between
pub record Stacked (f : Frames) (ls : List ℕ) (ps : List Span) : Type 0 where
  pub literals_fit : f.literals.used ≤ length ls
  pub spans_fit : f.spans.used ≤ length ps
  pub marks_rise : (i : ℕ) → i < ended_frames f → (before_frame f i).clauses ≤ (before_frame f (suc i)).clauses
  pub marks_low : (before_frame f (ended_frames f)).clauses ≤ f.spans.used
  -- a span starts where the literals of the clauses before it end
  pub starts : (k : ℕ) → k < f.spans.used → (span_at ps k).start ≡ length (flat (take k (clauses_of f ls ps)))
  -- it ends within the literals of the ended clauses
  pub ends : (k : ℕ) → k < f.spans.used → (span_at ps k).start + (span_at ps k).length ≤ f.ended
  -- the literals of the clauses are the first on their stack
  pub gapless : flat (clauses_of f ls ps) ≡ take f.ended ls
  pub marks_count : (i : ℕ) → i ≤ ended_frames f → (before_frame f i).literals ≡ length (flat (take (before_frame f i).clauses (clauses_of f ls ps)))
