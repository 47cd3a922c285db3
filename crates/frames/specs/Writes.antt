-- What becomes of frames as literals, ends of clauses and ends of frames are written.
use Rattle.std.specs.Prelude.{◌≡◌, ℕ, ◌+◌, ◌-◌, ◌<◌, cond, List, [], ◌∷◌, ◌++◌, Result, Ok, Err}
use Rattle.std.specs.Result.{is_ok, IsOk}
use Rattle.refusal.specs.declared.faults.Full.{Full}
use Rattle.stack.specs.declared.spans.Span.{Span}
use Rattle.stack.specs.Pushes.{placed}
use Rattle.frames.specs.declared.frames.Frames.{Frames}
use Rattle.frames.specs.Held.{marked, ended_frames, clauses_of, frame, open_frame, open_clause, Stacked}

-- no frame, no clause and no literal
pub record Empty (f : Frames) : Type 0 where
  pub count : ended_frames f ≡ 0
  pub ended : f.ended ≡ 0
  pub literals : f.literals.used ≡ 0
  pub spans : f.spans.used ≡ 0
  pub stacked : (ls : List ℕ) (ps : List Span) → Stacked f ls ps
  pub clauses : (ls : List ℕ) (ps : List Span) → clauses_of f ls ps ≡ []
  pub clause : (ls : List ℕ) → open_clause f ls ≡ []

-- What is written

-- g is f with one literal more
pub record WithLiteral (f g : Frames) : Type 0 where
  pub marks : marked g ≡ marked f
  pub count : ended_frames g ≡ ended_frames f
  pub ended : g.ended ≡ f.ended
  pub literals : g.literals.used ≡ f.literals.used + 1
  pub spans : g.spans.used ≡ f.spans.used

-- g is f with its clause ended
pub record WithClause (f g : Frames) : Type 0 where
  pub marks : marked g ≡ marked f
  pub count : ended_frames g ≡ ended_frames f
  pub ended : g.ended ≡ f.literals.used
  pub literals : g.literals.used ≡ f.literals.used
  pub spans : g.spans.used ≡ f.spans.used + 1

-- g is f with its frame ended
pub record WithFrame (f g : Frames) : Type 0 where
  pub marks : marked g ≡ marked f ++ record { clauses = f.spans.used; literals = f.ended } ∷ []
  pub count : ended_frames g ≡ ended_frames f + 1
  pub ended : g.ended ≡ f.ended
  pub literals : g.literals.used ≡ f.literals.used
  pub spans : g.spans.used ≡ f.spans.used

-- the span of the open clause
abbrev pub open_span : Frames → Span
open_span f = record { start = f.ended; length = f.literals.used - f.ended }

-- a literal is written, or nothing
abbrev pub LiteralPushed : Frames → Frames → ℕ → List ℕ → List ℕ → Result (Unit {0}) Full → Type 0
LiteralPushed f g l ls ms (Ok _) = WithLiteral f g × (ms ≡ placed f.literals.used (l ∷ []) ls)
LiteralPushed f g l ls ms (Err _) = (g ≡ f) × (ms ≡ ls)

-- a clause is ended, or nothing is done
abbrev pub ClauseEnded : Frames → Frames → List Span → List Span → Result (Unit {0}) Full → Type 0
ClauseEnded f g ps qs (Ok _) = WithClause f g × (qs ≡ placed f.spans.used (open_span f ∷ []) ps)
ClauseEnded f g ps qs (Err _) = (g ≡ f) × (qs ≡ ps)

-- a frame is ended, or nothing is done
abbrev pub FrameEnded : Frames → Frames → Result (Unit {0}) Full → Type 0
FrameEnded f g (Ok _) = WithFrame f g
FrameEnded f g (Err _) = g ≡ f

-- What it means

-- g over its areas has the ended frames of f
pub record SameFrames (f : Frames) (ls : List ℕ) (ps : List Span) (g : Frames) (ms : List ℕ) (qs : List Span) : Type 0 where
  pub count : ended_frames g ≡ ended_frames f
  pub frames : (i : ℕ) → frame g ms qs i ≡ frame f ls ps i

-- one literal more in the open clause, if any
pub record OneLiteralMore (f g : Frames) (l : ℕ) (ls ms : List ℕ) (r : Result (Unit {0}) Full) (ps : List Span) : Type 0 where
  pub stacked : Stacked g ms ps
  pub same : SameFrames f ls ps g ms ps
  pub clauses : clauses_of g ms ps ≡ clauses_of f ls ps
  pub opened : open_frame g ms ps ≡ open_frame f ls ps
  pub clause : open_clause g ms ≡ open_clause f ls ++ cond (is_ok r) (l ∷ []) []

-- one clause more in the open frame, if any: the one that was open
pub record OneClauseMore (f g : Frames) (ps qs : List Span) (r : Result (Unit {0}) Full) (ls : List ℕ) : Type 0 where
  pub stacked : Stacked g ls qs
  pub same : SameFrames f ls ps g ls qs
  pub clauses : clauses_of g ls qs ≡ clauses_of f ls ps ++ cond (is_ok r) (open_clause f ls ∷ []) []
  pub opened : open_frame g ls qs ≡ open_frame f ls ps ++ cond (is_ok r) (open_clause f ls ∷ []) []
  pub clause : open_clause g ls ≡ cond (is_ok r) [] (open_clause f ls)

-- one frame more, if any: the one that was open
pub record OneFrameMore (f g : Frames) (r : Result (Unit {0}) Full) (ls : List ℕ) (ps : List Span) : Type 0 where
  pub stacked : Stacked g ls ps
  pub count : ended_frames g ≡ ended_frames f + cond (is_ok r) 1 0
  pub frames : (i : ℕ) → i < ended_frames f → frame g ls ps i ≡ frame f ls ps i
  pub last : IsOk r → frame g ls ps (ended_frames f) ≡ open_frame f ls ps
  pub clauses : clauses_of g ls ps ≡ clauses_of f ls ps
  pub opened : open_frame g ls ps ≡ cond (is_ok r) [] (open_frame f ls ps)
  pub clause : open_clause g ls ≡ open_clause f ls

-- a literal that is written, or not, for all areas of spans that are as the frames left them
abbrev pub AddsLiteral : Frames → Frames → ℕ → List ℕ → List ℕ → Result (Unit {0}) Full → Type 0
AddsLiteral f g l ls ms r = (ps : List Span) → Stacked f ls ps → OneLiteralMore f g l ls ms r ps

-- a clause that is ended, or not, for all areas of literals that are
abbrev pub AddsClause : Frames → Frames → List Span → List Span → Result (Unit {0}) Full → Type 0
AddsClause f g ps qs r = (ls : List ℕ) → Stacked f ls ps → OneClauseMore f g ps qs r ls

-- a frame that is ended, or not, for all areas that are
abbrev pub AddsFrame : Frames → Frames → Result (Unit {0}) Full → Type 0
AddsFrame f g r = (ls : List ℕ) (ps : List Span) → Stacked f ls ps → OneFrameMore f g r ls ps
