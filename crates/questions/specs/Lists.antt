-- The questions of a trace as lists of clauses, for all areas.
use Rattle.std.specs.Prelude.{ℕ, suc, ◌+◌, min, List, [], ◌∷◌, ◌++◌, map, slice_index_or}
use Rattle.resolution.specs.Clauses.{denial}
use Rattle.machine.specs.Meaning.{Meaning}
use Rattle.stack.specs.declared.spans.Span.{Span}
use Rattle.frames.specs.declared.frames.Frames.{Frames}
use Rattle.frames.specs.Held.{clauses_of, before_frame, frame}
use Rattle.question_theory.specs.Unrolling.{moved, unroll}
use Rattle.question_theory.specs.Traces.{safe_question}
use Rattle.questions.specs.declared.question.TraceQuestion.{TraceQuestion}
use Rattle.questions.specs.declared.question.TraceQuestion.TheVariants.{Step, Safe, Closing}
use Rattle.questions.specs.Closing.{closing_clauses}

-- a literal is denied in the next row; no literal is moved beyond the highest
abbrev pub denied_next : Meaning → ℕ → List ℕ
denied_next m l = denial (min (moved m 1 l) 4294967295) ∷ []

-- the step question from a frame about a clause of the next one
unfoldable pub step_clauses : Meaning → List (List ℕ) → List ℕ → List (List ℕ)
step_clauses m frame c = unroll m 1 ++ frame ++ map (denied_next m) c

-- clause c of the frame after i
abbrev pub next_clause : Frames → List ℕ → List Span → ℕ → ℕ → List ℕ
next_clause f ls ps i c = slice_index_or (clauses_of f ls ps) ((before_frame f (suc i)).clauses + c) []

-- the clauses of a question, where the areas hold these literals and spans
abbrev pub asked : Meaning → ℕ → Frames → List ℕ → List Span → TraceQuestion → List (List ℕ)
asked m o f ls ps (Step i c) = step_clauses m (frame f ls ps i) (next_clause f ls ps i c)
asked m o f ls ps (Safe i) = safe_question m o (frame f ls ps i)
asked m o f ls ps Closing = closing_clauses m.variables f ls ps
