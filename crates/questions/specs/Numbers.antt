-- Questions of a trace by their numbers from 0: steps frame by frame, then each frame's safety, then the closing.
use Rattle.std.specs.Prelude.{◌≡◌, ℕ, suc, ◌+◌, ◌-◌, ◌<◌, ◌≤◌, Some, None, Option}
use Rattle.frames.specs.declared.frames.Frames.{Frames}
use Rattle.frames.specs.Held.{before_frame}
use Rattle.questions.specs.declared.question.TraceQuestion.{TraceQuestion}
use Rattle.questions.specs.declared.question.TraceQuestion.TheVariants.{Step, Safe, Closing}
use Rattle.questions.specs.Closing.{last_frame}

-- how many clauses the frames after the first have: each has a step question
abbrev pub steps_of : Frames → ℕ
steps_of f = (before_frame f (suc (last_frame f))).clauses - (before_frame f 1).clauses

-- how many questions a trace has
abbrev pub questions_of : Frames → ℕ
questions_of f = steps_of f + (last_frame f + 1) + 1

-- clause k of all frames is one of the frame after i: the first that ends beyond it
pub record AfterFrame (f : Frames) (k i : ℕ) : Type 0 where
  pub within : i < last_frame f
  pub ends : k < (before_frame f (suc (suc i))).clauses
  pub first : (j : ℕ) → j < i → (before_frame f (suc (suc j))).clauses ≤ k

-- question q, if there is one
abbrev pub QuestionAt : Frames → ℕ → Option TraceQuestion → Type 0
QuestionAt f q (Some (Step i c)) = (q < steps_of f) × AfterFrame f ((before_frame f 1).clauses + q) i × (c ≡ (before_frame f 1).clauses + q - (before_frame f (suc i)).clauses)
QuestionAt f q (Some (Safe i)) = (i ≤ last_frame f) × (q ≡ steps_of f + i)
QuestionAt f q (Some Closing) = q ≡ steps_of f + (last_frame f + 1)
QuestionAt f q None = questions_of f ≤ q
