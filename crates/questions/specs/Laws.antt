-- What the questions of a trace whose frames stand on the stacks are, and what they tell.
use Rattle.std.specs.Prelude.{◌≡◌, ℕ, ◌<◌, ◌≤◌, List, [], length, Option, MatchOption, slice_index_or}
use Rattle.std.specs.List.{AllByRecursion}
use Rattle.resolution.specs.Clauses.{Unsat, Rising}
use Rattle.machine.specs.Meaning.{Meaning, Lawful}
use Rattle.machine.specs.Runs.{Kept}
use Rattle.stack.specs.declared.spans.Span.{Span}
use Rattle.frames.specs.declared.frames.Frames.{Frames}
use Rattle.frames.specs.Held.{ended_frames, frame, Stacked}
use Rattle.question_theory.specs.Traces.{StateClauses, In, questions_of_trace, SafeTrace}
use Rattle.question_theory.specs.Shapes.{TraceFineness}
use Rattle.questions.specs.declared.question.TraceQuestion.{TraceQuestion}
use Rattle.questions.specs.Closing.{last_frame}
use Rattle.questions.specs.Lists.{asked}

-- the trace's frames stand on the stacks, and their literals are of state bits
pub record Framed (m : Meaning) (f : Frames) (ls : List ℕ) (ps : List Span) : Type 0 where
  pub stacked : Stacked f ls ps
  pub states : (i : ℕ) → i ≤ last_frame f → StateClauses m (frame f ls ps i)

-- the questions of the trace that stands on the stacks
abbrev pub questions_on : Meaning → ℕ → Frames → List ℕ → List Span → List (List (List ℕ))
questions_on m o f ls ps = questions_of_trace m o (frame f ls ps) (last_frame f)

-- the count of the questions is that of the trace
abbrev pub Counted : Frames → ℕ → Type 0
Counted f n = (m : Meaning) (o : ℕ) (ls : List ℕ) (ps : List Span) → Stacked f ls ps → n ≡ length (questions_on m o f ls ps)

-- the clauses of question q are those of question q of the trace; there is none exactly where the trace has none
abbrev pub Found : Frames → ℕ → Option TraceQuestion → Type 0
Found f q r = (m : Meaning) → Lawful m → (o : ℕ) (ls : List ℕ) (ps : List Span) → Framed m f ls ps →
    MatchOption r (length (questions_on m o f ls ps) ≤ q)
    (λ t. (q < length (questions_on m o f ls ps)) × (asked m o f ls ps t ≡ slice_index_or (questions_on m o f ls ps) q []))

-- what the questions of a trace tell of its rule
pub record Telling (m : Meaning) (o : ℕ) (F : ℕ → List (List ℕ)) (n : ℕ) : Type 0 where
  -- where the start is in the first frame, and no question has an answer, the trace is safe, and the rule is kept
  pub sound : In m (F 0) m.start → AllByRecursion Unsat (questions_of_trace m o F n) → SafeTrace m o F n × Kept m o
  -- no question of a safe trace has an answer
  pub complete : SafeTrace m o F n → AllByRecursion Unsat (questions_of_trace m o F n)
  -- where the clauses of the frames rise, those of each question do, and their literals are low
  pub fine : ((i : ℕ) → i ≤ n → AllByRecursion Rising (F i)) → TraceFineness m o F n
  -- so all clauses of all questions rise
  pub rising : ((i : ℕ) → i ≤ n → AllByRecursion Rising (F i)) → AllByRecursion (AllByRecursion Rising) (questions_of_trace m o F n)

-- so it is for each trace of two frames or more that stands on the stacks
abbrev pub TellsOf : Meaning → ℕ → Frames → Type 0
TellsOf m o f = (ls : List ℕ) (ps : List Span) → Framed m f ls ps → 1 < ended_frames f → o < m.rules → Telling m o (frame f ls ps) (last_frame f)
