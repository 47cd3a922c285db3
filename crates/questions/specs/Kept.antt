-- A question reads no literal and no span past those of the ended clauses.
use Rattle.std.specs.Prelude.{◌≡◌, ℕ, suc, ◌+◌, List, [], ◌++◌, map, take, slice_index_or}
use Rattle.std.proofs.Math.Path.{ap}
use Rattle.std.proofs.Common.{◌∙◌}
use Rattle.std.specs.List.{range_with_len}
use Rattle.machine.specs.Meaning.{Meaning}
use Rattle.stack.specs.declared.spans.Span.{Span}
use Rattle.frames.specs.declared.frames.Frames.{Frames}
use Rattle.frames.specs.Held.{before_frame, frame}
use Rattle.frames.proofs.Views.{clauses_kept, frame_kept}
use Rattle.question_theory.specs.Traces.{safe_question}
use Rattle.questions.specs.declared.question.TraceQuestion.{TraceQuestion}
use Rattle.questions.specs.declared.question.TraceQuestion.TheVariants.{Step, Safe, Closing}
use Rattle.questions.specs.Closing.{last_frame, selecting, denying, closing_clauses}
use Rattle.questions.specs.Lists.{step_clauses, next_clause, asked}

-- two areas of literals, and two of spans, that hold the same ended clauses
module _ (f : Frames) (ls ms : List ℕ) (ps qs : List Span) (h : take f.ended ms ≡ take f.ended ls) (k : take f.spans.used qs ≡ take f.spans.used ps) where
  -- the closing question is the same
  pub closing_kept : (a : ℕ) → closing_clauses a f ms qs ≡ closing_clauses a f ls ps
  unfolding closing_clauses
  closing_kept a =
      let C = map (selecting a f) (range_with_len 0 (last_frame f)) in
      let Q = range_with_len 0 (before_frame f (last_frame f)).literals in
      ap (λ cs. cs ++ C ++ map (denying a (take f.ended ms) (take f.spans.used qs)) Q) (frame_kept f ls ms ps qs h k (last_frame f))
      ∙ ap (λ xs. frame f ls ps (last_frame f) ++ C ++ map (denying a xs (take f.spans.used qs)) Q) h
      ∙ ap (λ ss. frame f ls ps (last_frame f) ++ C ++ map (denying a (take f.ended ls) ss) Q) k

  -- each question is the same
  pub asked_kept : (m : Meaning) (o : ℕ) (q : TraceQuestion) → asked m o f ms qs q ≡ asked m o f ls ps q
  asked_kept m o (Step i c) =
      ap (λ cs. step_clauses m cs (next_clause f ms qs i c)) (frame_kept f ls ms ps qs h k i)
      ∙ ap (λ cs. step_clauses m (frame f ls ps i) (slice_index_or cs ((before_frame f (suc i)).clauses + c) [])) (clauses_kept f ls ms ps qs h k)
  asked_kept m o (Safe i) = ap (safe_question m o) (frame_kept f ls ms ps qs h k i)
  asked_kept m o Closing = closing_kept m.variables
