-- The sections of the closing question.
use Rattle.std.proofs.Common.{◌≡◌, ℕ, ◌+◌, ◌<◌, List, [], map, length, take, Result, refl, ap, ◌∙◌, arith}
use Rattle.std.specs.List.{range_with_len}
use Rattle.std.proofs.lemmas.List.FromFn.{length-map-range_with_len, get_or-map-range_with_len}
use Rattle.refusal.specs.declared.faults.Full.{Full as NoPlace}
use Rattle.refusal.specs.declared.faults.RefutationFault.{RefutationFault}
use Rattle.stack.specs.declared.spans.Span.{Span}
use Rattle.stack.specs.Pushes.{PushedAs}
use Rattle.resolution.specs.Lists.{CopiedAs}
use Rattle.resolution.proofs.Copies.{as_copy}
use Rattle.frames.specs.declared.frames.Frames.{Frames}
use Rattle.frames.specs.Held.{before_frame, frame}
use Rattle.question_theory.proofs.OneByOne.{parts_count}
use Rattle.questions.specs.Closing.{last_frame, selecting, denying, closing_clauses}
use Rattle.questions.proofs.Sections.{copied_push, copied_first, copied_second, copied_third}

module _ (a : ℕ) (f : Frames) (ls : List ℕ) (ps : List Span) where
  choosing : List (List ℕ)
  choosing = map (selecting a f) (range_with_len 0 (last_frame f))

  denied : List (List ℕ)
  denied = map (denying a (take f.ended ls) (take f.spans.used ps)) (range_with_len 0 (before_frame f (last_frame f)).literals)

  choosing_count : length choosing ≡ last_frame f
  unfolding choosing
  choosing_count = length-map-range_with_len (selecting a f) 0 (last_frame f)

  denied_count : length denied ≡ (before_frame f (last_frame f)).literals
  unfolding denied
  denied_count = length-map-range_with_len (denying a (take f.ended ls) (take f.spans.used ps)) 0 (before_frame f (last_frame f)).literals

  pub closing_count : length (closing_clauses a f ls ps) ≡ length (frame f ls ps (last_frame f)) + last_frame f + (before_frame f (last_frame f)).literals
  unfolding closing_clauses choosing denied
  closing_count =
      parts_count (frame f ls ps (last_frame f)) choosing denied (length (frame f ls ps (last_frame f))) (last_frame f) refl choosing_count
      ∙ ap (λ (k : ℕ). length (frame f ls ps (last_frame f)) + last_frame f + k) denied_count

  module _ (n used end : ℕ) (ms : List ℕ) (t : Result (Unit {0}) RefutationFault) where
    pub copied_frame : n < length (frame f ls ps (last_frame f)) → CopiedAs (frame f ls ps (last_frame f)) n used end ls ms t → CopiedAs (closing_clauses a f ls ps) n used end ls ms t
    unfolding closing_clauses choosing denied
    copied_frame h =
        copied_first (frame f ls ps (last_frame f)) choosing denied (length (frame f ls ps (last_frame f))) (last_frame f) n used end ls ms t refl choosing_count h

    pub copied_choice : (r : Result (Unit {0}) NoPlace) (j : ℕ) → n ≡ length (frame f ls ps (last_frame f)) + j → j < last_frame f → PushedAs (selecting a f j) used end ls ms r → as_copy r ≡ t → CopiedAs (closing_clauses a f ls ps) n used end ls ms t
    unfolding closing_clauses choosing denied
    copied_choice r j e h p is =
        copied_second (frame f ls ps (last_frame f)) choosing denied (length (frame f ls ps (last_frame f))) (last_frame f) n used end ls ms t refl choosing_count j e h
        (copied_push choosing j used end ls ms r t (selecting a f j) (omega (arith, choosing_count)) (get_or-map-range_with_len (selecting a f) 0 (last_frame f) j j [] h (omega arith)) p is)

    pub copied_denial : (r : Result (Unit {0}) NoPlace) (q : ℕ) → n ≡ length (frame f ls ps (last_frame f)) + last_frame f + q → q < (before_frame f (last_frame f)).literals → PushedAs (denying a (take f.ended ls) (take f.spans.used ps) q) used end ls ms r → as_copy r ≡ t →
        CopiedAs (closing_clauses a f ls ps) n used end ls ms t
    unfolding closing_clauses choosing denied
    copied_denial r q e h p is =
        copied_third (frame f ls ps (last_frame f)) choosing denied (length (frame f ls ps (last_frame f))) (last_frame f) n used end ls ms t refl choosing_count q e
        (copied_push denied q used end ls ms r t (denying a (take f.ended ls) (take f.spans.used ps) q) (omega (arith, denied_count))
        (get_or-map-range_with_len (denying a (take f.ended ls) (take f.spans.used ps)) 0 (before_frame f (last_frame f)).literals q q [] h (omega arith)) p is)
