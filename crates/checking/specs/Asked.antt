-- What is asked of a certificate: the questions of its claim, and the room for their refutations.
use Rattle.std.specs.Prelude.{ℕ, List, [], length, slice_index_or}
use Rattle.stack.specs.declared.spans.Span.{Span}
use Rattle.machine.specs.Meaning.{Meaning}
use Rattle.question_theory.specs.Traces.{questions_of_trace}
use Rattle.question_theory.specs.Inductions.{questions_of_induction}
use Rattle.frames.specs.Held.{flat}
use Rattle.certificate.specs.declared.claim.Claim.{Claim}
use Rattle.certificate.specs.declared.claim.Claim.TheVariants.{Trace, Induction, Counterexample}
use Rattle.opening.specs.Steps.{clauses_in}
use Rattle.refuting.specs.Rooms.{Room}

-- how many bytes, literals and spans the work areas have
pub record Areas : Type 0 where
  pub row : ℕ
  pub literals : ℕ
  pub spans : ℕ

abbrev pub areas_of : List ℕ → List ℕ → List Span → Areas
areas_of row literals spans = record { row = length row; literals = length literals; spans = length spans }

-- frame i of a list
abbrev pub frame_of : List (List (List ℕ)) → ℕ → List (List ℕ)
frame_of frames i = slice_index_or frames i []

-- the questions of a claim about a rule, in their order; a counterexample has none
abbrev pub questions : Meaning → ℕ → Claim → ℕ → List (List (List ℕ)) → List (List (List ℕ))
questions m rule Trace size frames = questions_of_trace m rule (frame_of frames) size
questions m rule Induction size frames = questions_of_induction m rule size
questions m rule Counterexample size frames = []

-- the room for a refutation above the frames, in areas of so many literals and spans
abbrev pub room_above : ℕ → ℕ → List (List (List ℕ)) → Room
room_above literals spans frames =
    record { literals = literals; spans = spans; literals_below = length (flat (clauses_in frames)); spans_below = length (clauses_in frames) }
