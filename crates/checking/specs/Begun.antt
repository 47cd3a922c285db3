-- Where the refutations of a certificate begin.
use Rattle.std.specs.Prelude.{◌≡◌, ℕ, ◌<◌, ◌≤◌, true, List, [], length, slice_index_or}
use Rattle.frames.specs.declared.frames.Frames.{Frames}
use Rattle.opening.specs.Views.{Settled}
use Rattle.stack.specs.declared.spans.Span.{Span}
use Rattle.resolution.specs.Outcomes as refutation
use Rattle.machine.specs.Meaning.{Meaning}
use Rattle.certificate.specs.Claims.{most}
use Rattle.certificate.specs.declared.claim.Claim.{Claim}
use Rattle.opening.specs.declared.opening.Opening.{Opening}
use Rattle.opening.specs.Openings.{Framed}

-- an opening with this claim stands in the areas, these are not too long, and the records so far have at least a byte each
pub record Opened (m : Meaning) (claim : Claim) (o : Opening) (offset : ℕ) (ls : List ℕ) (ps : List Span) : Type 0 where
  pub claims : o.claim ≡ claim
  pub few : o.size ≤ most claim
  pub framed : Framed m o ls ps
  pub admits : refutation.admitted (length ls) (length ps) ≡ true
  pub counted : o.records ≤ offset

-- the same of an opening whose claim is not asked
pub record Begun (o : Opening) (offset : ℕ) (ls : List ℕ) (ps : List Span) : Type 0 where
  pub settled : Settled o.frames ls ps
  pub admits : refutation.admitted (length ls) (length ps) ≡ true
  pub counted : o.records ≤ offset

-- questions that are put by number: the list given for one, which reads only below the marks of the frames, has its clauses
pub record Puts {X : Type 0} (gives : ℕ → X → Type 0) (clauses : X → List ℕ → List Span → List (List ℕ)) (literal_mark span_mark : X → ℕ) (f : Frames) (ls : List ℕ) (ps : List Span) (total : ℕ) (qs : List (List (List ℕ))) : Type 0 where
  pub all : total ≡ length qs
  pub each : (number : ℕ) (list : X) → number < total → gives number list → clauses list ls ps ≡ slice_index_or qs number []
  pub literals : (number : ℕ) (list : X) → number < total → gives number list → literal_mark list ≤ f.literals.used
  pub spans : (number : ℕ) (list : X) → number < total → gives number list → span_mark list ≤ f.spans.used
