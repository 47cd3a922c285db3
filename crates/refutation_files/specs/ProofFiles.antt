-- Proof files: the records of steps, one after another, then the end of the refutation.
use Rattle.std.specs.Prelude.{◌≡◌, ℕ, ◌≤◌, List, ◌∷◌, ◌++◌, map, Some, None, Option, ◌≢◌}
use Rattle.certificate.specs.declared.record.Record.{Record}
use Rattle.certificate.specs.declared.record.Record.TheVariants.{Take, Resolve, RefutationEnd}
use Rattle.certificate.specs.Records.{encode, encodes}
use Rattle.refute.specs.declared.steps.Step.{Step}
use Rattle.refute.specs.declared.steps.Step.TheVariants as step
use Rattle.refutation_files.specs.declared.proof_file.Ending.{Ending}
use Rattle.refutation_files.specs.declared.proof_file.Ending.TheVariants.{Whole, Cut, More}

-- a step as a record
abbrev pub step_record : Step → Record
step_record (step.Take n) = Take n
step_record (step.Resolve l r p) = Resolve l r p

-- the bytes at which the steps end: no whole step and no end of the refutation, or that end, with nothing or something after it
abbrev pub EndsAs : List ℕ → Ending → Type 0
EndsAs rest Whole = rest ≡ encode RefutationEnd
EndsAs rest More = (b : ℕ) × (more : List ℕ) × (rest ≡ encode RefutationEnd ++ b ∷ more)
EndsAs rest Cut =
    ((s : Step) (after : List ℕ) → rest ≢ encode (step_record s) ++ after)
    × ((after : List ℕ) → rest ≢ encode RefutationEnd ++ after)

-- the bytes are those of the steps, then such an ending
abbrev pub ProofOf : List ℕ → List Step → Ending → Type 0
ProofOf bytes steps ending = (rest : List ℕ) × (bytes ≡ encodes (map step_record steps) ++ rest) × EndsAs rest ending

-- the step that the next record is, if it is one
abbrev pub NextStep : Option Record → Option Step → Type 0
NextStep next (Some s) = next ≡ Some (step_record s)
NextStep next None = (s : Step) → next ≢ Some (step_record s)

-- how a file ends whose next record is no step, with so many bytes after it
abbrev pub NextEnding : Option Record → ℕ → Ending → Type 0
NextEnding next n Whole = (next ≡ Some RefutationEnd) × (n ≡ 0)
NextEnding next n More = (next ≡ Some RefutationEnd) × (1 ≤ n)
NextEnding next n Cut = next ≡ Some RefutationEnd → ⊥
