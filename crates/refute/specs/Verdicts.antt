-- What a list of steps comes to.
use Rattle.std.specs.Prelude.{ℕ, cond, List, [], ◌∷◌, ◌++◌, length, Ok, Err, Result}
use Rattle.refusal.specs.declared.faults.DocketFault.TheVariants.{UnfitArea}
use Rattle.refusal.specs.declared.faults.RefutationFault.{RefutationFault}
use Rattle.refusal.specs.declared.faults.Refusal.{Refusal}
use Rattle.refusal.specs.declared.faults.Refusal.TheVariants.{Docket, Refutation as OfRefutation}
use Rattle.stack.specs.declared.spans.Span.{Span}
use Rattle.resolution.specs.declared.refutation.Refutation.{Refutation}
use Rattle.resolution.specs.declared.refutation.Refuted.{Refuted}
use Rattle.resolution.specs.Outcomes.{admitted, takes, resolves}
use Rattle.resolution.specs.States.{taken, resolved, ended, entries}
use Rattle.refute.specs.declared.steps.Step.{Step}
use Rattle.refute.specs.declared.steps.Step.TheVariants.{Take, Resolve}

-- what a step gives, from any state
abbrev pub stepped : Refutation → List (List ℕ) → Step → List ℕ → List Span → Result (List ℕ) RefutationFault
stepped t list (Take number) ls ps = taken t list number ls ps
stepped t list (Resolve left right pivot) ls ps = resolved t left right pivot ls ps

-- what a step gives by the clauses so far, in areas of so many literals and spans that these alone are in
abbrev pub attempted : List (List ℕ) → ℕ → ℕ → List (List ℕ) → Step → Result (List ℕ) RefutationFault
attempted list literals spans own (Take number) = takes list number (entries own) literals (length own) spans
attempted list literals spans own (Resolve left right pivot) = resolves own left right pivot (entries own) literals (length own) spans

-- on with the new clause, or the refusal
abbrev pub next : {X : Type 0} → Result (List ℕ) RefutationFault → (List ℕ → Result X RefutationFault) → Result X RefutationFault
next (Ok c) k = k c
next (Err e) k = Err e

-- the clauses after all steps, or the first refusal
abbrev pub ran : List (List ℕ) → ℕ → ℕ → List Step → List (List ℕ) → Result (List (List ℕ)) RefutationFault
ran list literals spans [] own = Ok own
ran list literals spans (step ∷ steps) own = next (attempted list literals spans own step) (λ c. ran list literals spans steps (own ++ c ∷ []))

-- and then the end
abbrev pub concluded : Result (List (List ℕ)) RefutationFault → Result Refuted RefutationFault
concluded (Ok own) = ended own
concluded (Err e) = Err e

-- how many clauses a finished refutation has; a fault is told whole
abbrev pub told_of : Result Refuted RefutationFault → Result ℕ Refusal
told_of (Ok r) = Ok r.clauses
told_of (Err e) = Err (OfRefutation e)

-- what the steps come to, in areas of so many literals and spans
abbrev pub verdict : List (List ℕ) → ℕ → ℕ → List Step → Result ℕ Refusal
verdict list literals spans steps = cond (admitted literals spans) (told_of (concluded (ran list literals spans steps []))) (Err (Docket UnfitArea))
