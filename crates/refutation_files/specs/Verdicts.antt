-- What a clause file and a proof file come to.
use Rattle.std.specs.Prelude.{◌≡◌, ℕ, ◌+◌, Bool, true, false, cond, List, length, Ok, Err, Result}
use Rattle.refusal.specs.declared.faults.Refusal.{Refusal}
use Rattle.refusal.specs.declared.faults.Refusal.TheVariants.{Text, Table, Docket, Certificate, Refutation}
use Rattle.refusal.specs.declared.faults.RefutationFault.TheVariants.{NoClause, NoPivot, Full, NotRefuted}
use Rattle.resolution.specs.Clauses.{Unsat}
use Rattle.refute.specs.declared.steps.Step.{Step}
use Rattle.refute.specs.Verdicts.{verdict}
use Rattle.refutation_files.specs.declared.proof_file.Ending.{Ending}
use Rattle.refutation_files.specs.declared.proof_file.Ending.TheVariants.{Whole, Cut, More}
use Rattle.refutation_files.specs.declared.unproved.Unproved.{Unproved}
use Rattle.refutation_files.specs.declared.unproved.Unproved.TheVariants.{NotAClauseList, NotARefutation, Refused, NoMemory}
use Rattle.refutation_files.specs.ClauseFiles.{ClausesOf}
use Rattle.refutation_files.specs.ProofFiles.{ProofOf}

-- the refusal of a finish, which a file without its end never reaches
abbrev pub at_finish : Refusal → Bool
at_finish (Text r) = false
at_finish (Table r) = false
at_finish (Docket f) = false
at_finish (Certificate r) = false
at_finish (Refutation NoClause) = false
at_finish (Refutation NoPivot) = false
at_finish (Refutation Full) = false
at_finish (Refutation NotRefuted) = true

-- a refusal of the steps comes before a fault of form after them, and that before a granted finish
abbrev pub judged : Result ℕ Refusal → Ending → ℕ → Result ℕ Unproved
judged (Ok n) Whole steps = Ok (steps + 1)
judged (Ok n) Cut steps = Err NotARefutation
judged (Ok n) More steps = Err NotARefutation
judged (Err r) Whole steps = Err (Refused r)
judged (Err r) Cut steps = cond (at_finish r) (Err NotARefutation) (Err (Refused r))
judged (Err r) More steps = Err (Refused r)

-- a number of records shows that no setting satisfies the clauses
abbrev pub Shows : Result ℕ Unproved → List (List ℕ) → Type 0
Shows (Ok n) cs = Unsat cs
Shows (Err e) cs = Unit {0}

-- the files are clauses, and steps with such an ending, and the verdict is what these come to
abbrev pub Judged : List ℕ → List ℕ → ℕ → ℕ → Result ℕ Unproved → Type 0
Judged clauses proof literals spans v =
    (cs : List (List ℕ)) × (steps : List Step) × (ending : Ending)
    × ClausesOf clauses cs × ProofOf proof steps ending × (v ≡ judged (verdict cs literals spans steps) ending (length steps)) × Shows v cs

-- in areas of so many literals and spans
abbrev pub ComesTo : List ℕ → List ℕ → ℕ → ℕ → Result ℕ Unproved → Type 0
ComesTo clauses proof literals spans (Ok n) = Judged clauses proof literals spans (Ok n)
ComesTo clauses proof literals spans (Err NotAClauseList) = (cs : List (List ℕ)) → ClausesOf clauses cs → ⊥
ComesTo clauses proof literals spans (Err NotARefutation) = Judged clauses proof literals spans (Err NotARefutation)
ComesTo clauses proof literals spans (Err (Refused r)) = Judged clauses proof literals spans (Err (Refused r))
ComesTo clauses proof literals spans (Err (NoMemory e)) = Unit {0}

-- one thing where the proof was carried out, another where it was not come to
abbrev pub reached : {X : Type 0} → Result ℕ Unproved → X → X → X
reached (Ok n) x y = x
reached (Err NotAClauseList) x y = y
reached (Err NotARefutation) x y = x
reached (Err (Refused r)) x y = x
reached (Err (NoMemory e)) x y = y
