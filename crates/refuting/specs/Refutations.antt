-- Refutations in the words of the subject, and as records.
use Rattle.std.specs.Prelude.{◌≡◌, ℕ, ◌+◌, ◌<◌, ◌≤◌, true, List, [], ◌∷◌, ◌++◌, length, Ok, Err, Result}
use Rattle.refusal.specs.declared.faults.CertificateRefusal.{CertificateRefusal}
use Rattle.resolution.specs.Clauses.{denial}
use Rattle.resolution.specs.Lists.{numbered_clause}
use Rattle.resolution.specs.Resolvents.{contains, resolvent}
use Rattle.resolution.specs.States.{entries}
use Rattle.certificate.specs.declared.record.Record.{Record}
use Rattle.certificate.specs.declared.record.Record.TheVariants.{Take, Resolve, RefutationEnd}
use Rattle.certificate.specs.Records.{encodes}
use Rattle.refuting.specs.Rooms.{Room}

-- a step takes a clause of the list over, or resolves two clauses made before it
pub data Step : Type 0 where
  taking : (number : ℕ) → Step
  resolving : (left right pivot : ℕ) → Step

-- the clause that a step makes after the clauses made so far
pub data Makes (list own : List (List ℕ)) : Step → List ℕ → Type 0 where
  taken : {n : ℕ} → n < length list → Makes list own (taking n) (numbered_clause list n)
  resolved : {left right pivot : ℕ} → left < length own → right < length own →
      contains pivot (numbered_clause own left) ≡ true → contains (denial pivot) (numbered_clause own right) ≡ true →
      Makes list own (resolving left right pivot) (resolvent (numbered_clause own left) (numbered_clause own right) pivot)

-- a clause has room above the clauses made so far: entries for its literals, and a place
pub record Fitting (room : Room) (own : List (List ℕ)) (c : List ℕ) : Type 0 where
  pub literals : room.literals_below + entries own + length c ≤ room.literals
  pub place : room.spans_below + length own < room.spans

-- steps one after another, from the clauses made so far to all of them
abbrev pub Leads : List (List ℕ) → Room → List (List ℕ) → List Step → List (List ℕ) → Type 0
Leads list room own [] all = own ≡ all
Leads list room own (s ∷ steps) all = (c : List ℕ) × Makes list own s c × Fitting room own c × Leads list room (own ++ c ∷ []) steps all

-- the steps refute the list: the last clause that they make is empty
pub record Refutes (list : List (List ℕ)) (room : Room) (steps : List Step) : Type 0 where
  pub before : List (List ℕ)
  pub leads : Leads list room [] steps (before ++ [] ∷ [])

-- the records of a refutation: one for each step, and its end
abbrev pub record_of : Step → Record
record_of (taking n) = Take n
record_of (resolving left right pivot) = Resolve left right pivot

abbrev pub records : List Step → List Record
records [] = RefutationEnd ∷ []
records (s ∷ steps) = record_of s ∷ records steps

-- bytes that begin with the records of a refutation of the list, and what is left after these
pub record RefutationIn (list : List (List ℕ)) (room : Room) (bytes left : List ℕ) (count : ℕ) : Type 0 where
  pub steps : List Step
  pub written : bytes ≡ encodes (records steps) ++ left
  pub refutes : Refutes list room steps
  pub counted : count ≡ length (records steps)

-- what an answer shows
abbrev pub Shows : List (List ℕ) → Room → List ℕ → List ℕ → Result ℕ CertificateRefusal → Type 0
Shows list room bytes left (Ok count) = RefutationIn list room bytes left count
Shows list room bytes left (Err refusal) = Unit {0}
