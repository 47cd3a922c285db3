-- What a record does to a refutation under way and to its areas.
use Rattle.std.specs.Prelude.{◌≡◌, ℕ, List, [], ◌∷◌, ◌++◌, Ok, Err, Result}
use Rattle.refusal.specs.declared.faults.CertificateFault.{CertificateFault}
use Rattle.stack.specs.declared.spans.Span.{Span}
use Rattle.resolution.specs.declared.refutation.Refutation.{Refutation}
use Rattle.resolution.specs.Clauses.{Unsat}
use Rattle.resolution.specs.States.{own, Follows, GoesOn}
use Rattle.refuting.specs.Reading.{Move, made, ended}

-- one clause more: the refutation goes on above the same marks
pub record Made (list : List (List ℕ)) (t u : Refutation) (ls ms : List ℕ) (ps qs : List Span) (c : List ℕ) (r : Result (Unit {0}) CertificateFault) : Type 0 where
  pub answer : r ≡ Ok tt
  pub floor : u.floor ≡ t.floor
  pub first : u.first ≡ t.first
  pub goes_on : GoesOn t u ls ms ps qs (own t ls ps ++ c ∷ [])
  pub follows : Follows list (own t ls ps) → Follows list (own u ms qs)

-- the end: the areas stay, and the list is refuted
pub record Ended (list : List (List ℕ)) (t : Refutation) (ls ms : List ℕ) (ps qs : List Span) (r : Result (Unit {0}) CertificateFault) : Type 0 where
  pub answer : r ≡ Ok tt
  pub literals : ms ≡ ls
  pub spans : qs ≡ ps
  pub refutes : Follows list (own t ls ps) → Unsat list

-- a fault: the areas stay
pub record Stopped (fault : CertificateFault) (ls ms : List ℕ) (ps qs : List Span) (r : Result (Unit {0}) CertificateFault) : Type 0 where
  pub answer : r ≡ Err fault
  pub literals : ms ≡ ls
  pub spans : qs ≡ ps

-- what a move does
abbrev pub Moved : List (List ℕ) → Refutation → Refutation → List ℕ → List ℕ → List Span → List Span → Result Move CertificateFault → Result (Unit {0}) CertificateFault → Type 0
Moved list t u ls ms ps qs (Ok (made c)) r = Made list t u ls ms ps qs c r
Moved list t u ls ms ps qs (Ok ended) r = Ended list t ls ms ps qs r
Moved list t u ls ms ps qs (Err fault) r = Stopped fault ls ms ps qs r
