-- What a refutation that is read from records comes to.
use Rattle.std.specs.Prelude.{◌≡◌, ℕ, List, take, IfOk, Ok, Result}
use Rattle.refusal.specs.declared.faults.CertificateRefusal.{CertificateRefusal}
use Rattle.stack.specs.declared.spans.Span.{Span}
use Rattle.resolution.specs.Clauses.{Unsat}
use Rattle.refuting.specs.Rooms.{Room}
use Rattle.refuting.specs.Reading.{refutation_read}
use Rattle.refuting.specs.Refutations.{RefutationIn, Shows}

-- the answer r to bytes at an offset, the bytes left, and the areas before and after
pub record Checked (list : List (List ℕ)) (room : Room) (question offset : ℕ) (bytes left : List ℕ) (ls ms : List ℕ) (ps qs : List Span) (r : Result ℕ CertificateRefusal) : Type 0 where
  -- both are as the records say
  pub answer : r ≡ (refutation_read list room question offset bytes).answer
  pub rest : left ≡ (refutation_read list room question offset bytes).left
  -- what is below the refutation stays
  pub literals : take room.literals_below ms ≡ take room.literals_below ls
  pub spans : take room.spans_below qs ≡ take room.spans_below ps
  -- accepted: no setting satisfies the list
  pub refuted : IfOk r (λ _. Unsat list)
  -- accepted exactly where the bytes begin with the records of a refutation; what follows these is left
  pub shown : Shows list room bytes left r
  pub taken : (count : ℕ) (after : List ℕ) → RefutationIn list room bytes after count → (r ≡ Ok count) × (left ≡ after)
