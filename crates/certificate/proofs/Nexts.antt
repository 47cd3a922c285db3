-- What a cursor's next record says of the bytes.
use Rattle.std.proofs.Common.{◌≡◌, ℕ, ◌<◌, List, ◌++◌, length, Some, None, Option, sym, ap, ◌∙◌, subst}
use Rattle.certificate.specs.declared.record.Record.{Record}
use Rattle.certificate.specs.Records.{encode, read, record_of, left_of, Taken}
use Rattle.certificate.proofs.Codes.{read_some, read_none, longer}

-- the record that the bytes begin with, and what is left after it
pub record Came (bytes left : List ℕ) (r : Record) : Type 0 where
  pub is : read bytes ≡ Some (r, left)
  pub wrote : bytes ≡ encode r ++ left
  pub shorter : length left < length bytes

module _ (bytes left : List ℕ) (o : Option Record) (value : o ≡ record_of bytes) (rest : left ≡ left_of bytes) (taken : Taken bytes left o) where
  pub came : (r : Record) → o ≡ Some r → Came bytes left r
  came r e =
      let w = (subst (Taken bytes left) e taken).0 in
      record {
        is = read_some bytes r (sym e ∙ value) ∙ ap (λ (x : List ℕ). Some (r, x)) (sym rest);
        wrote = w;
        shorter = longer r bytes left w;
      }

  pub none_came : o ≡ None → (left ≡ bytes) × (read bytes ≡ None)
  none_came e = ((subst (Taken bytes left) e taken).0, read_none bytes (sym e ∙ value))
