-- Bytes begin with one record at most.
use Rattle.std.proofs.Common.{◌≡◌, ℕ, List, [], ◌∷◌, ◌++◌, sym, refl, ap, ◌∙◌}
use Rattle.std.proofs.lemmas.List.{append_assoc}
use Rattle.certificate.specs.declared.record.Record.{Record}
use Rattle.certificate.specs.Records.{encode, encodes, read}
use Rattle.certificate.proofs.Codes.{reads, some_same}

pub same_front : (q r : Record) (a b : List ℕ) → encode q ++ a ≡ encode r ++ b → (q ≡ r) × (a ≡ b)
same_front q r a b e =
    let p : (q, a) ≡ (r, b) = some_same (sym (reads q a) ∙ ap read e ∙ reads r b) in
    (ap (λ (x : Record × List ℕ). x.0) p, ap (λ (x : Record × List ℕ). x.1) p)

pub encodes_append : (qs rs : List Record) → encodes (qs ++ rs) ≡ encodes qs ++ encodes rs
encodes_append [] rs = refl
encodes_append (q ∷ qs) rs = ap (λ (x : List ℕ). encode q ++ x) (encodes_append qs rs) ∙ sym (append_assoc (encode q) (encodes qs) (encodes rs))

-- one record after another
pub more_records : (qs rs : List Record) (bytes before after : List ℕ) → bytes ≡ encodes qs ++ before → before ≡ encodes rs ++ after → bytes ≡ encodes (qs ++ rs) ++ after
more_records qs rs bytes before after e f =
    e ∙ ap (λ (x : List ℕ). encodes qs ++ x) f ∙ sym (append_assoc (encodes qs) (encodes rs) after) ∙ sym (ap (λ (x : List ℕ). x ++ after) (encodes_append qs rs))
