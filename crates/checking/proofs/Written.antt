-- Lists of bytes, and records one after another as bytes.
use Rattle.std.proofs.Common.{◌≡◌, ℕ, zero, suc, ◌<◌, true, ltb, List, [], ◌∷◌, ◌++◌, sym, refl, ap, ◌∙◌, append_assoc, arith}
use Rattle.std.specs.List.{AllByRecursion}
use Rattle.std.proofs.lemmas.Bool.{lt-ltb, ltb-true, and_from, and_parts}
use Rattle.certificate.specs.declared.record.Record.{Record}
use Rattle.certificate.specs.Records.{encode, encodes, Bytes}
use Rattle.checking.specs.Verdicts.{are_bytes}

pub encodes_append : (rs qs : List Record) → encodes (rs ++ qs) ≡ encodes rs ++ encodes qs
encodes_append [] qs = refl
encodes_append (r ∷ rs) qs = ap (λ (x : List ℕ). encode r ++ x) (encodes_append rs qs) ∙ sym (append_assoc (encode r) (encodes rs) (encodes qs))

pub bytes_behind : (xs ys : List ℕ) → Bytes (xs ++ ys) → Bytes ys
bytes_behind [] ys h = h
bytes_behind (x ∷ xs) ys h = bytes_behind xs ys (λ i. h (suc i))

-- the three ways to say that each is a byte
pub bytes_tested : (bs : List ℕ) → Bytes bs → are_bytes bs ≡ true
bytes_tested [] h = refl
bytes_tested (b ∷ bs) h = and_from (ltb b 256) (are_bytes bs) (lt-ltb b 256 (h 0)) (bytes_tested bs (λ i. h (suc i)))

pub tested_all : (bs : List ℕ) → are_bytes bs ≡ true → AllByRecursion (λ b. b < 256) bs
tested_all [] h = tt
tested_all (b ∷ bs) h = let p = and_parts (ltb b 256) (are_bytes bs) h in (ltb-true b 256 p.0, tested_all bs p.1)

pub all_bytes : (bs : List ℕ) → AllByRecursion (λ b. b < 256) bs → Bytes bs
all_bytes [] h i = omega arith
all_bytes (b ∷ bs) h zero = h.0
all_bytes (b ∷ bs) h (suc i) = all_bytes bs h.1 i
