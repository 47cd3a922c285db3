-- Pieces of one length that are joined: what stands where.
use Rattle.std.proofs.Common.{◌≡◌, ℕ, zero, suc, ◌+◌, ◌*◌, ◌<◌, List, length, get_or, ap, ◌∙◌, suc-mul, arith}
use Rattle.std.specs.List.{range_with_len, flat_map}
use Rattle.std.proofs.lemmas.List.{length-append, get_or_append_left, get_or-append-add}

module _ {X : Type 0} (f : ℕ → List X) (size : ℕ) (sized : (r : ℕ) → length (f r) ≡ size) where
  pub length_joined : (a n : ℕ) → length (flat_map f (range_with_len a n)) ≡ n * size
  length_joined a zero = omega arith
  length_joined a (suc n) =
      omega (arith, length-append (f a) (flat_map f (range_with_len (a + 1) n)), sized a, length_joined (a + 1) n, suc-mul n size)

  -- place p of piece r
  pub get_or_joined : (a n r p : ℕ) (d : X) → r < n → p < size → get_or (flat_map f (range_with_len a n)) (r * size + p) d ≡ get_or (f (a + r)) p d
  get_or_joined a zero r p d l m = absurd (omega arith)
  get_or_joined a (suc n) zero p d l m =
      let at : 0 * size + p ≡ p = omega arith in
      let same : a ≡ a + 0 = omega arith in
      ap (λ (k : ℕ). get_or (flat_map f (range_with_len a (suc n))) k d) at
      ∙ get_or_append_left (f a) (flat_map f (range_with_len (a + 1) n)) d p (omega (arith, sized a))
      ∙ ap (λ (k : ℕ). get_or (f k) p d) same
  get_or_joined a (suc n) (suc r) p d l m =
      let at : suc r * size + p ≡ length (f a) + (r * size + p) = omega (arith, sized a, suc-mul r size) in
      let same : a + 1 + r ≡ a + suc r = omega arith in
      ap (λ (k : ℕ). get_or (flat_map f (range_with_len a (suc n))) k d) at
      ∙ get_or-append-add (f a) (flat_map f (range_with_len (a + 1) n)) (r * size + p) d
      ∙ get_or_joined (a + 1) n r p d (omega arith) m
      ∙ ap (λ (k : ℕ). get_or (f k) p d) same
