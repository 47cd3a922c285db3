-- Lists with one entry for each number below n, and lists of three parts, by places.
use Rattle.std.proofs.Common.{◌≡◌, ℕ, zero, suc, ◌+◌, ◌<◌, ◌≤◌, List, [], ◌∷◌, ◌++◌, length, get_or, sym, ap, ◌∙◌, subst, ⊎_elim, arith}
use Rattle.std.specs.List.{AllByRecursion}
use Rattle.std.proofs.lemmas.List.{length-append, length_push, get_or_append_left, get_or-append-add, get_or_push}
use Rattle.std.proofs.ByRecursion.{All-push}
use Rattle.std.proofs.lemmas.Bool.{cases_lt}

-- `all n` has the entries Q 0, .., Q (n - 1)
module _ {X : Type 0} (Q : ℕ → X) (all : ℕ → List X) (none : all 0 ≡ []) (more : (n : ℕ) → all (suc n) ≡ all n ++ Q n ∷ []) where
  pub each_count : (n : ℕ) → length (all n) ≡ n
  each_count zero = ap length none
  each_count (suc n) = let p = length_push (all n) (Q n) in let q = ap length (more n) in let r = each_count n in omega arith

  pub each_at : (n i : ℕ) (d : X) → i < n → get_or (all n) i d ≡ Q i
  each_at zero i d l = let no : ⊥ = omega arith in absurd no
  each_at (suc n) i d l =
      let size = each_count n in
      let ih : i < n → get_or (all n) i d ≡ Q i = each_at n i d in
      ap (λ (qs : List X). get_or qs i d) (more n)
      ∙ ⊎_elim
      (λ (a : i < n). get_or_append_left (all n) (Q n ∷ []) d i (omega arith) ∙ ih a)
      (λ (b : n ≤ i). let e : n ≡ i = omega arith in get_or_push (all n) (Q n) d i (size ∙ e) ∙ ap Q e)
      (cases_lt i n)

  pub each_from : (P : X → Type 0) (n : ℕ) → ((i : ℕ) → i < n → P (Q i)) → AllByRecursion P (all n)
  each_from P zero h = subst (AllByRecursion P) (sym none) tt
  each_from P (suc n) h = subst (AllByRecursion P) (sym (more n)) (All-push P (all n) (Q n) (each_from P n (λ i l. h i (omega arith))) (h n (omega arith)))

-- three parts, of which the first has a entries and the second b
module _ {X : Type 0} (xs ys zs : List X) (a b : ℕ) (first : length xs ≡ a) (second : length ys ≡ b) where
  pub parts_count : length (xs ++ ys ++ zs) ≡ a + b + length zs
  parts_count = let p = length-append (xs ++ ys) zs in let q = length-append xs ys in omega arith

  pub first_at : (k : ℕ) (d : X) → k < a → get_or (xs ++ ys ++ zs) k d ≡ get_or xs k d
  first_at k d h =
      let q = length-append xs ys in
      get_or_append_left (xs ++ ys) zs d k (omega arith) ∙ get_or_append_left xs ys d k (omega arith)

  pub second_at : (k j : ℕ) (d : X) → k ≡ a + j → j < b → get_or (xs ++ ys ++ zs) k d ≡ get_or ys j d
  second_at k j d e h =
      let q = length-append xs ys in
      let place : k ≡ length xs + j = omega arith in
      ap (λ (i : ℕ). get_or (xs ++ ys ++ zs) i d) place
      ∙ get_or_append_left (xs ++ ys) zs d (length xs + j) (omega arith) ∙ get_or-append-add xs ys j d

  pub third_at : (k j : ℕ) (d : X) → k ≡ a + b + j → get_or (xs ++ ys ++ zs) k d ≡ get_or zs j d
  third_at k j d e =
      let q = length-append xs ys in
      let place : k ≡ length (xs ++ ys) + j = omega arith in
      ap (λ (i : ℕ). get_or (xs ++ ys ++ zs) i d) place ∙ get_or-append-add (xs ++ ys) zs j d
