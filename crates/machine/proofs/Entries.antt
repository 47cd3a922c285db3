-- Entries of a list by their numbers.
use Rattle.std.proofs.Common.{◌≡◌, ℕ, zero, suc, ◌<◌, ◌≤◌, ltb, List, [], ◌∷◌, length, get_or, replicate, Some, None, Option, IfSome, is_some, Bor, sym, refl, ap, ◌∙◌, ⊎_elim, arith}
use Rattle.std.proofs.lemmas.Bool.{cases_lt, lt-ltb, le-ltb, ltb-true, ltb-false}
use Rattle.std.proofs.lemmas.List.{length-replicate, get_or-replicate}
use Rattle.std.specs.Bool.{then_some}
use Rattle.std.specs.Option.{option_copied}
use Rattle.machine.specs.Lists.{entry}

-- below the length the entry is what stands there
pub entry_at : {A : Type 0} (xs : List A) (i : ℕ) (d : A) → i < length xs → entry xs i ≡ Some (get_or xs i d)
unfolding entry
entry_at [] i d h = absurd (omega arith)
entry_at (x ∷ xs) zero d h = refl
entry_at (x ∷ xs) (suc i) d h = entry_at xs i d (omega arith)

-- at or beyond the length there is none
pub entry_past : {A : Type 0} (xs : List A) (i : ℕ) → length xs ≤ i → entry xs i ≡ None
unfolding entry
entry_past [] i h = refl
entry_past (x ∷ xs) zero h = absurd (omega arith)
entry_past (x ∷ xs) (suc i) h = entry_past xs i (omega arith)

-- what a slice gives at i, copied, is the entry
pub entry_copied : (xs : List ℕ) (i : ℕ) (o : Option (Bor ℕ)) → is_some o ≡ ltb i (length xs) → IfSome o (λ x. x.now ≡ get_or xs i x.now) → option_copied o ≡ entry xs i
entry_copied xs i None test at = sym (entry_past xs i (ltb-false i (length xs) (sym test)))
entry_copied xs i (Some x) test at = ap Some at ∙ sym (entry_at xs i x.now (ltb-true i (length xs) (sym test)))

-- x below n and none beyond are the entries of a list of n times x
pub entry_same : {A : Type 0} (n i : ℕ) (x : A) → then_some (ltb i n) x ≡ entry (replicate n x) i
entry_same n i x =
    ⊎_elim
    (λ (low : i < n). ap (λ b. then_some b x) (lt-ltb i n low) ∙ sym (entry_at (replicate n x) i x (omega (arith, length-replicate n x)) ∙ ap Some (get_or-replicate n i x x low)))
    (λ (past : n ≤ i). ap (λ b. then_some b x) (le-ltb i n past) ∙ sym (entry_past (replicate n x) i (omega (arith, length-replicate n x))))
    (cases_lt i n)
