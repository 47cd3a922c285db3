-- Where a text is cut.
use Rattle.std.proofs.Common.{◌≡◌, ℕ, zero, suc, ◌<◌, eqb, List, [], ◌∷◌, length, get_or, take, drop, sym, refl, ap, ◌∙◌, arith}
use Rattle.std.proofs.lemmas.Bool.{eq-eqb, ne_eqb, cond-true, cond-false}
use Rattle.calls.specs.Cuts.{before, after}

-- the separator stands at n and nowhere before it
pub cut_at : (s : ℕ) (xs : List ℕ) (n : ℕ) → n < length xs → ((k : ℕ) → k < n → get_or xs k 0 ≡ s → ⊥) → get_or xs n 0 ≡ s →
    (take n xs ≡ before s xs) × (drop (suc n) xs ≡ after s xs)
cut_at s [] n l none here = absurd (omega arith)
cut_at s (x ∷ xs) zero l none here =
    let e = eq-eqb x s here in
    (sym (cond-true (eqb x s) [] (x ∷ before s xs) e), sym (cond-true (eqb x s) xs (after s xs) e))
cut_at s (x ∷ xs) (suc n) l none here =
    let e = ne_eqb x s (none 0 (omega arith)) in
    let more = cut_at s xs n (omega arith) (λ k h. none (suc k) (omega arith)) here in
    (ap (λ (ys : List ℕ). x ∷ ys) more.0 ∙ sym (cond-false (eqb x s) [] (x ∷ before s xs) e), more.1 ∙ sym (cond-false (eqb x s) xs (after s xs) e))

-- the separator stands nowhere
pub uncut : (s : ℕ) (xs : List ℕ) → ((k : ℕ) → k < length xs → get_or xs k 0 ≡ s → ⊥) → (before s xs ≡ xs) × (after s xs ≡ [])
uncut s [] none = (refl, refl)
uncut s (x ∷ xs) none =
    let e = ne_eqb x s (none 0 (omega arith)) in
    let more = uncut s xs (λ k h. none (suc k) (omega arith)) in
    (cond-false (eqb x s) [] (x ∷ before s xs) e ∙ ap (λ (ys : List ℕ). x ∷ ys) more.0, cond-false (eqb x s) xs (after s xs) e ∙ more.1)
