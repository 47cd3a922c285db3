-- What a setting makes of a literal and of its denial.
use Rattle.std.proofs.Common.{◌≡◌, ℕ, ◌+◌, ◌-◌, ◌*◌, ◌/◌, ◌%◌, Bool, not, eqb, ◌⊎◌, sym, ap, ◌∙◌, inl, inr, ⊎_elim, arith}
use mathlib.Core.Bool.{not-not}
use Rattle.std.proofs.lemmas.Bool.{eq-eqb, ne_eqb, cond-true, cond-false, cases_eq}
use Rattle.resolution.specs.Clauses.{literal_true, denial}

pub true_even : (v : ℕ → Bool) (l : ℕ) → l % 2 ≡ 0 → literal_true v l ≡ v (l / 2)
unfolding literal_true
true_even v l h = cond-true (eqb (l % 2) 0) (v (l / 2)) (not (v (l / 2))) (eq-eqb (l % 2) 0 h)

pub true_odd : (v : ℕ → Bool) (l : ℕ) → l % 2 ≡ 1 → literal_true v l ≡ not (v (l / 2))
unfolding literal_true
true_odd v l h = cond-false (eqb (l % 2) 0) (v (l / 2)) (not (v (l / 2))) (ne_eqb (l % 2) 0 (λ e. omega arith))

denial_even : (l : ℕ) → l % 2 ≡ 0 → denial l ≡ l + 1
unfolding denial
denial_even l h = cond-true (eqb (l % 2) 0) (l + 1) (l - 1) (eq-eqb (l % 2) 0 h)

denial_odd : (l : ℕ) → l % 2 ≡ 1 → denial l ≡ l - 1
unfolding denial
denial_odd l h = cond-false (eqb (l % 2) 0) (l + 1) (l - 1) (ne_eqb (l % 2) 0 (λ e. omega arith))

parity : (l : ℕ) → (l % 2 ≡ 0) ⊎ (l % 2 ≡ 1)
parity l = ⊎_elim (λ e. inl e) (λ n. inr (omega arith)) (cases_eq (l % 2) 0)

pub denial_flips : (v : ℕ → Bool) (l : ℕ) → literal_true v (denial l) ≡ not (literal_true v l)
denial_flips v l =
    ⊎_elim
    (λ e. ap (literal_true v) (denial_even l e) ∙ true_odd v (l + 1) (omega arith)
    ∙ ap (λ k. not (v k)) (let q : (l + 1) / 2 ≡ l / 2 = omega arith in q) ∙ ap not (sym (true_even v l e)))
    (λ o. ap (literal_true v) (denial_odd l o) ∙ true_even v (l - 1) (omega arith)
    ∙ ap v (let q : (l - 1) / 2 ≡ l / 2 = omega arith in q) ∙ sym (not-not (v (l / 2))) ∙ ap not (sym (true_odd v l o)))
    (parity l)

-- two settings, at two literals of the same sign
pub true_same : (u v : ℕ → Bool) (k l : ℕ) → k % 2 ≡ l % 2 → u (k / 2) ≡ v (l / 2) → literal_true u k ≡ literal_true v l
true_same u v k l p e =
    ⊎_elim
    (λ a. true_even u k (omega arith) ∙ e ∙ sym (true_even v l a))
    (λ b. true_odd u k (omega arith) ∙ ap not e ∙ sym (true_odd v l b))
    (parity l)

pub true_twice : (v : ℕ → Bool) (k : ℕ) → literal_true v (2 * k) ≡ v k
true_twice v k = let q : 2 * k / 2 ≡ k = omega arith in true_even v (2 * k) (omega arith) ∙ ap v q

pub true_twice_odd : (v : ℕ → Bool) (k : ℕ) → literal_true v (2 * k + 1) ≡ not (v k)
true_twice_odd v k = let q : (2 * k + 1) / 2 ≡ k = omega arith in true_odd v (2 * k + 1) (omega arith) ∙ ap (λ (j : ℕ). not (v j)) q

-- the other literal of a variable is beside it
pub denial_near : (l : ℕ) → (denial l / 2 ≡ l / 2) × (denial l % 2 ≡ 1 - l % 2)
denial_near l =
    ⊎_elim
    (λ (e : l % 2 ≡ 0). let d = denial_even l e in (omega arith, omega arith))
    (λ (o : l % 2 ≡ 1). let d = denial_odd l o in (omega arith, omega arith))
    (parity l)
