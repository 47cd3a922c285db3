-- Clauses by the places of their literals, and literals that give a variable a value.
use Rattle.std.proofs.Common.{◌≡◌, ℕ, zero, suc, ◌+◌, ◌*◌, ◌<◌, ◌≤◌, Bool, true, false, not, List, [], ◌∷◌, length, get_or, sym, refl, ap, ◌∙◌, ⊎_elim, arith}
use Rattle.std.proofs.lemmas.Bool.{and_from, or_left, or_right, or_from, or_parts, not-true, not-false, cases_Bool, true≢false}
use Rattle.resolution.specs.Clauses.{literal_true, denial, holds, models}
use Rattle.resolution.specs.States.{Implied}
use Rattle.resolution.proofs.Laws.{implied_member}
use Rattle.resolution.proofs.Settings.{true_twice, true_twice_odd, denial_flips}
use Rattle.machine.specs.Meaning.{lit}
use Rattle.table_format.specs.Stepping.{valued}

module _ (v : ℕ → Bool) where
  -- a clause with a true literal holds
  pub holds_from : (c : List ℕ) (k : ℕ) → k < length c → literal_true v (get_or c k 0) ≡ true → holds v c ≡ true
  holds_from [] k l h = absurd (omega arith)
  holds_from (x ∷ xs) zero l h = or_left (literal_true v x) (holds v xs) h
  holds_from (x ∷ xs) (suc k) l h = or_right (literal_true v x) (holds v xs) (holds_from xs k (omega arith) h)

  -- a clause fails exactly when each literal does
  pub fails_at : (c : List ℕ) (k : ℕ) → k < length c → holds v c ≡ false → literal_true v (get_or c k 0) ≡ false
  fails_at [] k l h = absurd (omega arith)
  fails_at (x ∷ xs) zero l h = (or_parts (literal_true v x) (holds v xs) h).0
  fails_at (x ∷ xs) (suc k) l h = fails_at xs k (omega arith) (or_parts (literal_true v x) (holds v xs) h).1

  pub fails_from : (c : List ℕ) → ((k : ℕ) → k < length c → literal_true v (get_or c k 0) ≡ false) → holds v c ≡ false
  fails_from [] h = refl
  fails_from (x ∷ xs) h = or_from (literal_true v x) (holds v xs) (h 0 (omega arith)) (fails_from xs (λ k l. h (suc k) (omega arith)))

  -- all clauses hold exactly when each does
  pub models_at : (cs : List (List ℕ)) (c : ℕ) → c < length cs → models v cs ≡ true → holds v (get_or cs c []) ≡ true
  unfolding Implied
  models_at cs c l h = implied_member cs c l v h

  pub models_from : (cs : List (List ℕ)) → ((c : ℕ) → c < length cs → holds v (get_or cs c []) ≡ true) → models v cs ≡ true
  models_from [] h = refl
  models_from (c ∷ cs) h = and_from (holds v c) (models v cs) (h 0 (omega arith)) (models_from cs (λ k l. h (suc k) (omega arith)))

-- the literal that says that variable n is b
pub valued_near : (n : ℕ) (b : Bool) → (2 * n ≤ valued n b) × (valued n b < 2 * n + 2)
valued_near n true = (omega arith, omega arith)
valued_near n false = (omega arith, omega arith)

module _ (w : List Bool) (n : ℕ) where
  pub valued_true : (b : Bool) → get_or w n false ≡ b → lit w (valued n b) ≡ true
  valued_true true e = true_twice (λ k. get_or w k false) n ∙ e
  valued_true false e = true_twice_odd (λ k. get_or w k false) n ∙ ap not e

  pub from_valued : (b : Bool) → lit w (valued n b) ≡ true → get_or w n false ≡ b
  from_valued true e = sym (true_twice (λ k. get_or w k false) n) ∙ e
  from_valued false e = not-true (get_or w n false) (sym (true_twice_odd (λ k. get_or w k false) n) ∙ e)

  pub denied_false : (b : Bool) → get_or w n false ≡ b → lit w (denial (valued n b)) ≡ false
  denied_false b e = denial_flips (λ k. get_or w k false) (valued n b) ∙ ap not (valued_true b e)

  pub from_denied : (b : Bool) → lit w (denial (valued n b)) ≡ false → get_or w n false ≡ b
  from_denied b e = from_valued b (not-false (lit w (valued n b)) (sym (denial_flips (λ k. get_or w k false) (valued n b)) ∙ e))

-- of two literals the other is true where one is not
pub first_holds : (v : ℕ → Bool) (a b : ℕ) → holds v (a ∷ b ∷ []) ≡ true → literal_true v b ≡ false → literal_true v a ≡ true
first_holds v a b h e =
    ⊎_elim (λ y. y) (λ n. absurd (true≢false (sym h ∙ or_from (literal_true v a) (holds v (b ∷ [])) n (or_from (literal_true v b) false e refl))))
    (cases_Bool (literal_true v a))

pub second_holds : (v : ℕ → Bool) (a b : ℕ) → holds v (a ∷ b ∷ []) ≡ true → literal_true v a ≡ false → literal_true v b ≡ true
second_holds v a b h e =
    ⊎_elim (λ y. y) (λ n. absurd (true≢false (sym h ∙ or_from (literal_true v a) (holds v (b ∷ [])) e (or_from (literal_true v b) false n refl))))
    (cases_Bool (literal_true v b))
