-- Why resolution is sound.
use Rattle.std.proofs.Common.{◌≡◌, ℕ, zero, suc, ◌<◌, Bool, true, false, cond, not, ◌&&◌, ◌||◌, eqb, ltb, List, [], ◌∷◌, length, get_or, sym, refl, ap, ◌∙◌, ⊎_elim, arith}
use mathlib.Core.Bool.{or_assoc}
use Rattle.std.specs.List.{list_any}
use Rattle.std.proofs.lemmas.Bool.{ltb-false, eqb-true, eq-eqb, ne_eqb, cond_both, cases_Bool, cases_eq, false≢true, or_left, or_right, and_parts}
use Rattle.resolution.specs.Clauses.{literal_true, denial, holds, models, Unsat}
use Rattle.resolution.specs.Resolvents.{merge_with, merge, without, resolvent, contains}
use Rattle.resolution.specs.States.{Implied}
use Rattle.resolution.proofs.Settings.{denial_flips}

and_false : (b : Bool) → (b && false) ≡ false
and_false true = refl
and_false false = refl

or_move : (a b c d : Bool) → (b || (a || (c || d))) ≡ (a || (c || (b || d)))
or_move true true c d = refl
or_move true false c d = refl
or_move false true true d = refl
or_move false true false d = refl
or_move false false c d = refl

or_same : (a c d : Bool) → (a || (c || d)) ≡ (a || (c || (a || d)))
or_same true c d = refl
or_same false c d = refl

-- a test holds of some literal of a merge exactly where it does of one of either list
any_merge_with : (f : ℕ → Bool) (x : ℕ) (k : List ℕ → List ℕ) (h : Bool) → ((zs : List ℕ) → list_any f (k zs) ≡ (h || list_any f zs)) → (ys : List ℕ) → list_any f (merge_with x k ys) ≡ (f x || (h || list_any f ys))
any_merge_with f x k h hk [] = ap (λ b. f x || b) (hk [])
any_merge_with f x k h hk (y ∷ ys) =
    cond_both (ltb x y) (x ∷ k (y ∷ ys)) (cond (ltb y x) (y ∷ merge_with x k ys) (x ∷ k ys)) (λ l. list_any f l ≡ (f x || (h || (f y || list_any f ys))))
    (λ _. ap (λ b. f x || b) (hk (y ∷ ys)))
    (λ e. cond_both (ltb y x) (y ∷ merge_with x k ys) (x ∷ k ys) (λ l. list_any f l ≡ (f x || (h || (f y || list_any f ys))))
    (λ _. ap (λ b. f y || b) (any_merge_with f x k h hk ys) ∙ or_move (f x) (f y) h (list_any f ys))
    (λ d. let s : x ≡ y = omega (arith, ltb-false x y e, ltb-false y x d) in
    ap (λ b. f x || b) (hk ys) ∙ or_same (f x) h (list_any f ys) ∙ ap (λ z. f x || (h || (f z || list_any f ys))) s))

any_merge : (f : ℕ → Bool) (xs ys : List ℕ) → list_any f (merge xs ys) ≡ (list_any f xs || list_any f ys)
any_merge f [] ys = refl
any_merge f (x ∷ xs) ys = any_merge_with f x (merge xs) (list_any f xs) (any_merge f xs) ys ∙ sym (or_assoc (f x) (list_any f xs) (list_any f ys))

any_holds : (v : ℕ → Bool) (xs : List ℕ) → list_any (literal_true v) xs ≡ holds v xs
any_holds v [] = refl
any_holds v (x ∷ xs) = ap (λ b. literal_true v x || b) (any_holds v xs)

pub any_contains : (x : ℕ) (xs : List ℕ) → list_any (λ y. eqb y x) xs ≡ contains x xs
any_contains x [] = refl
any_contains x (y ∷ ys) = ap (λ b. eqb y x || b) (any_contains x ys)

holds_merge : (v : ℕ → Bool) (xs ys : List ℕ) → holds v (merge xs ys) ≡ (holds v xs || holds v ys)
holds_merge v xs ys =
    sym (any_holds v (merge xs ys)) ∙ any_merge (literal_true v) xs ys
    ∙ ap (λ b. b || list_any (literal_true v) ys) (any_holds v xs) ∙ ap (λ b. holds v xs || b) (any_holds v ys)

contains_merge : (x : ℕ) (xs ys : List ℕ) → contains x (merge xs ys) ≡ (contains x xs || contains x ys)
contains_merge x xs ys =
    sym (any_contains x (merge xs ys)) ∙ any_merge (λ y. eqb y x) xs ys
    ∙ ap (λ b. b || list_any (λ y. eqb y x) ys) (any_contains x xs) ∙ ap (λ b. contains x xs || b) (any_contains x ys)

holds_without : (v : ℕ → Bool) (p : ℕ) (xs : List ℕ) → literal_true v p ≡ false → holds v (without p xs) ≡ holds v xs
holds_without v p [] f = refl
holds_without v p (x ∷ xs) f =
    cond_both (eqb x p) (without p xs) (x ∷ without p xs) (λ l. holds v l ≡ (literal_true v x || holds v xs))
    (λ e. let g : literal_true v x ≡ false = ap (literal_true v) (eqb-true x p e) ∙ f in rw g (holds_without v p xs f))
    (λ _. ap (λ b. literal_true v x || b) (holds_without v p xs f))

-- the literal that is left out is not there, and the others are
keep_test : (y x p : ℕ) (c : Bool) → eqb y p ≡ true → (c && not (eqb x p)) ≡ ((eqb y x || c) && not (eqb x p))
keep_test y x p c e =
    let q = eqb-true y p e in
    ⊎_elim
    (λ (s : x ≡ p). let t = eq-eqb x p s in rw t (and_false c ∙ sym (and_false (eqb y x || c))))
    (λ (n : x ≡ p → ⊥). let t = ne_eqb y x (λ z. n (sym z ∙ q)) in rw t)
    (cases_eq x p)

drop_test : (y x p : ℕ) (c : Bool) → eqb y p ≡ false → (eqb y x || (c && not (eqb x p))) ≡ ((eqb y x || c) && not (eqb x p))
drop_test y x p c e =
    ⊎_elim
    (λ (s : y ≡ x). let t = eq-eqb y x s in let u : eqb x p ≡ false = ap (λ z. eqb z p) (sym s) ∙ e in rw (t, u))
    (λ (n : y ≡ x → ⊥). let t = ne_eqb y x n in rw t)
    (cases_eq y x)

contains_without : (x p : ℕ) (xs : List ℕ) → contains x (without p xs) ≡ (contains x xs && not (eqb x p))
contains_without x p [] = refl
contains_without x p (y ∷ ys) =
    cond_both (eqb y p) (without p ys) (y ∷ without p ys) (λ l. contains x l ≡ ((eqb y x || contains x ys) && not (eqb x p)))
    (λ e. contains_without x p ys ∙ keep_test y x p (contains x ys) e)
    (λ e. ap (λ b. eqb y x || b) (contains_without x p ys) ∙ drop_test y x p (contains x ys) e)

pub resolvent_has : (a b : List ℕ) (p x : ℕ) → contains x (resolvent a b p) ≡ ((contains x a && not (eqb x p)) || (contains x b && not (eqb x (denial p))))
resolvent_has a b p x =
    contains_merge x (without p a) (without (denial p) b)
    ∙ ap (λ z. z || contains x (without (denial p) b)) (contains_without x p a) ∙ ap (λ z. (contains x a && not (eqb x p)) || z) (contains_without x (denial p) b)

pub implied_resolvent : (cs : List (List ℕ)) (a b : List ℕ) (p : ℕ) → Implied cs a → Implied cs b → Implied cs (resolvent a b p)
unfolding Implied
implied_resolvent cs a b p ha hb v m =
    holds_merge v (without p a) (without (denial p) b)
    ∙ ⊎_elim
    (λ t. or_right (holds v (without p a)) (holds v (without (denial p) b))
    (holds_without v (denial p) b (denial_flips v p ∙ ap not t) ∙ hb v m))
    (λ f. or_left (holds v (without p a)) (holds v (without (denial p) b)) (holds_without v p a f ∙ ha v m))
    (cases_Bool (literal_true v p))

member : (v : ℕ → Bool) (cs : List (List ℕ)) (i : ℕ) → i < length cs → models v cs ≡ true → holds v (get_or cs i []) ≡ true
member v [] i h m = absurd (omega arith)
member v (c ∷ cs) zero h m = (and_parts (holds v c) (models v cs) m).0
member v (c ∷ cs) (suc i) h m = member v cs i (omega arith) (and_parts (holds v c) (models v cs) m).1

pub implied_member : (cs : List (List ℕ)) (i : ℕ) → i < length cs → Implied cs (get_or cs i [])
unfolding Implied
implied_member cs i h v m = member v cs i h m

pub empty_unsat : (cs : List (List ℕ)) → Implied cs [] → Unsat cs
unfolding Implied
empty_unsat cs h v m = false≢true (h v m)
