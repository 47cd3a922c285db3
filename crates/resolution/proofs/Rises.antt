-- Strictly rising clauses: by a test, and as resolvents.
use Rattle.std.proofs.Common.{◌≡◌, ℕ, zero, suc, ◌<◌, ◌≤◌, Bool, true, false, cond, eqb, ltb, List, [], ◌∷◌, length, get_or, sym, ◌∙◌, add-one, arith}
use Rattle.std.specs.List.{AllByRecursion, IsAllAdjacentAnswer}
use Rattle.std.proofs.ByRecursion.{All-weaker}
use Rattle.std.proofs.lemmas.Bool.{lt-ltb, ltb-true, ltb-false, cond_both, false≢true}
use Rattle.resolution.specs.Clauses.{Rising, denial}
use Rattle.resolution.specs.Lists.{Tells}
use Rattle.resolution.specs.Resolvents.{merge_with, merge, without, resolvent}

-- in a rising clause each literal is below the next, and in no other
pub rising_by_steps : (xs : List ℕ) → ((k : ℕ) → suc k < length xs → get_or xs k 0 < get_or xs (suc k) 0) → Rising xs
rising_by_steps [] h = tt
rising_by_steps (x ∷ []) h = (tt, tt)
rising_by_steps (x ∷ y ∷ ys) h =
    let l : x < y = h 0 (omega arith) in
    let r = rising_by_steps (y ∷ ys) (λ k m. h (suc k) (omega arith)) in
    ((l, All-weaker (λ z. y < z) (λ z. x < z) (λ z m. omega arith) ys r.0), r)

step_of_rising : (xs : List ℕ) (k : ℕ) → Rising xs → suc k < length xs → get_or xs k 0 < get_or xs (suc k) 0
step_of_rising [] k r h = absurd (omega arith)
step_of_rising (x ∷ []) k r h = absurd (omega arith)
step_of_rising (x ∷ y ∷ ys) zero r h = r.0.0
step_of_rising (x ∷ y ∷ ys) (suc k) r h = step_of_rising (y ∷ ys) k r.1 (omega arith)

pub tells_rising : (xs : List ℕ) (b : Bool) → IsAllAdjacentAnswer (λ x y r. r ≡ ltb x y) xs b → Tells b (Rising xs)
tells_rising xs true h = rising_by_steps xs (λ k l. ltb-true _ _ (sym (rw add-one at (h k 0 (omega arith)))))
tells_rising xs false h =
    λ r. false≢true (rw add-one at (h.2 0) ∙ lt-ltb _ _ (step_of_rising xs h.0 r (omega arith)))

all_without : (P : ℕ → Type 0) (p : ℕ) (xs : List ℕ) → AllByRecursion P xs → AllByRecursion P (without p xs)
all_without P p [] h = tt
all_without P p (x ∷ xs) h =
    cond_both (eqb x p) (without p xs) (x ∷ without p xs) (AllByRecursion P) (λ _. all_without P p xs h.1) (λ _. (h.0, all_without P p xs h.1))

rising_without : (p : ℕ) (xs : List ℕ) → Rising xs → Rising (without p xs)
rising_without p [] h = tt
rising_without p (x ∷ xs) h =
    cond_both (eqb x p) (without p xs) (x ∷ without p xs) Rising (λ _. rising_without p xs h.1) (λ _. (all_without (λ y. x < y) p xs h.0, rising_without p xs h.1))

all_merge_with : (P : ℕ → Type 0) (x : ℕ) (k : List ℕ → List ℕ) → P x → ((zs : List ℕ) → AllByRecursion P zs → AllByRecursion P (k zs)) → (ys : List ℕ) → AllByRecursion P ys → AllByRecursion P (merge_with x k ys)
all_merge_with P x k px hk [] h = (px, hk [] tt)
all_merge_with P x k px hk (y ∷ ys) h =
    cond_both (ltb x y) (x ∷ k (y ∷ ys)) (cond (ltb y x) (y ∷ merge_with x k ys) (x ∷ k ys)) (AllByRecursion P)
    (λ _. (px, hk (y ∷ ys) h))
    (λ _. cond_both (ltb y x) (y ∷ merge_with x k ys) (x ∷ k ys) (AllByRecursion P) (λ _. (h.0, all_merge_with P x k px hk ys h.1)) (λ _. (px, hk ys h.1)))

all_merge : (P : ℕ → Type 0) (xs ys : List ℕ) → AllByRecursion P xs → AllByRecursion P ys → AllByRecursion P (merge xs ys)
all_merge P [] ys hx hy = hy
all_merge P (x ∷ xs) ys hx hy = all_merge_with P x (merge xs) hx.0 (λ zs h. all_merge P xs zs hx.1 h) ys hy

above : (x y : ℕ) (ys : List ℕ) → x ≤ y → AllByRecursion (λ z. y < z) ys → AllByRecursion (λ z. x < z) ys
above x y ys h a = All-weaker (λ z. y < z) (λ z. x < z) (λ z l. omega arith) ys a

rising_merge_with : (x : ℕ) (xs : List ℕ) → AllByRecursion (λ z. x < z) xs → ((zs : List ℕ) → Rising zs → Rising (merge xs zs)) → (ys : List ℕ) → Rising ys → Rising (merge_with x (merge xs) ys)
rising_merge_with x xs a hk [] h = (all_merge (λ z. x < z) xs [] a tt, hk [] tt)
rising_merge_with x xs a hk (y ∷ ys) h =
    cond_both (ltb x y) (x ∷ merge xs (y ∷ ys)) (cond (ltb y x) (y ∷ merge_with x (merge xs) ys) (x ∷ merge xs ys)) Rising
    (λ e. let l : x < y = ltb-true x y e in (all_merge (λ z. x < z) xs (y ∷ ys) a (l, above x y ys (omega arith) h.0), hk (y ∷ ys) h))
    (λ e. cond_both (ltb y x) (y ∷ merge_with x (merge xs) ys) (x ∷ merge xs ys) Rising
    (λ f. let l : y < x = ltb-true y x f in
    (all_merge_with (λ z. y < z) x (merge xs) l (λ zs b. all_merge (λ z. y < z) xs zs (above y x xs (omega arith) a) b) ys h.0, rising_merge_with x xs a hk ys h.1))
    (λ f. (all_merge (λ z. x < z) xs ys a (above x y ys (ltb-false y x f) h.0), hk ys h.1)))

rising_merge : (xs ys : List ℕ) → Rising xs → Rising ys → Rising (merge xs ys)
rising_merge [] ys hx hy = hy
rising_merge (x ∷ xs) ys hx hy = rising_merge_with x xs hx.0 (λ zs h. rising_merge xs zs hx.1 h) ys hy

pub rising_resolvent : (a b : List ℕ) (p : ℕ) → Rising a → Rising b → Rising (resolvent a b p)
rising_resolvent a b p ha hb = rising_merge (without p a) (without (denial p) b) (rising_without p a ha) (rising_without (denial p) b hb)
