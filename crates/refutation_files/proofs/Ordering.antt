-- Rising clauses, by their last literal.
use Rattle.std.proofs.Common.{◌≡◌, ℕ, suc, ◌-◌, ◌<◌, ◌≤◌, true, false, List, [], ◌∷◌, ◌++◌, length, get_or, subst, arith}
use Rattle.std.proofs.ByRecursion.{All-push, All-get_or}
use Rattle.std.proofs.lemmas.Bool.Decides.{nat_tests}
use Rattle.std.specs.List.{AllByRecursion}
use Rattle.resolution.specs.Clauses.{Rising}
use Rattle.resolution.specs.Lists.{above}

pub rising_push : (c : List ℕ) (l : ℕ) → Rising c → AllByRecursion (λ y. y < l) c → Rising (c ++ l ∷ [])
rising_push [] l r a = (tt, tt)
rising_push (x ∷ xs) l r a = (All-push (λ y. x < y) xs l r.0 a.0, rising_push xs l r.1 a.1)

all_middle : (P : ℕ → Type 0) (c d : List ℕ) (l : ℕ) → AllByRecursion P (c ++ l ∷ d) → P l
all_middle P [] d l a = a.0
all_middle P (x ∷ xs) d l a = all_middle P xs d l a.1

pub rising_below : (c d : List ℕ) (l : ℕ) → Rising (c ++ l ∷ d) → AllByRecursion (λ y. y < l) c
rising_below [] d l r = tt
rising_below (x ∷ xs) d l r = (all_middle (λ y. x < y) xs d l r.0, rising_below xs d l r.1)

pub last_below : (c : List ℕ) (l : ℕ) → Rising c → get_or c (length c - 1) 0 < l → AllByRecursion (λ y. y < l) c
last_below [] l r h = tt
last_below (x ∷ []) l r h = (h, tt)
last_below (x ∷ y ∷ ys) l r h =
    let e : suc (suc (length ys)) - 1 ≡ suc (suc (length ys) - 1) = omega arith in
    let t = last_below (y ∷ ys) l r.1 (subst (λ (k : ℕ). get_or (x ∷ y ∷ ys) k 0 < l) e h) in
    (omega (arith, r.0.0, t.0), t)

-- a literal above the last one of a rising clause is above all of them, and no other is
pub above_all : (c : List ℕ) (l : ℕ) → Rising c → above c l ≡ true → AllByRecursion (λ y. y < l) c
unfolding above
above_all [] l r h = tt
above_all (x ∷ xs) l r h = let n : get_or (x ∷ xs) (length (x ∷ xs) - 1) 0 < l = grind (arith, nat_tests) in last_below (x ∷ xs) l r n

pub not_above : (c : List ℕ) (l : ℕ) → above c l ≡ false → AllByRecursion (λ y. y < l) c → ⊥
unfolding above
not_above [] l h a = let n : ◌≡◌ {A = ℕ} 0 1 = cc in absurd (omega arith)
not_above (x ∷ xs) l h a =
    let n : l ≤ get_or (x ∷ xs) (length (x ∷ xs) - 1) 0 = grind (arith, nat_tests) in
    let k = All-get_or (λ y. y < l) (x ∷ xs) (length (x ∷ xs) - 1) 0 (omega arith) a in
    omega arith
