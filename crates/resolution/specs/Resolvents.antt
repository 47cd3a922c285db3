-- The resolvent of two clauses.
use Rattle.std.specs.Prelude.{◌≡◌, ℕ, Bool, false, cond, not, ◌&&◌, ◌||◌, List, [], ◌∷◌, ◌==◌, nat_lt}
use Rattle.resolution.specs.Clauses.{denial, Rising}

-- merge (x ∷ xs), given k = merge xs
abbrev pub merge_with : ℕ → (List ℕ → List ℕ) → List ℕ → List ℕ
merge_with x k [] = x ∷ k []
merge_with x k (y ∷ ys) = cond (nat_lt x y) (x ∷ k (y ∷ ys)) (cond (nat_lt y x) (y ∷ merge_with x k ys) (x ∷ k ys))

-- two rising lists as one, a literal of both once
abbrev pub merge : List ℕ → List ℕ → List ℕ
merge [] = λ ys. ys
merge (x ∷ xs) = merge_with x (merge xs)

-- a clause without one literal
abbrev pub without : ℕ → List ℕ → List ℕ
without p [] = []
without p (x ∷ xs) = cond (x == p) (without p xs) (x ∷ without p xs)

-- left without the pivot, joined with right without its denial
abbrev pub resolvent : List ℕ → List ℕ → ℕ → List ℕ
resolvent left right pivot = merge (without pivot left) (without (denial pivot) right)

-- whether a literal is in a clause
abbrev pub contains : ℕ → List ℕ → Bool
contains x [] = false
contains x (y ∷ ys) = y == x || contains x ys

-- a literal is in the resolvent exactly when it is in left and not the pivot, or in right and not its denial; and the resolvent of rising clauses rises
abbrev pub ResolventsLaw : Type 0
ResolventsLaw = (left right : List ℕ) (pivot : ℕ) →
    ((x : ℕ) → contains x (resolvent left right pivot) ≡ ((contains x left && not (x == pivot)) || (contains x right && not (x == denial pivot))))
    × (Rising left → Rising right → Rising (resolvent left right pivot))
