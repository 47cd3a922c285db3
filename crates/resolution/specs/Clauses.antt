-- Literals, clauses, and the settings of variables that satisfy them.
use Rattle.std.specs.Prelude.{ℕ, ◌+◌, ◌-◌, ◌/◌, ◌%◌, ◌<◌, Bool, true, false, cond, not, ◌&&◌, ◌||◌, List, [], ◌∷◌, ◌==◌, ◌≢◌}
use Rattle.std.specs.List.{AllByRecursion}

-- literal 2v says that variable v is true, 2v + 1 that it is false
unfoldable pub literal_true : (ℕ → Bool) → ℕ → Bool
literal_true v l = cond (l % 2 == 0) (v (l / 2)) (not (v (l / 2)))

-- the other literal of the same variable
unfoldable pub denial : ℕ → ℕ
denial l = cond (l % 2 == 0) (l + 1) (l - 1)

-- a clause holds when at least one of its literals is true
abbrev pub holds : (ℕ → Bool) → List ℕ → Bool
holds v [] = false
holds v (l ∷ ls) = literal_true v l || holds v ls

-- every clause holds
abbrev pub models : (ℕ → Bool) → List (List ℕ) → Bool
models v [] = true
models v (c ∷ cs) = holds v c && models v cs

-- no setting satisfies all the clauses
abbrev pub Unsat : List (List ℕ) → Type 0
Unsat cs = (v : ℕ → Bool) → models v cs ≢ true

-- strictly rising
abbrev pub Rising : List ℕ → Type 0
Rising [] = Unit {0}
Rising (x ∷ xs) = AllByRecursion (λ y. x < y) xs × Rising xs
