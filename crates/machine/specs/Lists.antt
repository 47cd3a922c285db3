-- An entry of a list by its number.
use Rattle.std.specs.Prelude.{ℕ, zero, suc, List, [], ◌∷◌, Some, None, Option}

-- entry i, counted from 0; absent at or beyond the length
unfoldable pub entry : {A : Type 0} → List A → ℕ → Option A
entry [] i = None
entry (x ∷ xs) zero = Some x
entry (x ∷ xs) (suc i) = entry xs i
