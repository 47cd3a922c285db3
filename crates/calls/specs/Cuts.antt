-- A text cut at the first of a byte.
use Rattle.std.specs.Prelude.{ℕ, ◌-◌, cond, ◌&&◌, List, [], ◌∷◌, length, take, ◌==◌, nat_lt, slice_index}

-- what stands before the first separator, or the whole
abbrev pub before : ℕ → List ℕ → List ℕ
before s [] = []
before s (b ∷ bs) = cond (b == s) [] (b ∷ before s bs)

-- what stands after the first separator, or nothing
abbrev pub after : ℕ → List ℕ → List ℕ
after s [] = []
after s (b ∷ bs) = cond (b == s) bs (after s bs)

-- a line without a carriage return at its end
abbrev pub shorn : List ℕ → List ℕ
shorn line = cond (nat_lt 0 (length line) && slice_index line (length line - 1) == 13) (take (length line - 1) line) line
