-- Which lines of a text are no calls.
use Rattle.std.specs.Prelude.{ℕ, Bool, true, ◌&&◌, ◌||◌, List, [], ◌∷◌, ◌==◌, slice_index}

-- nothing but spaces and tabs
abbrev pub blank : List ℕ → Bool
blank [] = true
blank (b ∷ bs) = (b == 32 || b == 9) && blank bs

-- blank, or a remark
abbrev pub passed_over : List ℕ → Bool
passed_over line = slice_index line 0 == 35 || blank line
