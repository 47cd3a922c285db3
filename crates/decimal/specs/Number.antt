-- The number that a text begins with.
use Rattle.std.specs.Prelude.{◌≡◌, ℕ, ◌+◌, ◌-◌, ◌*◌, ◌^◌, ◌<◌, Bool, false, cond, not, ◌&&◌, ◌||◌, List, [], ◌∷◌, ◌++◌, length, Some, None, decimal, Option, ◌==◌, nat_le, nat_lt, slice_index}

-- `0` to `9`
abbrev pub is_digit : ℕ → Bool
is_digit c = nat_le 48 c && nat_le c 57

-- the digits that a text begins with
abbrev pub leading : List ℕ → List ℕ
leading [] = []
leading (c ∷ cs) = cond (is_digit c) (c ∷ leading cs) []

-- the value of digits that stand after those of n
abbrev pub value_on : ℕ → List ℕ → ℕ
value_on n [] = n
value_on n (c ∷ cs) = value_on (n * 10 + (c - 48)) cs

-- the value and the count of digits, where the value fits 32 bits
abbrev pub fitting : List ℕ → Option (ℕ × ℕ)
fitting ds = cond (nat_lt (value_on 0 ds) (2 ^ 32)) (Some (value_on 0 ds, length ds)) None

-- one digit, or more of which the first is no zero
abbrev pub plain : ℕ → ℕ → Bool
plain first size = size == 1 || (nat_le 2 size && not (first == 48))

-- the number that a text begins with, and how many bytes it takes
unfoldable pub number_of : List ℕ → Option (ℕ × ℕ)
number_of text = cond (plain (slice_index text 0) (length (leading text))) (fitting (leading text)) None

-- what may follow a number: the end, or a byte that is no digit
abbrev pub Stops : List ℕ → Type 0
Stops rest = is_digit (slice_index rest 0) ≡ false

-- the same in other words: the text begins with n in decimal, in k bytes, and no digit follows
pub record Number (text : List ℕ) (n k : ℕ) : Type 0 where
  pub rest : List ℕ
  pub here : text ≡ decimal n ++ rest
  pub size : k ≡ length (decimal n)
  pub fits : n < 2 ^ 32
  pub stops : Stops rest
