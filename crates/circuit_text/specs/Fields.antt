-- Numbers, spaces and line endings at a byte of a text.
use Rattle.std.specs.Prelude.{ℕ, ◌+◌, cond, ◌&&◌, List, length, drop, Some, None, Option, ◌==◌, nat_lt, slice_index}
use Rattle.decimal.specs.Number.{number_of}
use Rattle.circuit_text.specs.Chains.{and_then}

-- the place after a byte, if that stands at `at`
unfoldable pub end_of_byte : ℕ → List ℕ → ℕ → Option ℕ
end_of_byte byte text at = cond (nat_lt at (length text) && slice_index text at == byte) (Some (at + 1)) None

-- the place after the end of a line, which is a line feed
abbrev pub end_of_line : List ℕ → ℕ → Option ℕ
end_of_line text at = end_of_byte 10 text at

-- a number of at most seven digits, and the place after it
unfoldable pub number_at : List ℕ → ℕ → Option (ℕ × ℕ)
number_at text at = and_then (number_of (drop at text)) (λ n. cond (nat_lt n.0 10000000) (Some (n.0, at + n.1)) None)

-- one space, then a number
unfoldable pub spaced_at : List ℕ → ℕ → Option (ℕ × ℕ)
spaced_at text at = and_then (end_of_byte 32 text at) (number_at text)
