-- The bytes that filling a row writes, and the smallest table.
use Rattle.std.specs.Prelude.{ℕ, List, [], ◌∷◌, map, ◌==◌}
use Rattle.std.specs.List.{range_with_len}
use Rattle.machine.specs.Rows.{byte}
use Rattle.table_format.specs.Stepping.{binary_digit}

-- a byte for each of the lowest bits of a number, bit 0 first
abbrev pub bit_bytes : ℕ → ℕ → List ℕ
bit_bytes value count = map (λ k. byte (binary_digit value k)) (range_with_len 0 count)

-- a byte for each of so many rows, 1 for one of them
abbrev pub mark_bytes : ℕ → ℕ → List ℕ
mark_bytes row count = map (λ k. byte (k == row)) (range_with_len 0 count)

-- the smallest table: no inputs, no state bits, one rule, which its row does not break
abbrev pub smallest_bytes : List ℕ
smallest_bytes = 1 ∷ 0 ∷ 0 ∷ 1 ∷ 2 ∷ 0 ∷ 0 ∷ 0 ∷ 0 ∷ 0 ∷ 0 ∷ 3 ∷ []
