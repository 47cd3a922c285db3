-- Step tables, their bounds, and the bytes that encode one.
use Rattle.std.specs.Prelude.{◌≡◌, ℕ, ◌+◌, ◌*◌, ◌/◌, ◌%◌, ◌^◌, ◌<◌, ◌≤◌, List, [], ◌∷◌, ◌++◌, length, slice_index}
use Rattle.std.specs.List.{range_with_len, flat_map}

-- a table has a row for every state and inputs: the next state as a number, and the broken rules, bit o for rule o
pub record Table : Type 0 where
  pub inputs : ℕ
  pub state_bits : ℕ
  pub rules : ℕ
  pub next : ℕ → ℕ
  pub broken : ℕ → ℕ

-- how many rows there are; row r is state s and inputs x as numbers, r = s * 2 ^ inputs + x
abbrev pub rows : Table → ℕ
rows t = 2 ^ (t.inputs + t.state_bits)

-- a table within bounds
pub record Bounded (t : Table) : Type 0 where
  pub few_bits : t.inputs + t.state_bits ≤ 10
  pub rules_some : 1 ≤ t.rules
  pub rules_few : t.rules ≤ 32
  pub states : (r : ℕ) → r < rows t → t.next r < 2 ^ t.state_bits
  pub marks : (r : ℕ) → r < rows t → t.broken r < 2 ^ t.rules

-- a row as bytes: kind 2, the next state in two, the broken rules in four, the lowest first
abbrev pub row_bytes : Table → ℕ → List ℕ
row_bytes t r = 2 ∷ t.next r % 256 ∷ t.next r / 256 ∷ t.broken r % 256 ∷ t.broken r / 256 % 256 ∷ t.broken r / 65536 % 256 ∷ t.broken r / 16777216 ∷ []

-- a table as bytes: kind 1 with the sizes, the rows, kind 3
abbrev pub encoded : Table → List ℕ
encoded t = 1 ∷ t.inputs ∷ t.state_bits ∷ t.rules ∷ (flat_map (row_bytes t) (range_with_len 0 (rows t)) ++ 3 ∷ [])

-- these bytes are a table within bounds
abbrev pub Encodes : List ℕ → Type 0
Encodes bytes = (t : Table) × Bounded t × (bytes ≡ encoded t)

-- the table that stands in bytes: row r has the seven bytes from 4 + 7 * r on
abbrev pub table_of : List ℕ → Table
table_of bytes = record {
  inputs = slice_index bytes 1;
  state_bits = slice_index bytes 2;
  rules = slice_index bytes 3;
  next = λ r. slice_index bytes (5 + 7 * r) + slice_index bytes (6 + 7 * r) * 256;
  broken = λ r. slice_index bytes (7 + 7 * r) + slice_index bytes (8 + 7 * r) * 256 + slice_index bytes (9 + 7 * r) * 65536 + slice_index bytes (10 + 7 * r) * 16777216;
}

-- the table that stands in these bytes is within bounds, and they hold no more
abbrev pub Good : List ℕ → Type 0
Good bytes = Bounded (table_of bytes) × (length bytes ≡ 5 + 7 * rows (table_of bytes))
