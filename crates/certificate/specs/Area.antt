-- The row of a run in the lent byte area.
use Rattle.std.specs.Prelude.{ℕ, ◌+◌, ◌%◌, ◌<◌, Bool, List, take, drop, slice_index}
use Rattle.machine.specs.Meaning.{Meaning}
use Rattle.machine.specs.Rows.{bit, bits}

-- the bits of so many bytes from a place on
abbrev pub part : ℕ → ℕ → List ℕ → List Bool
part from size row = take size (drop from (bits row))

-- what the lowest bit of each byte says
abbrev pub low : List ℕ → ℕ → Bool
low row k = bit (slice_index row k % 2)

-- the bytes of the first inputs are 0 or 1
abbrev pub SmallInputs : ℕ → List ℕ → Type 0
SmallInputs count row = (k : ℕ) → k < count → slice_index row (1 + k) < 2

-- the bytes of the state are 0 or 1
abbrev pub SmallState : Meaning → List ℕ → Type 0
SmallState m row = (k : ℕ) → k < m.state_bits → slice_index row (1 + m.inputs + k) < 2
