-- A row of a machine as bytes, one for each variable: 0 is false, 1 is true.
use Rattle.std.specs.Prelude.{◌≡◌, ℕ, ◌+◌, ◌<◌, ◌≤◌, Bool, cond, List, map, length, take, drop, Ok, Err, Result, ◌==◌, slice_index}
use Rattle.refusal.specs.declared.faults.DocketFault.{DocketFault}
use Rattle.refusal.specs.declared.faults.DocketFault.TheVariants.{UnfitArea}
use Rattle.machine.specs.Meaning.{Meaning, Fits}

-- a byte as a bit, and a bit as a byte
abbrev pub bit : ℕ → Bool
bit b = b == 1

abbrev pub byte : Bool → ℕ
byte b = cond b 1 0

abbrev pub bits : List ℕ → List Bool
bits = map bit

-- the inputs and the state that a row begins with, after variable 0
abbrev pub row_inputs : Meaning → List ℕ → List Bool
row_inputs m row = take m.inputs (drop 1 (bits row))

abbrev pub row_state : Meaning → List ℕ → List Bool
row_state m row = take m.state_bits (drop (1 + m.inputs) (bits row))

-- a row is ready for so many inputs and state bits, and so many variables: it has a byte for each, and those given are 0 or 1
abbrev pub Ready : ℕ → ℕ → List ℕ → Type 0
Ready given variables row = (variables ≤ length row) × ((k : ℕ) → k < given → slice_index row (1 + k) < 2)

-- a row can be filled: it has a byte for each variable, and those of inputs and state are 0 or 1
pub record Fillable (m : Meaning) (row : List ℕ) : Type 0 where
  pub room : m.variables ≤ length row
  pub small : (k : ℕ) → k < m.inputs + m.state_bits → slice_index row (1 + k) < 2

-- a row that was filled: the bytes of the variables are the fit, the others are as they were
pub record Filled (m : Meaning) (old new : List ℕ) : Type 0 where
  pub same_length : length new ≡ length old
  pub small : (k : ℕ) → k < m.variables → slice_index new k < 2
  pub fits : Fits m (row_state m old) (row_inputs m old) (bits (take m.variables new))
  pub rest : drop m.variables new ≡ drop m.variables old

-- what filling answers and leaves: the fit where the row can be filled; else a refusal, and the row as it was
abbrev pub Fill : Meaning → List ℕ → List ℕ → Result (Unit {0}) DocketFault → Type 0
Fill m old new (Ok _) = Fillable m old × Filled m old new
Fill m old new (Err f) = (f ≡ UnfitArea) × (Fillable m old → ⊥) × (new ≡ old)
