-- The text of a circuit: its numbers in decimal, line after line.
use Rattle.std.specs.Prelude.{◌≡◌, ℕ, ◌+◌, ◌-◌, ◌*◌, ◌<◌, ◌≤◌, List, [], ◌∷◌, ◌++◌, length, replicate, decimal}
use Rattle.std.specs.List.{flat_map}
use Rattle.aiger.specs.declared.header.Header.{Header}
use Rattle.aiger.specs.Numbers.{Admitted, needed, gate_literal}
use Rattle.circuit_text.specs.declared.line.LineKind.{LineKind}
use Rattle.circuit_text.specs.declared.line.LineKind.TheVariants.{Input, Latch, Output, Gate}

-- numbers, each after one space, and then a line feed
unfoldable pub spaced : List ℕ → List ℕ
spaced [] = 10 ∷ []
spaced (n ∷ ns) = 32 ∷ (decimal n ++ spaced ns)

-- a line that begins with n
abbrev pub line : ℕ → List ℕ → List ℕ
line n ns = decimal n ++ spaced ns

-- what a line tells besides its own literal: nothing, a next literal, an output, the operands a and b
abbrev pub Entry : LineKind → Type 0
Entry Input = Unit {0}
Entry Latch = ℕ
Entry Output = ℕ
Entry Gate = ℕ × ℕ

-- line i of a kind, counted from 0
abbrev pub line_of : Header → (kind : LineKind) → ℕ → Entry kind → List ℕ
line_of h Input i _ = line (2 * (1 + i)) []
line_of h Latch i next = line (2 * (1 + h.inputs + i)) (next ∷ [])
line_of h Output i literal = line literal []
line_of h Gate i operands = line (gate_literal h i) (operands.0 ∷ operands.1 ∷ [])

-- next literals and outputs are at most 2M + 1, and a gate g a b has g > a ≥ b
abbrev pub InRange : Header → (kind : LineKind) → ℕ → Entry kind → Type 0
InRange h Input i _ = Unit {0}
InRange h Latch i next = next ≤ 2 * h.maximum + 1
InRange h Output i literal = literal ≤ 2 * h.maximum + 1
InRange h Gate i operands = (operands.0 < gate_literal h i) × (operands.1 ≤ operands.0)

-- the numbers that the area holds of a line
abbrev pub numbers : (kind : LineKind) → Entry kind → List ℕ
numbers Input _ = []
numbers Latch next = next ∷ []
numbers Output literal = literal ∷ []
numbers Gate operands = operands.0 ∷ operands.1 ∷ []

-- the lines of a section, from number i on
unfoldable pub lines : Header → (kind : LineKind) → ℕ → List (Entry kind) → List ℕ
lines h kind i [] = []
lines h kind i (x ∷ xs) = line_of h kind i x ++ lines h kind (i + 1) xs

unfoldable pub AllInRange : Header → (kind : LineKind) → ℕ → List (Entry kind) → Type 0
AllInRange h kind i [] = Unit {0}
AllInRange h kind i (x ∷ xs) = InRange h kind i x × AllInRange h kind (i + 1) xs

-- `aag`, then the numbers M I L O A
abbrev pub written_header : Header → List ℕ
written_header h = 97 ∷ 97 ∷ 103 ∷ spaced (h.maximum ∷ h.inputs ∷ h.latches ∷ h.outputs ∷ h.gates ∷ [])

-- header, inputs, latches, outputs, gates
abbrev pub printed : Header → List ℕ → List ℕ → List (ℕ × ℕ) → List ℕ
printed h nexts outputs gates =
    written_header h
    ++ (lines h Input 0 (replicate h.inputs tt)
    ++ (lines h Latch 0 nexts
    ++ (lines h Output 0 outputs
    ++ lines h Gate 0 gates)))

-- the numbers of the circuit, in the order of the area
abbrev pub held : List ℕ → List ℕ → List (ℕ × ℕ) → List ℕ
held nexts outputs gates = nexts ++ (outputs ++ flat_map (numbers Gate) gates)

-- the text begins with a circuit within the bounds, and the area holds that circuit, then zeros
pub record Prints (text : List ℕ) (h : Header) (area : List ℕ) : Type 0 where
  pub nexts : List ℕ
  pub outputs : List ℕ
  pub gates : List (ℕ × ℕ)
  pub rest : List ℕ
  pub admitted : Admitted h (length area)
  pub nexts_count : length nexts ≡ h.latches
  pub outputs_count : length outputs ≡ h.outputs
  pub gates_count : length gates ≡ h.gates
  pub nexts_in_range : AllInRange h Latch 0 nexts
  pub outputs_in_range : AllInRange h Output 0 outputs
  pub gates_in_range : AllInRange h Gate 0 gates
  pub begins : text ≡ printed h nexts outputs gates ++ rest
  pub holds : area ≡ held nexts outputs gates ++ replicate (length area - needed h) 0
