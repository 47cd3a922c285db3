-- The sections of a circuit's text: the lines of each kind, and the numbers that the area keeps of them.
use Rattle.std.specs.Prelude.{◌≡◌, ℕ, zero, suc, ◌+◌, List, [], ◌++◌, take, drop, Ok, Err, Result}
use Rattle.refusal.specs.declared.faults.TextRefusal.{TextRefusal}
use Rattle.aiger.specs.declared.header.Header.{Header}
use Rattle.circuit_text.specs.declared.line.LineKind.{LineKind}
use Rattle.circuit_text.specs.declared.line.LineKind.TheVariants.{Input, Latch, Output, Gate}
use Rattle.circuit_text.specs.Chains.{carried}
use Rattle.circuit_text.specs.Lines.{line_at}

-- how many numbers the area keeps of a line of a kind
abbrev pub width : LineKind → ℕ
width Input = 0
width Latch = 1
width Output = 1
width Gate = 2

-- how many lines of a kind a circuit has
abbrev pub lines_of : Header → LineKind → ℕ
lines_of h Input = h.inputs
lines_of h Latch = h.latches
lines_of h Output = h.outputs
lines_of h Gate = h.gates

-- the numbers read so far, and where the next line begins
abbrev pub Read : Type 0
Read = List ℕ × ℕ

-- n lines of a kind from number i on; a refusal tells the first byte of its line
unfoldable pub lines_on : Header → LineKind → List ℕ → ℕ → ℕ → Read → Result Read TextRefusal
lines_on h kind text zero i r = Ok r
lines_on h kind text (suc n) i r =
    elim (line_at h kind i text r.1) [
      | Ok l ↦ lines_on h kind text n (i + 1) (r.0 ++ l.0, l.1)
      | Err f ↦ Err record { fault = f; offset = r.1 }
    ]

-- the lines of one kind
abbrev pub section_on : Header → LineKind → List ℕ → Read → Result Read TextRefusal
section_on h kind text r = lines_on h kind text (lines_of h kind) 0 r

-- inputs, latches, outputs, gates, from the second line on
abbrev pub sections_read : Header → List ℕ → ℕ → Result Read TextRefusal
sections_read h text start =
    carried (section_on h Input text ([], start)) (λ inputs.
    carried (section_on h Latch text inputs) (λ latches.
    carried (section_on h Output text latches) (λ outputs.
    section_on h Gate text outputs)))

-- the area holds what was read up to `used`, and is as it was from there on
pub record Stores (read : Result Read TextRefusal) (old new : List ℕ) (offset used : ℕ) : Type 0 where
  pub stored : read ≡ Ok (take used new, offset)
  pub rest : drop used new ≡ drop used old
