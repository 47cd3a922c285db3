-- Which numbers make a circuit: a header, and an area of next literals, outputs and gate operands.
use Rattle.std.specs.Prelude.{◌≡◌, ℕ, ◌+◌, ◌*◌, ◌<◌, ◌≤◌, cond, ◌&&◌, List, length, Ok, Err, Result, ◌==◌, nat_le, slice_index}
use Rattle.refusal.specs.declared.faults.TextFault.{TextFault}
use Rattle.refusal.specs.declared.faults.TextFault.TheVariants.{Sum, Bounds, ShortArea}
use Rattle.aiger.specs.declared.header.Header.{Header}

-- how many numbers the circuit has in its area
abbrev pub needed : Header → ℕ
needed h = h.latches + h.outputs + 2 * h.gates

-- the questions on the header's numbers and the length of the area, in order
abbrev pub admitted : Header → ℕ → Result (Unit {0}) TextFault
admitted h size =
    cond (h.maximum == h.inputs + h.latches + h.gates)
    (cond (nat_le h.maximum 16383 && (nat_le 1 h.outputs && nat_le h.outputs 32))
    (cond (nat_le (needed h) size) (Ok tt) (Err ShortArea))
    (Err Bounds))
    (Err Sum)

-- the same as a fact: all of them are answered yes
abbrev pub Admitted : Header → ℕ → Type 0
Admitted h size =
    (h.maximum ≡ h.inputs + h.latches + h.gates)
    × (h.maximum ≤ 16383)
    × (1 ≤ h.outputs)
    × (h.outputs ≤ 32)
    × (needed h ≤ size)

-- the literal of gate j, counted from 0
abbrev pub gate_literal : Header → ℕ → ℕ
gate_literal h j = 2 * (1 + h.inputs + h.latches + j)

-- next literals and outputs are at most 2M + 1
abbrev pub Heads : Header → List ℕ → Type 0
Heads h area = (k : ℕ) → k < h.latches + h.outputs → slice_index area k ≤ 2 * h.maximum + 1

-- operands a, b of each gate g: g > a ≥ b
abbrev pub Gates : Header → List ℕ → Type 0
Gates h area = (j : ℕ) → j < h.gates →
    (slice_index area (h.latches + h.outputs + 2 * j) < gate_literal h j)
    × (slice_index area (h.latches + h.outputs + (2 * j + 1)) ≤ slice_index area (h.latches + h.outputs + 2 * j))

-- header and area make a circuit
abbrev pub Good : Header → List ℕ → Type 0
Good h area = Admitted h (length area) × Heads h area × Gates h area
