-- Which header and area are set as a circuit, and what is refused.
use Rattle.std.specs.Prelude.{ℕ, zero, suc, ◌+◌, ◌*◌, Bool, true, cond, ◌&&◌, List, [], ◌∷◌, length, Ok, Err, Result, nat_le, nat_lt, slice_index}
use Rattle.refusal.specs.declared.faults.TextFault.{TextFault}
use Rattle.refusal.specs.declared.faults.TextFault.TheVariants.{Literal}
use Rattle.refusal.specs.declared.faults.TextRefusal.{TextRefusal}
use Rattle.aiger.specs.declared.header.Header.{Header}
use Rattle.aiger.specs.Numbers.{admitted, gate_literal}

-- p is true of each number below n
unfoldable pub all_below : ℕ → (ℕ → Bool) → Bool
all_below zero p = true
all_below (suc n) p = all_below n p && p n

-- number k of the area, a next literal or an output, is at most 2M + 1
abbrev pub head_fits : Header → List ℕ → ℕ → Bool
head_fits h area k = nat_le (slice_index area k) (2 * h.maximum + 1)

-- operands a, b of gate j, counted from 0, with literal g: g > a ≥ b
abbrev pub gate_fits : Header → List ℕ → ℕ → Bool
gate_fits h area j =
    nat_lt (slice_index area (h.latches + h.outputs + 2 * j)) (gate_literal h j)
    && nat_le (slice_index area (h.latches + h.outputs + (2 * j + 1))) (slice_index area (h.latches + h.outputs + 2 * j))

abbrev pub heads_are_fit : Header → List ℕ → Bool
heads_are_fit h area = all_below (h.latches + h.outputs) (head_fits h area)

abbrev pub gates_are_fit : Header → List ℕ → Bool
gates_are_fit h area = all_below h.gates (gate_fits h area)

-- a refusal of numbers, which have no line of text
abbrev pub refused : TextFault → Result (Unit {0}) TextRefusal
refused f = Err (record { fault = f; offset = 0 })

-- the question on literals, put where the others were answered yes
abbrev pub then_literals : Bool → Result (Unit {0}) TextFault → Result (Unit {0}) TextRefusal
then_literals fit (Ok _) = cond fit (Ok tt) (refused Literal)
then_literals fit (Err f) = refused f

-- the questions on header and area, in order
abbrev pub judged : Header → List ℕ → Result (Unit {0}) TextRefusal
judged h area = then_literals (heads_are_fit h area && gates_are_fit h area) (admitted h (length area))

-- the smallest circuit: one output, which is never true
abbrev pub smallest_header : Header
smallest_header = record { maximum = 0; inputs = 0; latches = 0; outputs = 1; gates = 0 }

abbrev pub smallest_area : List ℕ
smallest_area = 0 ∷ []
