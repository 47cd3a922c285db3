-- The text of a circuit as a whole: what is answered, and what the area holds then.
use Rattle.std.specs.Prelude.{◌≡◌, ℕ, ◌-◌, ◌≤◌, Bool, cond, ◌&&◌, List, ◌++◌, length, take, drop, replicate, Some, None, Ok, Err, Option, Result, ◌==◌, nat_le, slice_index}
use Rattle.refusal.specs.declared.faults.TextFault.{TextFault}
use Rattle.refusal.specs.declared.faults.TextFault.TheVariants as fault
use Rattle.refusal.specs.declared.faults.TextRefusal.{TextRefusal}
use Rattle.aiger.specs.declared.header.Header.{Header}
use Rattle.aiger.specs.Numbers.{admitted, needed}
use Rattle.circuit_text.specs.Chains.{and_then, carried}
use Rattle.circuit_text.specs.Fields.{end_of_line, spaced_at}
use Rattle.circuit_text.specs.Sections.{sections_read}

-- the text begins with `aag`
abbrev pub marked : List ℕ → Bool
marked text = nat_le 3 (length text) && (slice_index text 0 == 97 && (slice_index text 1 == 97 && slice_index text 2 == 103))

-- M I L O A, each after one space, then the end of the line; and where the second line begins
abbrev pub numbers_at : List ℕ → Option (Header × ℕ)
numbers_at text =
    and_then (spaced_at text 3) (λ m.
    and_then (spaced_at text m.1) (λ i.
    and_then (spaced_at text i.1) (λ l.
    and_then (spaced_at text l.1) (λ o.
    and_then (spaced_at text o.1) (λ a.
    and_then (end_of_line text a.1) (λ start.
    Some (record { maximum = m.0; inputs = i.0; latches = l.0; outputs = o.0; gates = a.0 }, start)))))))

-- the first line
abbrev pub header_at : List ℕ → Option (Header × ℕ)
header_at text = cond (marked text) (numbers_at text) None

-- a refusal of the first line
abbrev pub refused : {X : Type 0} → TextFault → Result X TextRefusal
refused f = Err record { fault = f; offset = 0 }

-- the questions on the first line, for an area of `size` numbers
abbrev pub opened_header : ℕ → Option (Header × ℕ) → Result (Header × ℕ) TextRefusal
opened_header size None = refused fault.Header
opened_header size (Some p) = elim (admitted p.0 size) [ Ok _ ↦ Ok p | Err f ↦ refused f ]

abbrev pub opening_of : List ℕ → ℕ → Result (Header × ℕ) TextRefusal
opening_of text size = opened_header size (header_at text)

-- the first line, then the sections: the header and the numbers of the circuit, or the first refusal
unfoldable pub circuit_of : List ℕ → ℕ → Result (Header × List ℕ) TextRefusal
circuit_of text size =
    carried (opening_of text size) (λ p.
    carried (sections_read p.0 text p.1) (λ read.
    Ok (p.0, read.0)))

-- what is answered
abbrev pub answer_of : Result (Header × List ℕ) TextRefusal → Result Header TextRefusal
answer_of circuit = carried circuit (λ p. Ok p.0)

-- what an area of `size` numbers holds then: the circuit's numbers and zeros, or zeros alone
abbrev pub area_of : ℕ → Result (Header × List ℕ) TextRefusal → List ℕ
area_of size (Ok p) = p.1 ++ replicate (size - length p.1) 0
area_of size (Err _) = replicate size 0

-- the area begins with the circuit's numbers, and is as it was after them
pub record Fills (circuit : Result (Header × List ℕ) TextRefusal) (h : Header) (old new : List ℕ) : Type 0 where
  pub room : needed h ≤ length new
  pub stored : circuit ≡ Ok (h, take (needed h) new)
  pub rest : drop (needed h) new ≡ drop (needed h) old
