-- One line of a circuit's text: its form, and the questions put to its numbers.
use Rattle.std.specs.Prelude.{ℕ, ◌+◌, ◌*◌, cond, ◌&&◌, List, [], ◌∷◌, Some, None, Ok, Err, Option, Result, ◌==◌, nat_le, nat_lt}
use Rattle.refusal.specs.declared.faults.TextFault.{TextFault}
use Rattle.refusal.specs.declared.faults.TextFault.TheVariants.{Form, FirstNumber, Literal}
use Rattle.aiger.specs.declared.header.Header.{Header}
use Rattle.circuit_text.specs.declared.line.LineKind.{LineKind}
use Rattle.circuit_text.specs.declared.line.LineKind.TheVariants.{Input, Latch, Output, Gate}
use Rattle.circuit_text.specs.declared.line.Kept.{Kept}
use Rattle.circuit_text.specs.declared.line.Kept.TheVariants.{Nothing, One, Two}
use Rattle.circuit_text.specs.declared.line.Line.{Line}
use Rattle.circuit_text.specs.declared.line.Line.TheVariants.{Input as InputLine, Latch as LatchLine, Output as OutputLine, Gate as GateLine}
use Rattle.circuit_text.specs.Chains.{and_then, carried}
use Rattle.circuit_text.specs.Fields.{end_of_line, number_at, spaced_at}

-- a line in form: one number for an input or an output, two for a latch, three for a gate
abbrev pub form_at : LineKind → List ℕ → ℕ → Option (Line × ℕ)
form_at Input text at = and_then (number_at text at) (λ n. and_then (end_of_line text n.1) (λ end. Some (InputLine n.0, end)))
form_at Latch text at = and_then (number_at text at) (λ n. and_then (spaced_at text n.1) (λ x. and_then (end_of_line text x.1) (λ end. Some (LatchLine n.0 x.0, end))))
form_at Output text at = and_then (number_at text at) (λ n. and_then (end_of_line text n.1) (λ end. Some (OutputLine n.0, end)))
form_at Gate text at =
    and_then (number_at text at) (λ g. and_then (spaced_at text g.1) (λ a. and_then (spaced_at text a.1) (λ b.
    and_then (end_of_line text b.1) (λ end. Some (GateLine g.0 a.0 b.0, end)))))

-- the numbers that the area keeps of a line, in order
abbrev pub listed : Kept → List ℕ
listed Nothing = []
listed (One a) = a ∷ []
listed (Two a b) = a ∷ b ∷ []

-- the questions on line i of a kind, counted from 0: first number, then the literals; and the numbers that the area keeps of it
abbrev pub questioned : Header → ℕ → Line → Result (List ℕ) TextFault
questioned h i (InputLine n) = cond (n == 2 * (1 + i)) (Ok []) (Err FirstNumber)
questioned h i (LatchLine n x) =
    cond (n == 2 * (1 + h.inputs + i)) (cond (nat_le x (2 * h.maximum + 1)) (Ok (x ∷ [])) (Err Literal)) (Err FirstNumber)
questioned h i (OutputLine x) = cond (nat_le x (2 * h.maximum + 1)) (Ok (x ∷ [])) (Err Literal)
questioned h i (GateLine g a b) =
    cond (g == 2 * (1 + h.inputs + h.latches + i)) (cond (nat_lt a g && nat_le b a) (Ok (a ∷ b ∷ [])) (Err Literal)) (Err FirstNumber)

-- the questions on a line in form, with where the next line begins
abbrev pub asked : Header → ℕ → Option (Line × ℕ) → Result (List ℕ × ℕ) TextFault
asked h i None = Err Form
asked h i (Some l) = carried (questioned h i l.0) (λ kept. Ok (kept, l.1))

-- line i of a kind at a byte: is it in form, and then the questions
unfoldable pub line_at : Header → LineKind → ℕ → List ℕ → ℕ → Result (List ℕ × ℕ) TextFault
line_at h kind i text at = asked h i (form_at kind text at)
