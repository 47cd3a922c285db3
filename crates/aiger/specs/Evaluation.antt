-- What a circuit means: its gates evaluated in order, and the clauses of each gate.
use Rattle.std.specs.Prelude.{ℕ, ◌+◌, ◌*◌, Bool, false, cond, ◌&&◌, List, [], ◌∷◌, ◌++◌, map, take, drop, replicate, nat_lt, slice_index}
use Rattle.resolution.specs.Clauses.{denial}
use Rattle.machine.specs.Meaning.{Meaning, lit}
use Rattle.aiger.specs.declared.header.Header.{Header}

-- the parts of the area: next literals, outputs (each says that a rule is broken), and operands a, b, a, b, .. of the gates
abbrev pub next_literals : Header → List ℕ → List ℕ
next_literals h area = take h.latches area

abbrev pub rule_literals : Header → List ℕ → List ℕ
rule_literals h area = take h.outputs (drop h.latches area)

abbrev pub operands : Header → List ℕ → List ℕ
operands h area = drop (h.latches + h.outputs) area

-- each gate in order adds its value to the row: whether both its operands are true
abbrev pub grow : List Bool → List ℕ → List Bool
grow w [] = w
grow w (a ∷ []) = w
grow w (a ∷ b ∷ r) = grow (w ++ (lit w a && lit w b) ∷ []) r

-- the row of state s and inputs x: variable 0 is false, then inputs, state and gates
abbrev pub evaluated : Header → List ℕ → List Bool → List Bool → List Bool
evaluated h area s x = grow (false ∷ (x ++ s)) (operands h area)

-- two literals before others: upward, once if they are the same
abbrev pub two : ℕ → ℕ → List ℕ → List ℕ
two x y r = cond (nat_lt x y) (x ∷ y ∷ r) (cond (nat_lt y x) (y ∷ x ∷ r) (x ∷ r))

-- the clauses of a gate with literal g, denied by g + 1, and operands a and b: g is true exactly when both are
abbrev pub clauses_of_gate : ℕ → ℕ → ℕ → List (List ℕ)
clauses_of_gate g a b = (a ∷ (g + 1) ∷ []) ∷ (b ∷ (g + 1) ∷ []) ∷ two (denial a) (denial b) (g ∷ []) ∷ []

-- the clauses of all gates, the first of which has variable v
abbrev pub gate_clauses : ℕ → List ℕ → List (List ℕ)
gate_clauses v [] = []
gate_clauses v (a ∷ []) = []
gate_clauses v (a ∷ b ∷ r) = clauses_of_gate (2 * v) a b ++ gate_clauses (v + 1) r

-- a circuit as a machine: latches start false, the row gives next state and rules, clause 0 makes variable 0 false
abbrev pub meant : Header → List ℕ → Meaning
meant h area = record {
  inputs = h.inputs;
  state_bits = h.latches;
  rules = h.outputs;
  variables = h.maximum + 1;
  start = replicate h.latches false;
  step = λ s x. map (lit (evaluated h area s x)) (next_literals h area);
  broken = λ o s x. lit (evaluated h area s x) (slice_index (rule_literals h area) o);
  clauses = (1 ∷ []) ∷ gate_clauses (1 + h.inputs + h.latches) (operands h area);
  next = next_literals h area;
  rule = rule_literals h area;
}
