-- What a literal says of linked rows: of the state in a row, and whether a row breaks the rule.
use Rattle.std.proofs.Common.{◌≡◌, ℕ, ◌+◌, ◌-◌, ◌*◌, ◌/◌, ◌<◌, ◌≤◌, Bool, List, get_or, sym, ap, ◌∙◌, arith}
use Rattle.resolution.specs.Clauses.{literal_true}
use Rattle.resolution.proofs.Settings.{true_same}
use Rattle.machine.specs.Meaning.{Meaning, Lawful}
use Rattle.question_theory.specs.Unrolling.{moved, linked_state, broken_at, row_at, LinkedRows}
use Rattle.question_theory.specs.Traces.{OfState, state_setting}
use Rattle.question_theory.proofs.LinkedRows.{literal_at, state_bit}

-- a literal of the state in row t
pub state_true : (m : Meaning) → Lawful m → (n : ℕ) (v : ℕ → Bool) (s : List Bool) (ins : ℕ → List Bool) → LinkedRows m n v s ins → (t : ℕ) → t ≤ n →
    (l : ℕ) → OfState m l → literal_true v (moved m t l) ≡ literal_true (state_setting m (linked_state m s ins t)) l
state_true m law n v s ins r t h l o =
    let e : moved m t l / 2 ≡ t * m.variables + (1 + m.inputs + (l / 2 - (1 + m.inputs))) = omega arith in
    true_same v (state_setting m (linked_state m s ins t)) (moved m t l) l (omega arith)
    (ap v e ∙ state_bit m law v t (linked_state m s ins t) (ins t) (r.fits t h) (l / 2 - (1 + m.inputs)) (omega arith))

pub first_true : (m : Meaning) → Lawful m → (n : ℕ) (v : ℕ → Bool) (s : List Bool) (ins : ℕ → List Bool) → LinkedRows m n v s ins →
    (l : ℕ) → OfState m l → literal_true v l ≡ literal_true (state_setting m s) l
first_true m law n v s ins r l o =
    let e : l ≡ moved m 0 l = omega arith in
    ap (literal_true v) e ∙ state_true m law n v s ins r 0 (omega arith) l o

-- the rule in row t
pub rule_true : (m : Meaning) → Lawful m → (n : ℕ) (v : ℕ → Bool) (s : List Bool) (ins : ℕ → List Bool) → LinkedRows m n v s ins → (t : ℕ) → t ≤ n →
    (o : ℕ) → o < m.rules → literal_true v (moved m t (get_or m.rule o 0)) ≡ broken_at m o s ins t
rule_true m law n v s ins r t h o l =
    literal_at m v t (get_or m.rule o 0) (law.rule_low o l) ∙ sym (law.breaks (linked_state m s ins t) (ins t) (row_at m v t) o l (r.fits t h))
