-- Clauses that are made literal by literal, each moved to a frame.
use Rattle.std.proofs.Common.{◌≡◌, ℕ, suc, ◌+◌, ◌*◌, ◌<◌, List, [], ◌∷◌, length, get_or, Some, Option, sym, ap, ◌∙◌, subst, add-one, arith}
use Rattle.machine.specs.Lists.{entry}
use Rattle.machine.specs.Meaning.{Meaning, Lawful}
use Rattle.question_theory.specs.Unrolling.{moved, literal_of_state}
use Rattle.unrolling.proofs.Answered.{got}

-- the literals of a clause that the machine answered
pub literal_low : (m : Meaning) → Lawful m → (n k : ℕ) (xs : List ℕ) → n < length m.clauses → xs ≡ get_or m.clauses n [] → k < length xs → get_or xs k 0 < 2 * m.variables
literal_low m law n k xs h e l = subst (λ (ys : List ℕ). get_or ys k 0 < 2 * m.variables) (sym e) (law.clause_low n k h (subst (λ (ys : List ℕ). k < length ys) e l))

-- the literals of a tie
pub next_moved : (m : Meaning) → Lawful m → (t i : ℕ) → i < m.state_bits → (r : Option ℕ) (x from : ℕ) → r ≡ entry m.next i → r ≡ Some x → from ≡ moved m t x →
    from ≡ moved m t (get_or m.next i 0)
next_moved m law t i h r x from e f is = is ∙ ap (moved m t) (got m.next i 0 r x (omega (arith, law.next_size)) e f)

pub bit_moved : (m : Meaning) (t i x to : ℕ) → x ≡ literal_of_state m i → to ≡ moved m (t + 1) x → to ≡ moved m (suc t) (literal_of_state m i)
bit_moved m t i x to e is = is ∙ ap (moved m (t + 1)) e ∙ ap (λ (k : ℕ). moved m k (literal_of_state m i)) (add-one t)

pub two : {a b c d : ℕ} → a ≡ b → c ≡ d → ◌≡◌ {A = List ℕ} (a ∷ c ∷ []) (b ∷ d ∷ [])
two e f = cc
