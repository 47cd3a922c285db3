-- The clause of an unrolling that a number stands for, by the numbers that the machine answered.
use Rattle.std.proofs.Common.{◌≡◌, ℕ, suc, ◌+◌, ◌*◌, ◌/◌, ◌%◌, ◌<◌, ◌≤◌, ◌≢◌, List, [], ◌∷◌, map, length, get_or, Some, None, Option, sym, ap, ◌∙◌, subst, ⊎_elim, add-one, arith}
use Rattle.std.proofs.lemmas.Bool.{cases_eq, eq-eqb, ne_eqb}
use Rattle.resolution.specs.Clauses.{denial}
use Rattle.machine.specs.Lists.{entry}
use Rattle.machine.specs.Meaning.{Meaning, Lawful}
use Rattle.machine.proofs.Entries.{entry_at, entry_past}
use Rattle.question_theory.specs.Unrolling.{moved, literal_of_state, unroll}
use Rattle.unrolling.specs.Ties.{tie_at}
use Rattle.question_theory.proofs.UnrollOrder.{unroll_in_order}
use Rattle.question_theory.proofs.UnrollNumbers.{machine_by, only_if_by, true_if_by}

-- the clause of a list that stands at a number
pub found : (cs : List (List ℕ)) (k : ℕ) (xs : List ℕ) → k < length cs → xs ≡ get_or cs k [] → ◌≡◌ {A = Option (List ℕ)} (Some xs) (entry cs k)
found cs k xs h e = ap (λ (ys : List ℕ). Some ys) e ∙ sym (entry_at cs k [] h)

-- clause k of the rows, where each row has C clauses
module _ (m : Meaning) (law : Lawful m) (n k C : ℕ) (e : C ≡ length m.clauses) (h : k < (n + 1) * C) where
  below : k < suc n * length m.clauses
  below = subst (λ (x : ℕ). k < x * length m.clauses) (add-one n) (subst (λ (x : ℕ). k < (n + 1) * x) e h)

  pub row_clause : (xs : List ℕ) → xs ≡ map (moved m (k / C)) (get_or m.clauses (k % C) []) → ◌≡◌ {A = Option (List ℕ)} (Some xs) (entry (unroll m n) k)
  row_clause xs is =
      found (unroll m n) k xs (omega (arith, below, (unroll_in_order m law n).count))
      (is ∙ ap (λ (x : ℕ). map (moved m (k / x)) (get_or m.clauses (k % x) [])) e ∙ sym (machine_by m law n k below))

-- a tie by the parity of its number
module _ (m : Meaning) (t j : ℕ) where
  pub tie_even : j % 2 ≡ 0 → tie_at m t j ≡ moved m t (get_or m.next (j / 2) 0) ∷ denial (moved m (suc t) (literal_of_state m (j / 2))) ∷ []
  unfolding tie_at
  tie_even h = rw (eq-eqb (j % 2) 0 h)

  pub tie_odd : j % 2 ≡ 1 → tie_at m t j ≡ denial (moved m t (get_or m.next (j / 2) 0)) ∷ moved m (suc t) (literal_of_state m (j / 2)) ∷ []
  unfolding tie_at
  tie_odd h = rw (ne_eqb (j % 2) 0 (λ e. omega arith))

-- clause r of the ties is a tie of frame r / 2S
tie_by : (m : Meaning) → Lawful m → (n k r : ℕ) → k ≡ suc n * length m.clauses + r → r < n * (2 * m.state_bits) →
    get_or (unroll m n) k [] ≡ tie_at m (r / (2 * m.state_bits)) (r % (2 * m.state_bits))
tie_by m law n k r e h =
    let j : ℕ = r % (2 * m.state_bits) in
    let t : ℕ = r / (2 * m.state_bits) in
    ⊎_elim
    (λ (p : r % (2 * m.state_bits) % 2 ≡ 0). only_if_by m law n k r e h p ∙ sym (tie_even m t j p))
    (λ (p : r % (2 * m.state_bits) % 2 ≢ 0). let q : r % (2 * m.state_bits) % 2 ≡ 1 = omega arith in true_if_by m law n k r e h q ∙ sym (tie_odd m t j q))
    (cases_eq (r % (2 * m.state_bits) % 2) 0)

-- clause k is clause r behind the rows, where S is the number of state bits
module _ (m : Meaning) (law : Lawful m) (n k C S r : ℕ) (e : C ≡ length m.clauses) (f : S ≡ m.state_bits) (at : k ≡ (n + 1) * C + r) where
  place : k ≡ suc n * length m.clauses + r
  place = at ∙ ap (λ (x : ℕ). (n + 1) * x + r) e ∙ ap (λ (x : ℕ). x * length m.clauses + r) (add-one n)

  ties_are : n * (2 * S) ≡ n * (2 * m.state_bits)
  ties_are = ap (λ (x : ℕ). n * (2 * x)) f

  -- there is none
  pub no_clause : n * (2 * S) ≤ r → ◌≡◌ {A = Option (List ℕ)} None (entry (unroll m n) k)
  no_clause h = sym (entry_past (unroll m n) k (omega (arith, place, ties_are, (unroll_in_order m law n).count)))

  pub tie_clause_is : (xs : List ℕ) → r < n * (2 * S) → xs ≡ tie_at m (r / (2 * S)) (r % (2 * S)) → ◌≡◌ {A = Option (List ℕ)} (Some xs) (entry (unroll m n) k)
  tie_clause_is xs h is =
      let low : r < n * (2 * m.state_bits) = omega (arith, ties_are) in
      found (unroll m n) k xs (omega (arith, place, (unroll_in_order m law n).count))
      (is ∙ ap (λ (x : ℕ). tie_at m (r / (2 * x)) (r % (2 * x))) f ∙ sym (tie_by m law n k r place low))
