-- The clauses of an unrolling by their numbers alone, with quotient and remainder.
use Rattle.std.proofs.Common.{◌≡◌, ℕ, suc, ◌+◌, ◌*◌, ◌/◌, ◌%◌, ◌<◌, ◌≤◌, [], ◌∷◌, map, length, get_or, sym, ap, ◌∙◌, ⊎_elim, mul-zero, arith}
use Rattle.std.proofs.lemmas.Bool.{cases_lt}
use Rattle.std.proofs.lemmas.Nat.{div-add-mod', div_below, mod_below}
use Rattle.resolution.specs.Clauses.{denial}
use Rattle.machine.specs.Meaning.{Meaning, Lawful}
use Rattle.question_theory.specs.Unrolling.{moved, literal_of_state, unroll}
use Rattle.question_theory.proofs.UnrollOrder.{unroll_in_order}

-- a number below a product is below it only if the factor is not 0
some : (k a b : ℕ) → k < a * b → 0 < b
some k a b h =
    ⊎_elim
    (λ (p : 0 < b). p)
    (λ (z : b ≤ 0).
    let e : b ≡ 0 = omega arith in
    let none : a * b ≡ 0 = ap (λ (x : ℕ). a * x) e ∙ mul-zero a in
    let no : ⊥ = omega arith in absurd no)
    (cases_lt 0 b)

-- clause k is clause k % C of the machine moved to frame k / C
pub machine_by : (m : Meaning) → Lawful m → (n k : ℕ) → k < suc n * length m.clauses →
    get_or (unroll m n) k [] ≡ map (moved m (k / length m.clauses)) (get_or m.clauses (k % length m.clauses) [])
machine_by m law n k h =
    let C : ℕ = length m.clauses in
    let pos : 0 < C = some k (suc n) C h in
    let t< : k / C < suc n = div_below k C (suc n) pos h in
    (unroll_in_order m law n).machine k (k / C) (k % C) (sym (div-add-mod' k C)) (omega arith) (mod_below k C pos)

-- clause r of the ties is of frame r / 2S and of bit (r % 2S) / 2, where S is the number of state bits
module _ (m : Meaning) (law : Lawful m) (n k r : ℕ) (e : k ≡ suc n * length m.clauses + r) (h : r < n * (2 * m.state_bits)) where
  frame_low : r / (2 * m.state_bits) < n
  frame_low = div_below r (2 * m.state_bits) n (some r n (2 * m.state_bits) h) h

  bit_low : r % (2 * m.state_bits) / 2 < m.state_bits
  bit_low = let p = mod_below r (2 * m.state_bits) (some r n (2 * m.state_bits) h) in omega arith

  pub only_if_by : r % (2 * m.state_bits) % 2 ≡ 0 →
      get_or (unroll m n) k [] ≡ moved m (r / (2 * m.state_bits)) (get_or m.next (r % (2 * m.state_bits) / 2) 0) ∷
      denial (moved m (suc (r / (2 * m.state_bits))) (literal_of_state m (r % (2 * m.state_bits) / 2))) ∷ []
  only_if_by even =
      let t : ℕ = r / (2 * m.state_bits) in
      let i : ℕ = r % (2 * m.state_bits) / 2 in
      let q = div-add-mod' r (2 * m.state_bits) in
      let place : r ≡ r / (2 * m.state_bits) * (2 * m.state_bits) + 2 * (r % (2 * m.state_bits) / 2) = omega arith in
      (unroll_in_order m law n).only_if k t i (e ∙ ap (λ (j : ℕ). suc n * length m.clauses + j) place) frame_low bit_low

  pub true_if_by : r % (2 * m.state_bits) % 2 ≡ 1 →
      get_or (unroll m n) k [] ≡ denial (moved m (r / (2 * m.state_bits)) (get_or m.next (r % (2 * m.state_bits) / 2) 0)) ∷
      moved m (suc (r / (2 * m.state_bits))) (literal_of_state m (r % (2 * m.state_bits) / 2)) ∷ []
  true_if_by odd =
      let t : ℕ = r / (2 * m.state_bits) in
      let i : ℕ = r % (2 * m.state_bits) / 2 in
      let q = div-add-mod' r (2 * m.state_bits) in
      let place : r ≡ r / (2 * m.state_bits) * (2 * m.state_bits) + (2 * (r % (2 * m.state_bits) / 2) + 1) = omega arith in
      (unroll_in_order m law n).true_if k t i (e ∙ ap (λ (j : ℕ). suc n * length m.clauses + j) place) frame_low bit_low
