-- No question of an induction that holds has an answer.
use Rattle.std.proofs.Common.{◌≡◌, ℕ, zero, suc, ◌+◌, ◌*◌, ◌<◌, ◌≤◌, Bool, true, false, List, [], ◌∷◌, ◌++◌, length, get_or, sym, ap, ◌∙◌, subst, ⊎_elim, arith}
use Rattle.std.proofs.lemmas.List.{ext_get_or}
use Rattle.std.proofs.lemmas.Bool.{cases_lt, both_ways, not-true}
use Rattle.resolution.specs.Clauses.{literal_true, denial, models, Unsat}
use Rattle.resolution.proofs.Settings.{true_twice, denial_flips}
use Rattle.machine.specs.Meaning.{Meaning, Lawful, Fits}
use Rattle.question_theory.specs.Unrolling.{moved, unroll, literal_of_state, Inputs, broken_at, LinkedRows}
use Rattle.question_theory.specs.Inductions.{bit_literal, units, unbroken, base_question, last_question, Inductive}
use Rattle.question_theory.proofs.Satisfied.{parts, unit_is}
use Rattle.question_theory.proofs.LinkedRows.{state_bit, unrolls}
use Rattle.question_theory.proofs.LinkedLiterals.{rule_true}
use Rattle.question_theory.proofs.Runs.{linked_unbroken}
use Rattle.question_theory.proofs.Refuted.{InductionRefuted}

unit_says : (m : Meaning) (v : ℕ → Bool) (i : ℕ) (b : Bool) → literal_true v (bit_literal m i b) ≡ true → v (1 + m.inputs + i) ≡ b
unit_says m v i b h =
    let e : 2 * (1 + m.inputs + i) ≡ literal_of_state m i = omega arith in
    sym (true_twice v (1 + m.inputs + i)) ∙ ap (literal_true v) e ∙ go b h
  where
    go : (b : Bool) → literal_true v (bit_literal m i b) ≡ true → literal_true v (literal_of_state m i) ≡ b
    go true h = h
    go false h = not-true (literal_true v (literal_of_state m i)) (sym (denial_flips v (literal_of_state m i)) ∙ h)

units_say : (m : Meaning) (v : ℕ → Bool) (i : ℕ) (bs : List Bool) → models v (units m i bs) ≡ true → (j : ℕ) → j < length bs → v (1 + m.inputs + (i + j)) ≡ get_or bs j false
units_say m v i [] h j l = let none : ⊥ = omega arith in absurd none
units_say m v i (b ∷ bs) h zero l =
    let e : i + zero ≡ i = omega arith in
    let x : ℕ = bit_literal m i b in
    ap (λ (k : ℕ). v (1 + m.inputs + k)) e
    ∙ unit_says m v i b (sym (unit_is v x) ∙ (parts v ((x ∷ []) ∷ []) (units m (i + 1) bs) h).0)
units_say m v i (b ∷ bs) h (suc j) l =
    let e : i + suc j ≡ i + 1 + j = omega arith in
    let x : ℕ = bit_literal m i b in
    ap (λ (k : ℕ). v (1 + m.inputs + k)) e
    ∙ units_say m v (i + 1) bs (parts v ((x ∷ []) ∷ []) (units m (i + 1) bs) h).1 j (omega arith)

unbroken_at : (m : Meaning) (o : ℕ) (v : ℕ → Bool) (k : ℕ) → models v (unbroken m o k) ≡ true → (t : ℕ) → t < k → literal_true v (moved m t (get_or m.rule o 0)) ≡ false
unbroken_at m o v zero h t l = let none : ⊥ = omega arith in absurd none
unbroken_at m o v (suc k) h t l =
    let x : ℕ = moved m k (get_or m.rule o 0) in
    let p = parts v (unbroken m o k) ((denial x ∷ []) ∷ []) h in
    let ih : t < k → literal_true v (moved m t (get_or m.rule o 0)) ≡ false = unbroken_at m o v k p.0 t in
    ⊎_elim
    (λ (a : t < k). ih a)
    (λ (b : k ≤ t). let e : k ≡ t = omega arith in
    subst (λ (q : ℕ). literal_true v (moved m q (get_or m.rule o 0)) ≡ false) e (not-true (literal_true v x) (sym (denial_flips v x) ∙ sym (unit_is v (denial x)) ∙ p.1)))
    (cases_lt t k)

base_refuted : (m : Meaning) → Lawful m → (o : ℕ) → o < m.rules → (i : ℕ) → ((ins : ℕ → List Bool) → Inputs m ins i → broken_at m o m.start ins i ≡ false) → Unsat (base_question m o i)
unfolding base_question
base_refuted m law o lo i h v q =
    let l : ℕ = moved m i (get_or m.rule o 0) in
    let p = parts v (unroll m i ++ units m 0 m.start) ((l ∷ []) ∷ []) q in
    let p' = parts v (unroll m i) (units m 0 m.start) p.0 in
    let u = (unrolls m law i).rows v p'.0 in
    let s : List Bool = u.0 in
    let ins : ℕ → List Bool = u.1 in
    let r : LinkedRows m i v s ins = u.2 in
    let f : Fits m s (ins 0) _ = r.fits 0 (omega arith) in
    let same : s ≡ m.start = ext_get_or false s m.start (f.state ∙ sym law.start_size) (λ j g.
    let ls : length s ≡ m.state_bits = f.state in
    let lt : length m.start ≡ m.state_bits = law.start_size in
    let e : 0 * m.variables + (1 + m.inputs + j) ≡ 1 + m.inputs + (0 + j) = omega arith in
    sym (state_bit m law v 0 s (ins 0) f j (omega arith)) ∙ ap v e ∙ units_say m v 0 m.start p'.1 j (omega arith)) in
    both_ways (broken_at m o s ins i)
    (subst (λ (y : List Bool). broken_at m o y ins i ≡ false) (sym same) (h ins r.given))
    (sym (rule_true m law i v s ins r i (omega arith) o lo) ∙ sym (unit_is v l) ∙ p.1)

last_refuted : (m : Meaning) → Lawful m → (o : ℕ) → o < m.rules → (k : ℕ) →
    ((s : List Bool) (ins : ℕ → List Bool) → length s ≡ m.state_bits → Inputs m ins k → ((t : ℕ) → t < k → broken_at m o s ins t ≡ false) → broken_at m o s ins k ≡ false) →
    Unsat (last_question m o k)
unfolding last_question
last_refuted m law o lo k h v q =
    let l : ℕ = moved m k (get_or m.rule o 0) in
    let p = parts v (unroll m k ++ unbroken m o k) ((l ∷ []) ∷ []) q in
    let p' = parts v (unroll m k) (unbroken m o k) p.0 in
    let u = (unrolls m law k).rows v p'.0 in
    let s : List Bool = u.0 in
    let ins : ℕ → List Bool = u.1 in
    let r : LinkedRows m k v s ins = u.2 in
    both_ways (broken_at m o s ins k)
    (h s ins (r.fits 0 (omega arith)).state r.given (λ t g. sym (rule_true m law k v s ins r t (omega arith) o lo) ∙ unbroken_at m o v k p'.1 t g))
    (sym (rule_true m law k v s ins r k (omega arith) o lo) ∙ sym (unit_is v l) ∙ p.1)

pub induction_refuted : (m : Meaning) → Lawful m → (o : ℕ) → o < m.rules → (k : ℕ) → Inductive m o k → InductionRefuted m o k
induction_refuted m law o lo k ind = record {
  base = λ i l. base_refuted m law o lo i (λ ins is. linked_unbroken m o ins i is (λ rows run e. ind.base rows run (omega arith)));
  last = last_refuted m law o lo k ind.last;
}
