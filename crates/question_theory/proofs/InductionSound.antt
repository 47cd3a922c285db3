-- An induction whose questions have no answer holds, and a rule with an induction is kept.
use Rattle.std.proofs.Common.{◌≡◌, ℕ, zero, suc, ◌+◌, ◌-◌, ◌*◌, ◌<◌, ◌≤◌, Bool, true, false, not, ◌||◌, List, [], ◌∷◌, ◌++◌, length, get_or, sym, refl, ap, ◌∙◌, ⊎_elim, arith}
use Rattle.std.proofs.lemmas.Bool.{cases_lt, cases_Bool, and_from, or_left}
use Rattle.resolution.specs.Clauses.{literal_true, denial, models, Unsat}
use Rattle.resolution.proofs.Settings.{true_twice, denial_flips}
use Rattle.machine.specs.Meaning.{Meaning, Lawful}
use Rattle.machine.specs.Runs.{Kept}
use Rattle.question_theory.specs.Unrolling.{moved, unroll, literal_of_state, linked_state, Inputs, broken_at}
use Rattle.question_theory.specs.Inductions.{bit_literal, units, unbroken, base_question, last_question, Inductive}
use Rattle.question_theory.proofs.Satisfied.{joins, unit_is}
use Rattle.question_theory.proofs.LinkedRows.{state_bit, state_size, unrolls}
use Rattle.question_theory.proofs.LinkedLiterals.{rule_true}
use Rattle.question_theory.proofs.Runs.{run_unbroken, linked_unbroken}
use Rattle.question_theory.proofs.Refuted.{InductionRefuted}

unit_of : (m : Meaning) (v : ℕ → Bool) (i : ℕ) (b : Bool) → v (1 + m.inputs + i) ≡ b → literal_true v (bit_literal m i b) ≡ true
unit_of m v i b h =
    let e : literal_of_state m i ≡ 2 * (1 + m.inputs + i) = omega arith in
    go b (ap (literal_true v) e ∙ true_twice v (1 + m.inputs + i) ∙ h)
  where
    go : (b : Bool) → literal_true v (literal_of_state m i) ≡ b → literal_true v (bit_literal m i b) ≡ true
    go true h = h
    go false h = denial_flips v (literal_of_state m i) ∙ ap not h

units_from : (m : Meaning) (v : ℕ → Bool) (i : ℕ) (bs : List Bool) → ((j : ℕ) → j < length bs → v (1 + m.inputs + (i + j)) ≡ get_or bs j false) → models v (units m i bs) ≡ true
units_from m v i [] h = refl
units_from m v i (b ∷ bs) h =
    let e : i ≡ i + 0 = omega arith in
    let l : ℕ = bit_literal m i b in
    and_from (literal_true v l || false) (models v (units m (i + 1) bs))
    (or_left (literal_true v l) false (unit_of m v i b (ap (λ (k : ℕ). v (1 + m.inputs + k)) e ∙ h 0 (omega arith))))
    (units_from m v (i + 1) bs (λ j k. let d : i + 1 + j ≡ i + suc j = omega arith in ap (λ (q : ℕ). v (1 + m.inputs + q)) d ∙ h (suc j) (omega arith)))

unbroken_from : (m : Meaning) (o : ℕ) (v : ℕ → Bool) (k : ℕ) → ((t : ℕ) → t < k → literal_true v (moved m t (get_or m.rule o 0)) ≡ false) → models v (unbroken m o k) ≡ true
unbroken_from m o v zero h = refl
unbroken_from m o v (suc k) h =
    let l : ℕ = moved m k (get_or m.rule o 0) in
    joins v (unbroken m o k) ((denial l ∷ []) ∷ []) (unbroken_from m o v k (λ t j. h t (omega arith)))
    (unit_is v (denial l) ∙ denial_flips v l ∙ ap not (h k (omega arith)))

base_sound : (m : Meaning) → Lawful m → (o : ℕ) → o < m.rules → (i : ℕ) → Unsat (base_question m o i) → (ins : ℕ → List Bool) → Inputs m ins i → broken_at m o m.start ins i ≡ false
unfolding base_question
base_sound m law o lo i un ins is =
    let u = (unrolls m law i).setting m.start ins law.start_size is in
    let v : ℕ → Bool = u.0 in
    let l : ℕ = moved m i (get_or m.rule o 0) in
    let begin : models v (units m 0 m.start) ≡ true = units_from m v 0 m.start (λ j h.
    let j< : j < m.state_bits = omega (arith, law.start_size) in
    let e : 1 + m.inputs + (0 + j) ≡ 0 * m.variables + (1 + m.inputs + j) = omega arith in
    ap v e ∙ state_bit m law v 0 m.start (ins 0) (u.2.fits 0 (omega arith)) j j<) in
    ⊎_elim
    (λ (a : broken_at m o m.start ins i ≡ true). absurd (un v
    (joins v (unroll m i ++ units m 0 m.start) ((l ∷ []) ∷ []) (joins v (unroll m i) (units m 0 m.start) u.1 begin)
    (unit_is v l ∙ rule_true m law i v m.start ins u.2 i (omega arith) o lo ∙ a))))
    (λ (b : broken_at m o m.start ins i ≡ false). b)
    (cases_Bool (broken_at m o m.start ins i))

last_sound : (m : Meaning) → Lawful m → (o : ℕ) → o < m.rules → (k : ℕ) → Unsat (last_question m o k) → (s : List Bool) (ins : ℕ → List Bool) → length s ≡ m.state_bits → Inputs m ins k →
    ((t : ℕ) → t < k → broken_at m o s ins t ≡ false) → broken_at m o s ins k ≡ false
unfolding last_question
last_sound m law o lo k un s ins ls is h =
    let u = (unrolls m law k).setting s ins ls is in
    let v : ℕ → Bool = u.0 in
    let l : ℕ = moved m k (get_or m.rule o 0) in
    ⊎_elim
    (λ (a : broken_at m o s ins k ≡ true). absurd (un v
    (joins v (unroll m k ++ unbroken m o k) ((l ∷ []) ∷ [])
    (joins v (unroll m k) (unbroken m o k) u.1 (unbroken_from m o v k (λ t j. rule_true m law k v s ins u.2 t (omega arith) o lo ∙ h t j)))
    (unit_is v l ∙ rule_true m law k v s ins u.2 k (omega arith) o lo ∙ a))))
    (λ (b : broken_at m o s ins k ≡ false). b)
    (cases_Bool (broken_at m o s ins k))

pub induction_sound : (m : Meaning) → Lawful m → (o : ℕ) → o < m.rules → (k : ℕ) → InductionRefuted m o k → Inductive m o k
induction_sound m law o lo k r = record {
  base = λ rows run l. let some = run.some in run_unbroken m o rows run (base_sound m law o lo (length rows - 1) (r.base (length rows - 1) (omega arith)));
  last = λ s ins ls is h. last_sound m law o lo k r.last s ins ls is h;
}

-- the rows from row a on
later : (m : Meaning) (s : List Bool) (ins : ℕ → List Bool) (a t : ℕ) → linked_state m (linked_state m s ins a) (λ j. ins (a + j)) t ≡ linked_state m s ins (a + t)
later m s ins a zero = let e : a ≡ a + zero = omega arith in ap (linked_state m s ins) e
later m s ins a (suc t) =
    let e : suc (a + t) ≡ a + suc t = omega arith in
    ap (λ (q : List Bool). m.step q (ins (a + t))) (later m s ins a t) ∙ ap (linked_state m s ins) e

all_kept : (m : Meaning) → Lawful m → (o k : ℕ) → Inductive m o k → (ins : ℕ → List Bool) (n : ℕ) → Inputs m ins n → (b t : ℕ) → t < b → t ≤ n → broken_at m o m.start ins t ≡ false
all_kept m law o k ind ins n is zero t h l = let none : ⊥ = omega arith in absurd none
all_kept m law o k ind ins n is (suc b) t h l = now (λ j i. all_kept m law o k ind ins n is b j (omega arith) (omega arith))
  where
    now : ((j : ℕ) → j < t → broken_at m o m.start ins j ≡ false) → broken_at m o m.start ins t ≡ false
    now earlier =
        ⊎_elim
        (λ (a : t < k). linked_unbroken m o ins t (λ j g. is j (omega arith)) (λ rows run e. ind.base rows run (omega arith)))
        (λ (c : k ≤ t).
        let d : ℕ = t - k in
        let e : d + k ≡ t = omega arith in
        let s : List Bool = linked_state m m.start ins d in
        let same : (j : ℕ) → broken_at m o s (λ i. ins (d + i)) j ≡ broken_at m o m.start ins (d + j) =
        λ j. ap (λ (q : List Bool). m.broken o q (ins (d + j))) (later m m.start ins d j) in
        ap (λ (q : ℕ). broken_at m o m.start ins q) (sym e)
        ∙ sym (same k)
        ∙ ind.last s (λ i. ins (d + i)) (state_size m law m.start ins law.start_size n is d (omega arith)) (λ j g. is (d + j) (omega arith))
        (λ j g. same j ∙ earlier (d + j) (omega arith)))
        (cases_lt t k)

pub induction_keeps : (m : Meaning) → Lawful m → (o k : ℕ) → Inductive m o k → Kept m o
induction_keeps m law o k ind rows run =
    let t : ℕ = length rows - 1 in
    run_unbroken m o rows run (λ ins is. all_kept m law o k ind ins t is (suc t) t (omega arith) (omega arith))
