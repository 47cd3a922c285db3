-- No question of a safe and closed trace has an answer.
use Rattle.std.proofs.Common.{◌≡◌, ℕ, zero, suc, ◌+◌, ◌-◌, ◌*◌, ◌/◌, ◌<◌, ◌≤◌, Bool, true, false, not, ◌||◌, List, [], ◌∷◌, ◌++◌, map, length, get_or, sym, refl, ap, ◌∙◌, subst, ⊎_elim, arith}
use Rattle.std.specs.List.{range_with_len, AllByRecursion}
use Rattle.std.proofs.lemmas.List.FromFn.{length-map-range_with_len, get_or-map-range_with_len}
use Rattle.std.proofs.ByRecursion.{All-get_or, All-from_get_or}
use Rattle.std.proofs.lemmas.Bool.{cases_lt, and_parts, or_cases, or_from, both_ways, not-true}
use Rattle.resolution.specs.Clauses.{literal_true, denial, holds, models, Unsat}
use Rattle.resolution.proofs.Settings.{true_same, true_twice, true_twice_odd, denial_flips}
use Rattle.machine.specs.Meaning.{Meaning, Lawful}
use Rattle.question_theory.specs.Unrolling.{moved, unroll, LinkedRows}
use Rattle.question_theory.specs.Traces.{OfState, StateClauses, state_setting, In, step_question, safe_question, before, selectors, choices, denials, closing_question, SafeTrace}
use Rattle.question_theory.proofs.Satisfied.{parts, unit_is, models_same, denied, all_from_models}
use Rattle.question_theory.proofs.LinkedRows.{unrolls}
use Rattle.question_theory.proofs.LinkedLiterals.{state_true, first_true, rule_true}
use Rattle.question_theory.proofs.FramesBefore.{before_at}
use Rattle.question_theory.proofs.Refuted.{TraceRefuted}

step_refuted : (m : Meaning) → Lawful m → (F : List (List ℕ)) (c : List ℕ) → StateClauses m F → AllByRecursion (OfState m) c →
    ((s x : List Bool) → length s ≡ m.state_bits → length x ≡ m.inputs → In m F s → holds (state_setting m (m.step s x)) c ≡ true) → Unsat (step_question m F c)
unfolding step_question
step_refuted m law F c oF oc h v q =
    let p = parts v (unroll m 1 ++ F) (map (λ (l : ℕ). denial (moved m 1 l) ∷ []) c) q in
    let p' = parts v (unroll m 1) F p.0 in
    let u = (unrolls m law 1).rows v p'.0 in
    let s : List Bool = u.0 in
    let ins : ℕ → List Bool = u.1 in
    let r : LinkedRows m 1 v s ins = u.2 in
    let here : In m F s = sym (models_same (state_setting m s) v (OfState m) (first_true m law 1 v s ins r) F oF) ∙ p'.1 in
    let f = r.fits 0 (omega arith) in
    both_ways (holds (state_setting m (m.step s (ins 0))) c)
    (not-true (holds (state_setting m (m.step s (ins 0))) c)
    (sym (denied (state_setting m (m.step s (ins 0))) v (moved m 1) (OfState m) (state_true m law 1 v s ins r 1 (omega arith)) c oc) ∙ p.1))
    (h s (ins 0) f.state f.given here)

safe_refuted : (m : Meaning) → Lawful m → (o : ℕ) → o < m.rules → (F : List (List ℕ)) → StateClauses m F →
    ((s x : List Bool) → length s ≡ m.state_bits → length x ≡ m.inputs → In m F s → m.broken o s x ≡ false) → Unsat (safe_question m o F)
unfolding safe_question
safe_refuted m law o lo F oF h v q =
    let l : ℕ = get_or m.rule o 0 in
    let p = parts v (unroll m 0 ++ F) ((l ∷ []) ∷ []) q in
    let p' = parts v (unroll m 0) F p.0 in
    let u = (unrolls m law 0).rows v p'.0 in
    let s : List Bool = u.0 in
    let ins : ℕ → List Bool = u.1 in
    let r : LinkedRows m 0 v s ins = u.2 in
    let here : In m F s = sym (models_same (state_setting m s) v (OfState m) (first_true m law 0 v s ins r) F oF) ∙ p'.1 in
    let f = r.fits 0 (omega arith) in
    let e : moved m 0 l ≡ l = omega arith in
    both_ways (m.broken o s (ins 0)) (h s (ins 0) f.state f.given here)
    (sym (rule_true m law 0 v s ins r 0 (omega arith) o lo) ∙ ap (literal_true v) e ∙ sym (unit_is v l) ∙ p.1)

-- the selectors of frame j
choices_at : (m : Meaning) (F : ℕ → List (List ℕ)) (v : ℕ → Bool) (n : ℕ) → models v (choices m F n) ≡ true → (j : ℕ) → j < n → holds v (selectors (m.variables + length (before F j)) (F j)) ≡ true
choices_at m F v zero h j l = let none : ⊥ = omega arith in absurd none
choices_at m F v (suc n) h j l =
    let p = parts v (choices m F n) (selectors (m.variables + length (before F n)) (F n) ∷ []) h in
    let ih : j < n → holds v (selectors (m.variables + length (before F j)) (F j)) ≡ true = choices_at m F v n p.0 j in
    ⊎_elim
    (λ (a : j < n). ih a)
    (λ (b : n ≤ j). let e : n ≡ j = omega arith in
    subst (λ (k : ℕ). holds v (selectors (m.variables + length (before F k)) (F k)) ≡ true) e (and_parts (holds v (selectors (m.variables + length (before F n)) (F n))) true p.1).0)
    (cases_lt j n)

denials_at : (v : ℕ → Bool) (cs : List (List ℕ)) (a : ℕ) → models v (denials a cs) ≡ true → (q : ℕ) → q < length cs → models v (map (λ (x : ℕ). denial x ∷ (2 * (a + q) + 1) ∷ []) (get_or cs q [])) ≡ true
denials_at v [] a h q l = let none : ⊥ = omega arith in absurd none
denials_at v (c ∷ cs) a h zero l =
    let e : a ≡ a + zero = omega arith in
    subst (λ (k : ℕ). models v (map (λ (x : ℕ). denial x ∷ (2 * k + 1) ∷ []) c) ≡ true) e (parts v (map (λ (x : ℕ). denial x ∷ (2 * a + 1) ∷ []) c) (denials (a + 1) cs) h).0
denials_at v (c ∷ cs) a h (suc q) l =
    let e : a + 1 + q ≡ a + suc q = omega arith in
    subst (λ (k : ℕ). models v (map (λ (x : ℕ). denial x ∷ (2 * k + 1) ∷ []) (get_or cs q [])) ≡ true) e (denials_at v cs (a + 1) (parts v (map (λ (x : ℕ). denial x ∷ (2 * a + 1) ∷ []) c) (denials (a + 1) cs) h).1 q (omega arith))

-- a clause that is selected fails
selected_fails : (v : ℕ → Bool) (k : ℕ) (c : List ℕ) → literal_true v k ≡ false → models v (map (λ (x : ℕ). denial x ∷ k ∷ []) c) ≡ true → holds v c ≡ false
selected_fails v k [] f h = refl
selected_fails v k (x ∷ c) f h =
    let p = and_parts (literal_true v (denial x) || (literal_true v k || false)) (models v (map (λ (x : ℕ). denial x ∷ k ∷ []) c)) h in
    or_from (literal_true v x) (holds v c)
    (not-true (literal_true v x) (sym (denial_flips v x) ∙ one (literal_true v (denial x)) (literal_true v k) f p.0))
    (selected_fails v k c f p.1)
  where
    one : (a b : Bool) → b ≡ false → (a || (b || false)) ≡ true → a ≡ true
    one true b e h = refl
    one false true e h = absurd (both_ways true e refl)
    one false false e h = h

one_fails : (v : ℕ → Bool) (cs : List (List ℕ)) (a : ℕ) → ((q : ℕ) → q < length cs → models v (map (λ (x : ℕ). denial x ∷ (2 * (a + q) + 1) ∷ []) (get_or cs q [])) ≡ true) →
    holds v (selectors a cs) ≡ true → models v cs ≡ true → ⊥
one_fails v [] a d h k = both_ways false refl h
one_fails v (c ∷ cs) a d h k =
    let p = and_parts (holds v c) (models v cs) k in
    let e : a + 0 ≡ a = omega arith in
    let rest : holds v (selectors (a + 1) cs) ≡ true → ⊥ = λ g. one_fails v cs (a + 1)
    (λ q l. let e : a + suc q ≡ a + 1 + q = omega arith in subst (λ (i : ℕ). models v (map (λ (x : ℕ). denial x ∷ (2 * i + 1) ∷ []) (get_or cs q [])) ≡ true) e (d (suc q) (omega arith))) g p.1 in
    ⊎_elim
    (λ (x : literal_true v (2 * a) ≡ true).
    both_ways (holds v c)
    (selected_fails v (2 * (a + 0) + 1) c (true_twice_odd v (a + 0) ∙ ap not (ap v e ∙ sym (true_twice v a) ∙ x)) (d 0 (omega arith)))
    p.0)
    rest
    (or_cases (literal_true v (2 * a)) (holds v (selectors (a + 1) cs)) h)

closing_refuted : (m : Meaning) → (F : ℕ → List (List ℕ)) (n : ℕ) → ((i : ℕ) → i ≤ n → StateClauses m (F i)) →
    ((s : List Bool) → length s ≡ m.state_bits → In m (F n) s → (j : ℕ) × (j < n) × In m (F j) s) → Unsat (closing_question m F n)
unfolding closing_question
closing_refuted m F n o h v q =
    let p = parts v (F n ++ choices m F n) (denials m.variables (before F n)) q in
    let p' = parts v (F n) (choices m F n) p.0 in
    let s : List Bool = map v (range_with_len (1 + m.inputs) m.state_bits) in
    let same : (l : ℕ) → OfState m l → literal_true v l ≡ literal_true (state_setting m s) l = λ l k.
    true_same v (state_setting m s) l l refl
    (sym (get_or-map-range_with_len v (1 + m.inputs) m.state_bits (l / 2 - (1 + m.inputs)) (l / 2) false (omega arith) (omega arith))) in
    let c = h s (length-map-range_with_len v (1 + m.inputs) m.state_bits) (sym (models_same (state_setting m s) v (OfState m) same (F n) (o n (omega arith))) ∙ p'.0) in
    let j : ℕ = c.0 in
    let j< : j < n = c.1 in
    one_fails v (F j) (m.variables + length (before F j))
    (λ q l.
    let b = before_at F n j q j< l in
    let e : m.variables + (length (before F j) + q) ≡ m.variables + length (before F j) + q = omega arith in
    subst (λ (i : ℕ). models v (map (λ (x : ℕ). denial x ∷ (2 * i + 1) ∷ []) (get_or (F j) q [])) ≡ true) e
    (subst (λ (y : List ℕ). models v (map (λ (x : ℕ). denial x ∷ (2 * (m.variables + (length (before F j) + q)) + 1) ∷ []) y) ≡ true) b.1
    (denials_at v (before F n) m.variables p.1 (length (before F j) + q) b.0)))
    (choices_at m F v n p'.1 j j<)
    (models_same (state_setting m s) v (OfState m) same (F j) (o j (omega arith)) ∙ c.2)

pub trace_refuted : (m : Meaning) → Lawful m → (o : ℕ) → o < m.rules → (F : ℕ → List (List ℕ)) (n : ℕ) →
    ((i : ℕ) → i ≤ n → StateClauses m (F i)) → SafeTrace m o F n → TraceRefuted m o F n
trace_refuted m law o lo F n sc tr = record {
  steps = λ i l. All-from_get_or (λ c. Unsat (step_question m (F i) c)) (F (suc i)) [] (λ q h.
      step_refuted m law (F i) (get_or (F (suc i)) q []) (sc i (omega arith)) (All-get_or (AllByRecursion (OfState m)) (F (suc i)) q [] h (sc (suc i) (omega arith)))
      (λ s x ls lx k. All-get_or (λ c. holds (state_setting m (m.step s x)) c ≡ true) (F (suc i)) q [] h
      (all_from_models (state_setting m (m.step s x)) (F (suc i)) (tr.steps i l s x ls lx k))));
  safe = λ i l. safe_refuted m law o lo (F i) (sc i l) (tr.safe i l);
  closing = closing_refuted m F n sc tr.closed;
}
