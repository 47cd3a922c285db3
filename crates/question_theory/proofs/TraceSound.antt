-- A trace whose questions have no answer is safe and closed, and a rule with such a trace is kept.
use Rattle.std.proofs.Common.{◌≡◌, ℕ, zero, suc, ◌+◌, ◌-◌, ◌*◌, ◌/◌, ◌<◌, ◌≤◌, Bool, true, false, cond, not, ◌||◌, ltb, ◌⊎◌, List, [], ◌∷◌, ◌++◌, map, length, get_or, refl, ap, ◌∙◌, subst, inl, inr, ⊎_elim, arith}
use Rattle.std.specs.List.{AllByRecursion}
use Rattle.std.proofs.ByRecursion.{All-append}
use Rattle.std.proofs.lemmas.Bool.{cases_lt, cases_Bool, and_from, and_cases, or_parts, or_left, or_right, cond-true, cond-false, lt-ltb, le-ltb, both_ways}
use Rattle.resolution.specs.Clauses.{literal_true, denial, holds, models, Unsat}
use Rattle.resolution.proofs.Settings.{true_same, true_twice, true_twice_odd, denial_flips}
use Rattle.machine.specs.Meaning.{Meaning, Lawful}
use Rattle.machine.specs.Runs.{Kept}
use Rattle.question_theory.specs.Unrolling.{moved, unroll, linked_state}
use Rattle.question_theory.specs.Traces.{OfState, StateClauses, state_setting, In, step_question, safe_question, before, selectors, choices, denials, closing_question, SafeTrace}
use Rattle.question_theory.proofs.Satisfied.{joins, unit_is, models_same, denied}
use Rattle.question_theory.proofs.LinkedRows.{step_size, unrolls}
use Rattle.question_theory.proofs.LinkedLiterals.{state_true, first_true, rule_true}
use Rattle.question_theory.proofs.FramesBefore.{before_at}
use Rattle.question_theory.proofs.Runs.{run_unbroken}
use Rattle.question_theory.proofs.Refuted.{TraceRefuted}

-- a clause that no row from F denies
clause_steps : (m : Meaning) → Lawful m → (F : List (List ℕ)) (c : List ℕ) (s x : List Bool) → length s ≡ m.state_bits → length x ≡ m.inputs →
    StateClauses m F → AllByRecursion (OfState m) c → In m F s → Unsat (step_question m F c) → holds (state_setting m (m.step s x)) c ≡ true
unfolding step_question
clause_steps m law F c s x ls lx oF oc h un =
    let u = (unrolls m law 1).setting s (λ _. x) ls (λ _ _. lx) in
    let v : ℕ → Bool = u.0 in
    let here : models v F ≡ true = models_same (state_setting m s) v (OfState m) (first_true m law 1 v s (λ _. x) u.2) F oF ∙ h in
    ⊎_elim
    (λ (a : holds (state_setting m (m.step s x)) c ≡ true). a)
    (λ (b : holds (state_setting m (m.step s x)) c ≡ false). absurd (un v
    (joins v (unroll m 1 ++ F) (map (λ (l : ℕ). denial (moved m 1 l) ∷ []) c) (joins v (unroll m 1) F u.1 here)
    (denied (state_setting m (m.step s x)) v (moved m 1) (OfState m) (state_true m law 1 v s (λ _. x) u.2 1 (omega arith)) c oc ∙ ap not b))))
    (cases_Bool (holds (state_setting m (m.step s x)) c))

clauses_step : (m : Meaning) → Lawful m → (F G : List (List ℕ)) (s x : List Bool) → length s ≡ m.state_bits → length x ≡ m.inputs →
    StateClauses m F → StateClauses m G → In m F s → AllByRecursion (λ c. Unsat (step_question m F c)) G → In m G (m.step s x)
clauses_step m law F [] s x ls lx oF oG h un = refl
clauses_step m law F (c ∷ G) s x ls lx oF oG h un =
    and_from (holds (state_setting m (m.step s x)) c) (models (state_setting m (m.step s x)) G)
    (clause_steps m law F c s x ls lx oF oG.0 h un.0) (clauses_step m law F G s x ls lx oF oG.1 h un.1)

row_safe : (m : Meaning) → Lawful m → (o : ℕ) → o < m.rules → (F : List (List ℕ)) (s x : List Bool) → length s ≡ m.state_bits → length x ≡ m.inputs →
    StateClauses m F → In m F s → Unsat (safe_question m o F) → m.broken o s x ≡ false
unfolding safe_question
row_safe m law o lo F s x ls lx oF h un =
    let u = (unrolls m law 0).setting s (λ _. x) ls (λ _ _. lx) in
    let v : ℕ → Bool = u.0 in
    let r : ℕ = get_or m.rule o 0 in
    let e : r ≡ moved m 0 r = omega arith in
    let here : models v F ≡ true = models_same (state_setting m s) v (OfState m) (first_true m law 0 v s (λ _. x) u.2) F oF ∙ h in
    ⊎_elim
    (λ (a : m.broken o s x ≡ true). absurd (un v
    (joins v (unroll m 0 ++ F) ((r ∷ []) ∷ []) (joins v (unroll m 0) F u.1 here)
    (unit_is v r ∙ ap (literal_true v) e ∙ rule_true m law 0 v s (λ _. x) u.2 0 (omega arith) o lo ∙ a))))
    (λ (b : m.broken o s x ≡ false). b)
    (cases_Bool (m.broken o s x))

-- a setting v that is u on the state, and selects from variable a on the clauses that fail under u
module _ (u v : ℕ → Bool) (P : ℕ → Type 0) (same : (l : ℕ) → P l → literal_true v l ≡ literal_true u l) where
  selected : (cs : List (List ℕ)) (a : ℕ) → ((q : ℕ) → q < length cs → v (a + q) ≡ not (holds u (get_or cs q []))) → models u cs ≡ false → holds v (selectors a cs) ≡ true
  selected [] a h f = absurd (both_ways true f refl)
  selected (c ∷ cs) a h f =
      let e : a ≡ a + 0 = omega arith in
      let rest : models u cs ≡ false → holds v (selectors (a + 1) cs) ≡ true =
      selected cs (a + 1) (λ q l. let d : a + 1 + q ≡ a + suc q = omega arith in ap v d ∙ h (suc q) (omega arith)) in
      ⊎_elim
      (λ (x : holds u c ≡ false). or_left (literal_true v (2 * a)) (holds v (selectors (a + 1) cs)) (true_twice v a ∙ ap v e ∙ h 0 (omega arith) ∙ ap not x))
      (λ (y : models u cs ≡ false). or_right (literal_true v (2 * a)) (holds v (selectors (a + 1) cs)) (rest y))
      (and_cases (holds u c) (models u cs) f)

  by_selector : (k : ℕ) (c : List ℕ) → literal_true v k ≡ true → models v (map (λ (x : ℕ). denial x ∷ k ∷ []) c) ≡ true
  by_selector k [] h = refl
  by_selector k (x ∷ c) h =
      and_from (literal_true v (denial x) || (literal_true v k || false)) (models v (map (λ (x : ℕ). denial x ∷ k ∷ []) c))
      (or_right (literal_true v (denial x)) (literal_true v k || false) (or_left (literal_true v k) false h)) (by_selector k c h)

  by_literal : (k : ℕ) (c : List ℕ) → AllByRecursion P c → holds u c ≡ false → models v (map (λ (x : ℕ). denial x ∷ k ∷ []) c) ≡ true
  by_literal k [] a h = refl
  by_literal k (x ∷ c) a h =
      let p = or_parts (literal_true u x) (holds u c) h in
      and_from (literal_true v (denial x) || (literal_true v k || false)) (models v (map (λ (x : ℕ). denial x ∷ k ∷ []) c))
      (or_left (literal_true v (denial x)) (literal_true v k || false) (denial_flips v x ∙ ap not (same x a.0 ∙ p.0))) (by_literal k c a.1 p.1)

  denies : (cs : List (List ℕ)) (a : ℕ) → AllByRecursion (AllByRecursion P) cs → ((q : ℕ) → q < length cs → v (a + q) ≡ not (holds u (get_or cs q []))) → models v (denials a cs) ≡ true
  denies [] a o h = refl
  denies (c ∷ cs) a o h =
      let e : a ≡ a + 0 = omega arith in
      let here : v a ≡ not (holds u c) = ap v e ∙ h 0 (omega arith) in
      joins v (map (λ (x : ℕ). denial x ∷ (2 * a + 1) ∷ []) c) (denials (a + 1) cs)
      (⊎_elim
      (λ (x : holds u c ≡ true). by_selector (2 * a + 1) c (true_twice_odd v a ∙ ap not (here ∙ ap not x)))
      (λ (y : holds u c ≡ false). by_literal (2 * a + 1) c o.0 y)
      (cases_Bool (holds u c)))
      (denies cs (a + 1) o.1 (λ q l. let d : a + 1 + q ≡ a + suc q = omega arith in ap v d ∙ h (suc q) (omega arith)))

  chooses : (m : Meaning) (F : ℕ → List (List ℕ)) (n : ℕ) → ((q : ℕ) → q < length (before F n) → v (m.variables + q) ≡ not (holds u (get_or (before F n) q []))) →
      ((i : ℕ) → i < n → models u (F i) ≡ false) → (j : ℕ) → j ≤ n → models v (choices m F j) ≡ true
  chooses m F n h f zero l = refl
  chooses m F n h f (suc j) l =
      joins v (choices m F j) (selectors (m.variables + length (before F j)) (F j) ∷ []) (chooses m F n h f j (omega arith))
      (and_from (holds v (selectors (m.variables + length (before F j)) (F j))) true
      (selected (F j) (m.variables + length (before F j))
      (λ q k.
      let b = before_at F n j q (omega arith) k in
      let e : m.variables + length (before F j) + q ≡ m.variables + (length (before F j) + q) = omega arith in
      ap v e ∙ h (length (before F j) + q) b.0 ∙ ap (λ (c : List ℕ). not (holds u c)) b.1)
      (f j (omega arith)))
      refl)

before_state : (m : Meaning) (F : ℕ → List (List ℕ)) (n : ℕ) → ((i : ℕ) → i < n → StateClauses m (F i)) → StateClauses m (before F n)
before_state m F zero h = tt
before_state m F (suc n) h = All-append (AllByRecursion (OfState m)) (before F n) (F n) (before_state m F n (λ i l. h i (omega arith))) (h n (omega arith))

-- either one of the frames before n has the state, or none has
look : (m : Meaning) (F : ℕ → List (List ℕ)) (s : List Bool) (n : ℕ) →
    ((j : ℕ) × (j < n) × In m (F j) s) ⊎ ((j : ℕ) → j < n → models (state_setting m s) (F j) ≡ false)
look m F s zero = inr (λ j l. let none : ⊥ = omega arith in absurd none)
look m F s (suc n) =
    ⊎_elim
    (λ (a : (j : ℕ) × (j < n) × In m (F j) s). let l = a.1 in inl (a.0, omega arith, a.2))
    (λ (b : (j : ℕ) → j < n → models (state_setting m s) (F j) ≡ false).
    ⊎_elim
    (λ (x : models (state_setting m s) (F n) ≡ true). inl (n, omega arith, x))
    (λ (y : models (state_setting m s) (F n) ≡ false). inr (λ j l.
    ⊎_elim (λ (c : j < n). b j c) (λ (d : n ≤ j). let e : n ≡ j = omega arith in subst (λ (k : ℕ). models (state_setting m s) (F k) ≡ false) e y) (cases_lt j n)))
    (cases_Bool (models (state_setting m s) (F n))))
    (look m F s n)

-- a state with the selectors of the clauses that fail in it
abbrev selecting : Meaning → (ℕ → List (List ℕ)) → ℕ → List Bool → ℕ → Bool
selecting m F n s k = cond (ltb k m.variables) (state_setting m s k) (not (holds (state_setting m s) (get_or (before F n) (k - m.variables) [])))

selecting_state : (m : Meaning) → Lawful m → (F : ℕ → List (List ℕ)) (n : ℕ) (s : List Bool) (l : ℕ) → OfState m l → literal_true (selecting m F n s) l ≡ literal_true (state_setting m s) l
selecting_state m law F n s l o =
    let room = law.room in
    true_same (selecting m F n s) (state_setting m s) l l refl
    (cond-true (ltb (l / 2) m.variables) (state_setting m s (l / 2)) (not (holds (state_setting m s) (get_or (before F n) (l / 2 - m.variables) []))) (lt-ltb (l / 2) m.variables (omega arith)))

selecting_clause : (m : Meaning) (F : ℕ → List (List ℕ)) (n : ℕ) (s : List Bool) (q : ℕ) → selecting m F n s (m.variables + q) ≡ not (holds (state_setting m s) (get_or (before F n) q []))
selecting_clause m F n s q =
    let e : m.variables + q - m.variables ≡ q = omega arith in
    cond-false (ltb (m.variables + q) m.variables) (state_setting m s (m.variables + q)) (not (holds (state_setting m s) (get_or (before F n) (m.variables + q - m.variables) []))) (le-ltb (m.variables + q) m.variables (omega arith))
    ∙ ap (λ (k : ℕ). not (holds (state_setting m s) (get_or (before F n) k []))) e

closes : (m : Meaning) → Lawful m → (F : ℕ → List (List ℕ)) (n : ℕ) → ((i : ℕ) → i ≤ n → StateClauses m (F i)) → Unsat (closing_question m F n) →
    (s : List Bool) → In m (F n) s → (j : ℕ) × (j < n) × In m (F j) s
unfolding closing_question
closes m law F n o un s h =
    let v : ℕ → Bool = selecting m F n s in
    let u : ℕ → Bool = state_setting m s in
    ⊎_elim
    (λ (a : (j : ℕ) × (j < n) × In m (F j) s). a)
    (λ (b : (j : ℕ) → j < n → models u (F j) ≡ false). absurd (un v
    (joins v (F n ++ choices m F n) (denials m.variables (before F n))
    (joins v (F n) (choices m F n)
    (models_same u v (OfState m) (selecting_state m law F n s) (F n) (o n (omega arith)) ∙ h)
    (chooses u v (OfState m) (selecting_state m law F n s) m F n (λ q l. selecting_clause m F n s q) b n (omega arith)))
    (denies u v (OfState m) (selecting_state m law F n s) (before F n) m.variables (before_state m F n (λ i l. o i (omega arith))) (λ q l. selecting_clause m F n s q)))))
    (look m F s n)

pub trace_sound : (m : Meaning) → Lawful m → (o : ℕ) → o < m.rules → (F : ℕ → List (List ℕ)) (n : ℕ) →
    ((i : ℕ) → i ≤ n → StateClauses m (F i)) → In m (F 0) m.start → TraceRefuted m o F n → SafeTrace m o F n
trace_sound m law o lo F n sc starts r = record {
  starts = starts;
  steps = λ i l s x ls lx h. clauses_step m law (F i) (F (suc i)) s x ls lx (sc i (omega arith)) (sc (suc i) (omega arith)) h (r.steps i l);
  safe = λ i l s x ls lx h. row_safe m law o lo (F i) s x ls lx (sc i l) h (r.safe i l);
  closed = λ s ls h. closes m law F n sc r.closing s h;
}

-- every state that is reached is in a frame before the last
reached : (m : Meaning) → Lawful m → (o : ℕ) (F : ℕ → List (List ℕ)) (n : ℕ) → 0 < n → SafeTrace m o F n → (ins : ℕ → List Bool) (t : ℕ) → ((j : ℕ) → j < t → length (ins j) ≡ m.inputs) →
    (length (linked_state m m.start ins t) ≡ m.state_bits) × (j : ℕ) × (j < n) × In m (F j) (linked_state m m.start ins t)
reached m law o F n pos tr ins zero is = (law.start_size, 0, pos, tr.starts)
reached m law o F n pos tr ins (suc t) is =
    let p = reached m law o F n pos tr ins t (λ j l. is j (omega arith)) in
    let s : List Bool = linked_state m m.start ins t in
    let j : ℕ = p.1 in
    let j< : j < n = p.2 in
    let lx : length (ins t) ≡ m.inputs = is t (omega arith) in
    let ls : length (m.step s (ins t)) ≡ m.state_bits = step_size m law s (ins t) p.0 lx in
    let on : In m (F (suc j)) (m.step s (ins t)) = tr.steps j j< s (ins t) p.0 lx p.3 in
    ⊎_elim
    (λ (a : suc j < n). (ls, suc j, a, on))
    (λ (b : n ≤ suc j).
    let e : suc j ≡ n = omega arith in
    let c = tr.closed (m.step s (ins t)) ls (subst (λ (k : ℕ). In m (F k) (m.step s (ins t))) e on) in
    (ls, c.0, c.1, c.2))
    (cases_lt (suc j) n)

pub trace_keeps : (m : Meaning) → Lawful m → (o : ℕ) (F : ℕ → List (List ℕ)) (n : ℕ) → 0 < n → SafeTrace m o F n → Kept m o
trace_keeps m law o F n pos tr rows run =
    let t : ℕ = length rows - 1 in
    run_unbroken m o rows run (λ ins is.
    let p = reached m law o F n pos tr ins t (λ j l. is j (omega arith)) in
    let j< : p.1 < n = p.2 in
    tr.safe p.1 (omega arith) (linked_state m m.start ins t) (ins t) p.0 (is t (omega arith)) p.3)
