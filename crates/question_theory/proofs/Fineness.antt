-- The clauses of every question rise, and their literals are low.
use Rattle.std.proofs.Common.{◌≡◌, ℕ, zero, suc, ◌+◌, ◌*◌, ◌<◌, ◌≤◌, Bool, List, [], ◌∷◌, ◌++◌, map, length, get_or, subst, suc-mul, arith}
use Rattle.std.specs.List.{AllByRecursion}
use Rattle.std.proofs.ByRecursion.{All-append, All-weaker, All-get_or}
use Rattle.std.proofs.lemmas.Bool.{cond_both}
use Rattle.std.proofs.lemmas.Nat.{mul-le}
use Rattle.resolution.specs.Clauses.{denial, Rising}
use Rattle.resolution.proofs.Settings.{denial_near}
use Rattle.machine.specs.Meaning.{Meaning, Lawful}
use Rattle.question_theory.specs.Unrolling.{moved, literal_of_state, unroll}
use Rattle.question_theory.specs.Traces.{OfState, StateClauses, step_question, safe_question, before, selectors, choices, denials, closing_question}
use Rattle.question_theory.specs.Inductions.{units, unbroken, base_question, last_question}
use Rattle.question_theory.specs.Shapes.{Fine, TraceFine, InductionFine}
use Rattle.question_theory.proofs.FineClauses.{fine_from, fine_more, fine_join, fine_unit}
use Rattle.question_theory.proofs.FramesBefore.{before_more}
use Rattle.question_theory.proofs.UnrollOrder.{unroll_in_order}

fine_state : (m : Meaning) → Lawful m → (cs : List (List ℕ)) → StateClauses m cs → AllByRecursion Rising cs → Fine (2 * m.variables) cs
fine_state m law cs o r =
    let room = law.room in
    fine_from (2 * m.variables) cs r (All-weaker (AllByRecursion (OfState m)) (AllByRecursion (λ l. l < 2 * m.variables)) (λ c. All-weaker (OfState m) (λ l. l < 2 * m.variables) (λ l p. omega arith) c) cs o)

fine_denied : (m : Meaning) → Lawful m → (c : List ℕ) → AllByRecursion (OfState m) c → Fine (2 * (2 * m.variables)) (map (λ (l : ℕ). denial (moved m 1 l) ∷ []) c)
fine_denied m law [] o = tt
fine_denied m law (l ∷ c) o =
    let room = law.room in
    let p = o.0 in
    let d = denial_near (moved m 1 l) in
    (((tt, tt), (omega arith, tt)), fine_denied m law c o.1)

fine_step : (m : Meaning) → Lawful m → (F : List (List ℕ)) (c : List ℕ) → StateClauses m F → AllByRecursion Rising F → AllByRecursion (OfState m) c → Fine (2 * (2 * m.variables)) (step_question m F c)
unfolding step_question
fine_step m law F c o r oc =
    let n : ℕ = 2 * (2 * m.variables) in
    fine_join n (unroll m 1 ++ F) (map (λ (l : ℕ). denial (moved m 1 l) ∷ []) c)
    (fine_join n (unroll m 1) F (unroll_in_order m law 1).fine (fine_more (2 * m.variables) n F (omega arith) (fine_state m law F o r)))
    (fine_denied m law c oc)

fine_safe : (m : Meaning) → Lawful m → (o : ℕ) → o < m.rules → (F : List (List ℕ)) → StateClauses m F → AllByRecursion Rising F → Fine (2 * m.variables) (safe_question m o F)
unfolding safe_question
fine_safe m law o lo F sc r =
    let e : 2 * (1 * m.variables) ≤ 2 * m.variables = omega arith in
    fine_join (2 * m.variables) (unroll m 0 ++ F) ((get_or m.rule o 0 ∷ []) ∷ [])
    (fine_join (2 * m.variables) (unroll m 0) F (fine_more (2 * (1 * m.variables)) (2 * m.variables) (unroll m 0) e (unroll_in_order m law 0).fine) (fine_state m law F sc r))
    (fine_unit (2 * m.variables) (get_or m.rule o 0) (law.rule_low o lo))

-- selectors a, a + 1, ..
selectors_from : (P : ℕ → Type 0) (a : ℕ) (cs : List (List ℕ)) → ((q : ℕ) → q < length cs → P (2 * (a + q))) → AllByRecursion P (selectors a cs)
selectors_from P a [] h = tt
selectors_from P a (c ∷ cs) h =
    let e : a + 0 ≡ a = omega arith in
    (subst (λ (k : ℕ). P (2 * k)) e (h 0 (omega arith)), selectors_from P (a + 1) cs (λ q l. let d : a + suc q ≡ a + 1 + q = omega arith in subst (λ (k : ℕ). P (2 * k)) d (h (suc q) (omega arith))))

selectors_rise : (a : ℕ) (cs : List (List ℕ)) → Rising (selectors a cs)
selectors_rise a [] = tt
selectors_rise a (c ∷ cs) = (selectors_from (λ y. 2 * a < y) (a + 1) cs (λ q l. omega arith), selectors_rise (a + 1) cs)

fine_choices : (m : Meaning) (F : ℕ → List (List ℕ)) (n j : ℕ) → j ≤ n → Fine (2 * (m.variables + length (before F n))) (choices m F j)
fine_choices m F n zero h = tt
fine_choices m F n (suc j) h =
    let b = before_more F j n (omega arith) in
    fine_join (2 * (m.variables + length (before F n))) (choices m F j) (selectors (m.variables + length (before F j)) (F j) ∷ []) (fine_choices m F n j (omega arith))
    ((selectors_rise (m.variables + length (before F j)) (F j), selectors_from (λ l. l < 2 * (m.variables + length (before F n))) (m.variables + length (before F j)) (F j) (λ q l. omega arith)), tt)

fine_denial : (n a : ℕ) (c : List ℕ) → 2 * a + 1 < n → AllByRecursion (λ l. l < 2 * a) c → Fine n (map (λ (x : ℕ). denial x ∷ (2 * a + 1) ∷ []) c)
fine_denial n a [] h l = tt
fine_denial n a (x ∷ c) h l =
    let d = denial_near x in
    let k : x < 2 * a = l.0 in
    ((((omega arith, tt), (tt, tt)), (omega arith, (omega arith, tt))), fine_denial n a c h l.1)

fine_denials : (v n a : ℕ) (cs : List (List ℕ)) → v ≤ a → 2 * (a + length cs) ≤ n → AllByRecursion (AllByRecursion (λ l. l < 2 * v)) cs → Fine n (denials a cs)
fine_denials v n a [] h k l = tt
fine_denials v n a (c ∷ cs) h k l =
    fine_join n (map (λ (x : ℕ). denial x ∷ (2 * a + 1) ∷ []) c) (denials (a + 1) cs)
    (fine_denial n a c (omega arith) (All-weaker (λ l. l < 2 * v) (λ l. l < 2 * a) (λ l p. omega arith) c l.0))
    (fine_denials v n (a + 1) cs (omega arith) (omega arith) l.1)

before_low : (m : Meaning) → Lawful m → (F : ℕ → List (List ℕ)) (n : ℕ) → ((i : ℕ) → i < n → StateClauses m (F i)) → AllByRecursion (AllByRecursion (λ l. l < 2 * m.variables)) (before F n)
before_low m law F zero h = tt
before_low m law F (suc n) h =
    let room = law.room in
    All-append (AllByRecursion (λ l. l < 2 * m.variables)) (before F n) (F n) (before_low m law F n (λ i l. h i (omega arith)))
    (All-weaker (AllByRecursion (OfState m)) (AllByRecursion (λ l. l < 2 * m.variables)) (λ c. All-weaker (OfState m) (λ l. l < 2 * m.variables) (λ l p. omega arith) c) (F n) (h n (omega arith)))

fine_closing : (m : Meaning) → Lawful m → (F : ℕ → List (List ℕ)) (n : ℕ) → ((i : ℕ) → i ≤ n → StateClauses m (F i)) → AllByRecursion Rising (F n) → Fine (2 * (m.variables + length (before F n))) (closing_question m F n)
unfolding closing_question
fine_closing m law F n o r =
    let k : ℕ = 2 * (m.variables + length (before F n)) in
    fine_join k (F n ++ choices m F n) (denials m.variables (before F n))
    (fine_join k (F n) (choices m F n) (fine_more (2 * m.variables) k (F n) (omega arith) (fine_state m law (F n) (o n (omega arith)) r)) (fine_choices m F n n (omega arith)))
    (fine_denials m.variables k m.variables (before F n) (omega arith) (omega arith) (before_low m law F n (λ i l. o i (omega arith))))

pub trace_fine : TraceFine
trace_fine m law o lo F n sc r = record {
  step = λ i c l c<. fine_step m law (F i) (get_or (F (suc i)) c []) (sc i (omega arith)) (r i (omega arith)) (All-get_or (AllByRecursion (OfState m)) (F (suc i)) c [] c< (sc (suc i) (omega arith)));
  safe = λ i l. fine_safe m law o lo (F i) (sc i l) (r i l);
  closing = fine_closing m law F n sc (r n (omega arith));
}

fine_units : (m : Meaning) → Lawful m → (n i : ℕ) (bs : List Bool) → 2 * m.variables ≤ n → i + length bs ≤ m.state_bits → Fine n (units m i bs)
fine_units m law n i [] h l = tt
fine_units m law n i (b ∷ bs) h l =
    let room = law.room in
    let d = denial_near (literal_of_state m i) in
    (((tt, tt), (cond_both b (literal_of_state m i) (denial (literal_of_state m i)) (λ l. l < n) (λ _. omega arith) (λ _. omega arith), tt)), fine_units m law n (i + 1) bs h (omega arith))

fine_unbroken : (m : Meaning) → Lawful m → (o : ℕ) → o < m.rules → (k j : ℕ) → j ≤ k → Fine (2 * (suc k * m.variables)) (unbroken m o j)
fine_unbroken m law o lo k zero h = tt
fine_unbroken m law o lo k (suc j) h =
    let low = law.rule_low o lo in
    let d = denial_near (moved m j (get_or m.rule o 0)) in
    let s = mul-le (suc j) m.variables (suc k) m.variables (omega arith) (omega arith) in
    let q = suc-mul j m.variables in
    fine_join (2 * (suc k * m.variables)) (unbroken m o j) ((denial (moved m j (get_or m.rule o 0)) ∷ []) ∷ []) (fine_unbroken m law o lo k j (omega arith))
    (fine_unit (2 * (suc k * m.variables)) (denial (moved m j (get_or m.rule o 0))) (omega arith))

-- the rule's literal in row k
fine_rule : (m : Meaning) → Lawful m → (o : ℕ) → o < m.rules → (k : ℕ) → Fine (2 * (suc k * m.variables)) ((moved m k (get_or m.rule o 0) ∷ []) ∷ [])
fine_rule m law o lo k =
    let low = law.rule_low o lo in
    let q = suc-mul k m.variables in
    fine_unit (2 * (suc k * m.variables)) (moved m k (get_or m.rule o 0)) (omega arith)

fine_base : (m : Meaning) → Lawful m → (o : ℕ) → o < m.rules → (i : ℕ) → Fine (2 * (suc i * m.variables)) (base_question m o i)
unfolding base_question
fine_base m law o lo i =
    let n : ℕ = 2 * (suc i * m.variables) in
    let q = suc-mul i m.variables in
    let size = law.start_size in
    fine_join n (unroll m i ++ units m 0 m.start) ((moved m i (get_or m.rule o 0) ∷ []) ∷ [])
    (fine_join n (unroll m i) (units m 0 m.start) (unroll_in_order m law i).fine (fine_units m law n 0 m.start (omega arith) (omega arith)))
    (fine_rule m law o lo i)

fine_last : (m : Meaning) → Lawful m → (o : ℕ) → o < m.rules → (k : ℕ) → Fine (2 * (suc k * m.variables)) (last_question m o k)
unfolding last_question
fine_last m law o lo k =
    let n : ℕ = 2 * (suc k * m.variables) in
    fine_join n (unroll m k ++ unbroken m o k) ((moved m k (get_or m.rule o 0) ∷ []) ∷ [])
    (fine_join n (unroll m k) (unbroken m o k) (unroll_in_order m law k).fine (fine_unbroken m law o lo k k (omega arith)))
    (fine_rule m law o lo k)

pub induction_fine : InductionFine
induction_fine m law o lo k = record {
  base = λ i l. fine_base m law o lo i;
  last = fine_last m law o lo k;
}
