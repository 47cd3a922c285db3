-- The questions on numbers are answered yes exactly where the numbers make a circuit.
use Rattle.std.specs.Bool.{MatchBool}
use Rattle.std.specs.List.{AllWithin, HoldsAt}
use Rattle.std.proofs.Common.{sym, ◌≡◌, ℕ, zero, suc, ◌+◌, ◌*◌, ◌<◌, Bool, true, false, cond, ◌&&◌, eqb, ltb, leb, List, length, get_or, take, Ok, Err, Result, refl, ◌∙◌, ⊎_elim, arith, MatchResult}
use Rattle.std.proofs.lemmas.List.{length-take-le, get_or-take}
use Rattle.std.proofs.lemmas.Bool.{cond_both, cases_eq, and_parts, and_from, and_left, and_right, both_ways, leb-true, ltb-true, eqb-true, eqb-false, le-leb, lt-ltb}
use Rattle.std.proofs.lemmas.Result.{MatchResult-at_ok, MatchResult-at_err}
use Rattle.refusal.specs.declared.faults.TextFault.{TextFault}
use Rattle.refusal.specs.declared.faults.TextFault.TheVariants.{Sum, Bounds, ShortArea, Literal}
use Rattle.refusal.specs.declared.faults.TextRefusal.{TextRefusal}
use Rattle.aiger.specs.declared.header.Header.{Header}
use Rattle.aiger.specs.Numbers.{needed, admitted, Admitted, Heads, Gates, Good, gate_literal}
use Rattle.circuit.specs.Admission.{all_below, head_fits, gate_fits, heads_are_fit, gates_are_fit, refused, then_literals, judged}

below_fails : (n k : ℕ) (p : ℕ → Bool) → k < n → p k ≡ false → all_below n p ≡ false
unfolding all_below
below_fails zero k p l e = absurd (omega arith)
below_fails (suc n) k p l e =
    ⊎_elim
    (λ (s : k ≡ n). and_right (all_below n p) (p n) (rw s at e))
    (λ (ne : k ≡ n → ⊥). and_left (all_below n p) (p n) (below_fails n k p (omega arith) e))
    (cases_eq k n)

below_each : (n k : ℕ) (p : ℕ → Bool) → all_below n p ≡ true → k < n → p k ≡ true
unfolding all_below
below_each zero k p h l = absurd (omega arith)
below_each (suc n) k p h l =
    let parts = and_parts (all_below n p) (p n) h in
    ⊎_elim
    (λ (s : k ≡ n). rw s parts.1)
    (λ (ne : k ≡ n → ⊥). below_each n k p parts.0 (omega arith))
    (cases_eq k n)

below_all : (n : ℕ) (p : ℕ → Bool) → ((k : ℕ) → k < n → p k ≡ true) → all_below n p ≡ true
unfolding all_below
below_all zero p h = refl
below_all (suc n) p h = and_from (all_below n p) (p n) (below_all n p (λ k l. h k (omega arith))) (h n (omega arith))

-- the answer of a test of each element, as a test of each number below the length
pub below_from_cases : {A : Type 0} (r : Bool) (xs : List A) (d : A) (n : ℕ) (p : ℕ → Bool) (Yes No : A → Type 0) → length xs ≡ n →
    MatchBool r (AllWithin Yes xs 0 (length xs)) ((k : ℕ) × (k < length xs) × HoldsAt No xs k) →
    ((k : ℕ) → k < n → Yes (get_or xs k d) → p k ≡ true) → ((k : ℕ) → k < n → No (get_or xs k d) → p k ≡ false) → r ≡ all_below n p
below_from_cases true xs d n p Yes No size cases passes fails = sym (below_all n p (λ k l. passes k l (cases k d (omega arith) (omega arith))))
below_from_cases false xs d n p Yes No size cases passes fails = let k< : cases.0 < n = omega (arith, cases.1) in sym (below_fails n cases.0 p k< (fails cases.0 k< (cases.2 d)))

-- an answer is yes exactly where A holds
abbrev Exact : {E : Type 0} → Type 0 → Result (Unit {0}) E → Type 0
Exact A r = MatchResult r (λ _. A) (λ _. A → ⊥)

admitted_exact : (h : Header) (n : ℕ) → Exact (Admitted h n) (admitted h n)
admitted_exact h n =
    cond_both sum (cond bounds (cond size (Ok tt) (Err ShortArea)) (Err Bounds)) (Err Sum) (Exact (Admitted h n))
    (λ s. cond_both bounds (cond size (Ok tt) (Err ShortArea)) (Err Bounds) (Exact (Admitted h n))
    (λ b. let parts = and_parts (leb h.maximum 16383) (leb 1 h.outputs && leb h.outputs 32) b in
    let few = and_parts (leb 1 h.outputs) (leb h.outputs 32) parts.1 in
    cond_both size (Ok tt) (Err ShortArea) (Exact (Admitted h n))
    (λ z. (eqb-true h.maximum (h.inputs + h.latches + h.gates) s, leb-true h.maximum 16383 parts.0, leb-true 1 h.outputs few.0, leb-true h.outputs 32 few.1, leb-true (needed h) n z))
    (λ z a. both_ways size z (le-leb (needed h) n a.4)))
    (λ b a. both_ways bounds b (and_from (leb h.maximum 16383) (leb 1 h.outputs && leb h.outputs 32) (le-leb h.maximum 16383 a.1) (and_from (leb 1 h.outputs) (leb h.outputs 32) (le-leb 1 h.outputs a.2) (le-leb h.outputs 32 a.3)))))
    (λ s a. eqb-false h.maximum (h.inputs + h.latches + h.gates) s a.0)
  where
    sum : Bool
    sum = eqb h.maximum (h.inputs + h.latches + h.gates)

    bounds : Bool
    bounds = leb h.maximum 16383 && (leb 1 h.outputs && leb h.outputs 32)

    size : Bool
    size = leb (needed h) n

heads_are : (h : Header) (area : List ℕ) → heads_are_fit h area ≡ true → Heads h area
heads_are h area e k l = leb-true (get_or area k 0) (2 * h.maximum + 1) (below_each (h.latches + h.outputs) k (head_fits h area) e l)

heads_from : (h : Header) (area : List ℕ) → Heads h area → heads_are_fit h area ≡ true
heads_from h area f = below_all (h.latches + h.outputs) (head_fits h area) (λ k l. le-leb (get_or area k 0) (2 * h.maximum + 1) (f k l))

gates_are : (h : Header) (area : List ℕ) → gates_are_fit h area ≡ true → Gates h area
gates_are h area e j l =
    let a : ℕ = get_or area (h.latches + h.outputs + 2 * j) 0 in
    let b : ℕ = get_or area (h.latches + h.outputs + (2 * j + 1)) 0 in
    let parts = and_parts (ltb a (gate_literal h j)) (leb b a) (below_each h.gates j (gate_fits h area) e l) in
    (ltb-true a (gate_literal h j) parts.0, leb-true b a parts.1)

gates_from : (h : Header) (area : List ℕ) → Gates h area → gates_are_fit h area ≡ true
gates_from h area f =
    below_all h.gates (gate_fits h area)
    (λ j l. let a : ℕ = get_or area (h.latches + h.outputs + 2 * j) 0 in
    let b : ℕ = get_or area (h.latches + h.outputs + (2 * j + 1)) 0 in
    and_from (ltb a (gate_literal h j)) (leb b a) (lt-ltb a (gate_literal h j) (f j l).0) (le-leb b a (f j l).1))

literals_exact : (h : Header) (area : List ℕ) (r : Result (Unit {0}) TextFault) → Exact (Admitted h (length area)) r → Exact (Good h area) (then_literals (heads_are_fit h area && gates_are_fit h area) r)
literals_exact h area (Ok _) admits =
    cond_both fit (Ok tt) (refused Literal) (Exact (Good h area))
    (λ e. let parts = and_parts (heads_are_fit h area) (gates_are_fit h area) e in (admits, heads_are h area parts.0, gates_are h area parts.1))
    (λ e good. both_ways fit e (and_from (heads_are_fit h area) (gates_are_fit h area) (heads_from h area good.1) (gates_from h area good.2)))
  where
    fit : Bool
    fit = heads_are_fit h area && gates_are_fit h area
literals_exact h area (Err f) not = λ good. not good.0

judged_exact : (h : Header) (area : List ℕ) → Exact (Good h area) (judged h area)
judged_exact h area = literals_exact h area (admitted h (length area)) (admitted_exact h (length area))

pub good_from : (h : Header) (area : List ℕ) (u : Unit {0}) → judged h area ≡ Ok u → Good h area
good_from h area u e = MatchResult-at_ok (λ _. Good h area) (λ _. Good h area → ⊥) u e (judged_exact h area)

pub not_good_from : (h : Header) (area : List ℕ) (f : TextRefusal) → judged h area ≡ Err f → Good h area → ⊥
not_good_from h area f e = MatchResult-at_err (λ _. Good h area) (λ _. Good h area → ⊥) f e (judged_exact h area)

-- the area cut to what the circuit needs
pub cut : (h : Header) (area : List ℕ) (n : ℕ) → n ≡ needed h → Good h area → Good h (take n area) × (length (take n area) ≡ needed h)
cut h area n e good =
    let size : length (take n area) ≡ n = length-take-le n area (omega (arith, good.0.4)) in (
      (
        (good.0.0, good.0.1, good.0.2, good.0.3, omega arith),
        λ k l. let k< : k < n = omega arith in omega (arith, get_or-take n area k 0 k<, good.1 k l),
        λ j l.
            let at : ℕ = h.latches + h.outputs + 2 * j in
            let a< : at < n = omega arith in
            let b< : h.latches + h.outputs + (2 * j + 1) < n = omega arith in
            let ea = get_or-take n area at 0 a< in
            let eb = get_or-take n area (h.latches + h.outputs + (2 * j + 1)) 0 b< in
            (omega (arith, (good.2 j l).0), omega (arith, (good.2 j l).1)),
      ),
      size ∙ e,
    )
