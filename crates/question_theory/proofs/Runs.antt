-- Runs are the linked rows that begin in the start.
use Rattle.std.proofs.Common.{◌≡◌, ℕ, zero, suc, ◌-◌, ◌<◌, ◌≤◌, Bool, true, false, List, [], map, length, get_or, refl, ap, ◌∙◌, subst, ap₂, ⊎_elim, arith}
use Rattle.std.specs.List.{range_with_len}
use Rattle.std.proofs.lemmas.List.FromFn.{length-map-range_with_len, get_or-map-range_with_len}
use Rattle.std.proofs.ByRecursion.{All-get_or, All-from_get_or}
use Rattle.std.proofs.lemmas.Bool.{cases_Bool, both_ways}
use Rattle.machine.specs.Meaning.{Meaning}
use Rattle.machine.specs.Runs.{Run, Breaks, state_at}
use Rattle.question_theory.specs.Unrolling.{linked_state, Inputs, broken_at}

-- the rows of a run are linked
run_state : (m : Meaning) (rows : List (List Bool)) (t : ℕ) → state_at m rows t ≡ linked_state m m.start (λ j. get_or rows j []) t
run_state m rows zero = refl
run_state m rows (suc t) = ap (λ (q : List Bool). m.step q (get_or rows t [])) (run_state m rows t)

-- where no linked rows of that length break the rule, no run does
pub run_unbroken : (m : Meaning) (o : ℕ) (rows : List (List Bool)) → Run m rows →
    ((ins : ℕ → List Bool) → Inputs m ins (length rows - 1) → broken_at m o m.start ins (length rows - 1) ≡ false) → Breaks m o rows → ⊥
run_unbroken m o rows r h b =
    let some : 1 ≤ length rows = r.some in
    let t : ℕ = length rows - 1 in
    both_ways (m.broken o (state_at m rows t) (get_or rows t []))
    (ap (λ (q : List Bool). m.broken o q (get_or rows t [])) (run_state m rows t)
    ∙ h (λ j. get_or rows j []) (λ j l. All-get_or (λ x. length x ≡ m.inputs) rows j [] (omega arith) r.wide))
    b

-- linked rows as a list
abbrev listed : (ℕ → List Bool) → ℕ → List (List Bool)
listed ins n = map ins (range_with_len 0 n)

listed_state : (m : Meaning) (ins : ℕ → List Bool) (n t : ℕ) → t ≤ n → state_at m (listed ins n) t ≡ linked_state m m.start ins t
listed_state m ins n zero h = refl
listed_state m ins n (suc t) h = ap₂ m.step (listed_state m ins n t (omega arith)) (get_or-map-range_with_len ins 0 n t t [] (omega arith) (omega arith))

listed_run : (m : Meaning) (ins : ℕ → List Bool) (t : ℕ) → Inputs m ins t → Run m (listed ins (suc t))
listed_run m ins t is =
    let size : length (listed ins (suc t)) ≡ suc t = length-map-range_with_len ins 0 (suc t) in
    record {
      some = omega arith;
      wide = All-from_get_or (λ x. length x ≡ m.inputs) (listed ins (suc t)) [] (λ j l.
          let j< : j < suc t = omega arith in
          ap length (get_or-map-range_with_len ins 0 (suc t) j j [] j< (omega arith)) ∙ is j (omega arith));
    }

-- where no run of that length breaks the rule, no linked rows from the start do
pub linked_unbroken : (m : Meaning) (o : ℕ) (ins : ℕ → List Bool) (t : ℕ) → Inputs m ins t →
    ((rows : List (List Bool)) → Run m rows → length rows ≡ suc t → Breaks m o rows → ⊥) → broken_at m o m.start ins t ≡ false
linked_unbroken m o ins t is h =
    let size : length (listed ins (suc t)) ≡ suc t = length-map-range_with_len ins 0 (suc t) in
    let e : t ≡ length (listed ins (suc t)) - 1 = omega arith in
    let same : m.broken o (state_at m (listed ins (suc t)) t) (get_or (listed ins (suc t)) t []) ≡ broken_at m o m.start ins t =
    ap₂ (m.broken o) (listed_state m ins (suc t) t (omega arith)) (get_or-map-range_with_len ins 0 (suc t) t t [] (omega arith) (omega arith)) in
    ⊎_elim
    (λ (a : broken_at m o m.start ins t ≡ true). absurd (h (listed ins (suc t)) (listed_run m ins t is) size
    (subst (λ (k : ℕ). m.broken o (state_at m (listed ins (suc t)) k) (get_or (listed ins (suc t)) k []) ≡ true) e (same ∙ a))))
    (λ (b : broken_at m o m.start ins t ≡ false). b)
    (cases_Bool (broken_at m o m.start ins t))
