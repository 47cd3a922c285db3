-- The clauses of the frames before one, counted through.
use Rattle.std.proofs.Common.{◌≡◌, ℕ, zero, suc, ◌+◌, ◌-◌, ◌<◌, ◌≤◌, List, [], ◌++◌, length, get_or, take, drop, sym, refl, ap, ◌∙◌, subst, ⊎_elim, arith, take-add}
use Rattle.std.specs.List.{flat_map}
use Rattle.std.proofs.lemmas.List.{length-append, get_or_append_left, get_or-append-add, flat_map_more, take_more}
use Rattle.std.proofs.lemmas.Bool.{cases_lt}
use Rattle.question_theory.specs.Traces.{before}
use Rattle.question_theory.specs.Shapes.{step_count, FramesCounted, FramesListed, FramesMarked}

-- clause q of frame i, where the clauses are counted through
pub before_at : (F : ℕ → List (List ℕ)) (n i q : ℕ) → i < n → q < length (F i) →
    (length (before F i) + q < length (before F n)) × (get_or (before F n) (length (before F i) + q) [] ≡ get_or (F i) q [])
before_at F zero i q h l = let none : ⊥ = omega arith in absurd none
before_at F (suc n) i q h l =
    let size = length-append (before F n) (F n) in
    let ih : i < n → (length (before F i) + q < length (before F n)) × (get_or (before F n) (length (before F i) + q) [] ≡ get_or (F i) q []) = λ k. before_at F n i q k l in
    ⊎_elim
    (λ (a : i < n). (omega (arith, (ih a).0), get_or_append_left (before F n) (F n) [] (length (before F i) + q) (ih a).0 ∙ (ih a).1))
    (λ (b : n ≤ i).
    let e : n ≡ i = omega arith in
    subst (λ (k : ℕ). q < length (F k) → (length (before F k) + q < length (before F n ++ F n)) × (get_or (before F n ++ F n) (length (before F k) + q) [] ≡ get_or (F k) q [])) e
    (λ ln. (omega arith, get_or-append-add (before F n) (F n) q [])) l)
    (cases_lt i n)

-- frame j is one of those before n
pub before_more : (F : ℕ → List (List ℕ)) (j n : ℕ) → j < n → length (before F j) + length (F j) ≤ length (before F n)
before_more F j zero h = let none : ⊥ = omega arith in absurd none
before_more F j (suc n) h =
    let size = length-append (before F n) (F n) in
    let ih : j < n → length (before F j) + length (F j) ≤ length (before F n) = before_more F j n in
    ⊎_elim (λ (a : j < n). omega (arith, ih a)) (λ (b : n ≤ j). let e : n ≡ j = omega arith in
    subst (λ (k : ℕ). length (before F k) + length (F k) ≤ length (before F n ++ F n)) e (omega arith)) (cases_lt j n)

pub frames_listed : FramesListed
frames_listed Fs zero h = refl
frames_listed Fs (suc n) h =
    let e : n + 1 ≡ suc n = omega arith in
    ap (λ (xs : List (List ℕ)). xs ++ get_or Fs n []) (frames_listed Fs n (omega arith))
    ∙ flat_map_more (λ (F : List (List ℕ)). F) [] (take n Fs) (get_or Fs n [])
    ∙ ap (flat_map (λ (F : List (List ℕ)). F)) (sym (take_more Fs n [] h) ∙ ap (λ (k : ℕ). take k Fs) e)

pub frames_counted : FramesCounted
frames_counted F zero = omega arith
frames_counted F (suc i) =
    let a = length-append (before F (suc i)) (F (suc i)) in
    let b = frames_counted F i in
    omega arith

pub frames_marked : FramesMarked
frames_marked cs mark zero z up l = ap (λ (k : ℕ). take k cs) (sym z)
frames_marked cs mark (suc n) z up l =
    let h : mark n ≤ mark (suc n) = up n (omega arith) in
    let e : mark n + (mark (suc n) - mark n) ≡ mark (suc n) = omega arith in
    ap (λ (xs : List (List ℕ)). xs ++ take (mark (suc n) - mark n) (drop (mark n) cs)) (frames_marked cs mark n z (λ i k. up i (omega arith)) (omega arith))
    ∙ sym (take-add (mark n) (mark (suc n) - mark n) cs)
    ∙ ap (λ (k : ℕ). take k cs) e

-- the step questions of frame i are among those of the frames before n
pub steps_within : (F : ℕ → List (List ℕ)) (i n : ℕ) → i < n → step_count F i + length (F (suc i)) ≤ step_count F n
steps_within F i n h = omega (arith, before_more F (suc i) (suc n) (omega arith), frames_counted F i, frames_counted F n)
