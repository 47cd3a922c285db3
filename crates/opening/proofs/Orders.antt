-- Rising clauses, by their last literal.
use Rattle.std.proofs.Common.{◌≡◌, ℕ, suc, ◌+◌, ◌-◌, ◌/◌, ◌<◌, ◌≤◌, true, ◌||◌, eqb, ltb, leb, List, [], ◌∷◌, ◌++◌, length, get_or, refl, subst, ⊎_elim, arith}
use Rattle.std.proofs.ByRecursion.{All-push}
use Rattle.std.proofs.lemmas.Bool.{and_parts, and_from, or_cases, or_right, leb-true, ltb-true, eqb-true, le-leb, lt-ltb}
use Rattle.std.specs.List.{AllByRecursion}
use Rattle.resolution.specs.Clauses.{Rising}
use Rattle.resolution.specs.Lists.{above}
use Rattle.machine.specs.Meaning.{Meaning}
use Rattle.question_theory.specs.Traces.{OfState}
use Rattle.opening.specs.Steps.{is_next_literal}

rising_push : (c : List ℕ) (l : ℕ) → Rising c → AllByRecursion (λ y. y < l) c → Rising (c ++ l ∷ [])
rising_push [] l r a = (tt, tt)
rising_push (x ∷ xs) l r a = (All-push (λ y. x < y) xs l r.0 a.0, rising_push xs l r.1 a.1)

last_below : (c : List ℕ) (l : ℕ) → Rising c → get_or c (length c - 1) 0 < l → AllByRecursion (λ y. y < l) c
last_below [] l r h = tt
last_below (x ∷ []) l r h = (h, tt)
last_below (x ∷ y ∷ ys) l r h =
    let e : suc (suc (length ys)) - 1 ≡ suc (suc (length ys) - 1) = omega arith in
    let t = last_below (y ∷ ys) l r.1 (subst (λ (k : ℕ). get_or (x ∷ y ∷ ys) k 0 < l) e h) in
    (omega (arith, r.0.0, t.0), t)

all_middle : (P : ℕ → Type 0) (c d : List ℕ) (l : ℕ) → AllByRecursion P (c ++ l ∷ d) → P l
all_middle P [] d l a = a.0
all_middle P (x ∷ xs) d l a = all_middle P xs d l a.1

below_last : (c d : List ℕ) (l : ℕ) → 1 ≤ length c → Rising (c ++ l ∷ d) → get_or c (length c - 1) 0 < l
below_last [] d l h r = absurd (omega arith)
below_last (x ∷ []) d l h r = r.0.0
below_last (x ∷ y ∷ ys) d l h r =
    let e : suc (suc (length ys) - 1) ≡ suc (suc (length ys)) - 1 = omega arith in
    subst (λ (k : ℕ). get_or (x ∷ y ∷ ys) k 0 < l) e (below_last (y ∷ ys) d l (omega arith) r.1)

-- the next literal of a clause is one of a state bit, and the clause rises on with it
pub next_rises : (m : Meaning) (c : List ℕ) (l : ℕ) → Rising c → is_next_literal m c l ≡ true → OfState m l × Rising (c ++ l ∷ [])
unfolding is_next_literal above
next_rises m c l r e =
    let p = and_parts (leb (1 + m.inputs) (l / 2)) _ e in
    let q = and_parts (ltb (l / 2) (1 + m.inputs + m.state_bits)) (above c l) p.1 in (
      (leb-true (1 + m.inputs) (l / 2) p.0, ltb-true (l / 2) (1 + m.inputs + m.state_bits) q.0),
      ⊎_elim
          (λ z. no_literal c (eqb-true (length c) 0 z))
          (λ z. rising_push c l r (last_below c l r (ltb-true (get_or c (length c - 1) 0) l z)))
          (or_cases (eqb (length c) 0) (ltb (get_or c (length c - 1) 0) l) q.1),
    )
  where
    no_literal : (c : List ℕ) → length c ≡ 0 → Rising (c ++ l ∷ [])
    no_literal [] z = (tt, tt)
    no_literal (x ∷ xs) z = absurd (omega arith)

pub rises_next : (m : Meaning) (c d : List ℕ) (l : ℕ) → Rising (c ++ l ∷ d) → OfState m l → is_next_literal m c l ≡ true
unfolding is_next_literal above
rises_next m c d l r s =
    and_from (leb (1 + m.inputs) (l / 2)) _ (le-leb (1 + m.inputs) (l / 2) s.0)
    (and_from (ltb (l / 2) (1 + m.inputs + m.state_bits)) (above c l) (lt-ltb (l / 2) (1 + m.inputs + m.state_bits) s.1) (by c r))
  where
    by : (c : List ℕ) → Rising (c ++ l ∷ d) → (eqb (length c) 0 || ltb (get_or c (length c - 1) 0) l) ≡ true
    by [] r = refl
    by (x ∷ xs) r = or_right (eqb (length (x ∷ xs)) 0) (ltb (get_or (x ∷ xs) (length (x ∷ xs) - 1) 0) l) (lt-ltb (get_or (x ∷ xs) (length (x ∷ xs) - 1) 0) l (below_last (x ∷ xs) d l (omega arith) r))
