-- A setting that satisfies an unrolling is linked rows, and the other way round.
use Rattle.std.proofs.Common.{◌≡◌, ℕ, zero, suc, ◌+◌, ◌*◌, ◌/◌, ◌%◌, ◌<◌, ◌≤◌, Bool, true, false, not, ◌&&◌, ◌||◌, ◌⊎◌, List, [], ◌∷◌, map, length, get_or, sym, refl, ap, ◌∙◌, subst, ap₂, inl, inr, ⊎_elim, arith}
use Rattle.std.specs.List.{range_with_len, AllByRecursion}
use Rattle.std.proofs.lemmas.List.{ext_get_or, length-map, get_or-take, get_or-map, get_or-append-add}
use Rattle.std.proofs.lemmas.List.FromFn.{length-map-range_with_len, get_or-map-range_with_len, take-map-range_with_len}
use Rattle.std.proofs.ByRecursion.{All-from_get_or}
use Rattle.std.proofs.lemmas.Bool.{cases_lt, false≢true}
use Rattle.std.proofs.lemmas.Nat.{div-mul-add, mod-mul-add}
use Rattle.resolution.specs.Clauses.{literal_true, models}
use Rattle.resolution.proofs.Settings.{true_same, true_twice, denial_flips}
use Rattle.machine.specs.Meaning.{Meaning, Lawful, Fits, lit, sat}
use Rattle.question_theory.specs.Unrolling.{moved, clauses_at, clauses_upto, literal_of_state, tie, ties, unroll, linked_state, Inputs, row_at, LinkedRows, Unrolls}
use Rattle.question_theory.proofs.Satisfied.{parts, joins, models_moved, map_split}

pub lows : (m : Meaning) → Lawful m → AllByRecursion (AllByRecursion (λ l. l < 2 * m.variables)) m.clauses
lows m law = All-from_get_or (AllByRecursion (λ l. l < 2 * m.variables)) m.clauses [] (λ c h. All-from_get_or (λ l. l < 2 * m.variables) (get_or m.clauses c []) 0 (λ k j. law.clause_low c k h j))

-- a variable of frame t
pub row_var : (m : Meaning) (v : ℕ → Bool) (t k : ℕ) → k < m.variables → get_or (row_at m v t) k false ≡ v (t * m.variables + k)
row_var m v t k h = get_or-map-range_with_len v (t * m.variables) m.variables k (t * m.variables + k) false h refl

-- a literal of frame t
pub literal_at : (m : Meaning) (v : ℕ → Bool) (t l : ℕ) → l < 2 * m.variables → literal_true v (moved m t l) ≡ lit (row_at m v t) l
literal_at m v t l h =
    let q : moved m t l / 2 ≡ t * m.variables + l / 2 = omega arith in
    true_same v (λ k. get_or (row_at m v t) k false) (moved m t l) l (omega arith) (ap v q ∙ sym (row_var m v t (l / 2) (omega arith)))

clauses_sat : (m : Meaning) → Lawful m → (v : ℕ → Bool) (t : ℕ) → models v (clauses_at m t) ≡ sat (row_at m v t) m.clauses
clauses_sat m law v t = models_moved (λ k. get_or (row_at m v t) k false) v (moved m t) (λ l. l < 2 * m.variables) (literal_at m v t) m.clauses (lows m law)

-- the clauses of each frame, and the ties of each frame
upto_at : (m : Meaning) (v : ℕ → Bool) (n : ℕ) → models v (clauses_upto m n) ≡ true → (t : ℕ) → t ≤ n → models v (clauses_at m t) ≡ true
unfolding clauses_upto
upto_at m v zero h t l = let e : zero ≡ t = omega arith in subst (λ (k : ℕ). models v (clauses_at m k) ≡ true) e h
upto_at m v (suc n) h t l =
    let p = parts v (clauses_upto m n) (clauses_at m (suc n)) h in
    let ih : t ≤ n → models v (clauses_at m t) ≡ true = upto_at m v n p.0 t in
    ⊎_elim
    (λ (a : t < suc n). ih (omega arith))
    (λ (b : suc n ≤ t). let e : suc n ≡ t = omega arith in subst (λ (k : ℕ). models v (clauses_at m k) ≡ true) e p.1)
    (cases_lt t (suc n))

upto_from : (m : Meaning) (v : ℕ → Bool) (n : ℕ) → ((t : ℕ) → t ≤ n → models v (clauses_at m t) ≡ true) → models v (clauses_upto m n) ≡ true
unfolding clauses_upto
upto_from m v zero h = h zero (omega arith)
upto_from m v (suc n) h = joins v (clauses_upto m n) (clauses_at m (suc n)) (upto_from m v n (λ t l. h t (omega arith))) (h (suc n) (omega arith))

ties_at : (m : Meaning) (v : ℕ → Bool) (n : ℕ) → models v (ties m n) ≡ true → (t : ℕ) → t < n → models v (tie m t 0 m.next) ≡ true
unfolding ties
ties_at m v zero h t l = let none : ⊥ = omega arith in absurd none
ties_at m v (suc n) h t l =
    let p = parts v (ties m n) (tie m n 0 m.next) h in
    let ih : t < n → models v (tie m t 0 m.next) ≡ true = ties_at m v n p.0 t in
    ⊎_elim
    (λ (a : t < n). ih a)
    (λ (b : n ≤ t). let e : n ≡ t = omega arith in subst (λ (k : ℕ). models v (tie m k 0 m.next) ≡ true) e p.1)
    (cases_lt t n)

ties_from : (m : Meaning) (v : ℕ → Bool) (n : ℕ) → ((t : ℕ) → t < n → models v (tie m t 0 m.next) ≡ true) → models v (ties m n) ≡ true
unfolding ties
ties_from m v zero h = refl
ties_from m v (suc n) h = joins v (ties m n) (tie m n 0 m.next) (ties_from m v n (λ t l. h t (omega arith))) (h n (omega arith))

-- the two clauses that tie x to y
tied_only : (x y r : Bool) → ((x || (not y || false)) && ((not x || (y || false)) && r)) ≡ true → (x ≡ y) × (r ≡ true)
tied_only true true r h = (refl, h)
tied_only true false r h = absurd (false≢true h)
tied_only false true r h = absurd (false≢true h)
tied_only false false r h = (refl, h)

tied_sat : (x r : Bool) → ((x || (not x || false)) && ((not x || (x || false)) && r)) ≡ r
tied_sat true r = refl
tied_sat false r = refl

tie_is : (m : Meaning) (v : ℕ → Bool) (t i x : ℕ) (xs : List ℕ) → models v (tie m t i (x ∷ xs)) ≡
    ((literal_true v (moved m t x) || (not (v (suc t * m.variables + (1 + m.inputs + i))) || false)) &&
    ((not (literal_true v (moved m t x)) || (v (suc t * m.variables + (1 + m.inputs + i)) || false)) && models v (tie m t (i + 1) xs)))
tie_is m v t i x xs =
    let e : moved m (suc t) (literal_of_state m i) ≡ 2 * (suc t * m.variables + (1 + m.inputs + i)) = omega arith in
    let y : literal_true v (moved m (suc t) (literal_of_state m i)) ≡ v (suc t * m.variables + (1 + m.inputs + i)) = ap (literal_true v) e ∙ true_twice v (suc t * m.variables + (1 + m.inputs + i)) in
    four (literal_true v (moved m t x)) (models v (tie m t (i + 1) xs)) (denial_flips v (moved m (suc t) (literal_of_state m i)) ∙ ap not y) (denial_flips v (moved m t x)) y
  where
    four : (a : Bool) {b n c d : Bool} (r : Bool) → b ≡ n → c ≡ not a → d ≡ v (suc t * m.variables + (1 + m.inputs + i)) →
        ((a || (b || false)) && ((c || (d || false)) && r)) ≡ ((a || (n || false)) && ((not a || (v (suc t * m.variables + (1 + m.inputs + i)) || false)) && r))
    four a r p q s = cc

tied : (m : Meaning) (v : ℕ → Bool) (t i : ℕ) (xs : List ℕ) → models v (tie m t i xs) ≡ true → (j : ℕ) → j < length xs →
    literal_true v (moved m t (get_or xs j 0)) ≡ v (suc t * m.variables + (1 + m.inputs + (i + j)))
tied m v t i [] h j l = let none : ⊥ = omega arith in absurd none
tied m v t i (x ∷ xs) h zero l =
    let e : i ≡ i + zero = omega arith in
    (tied_only (literal_true v (moved m t x)) (v (suc t * m.variables + (1 + m.inputs + i))) (models v (tie m t (i + 1) xs)) (sym (tie_is m v t i x xs) ∙ h)).0
    ∙ ap (λ (k : ℕ). v (suc t * m.variables + (1 + m.inputs + k))) e
tied m v t i (x ∷ xs) h (suc j) l =
    let e : i + 1 + j ≡ i + suc j = omega arith in
    tied m v t (i + 1) xs (tied_only (literal_true v (moved m t x)) (v (suc t * m.variables + (1 + m.inputs + i))) (models v (tie m t (i + 1) xs)) (sym (tie_is m v t i x xs) ∙ h)).1 j (omega arith)
    ∙ ap (λ (k : ℕ). v (suc t * m.variables + (1 + m.inputs + k))) e

tie_from : (m : Meaning) (v : ℕ → Bool) (t i : ℕ) (xs : List ℕ) → ((j : ℕ) → j < length xs →
    literal_true v (moved m t (get_or xs j 0)) ≡ v (suc t * m.variables + (1 + m.inputs + (i + j)))) → models v (tie m t i xs) ≡ true
tie_from m v t i [] h = refl
tie_from m v t i (x ∷ xs) h =
    let e : i + 0 ≡ i = omega arith in
    let here : literal_true v (moved m t x) ≡ v (suc t * m.variables + (1 + m.inputs + i)) = h 0 (omega arith) ∙ ap (λ (k : ℕ). v (suc t * m.variables + (1 + m.inputs + k))) e in
    tie_is m v t i x xs
    ∙ ap (λ (y : Bool). (literal_true v (moved m t x) || (not y || false)) && ((not (literal_true v (moved m t x)) || (y || false)) && models v (tie m t (i + 1) xs))) (sym here)
    ∙ tied_sat (literal_true v (moved m t x)) (models v (tie m t (i + 1) xs))
    ∙ tie_from m v t (i + 1) xs (λ j l. let d : i + suc j ≡ i + 1 + j = omega arith in h (suc j) (omega arith) ∙ ap (λ (k : ℕ). v (suc t * m.variables + (1 + m.inputs + k))) d)

-- the inputs and the state that frame t begins with
abbrev inputs_of : Meaning → (ℕ → Bool) → ℕ → List Bool
inputs_of m v t = map v (range_with_len (t * m.variables + 1) m.inputs)

abbrev state_of : Meaning → (ℕ → Bool) → ℕ → List Bool
state_of m v t = map v (range_with_len (t * m.variables + (1 + m.inputs)) m.state_bits)

fit_at : (m : Meaning) → Lawful m → (v : ℕ → Bool) (t : ℕ) → models v (clauses_at m t) ≡ true → Fits m (state_of m v t) (inputs_of m v t) (row_at m v t)
fit_at m law v t h =
    let V : ℕ = m.variables in
    let room = law.room in
    let good : sat (row_at m v t) m.clauses ≡ true = sym (clauses_sat m law v t) ∙ h in
    let size : length (row_at m v t) ≡ m.variables = length-map-range_with_len v (t * m.variables) m.variables in
    let first : v (t * m.variables) ≡ false = ap v (let e : t * m.variables ≡ t * m.variables + 0 = omega arith in e) ∙ sym (row_var m v t 0 (omega arith)) ∙ law.zero (row_at m v t) size good in
    let more : 1 + m.inputs + m.state_bits ≡ suc (m.inputs + m.state_bits) = omega arith in
    record {
      state = length-map-range_with_len v (t * m.variables + (1 + m.inputs)) m.state_bits;
      given = length-map-range_with_len v (t * m.variables + 1) m.inputs;
      size = size;
      front = take-map-range_with_len v (t * m.variables) m.variables (1 + m.inputs + m.state_bits) room
          ∙ ap (λ (k : ℕ). map v (range_with_len (t * m.variables) k)) more
          ∙ ap₂ (λ (b : Bool) (r : List Bool). b ∷ r) first (map_split v m.inputs (t * m.variables + 1) m.state_bits (m.inputs + m.state_bits) (t * m.variables + (1 + m.inputs)) refl (omega arith));
      holds = good;
    }

step_at : (m : Meaning) → Lawful m → (v : ℕ → Bool) (t : ℕ) → models v (clauses_at m t) ≡ true → models v (tie m t 0 m.next) ≡ true →
    state_of m v (suc t) ≡ m.step (state_of m v t) (inputs_of m v t)
step_at m law v t h k =
    let size : length (state_of m v (suc t)) ≡ m.state_bits = length-map-range_with_len v (suc t * m.variables + (1 + m.inputs)) m.state_bits in
    let few = law.next_size in
    ext_get_or false (state_of m v (suc t)) (map (lit (row_at m v t)) m.next) (size ∙ sym few ∙ sym (length-map m.next (lit (row_at m v t)))) (λ i l.
    let i< : i < m.state_bits = omega arith in
    let i<' : i < length m.next = omega arith in
    let p : suc t * m.variables + (1 + m.inputs) + i ≡ suc t * m.variables + (1 + m.inputs + (0 + i)) = omega arith in
    get_or-map-range_with_len v (suc t * m.variables + (1 + m.inputs)) m.state_bits i (suc t * m.variables + (1 + m.inputs + (0 + i))) false i< p
    ∙ sym (tied m v t 0 m.next k i i<') ∙ literal_at m v t (get_or m.next i 0) (law.next_low i i<) ∙ sym (get_or-map (lit (row_at m v t)) m.next i 0 false i<'))
    ∙ sym (law.steps (state_of m v t) (inputs_of m v t) (row_at m v t) (fit_at m law v t h))

pub rows_of : (m : Meaning) → Lawful m → (n : ℕ) (v : ℕ → Bool) → models v (unroll m n) ≡ true → LinkedRows m n v (state_of m v 0) (inputs_of m v)
unfolding unroll
rows_of m law n v h =
    record {
      given = λ j l. length-map-range_with_len v (j * m.variables + 1) m.inputs;
      fits = λ t l. subst (λ (s : List Bool). Fits m s (inputs_of m v t) (row_at m v t)) (reached t l) (fit_at m law v t (at t l));
    }
  where
    at : (t : ℕ) → t ≤ n → models v (clauses_at m t) ≡ true
    at = upto_at m v n (parts v (clauses_upto m n) (ties m n) h).0

    reached : (t : ℕ) → t ≤ n → state_of m v t ≡ linked_state m (state_of m v 0) (inputs_of m v) t
    reached zero l = refl
    reached (suc t) l =
        step_at m law v t (at t (omega arith)) (ties_at m v n (parts v (clauses_upto m n) (ties m n) h).1 t (omega arith))
        ∙ ap (λ (s : List Bool). m.step s (inputs_of m v t)) (reached t (omega arith))

-- what frame t begins with
pub state_bit : (m : Meaning) → Lawful m → (v : ℕ → Bool) (t : ℕ) (s x : List Bool) → Fits m s x (row_at m v t) → (i : ℕ) → i < m.state_bits → v (t * m.variables + (1 + m.inputs + i)) ≡ get_or s i false
state_bit m law v t s x f i l =
    let room = law.room in
    let size : length x ≡ m.inputs = f.given in
    let p : 1 + m.inputs + i ≡ suc (length x + i) = omega arith in
    sym (row_var m v t (1 + m.inputs + i) (omega arith))
    ∙ sym (get_or-take (1 + m.inputs + m.state_bits) (row_at m v t) (1 + m.inputs + i) false (omega arith))
    ∙ ap₂ (λ (w : List Bool) (k : ℕ). get_or w k false) f.front p
    ∙ get_or-append-add x s i false

pub step_size : (m : Meaning) → Lawful m → (s x : List Bool) → length s ≡ m.state_bits → length x ≡ m.inputs → length (m.step s x) ≡ m.state_bits
step_size m law s x ls lx =
    let f = law.fit s x ls lx in
    ap length (law.steps s x f.0 f.1) ∙ length-map m.next (lit f.0) ∙ law.next_size

pub state_size : (m : Meaning) → Lawful m → (s : List Bool) (ins : ℕ → List Bool) → length s ≡ m.state_bits → (n : ℕ) → Inputs m ins n → (t : ℕ) → t ≤ n → length (linked_state m s ins t) ≡ m.state_bits
state_size m law s ins ls n is zero l = ls
state_size m law s ins ls n is (suc t) l = step_size m law (linked_state m s ins t) (ins t) (state_size m law s ins ls n is t (omega arith)) (is t (omega arith))

-- the rows that begin in s and have these inputs, as a setting
module _ (m : Meaning) (law : Lawful m) (s : List Bool) (ins : ℕ → List Bool) (ls : length s ≡ m.state_bits) (n : ℕ) (is : Inputs m ins n) where
  abbrev row : (t : ℕ) → (t < suc n) ⊎ (suc n ≤ t) → (w : List Bool) × (t ≤ n → Fits m (linked_state m s ins t) (ins t) w)
  row t (inl a) =
      let f = law.fit (linked_state m s ins t) (ins t) (state_size m law s ins ls n is t (omega arith)) (is t (omega arith)) in
      (f.0, λ _. f.1)
  row t (inr b) = ([], λ l. let none : ⊥ = omega arith in absurd none)

  abbrev joint : ℕ → Bool
  joint k = get_or (row (k / m.variables) (cases_lt (k / m.variables) (suc n))).0 (k % m.variables) false

  joint_row : (t : ℕ) → t ≤ n → row_at m joint t ≡ (row t (cases_lt t (suc n))).0
  joint_row t l =
      let f = (row t (cases_lt t (suc n))).1 l in
      let size : length (row_at m joint t) ≡ m.variables = length-map-range_with_len joint (t * m.variables) m.variables in
      ext_get_or false (row_at m joint t) (row t (cases_lt t (suc n))).0 (size ∙ sym f.size) (λ k h.
      let k< : k < m.variables = omega arith in
      row_var m joint t k k<
      ∙ ap₂ (λ (q r : ℕ). get_or (row q (cases_lt q (suc n))).0 r false) (div-mul-add t m.variables k k<) (mod-mul-add t m.variables k k<))

  joint_rows : LinkedRows m n joint s ins
  joint_rows = record {
    given = is;
    fits = λ t l. subst (Fits m (linked_state m s ins t) (ins t)) (sym (joint_row t l)) ((row t (cases_lt t (suc n))).1 l);
  }

pub rows_unroll : (m : Meaning) → Lawful m → (n : ℕ) (v : ℕ → Bool) (s : List Bool) (ins : ℕ → List Bool) → LinkedRows m n v s ins → models v (unroll m n) ≡ true
unfolding unroll
rows_unroll m law n v s ins r =
    joins v (clauses_upto m n) (ties m n)
    (upto_from m v n (λ t l. clauses_sat m law v t ∙ (r.fits t l).holds))
    (ties_from m v n (λ t l. tie_from m v t 0 m.next (λ j h.
    let j< : j < m.state_bits = omega (arith, law.next_size) in
    let now = r.fits t (omega arith) in
    let then = r.fits (suc t) (omega arith) in
    let e : j ≡ 0 + j = omega arith in
    literal_at m v t (get_or m.next j 0) (law.next_low j j<)
    ∙ sym (get_or-map (lit (row_at m v t)) m.next j 0 false h)
    ∙ ap (λ (y : List Bool). get_or y j false) (sym (law.steps (linked_state m s ins t) (ins t) (row_at m v t) now))
    ∙ sym (state_bit m law v (suc t) (linked_state m s ins (suc t)) (ins (suc t)) then j j<)
    ∙ ap (λ (k : ℕ). v (suc t * m.variables + (1 + m.inputs + k))) e)))

pub unrolls : Unrolls
unrolls m law n = record {
  rows = λ v h. (state_of m v 0, inputs_of m v, rows_of m law n v h);
  setting = λ s ins ls is. (joint m law s ins ls n is, rows_unroll m law n (joint m law s ins ls n is) s ins (joint_rows m law s ins ls n is), joint_rows m law s ins ls n is);
}
