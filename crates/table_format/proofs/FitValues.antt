-- The variables of a fit, and their values.
use Rattle.std.proofs.Common.{◌≡◌, ℕ, suc, ◌+◌, ◌-◌, ◌<◌, ◌≤◌, Bool, false, eqb, List, ◌∷◌, ◌++◌, map, length, get_or, take, sym, refl, ap, ◌∙◌, subst, ⊎_elim, arith}
use Rattle.std.specs.List.{range_with_len}
use Rattle.std.proofs.lemmas.List.FromFn.{length-map-range_with_len, get_or-map-range_with_len}
use Rattle.std.proofs.lemmas.List.{length-append, get_or_append_left, get_or-append-add, get_or-take, take_at}
use Rattle.std.proofs.lemmas.Bool.{cases_lt, cases_eq}
use Rattle.table_format.specs.Tables.{Table, rows}
use Rattle.table_format.specs.Stepping.{binary_digit, row_of, row_variable, next_variable, rule_variable, meant, fitting}

-- what holds of each kind of variable holds of every variable
pub each_variable : (t : Table) (P : ℕ → Type 0) → P 0 →
    ((k : ℕ) → k < t.inputs + t.state_bits → P (1 + k)) →
    ((r : ℕ) → r < rows t → P (row_variable t r)) →
    ((j : ℕ) → j < t.state_bits → P (next_variable t j)) →
    ((o : ℕ) → o < t.rules → P (rule_variable t o)) →
    (n : ℕ) → n < (meant t).variables → P n
each_variable t P none given row next rule n l =
    let g : ℕ = 1 + t.inputs + t.state_bits in
    let m : ℕ = g + rows t in
    ⊎_elim (λ (e : n ≡ 0). subst P (sym e) none)
    (λ (some : n ≡ 0 → ⊥). ⊎_elim
    (λ (low : n < g). let e : 1 + (n - 1) ≡ n = omega arith in subst P e (given (n - 1) (omega arith)))
    (λ (past : g ≤ n). ⊎_elim
    (λ (low : n < m). let e : row_variable t (n - g) ≡ n = omega arith in subst P e (row (n - g) (omega arith)))
    (λ (over : m ≤ n). ⊎_elim
    (λ (low : n < m + t.state_bits). let e : next_variable t (n - m) ≡ n = omega arith in subst P e (next (n - m) (omega arith)))
    (λ (high : m + t.state_bits ≤ n). let e : rule_variable t (n - (m + t.state_bits)) ≡ n = omega arith in subst P e (rule (n - (m + t.state_bits)) (omega arith)))
    (cases_lt n (m + t.state_bits)))
    (cases_lt n m))
    (cases_lt n g))
    (cases_eq n 0)

-- the inputs and state in a row that begins with them
pub front_given : (t : Table) (s x w : List Bool) (k : ℕ) → take (1 + t.inputs + t.state_bits) w ≡ false ∷ (x ++ s) →
    k < t.inputs + t.state_bits → get_or w (1 + k) false ≡ get_or (x ++ s) k false
front_given t s x w k e l =
    let at : 1 + k ≡ suc k = omega arith in
    let k< : 1 + k < 1 + t.inputs + t.state_bits = omega arith in
    sym (get_or-take (1 + t.inputs + t.state_bits) w (1 + k) false k<) ∙ ap (λ (y : List Bool). get_or y (1 + k) false) e
    ∙ ap (λ (n : ℕ). get_or (false ∷ (x ++ s)) n false) at

pub front_zero : (t : Table) (s x w : List Bool) → take (1 + t.inputs + t.state_bits) w ≡ false ∷ (x ++ s) → get_or w 0 false ≡ false
front_zero t s x w e =
    let low : 0 < 1 + t.inputs + t.state_bits = omega arith in
    sym (get_or-take (1 + t.inputs + t.state_bits) w 0 false low) ∙ ap (λ (y : List Bool). get_or y 0 false) e

module _ (t : Table) (s x : List Bool) (ls : length s ≡ t.state_bits) (lx : length x ≡ t.inputs) where
  front_part : List Bool
  front_part = false ∷ (x ++ s)

  row_part : List Bool
  row_part = map (λ r. eqb r (row_of t s x)) (range_with_len 0 (rows t))

  next_part : List Bool
  next_part = map (binary_digit (t.next (row_of t s x))) (range_with_len 0 t.state_bits)

  rule_part : List Bool
  rule_part = map (binary_digit (t.broken (row_of t s x))) (range_with_len 0 t.rules)

  front_length : length front_part ≡ 1 + t.inputs + t.state_bits
  unfolding front_part
  front_length = omega (arith, length-append x s)

  row_length : length row_part ≡ rows t
  unfolding row_part
  row_length = length-map-range_with_len (λ r. eqb r (row_of t s x)) 0 (rows t)

  next_length : length next_part ≡ t.state_bits
  unfolding next_part
  next_length = length-map-range_with_len (binary_digit (t.next (row_of t s x))) 0 t.state_bits

  rule_length : length rule_part ≡ t.rules
  unfolding rule_part
  rule_length = length-map-range_with_len (binary_digit (t.broken (row_of t s x))) 0 t.rules

  in_parts : fitting t s x ≡ front_part ++ (row_part ++ (next_part ++ rule_part))
  unfolding fitting front_part row_part next_part rule_part
  in_parts = refl

  pub fitting_length : length (fitting t s x) ≡ (meant t).variables
  fitting_length =
      omega (
        arith,
        ap length in_parts,
        length-append front_part (row_part ++ (next_part ++ rule_part)),
        length-append row_part (next_part ++ rule_part),
        length-append next_part rule_part,
        front_length,
        row_length,
        next_length,
        rule_length,
      )

  pub fitting_front : take (1 + t.inputs + t.state_bits) (fitting t s x) ≡ false ∷ (x ++ s)
  unfolding front_part
  fitting_front =
      ap (take (1 + t.inputs + t.state_bits)) in_parts ∙ take_at front_part (row_part ++ (next_part ++ rule_part)) (1 + t.inputs + t.state_bits) front_length

  -- past the front
  past_front : (k : ℕ) → get_or (fitting t s x) (1 + t.inputs + t.state_bits + k) false ≡ get_or (row_part ++ (next_part ++ rule_part)) k false
  past_front k =
      let at : 1 + t.inputs + t.state_bits + k ≡ length front_part + k = omega (arith, front_length) in
      ap (λ (y : List Bool). get_or y (1 + t.inputs + t.state_bits + k) false) in_parts
      ∙ ap (λ (n : ℕ). get_or (front_part ++ (row_part ++ (next_part ++ rule_part))) n false) at
      ∙ get_or-append-add front_part (row_part ++ (next_part ++ rule_part)) k false

  past_rows : (k : ℕ) → get_or (fitting t s x) (row_variable t (rows t) + k) false ≡ get_or (next_part ++ rule_part) k false
  past_rows k =
      let at : row_variable t (rows t) + k ≡ 1 + t.inputs + t.state_bits + (length row_part + k) = omega (arith, row_length) in
      ap (λ (n : ℕ). get_or (fitting t s x) n false) at ∙ past_front (length row_part + k) ∙ get_or-append-add row_part (next_part ++ rule_part) k false

  -- the variables of the fit
  pub fitting_row : (r : ℕ) → r < rows t → get_or (fitting t s x) (row_variable t r) false ≡ eqb r (row_of t s x)
  unfolding row_part
  fitting_row r l =
      past_front r ∙ get_or_append_left row_part (next_part ++ rule_part) false r (omega (arith, row_length))
      ∙ get_or-map-range_with_len (λ r. eqb r (row_of t s x)) 0 (rows t) r r false l (omega arith)

  pub fitting_next : (j : ℕ) → j < t.state_bits → get_or (fitting t s x) (next_variable t j) false ≡ binary_digit (t.next (row_of t s x)) j
  unfolding next_part
  fitting_next j l =
      past_rows j ∙ get_or_append_left next_part rule_part false j (omega (arith, next_length))
      ∙ get_or-map-range_with_len (binary_digit (t.next (row_of t s x))) 0 t.state_bits j j false l (omega arith)

  pub fitting_rule : (o : ℕ) → o < t.rules → get_or (fitting t s x) (rule_variable t o) false ≡ binary_digit (t.broken (row_of t s x)) o
  unfolding rule_part
  fitting_rule o l =
      let at : rule_variable t o ≡ row_variable t (rows t) + (length next_part + o) = omega (arith, next_length) in
      ap (λ (n : ℕ). get_or (fitting t s x) n false) at ∙ past_rows (length next_part + o) ∙ get_or-append-add next_part rule_part o false
      ∙ get_or-map-range_with_len (binary_digit (t.broken (row_of t s x))) 0 t.rules o o false l (omega arith)

  pub fitting_given : (k : ℕ) → k < t.inputs + t.state_bits → get_or (fitting t s x) (1 + k) false ≡ get_or (x ++ s) k false
  fitting_given k l = front_given t s x (fitting t s x) k fitting_front l
