-- The clauses of a step table by their numbers, and the literals of each.
use Rattle.std.proofs.Common.{◌≡◌, ℕ, zero, suc, ◌+◌, ◌-◌, ◌*◌, ◌/◌, ◌%◌, ◌<◌, ◌≤◌, List, [], ◌∷◌, ◌++◌, map, length, get_or, sym, ap, ◌∙◌, subst, ⊎_elim, mul_comm, arith}
use Rattle.std.specs.List.{range_with_len}
use Rattle.std.proofs.lemmas.Nat.{div_below, mod_below, div-add-mod', mul-add-lt}
use Rattle.std.proofs.lemmas.List.FromFn.{length-map-range_with_len, get_or-map-range_with_len}
use Rattle.std.proofs.lemmas.List.{length-append, length_push, length-map, get_or_append_left, get_or-append-add, get_or_at, get_or-map, get_or_push}
use Rattle.std.proofs.lemmas.Bool.{cases_lt, cases_eq}
use Rattle.resolution.specs.Clauses.{denial}
use Rattle.table_format.specs.Tables.{Table, rows}
use Rattle.table_format.specs.Stepping.{binary_digit, valued, row_variable, next_variable, rule_variable, given_literals, outcome_literals, row_clauses, clauses_per_row, meant}
use Rattle.table_format.proofs.Pieces.{length_joined, get_or_joined}

-- the clause of a row that makes its variable true
abbrev pub meeting : Table → ℕ → List ℕ
meeting t r = map denial (given_literals t r) ++ (2 * row_variable t r) ∷ []

module _ (t : Table) (r : ℕ) where
  abbrev binding : ℕ → List ℕ
  binding l = l ∷ (2 * row_variable t r + 1) ∷ []

  abbrev giving : ℕ → List ℕ
  giving l = (2 * row_variable t r + 1) ∷ l ∷ []

  abbrev given_at : ℕ → ℕ
  given_at k = valued (1 + k) (binary_digit r k)

  abbrev next_at : ℕ → ℕ
  next_at j = valued (next_variable t j) (binary_digit (t.next r) j)

  abbrev rule_at : ℕ → ℕ
  rule_at o = valued (rule_variable t o) (binary_digit (t.broken r) o)

module _ (t : Table) (r : ℕ) where
  given_length : length (given_literals t r) ≡ t.inputs + t.state_bits
  given_length = length-map-range_with_len (given_at t r) 0 (t.inputs + t.state_bits)

  next_length : length (map (next_at t r) (range_with_len 0 t.state_bits)) ≡ t.state_bits
  next_length = length-map-range_with_len (next_at t r) 0 t.state_bits

  outcome_length : length (outcome_literals t r) ≡ t.state_bits + t.rules
  outcome_length =
      omega (
        arith,
        length-append (map (next_at t r) (range_with_len 0 t.state_bits)) (map (rule_at t r) (range_with_len 0 t.rules)),
        next_length,
        length-map-range_with_len (rule_at t r) 0 t.rules,
      )

  binding_length : length (map (binding t r) (given_literals t r)) ≡ t.inputs + t.state_bits
  binding_length = length-map (given_literals t r) (binding t r) ∙ given_length

  row_length : length (row_clauses t r) ≡ clauses_per_row t
  row_length =
      omega (
        arith,
        length-append (map (binding t r) (given_literals t r)) (meeting t r ∷ map (giving t r) (outcome_literals t r)),
        binding_length,
        length-map (outcome_literals t r) (giving t r),
        outcome_length,
      )

  -- the literals of inputs and state, of next state and of rules
  given_literal : (k : ℕ) → k < t.inputs + t.state_bits → get_or (given_literals t r) k 0 ≡ given_at t r k
  given_literal k l = get_or-map-range_with_len (given_at t r) 0 (t.inputs + t.state_bits) k k 0 l (omega arith)

  is_next_literal : (j : ℕ) → j < t.state_bits → get_or (outcome_literals t r) j 0 ≡ next_at t r j
  is_next_literal j l =
      get_or_append_left (map (next_at t r) (range_with_len 0 t.state_bits)) (map (rule_at t r) (range_with_len 0 t.rules)) 0 j (omega (arith, next_length))
      ∙ get_or-map-range_with_len (next_at t r) 0 t.state_bits j j 0 l (omega arith)

  rule_literal : (o : ℕ) → o < t.rules → get_or (outcome_literals t r) (t.state_bits + o) 0 ≡ rule_at t r o
  rule_literal o l =
      let at : t.state_bits + o ≡ length (map (next_at t r) (range_with_len 0 t.state_bits)) + o = omega (arith, next_length) in
      ap (λ (k : ℕ). get_or (outcome_literals t r) k 0) at
      ∙ get_or-append-add (map (next_at t r) (range_with_len 0 t.state_bits)) (map (rule_at t r) (range_with_len 0 t.rules)) o 0
      ∙ get_or-map-range_with_len (rule_at t r) 0 t.rules o o 0 l (omega arith)

  -- the clauses of a row: with its variable each literal of inputs and state is true
  pub given_clause : (k : ℕ) → k < t.inputs + t.state_bits → get_or (row_clauses t r) k [] ≡ valued (1 + k) (binary_digit r k) ∷ (2 * row_variable t r + 1) ∷ []
  given_clause k l =
      get_or_append_left (map (binding t r) (given_literals t r)) (meeting t r ∷ map (giving t r) (outcome_literals t r)) [] k (omega (arith, binding_length))
      ∙ get_or-map (binding t r) (given_literals t r) k 0 [] (omega (arith, given_length))
      ∙ ap (binding t r) (given_literal k l)

  -- with all of them its variable is
  pub meeting_clause : get_or (row_clauses t r) (t.inputs + t.state_bits) [] ≡ meeting t r
  meeting_clause =
      get_or_at (map (binding t r) (given_literals t r)) (meeting t r) (map (giving t r) (outcome_literals t r)) [] (t.inputs + t.state_bits) binding_length

  outcome_clause : (k : ℕ) → k < t.state_bits + t.rules →
      get_or (row_clauses t r) (t.inputs + t.state_bits + 1 + k) [] ≡ giving t r (get_or (outcome_literals t r) k 0)
  outcome_clause k l =
      let at : t.inputs + t.state_bits + 1 + k ≡ length (map (binding t r) (given_literals t r)) + suc k = omega (arith, binding_length) in
      ap (λ (p : ℕ). get_or (row_clauses t r) p []) at
      ∙ get_or-append-add (map (binding t r) (given_literals t r)) (meeting t r ∷ map (giving t r) (outcome_literals t r)) (suc k) []
      ∙ get_or-map (giving t r) (outcome_literals t r) k 0 [] (omega (arith, outcome_length))

  -- with its variable each literal of next state and rules is true
  pub next_clause : (j : ℕ) → j < t.state_bits →
      get_or (row_clauses t r) (t.inputs + t.state_bits + 1 + j) [] ≡ (2 * row_variable t r + 1) ∷ valued (next_variable t j) (binary_digit (t.next r) j) ∷ []
  next_clause j l = outcome_clause j (omega arith) ∙ ap (giving t r) (is_next_literal j l)

  pub rule_clause : (o : ℕ) → o < t.rules →
      get_or (row_clauses t r) (t.inputs + t.state_bits + 1 + (t.state_bits + o)) [] ≡ (2 * row_variable t r + 1) ∷ valued (rule_variable t o) (binary_digit (t.broken r) o) ∷ []
  rule_clause o l = outcome_clause (t.state_bits + o) (omega arith) ∙ ap (giving t r) (rule_literal o l)

  -- the literals of the clause that makes a row's variable true
  denied-length : length (map denial (given_literals t r)) ≡ t.inputs + t.state_bits
  denied-length = length-map (given_literals t r) denial ∙ given_length

  pub meeting_length : length (meeting t r) ≡ t.inputs + t.state_bits + 1
  meeting_length = omega (arith, length_push (map denial (given_literals t r)) (2 * row_variable t r), denied-length)

  pub meeting_given : (k : ℕ) → k < t.inputs + t.state_bits → get_or (meeting t r) k 0 ≡ denial (valued (1 + k) (binary_digit r k))
  meeting_given k l =
      get_or_append_left (map denial (given_literals t r)) ((2 * row_variable t r) ∷ []) 0 k (omega (arith, denied-length))
      ∙ get_or-map denial (given_literals t r) k 0 0 (omega (arith, given_length))
      ∙ ap denial (given_literal k l)

  pub meeting_last : get_or (meeting t r) (t.inputs + t.state_bits) 0 ≡ 2 * row_variable t r
  meeting_last = get_or_push (map denial (given_literals t r)) (2 * row_variable t r) 0 (t.inputs + t.state_bits) denied-length

  -- what holds of each kind of clause holds of every clause of the row
  row-each : (P : List ℕ → Type 0) →
      ((k : ℕ) → k < t.inputs + t.state_bits → P (valued (1 + k) (binary_digit r k) ∷ (2 * row_variable t r + 1) ∷ [])) →
      P (meeting t r) →
      ((j : ℕ) → j < t.state_bits → P ((2 * row_variable t r + 1) ∷ valued (next_variable t j) (binary_digit (t.next r) j) ∷ [])) →
      ((o : ℕ) → o < t.rules → P ((2 * row_variable t r + 1) ∷ valued (rule_variable t o) (binary_digit (t.broken r) o) ∷ [])) →
      (p : ℕ) → p < clauses_per_row t → P (get_or (row_clauses t r) p [])
  row-each P given meets next rule p l =
      let g : ℕ = t.inputs + t.state_bits in
      let c : ℕ → List ℕ = λ k. get_or (row_clauses t r) k [] in
      ⊎_elim (λ (low : p < g). subst P (sym (given_clause p low)) (given p low))
      (λ (high : g ≤ p). ⊎_elim
      (λ (e : p ≡ g). subst P (sym (ap c e ∙ meeting_clause)) meets)
      (λ (n : p ≡ g → ⊥). let above : g < p = omega arith in ⊎_elim
      (λ (low : p - (g + 1) < t.state_bits).
      let e : p ≡ g + 1 + (p - (g + 1)) = omega arith in
      subst P (sym (ap c e ∙ next_clause (p - (g + 1)) low)) (next (p - (g + 1)) low))
      (λ (high : t.state_bits ≤ p - (g + 1)).
      let e : p ≡ g + 1 + (t.state_bits + (p - (g + 1) - t.state_bits)) = omega arith in
      let o< : p - (g + 1) - t.state_bits < t.rules = omega arith in
      subst P (sym (ap c e ∙ rule_clause (p - (g + 1) - t.state_bits) o<)) (rule (p - (g + 1) - t.state_bits) o<))
      (cases_lt (p - (g + 1)) t.state_bits))
      (cases_eq p g))
      (cases_lt p g)

module _ (t : Table) where
  pub clauses_count : length (meant t).clauses ≡ 1 + rows t * clauses_per_row t
  clauses_count = omega (arith, length_joined (row_clauses t) (clauses_per_row t) (row_length t) 0 (rows t))

  -- clause p of row r
  pub clause_at : (r p : ℕ) → r < rows t → p < clauses_per_row t → get_or (meant t).clauses (1 + r * clauses_per_row t + p) [] ≡ get_or (row_clauses t r) p []
  clause_at r p l m =
      let at : 1 + r * clauses_per_row t + p ≡ suc (r * clauses_per_row t + p) = omega arith in
      let same : 0 + r ≡ r = omega arith in
      ap (λ (k : ℕ). get_or (meant t).clauses k []) at
      ∙ get_or_joined (row_clauses t) (clauses_per_row t) (row_length t) 0 (rows t) r p [] l m
      ∙ ap (λ (k : ℕ). get_or (row_clauses t k) p []) same

  pub clause_within : (r p : ℕ) → r < rows t → p < clauses_per_row t → 1 + r * clauses_per_row t + p < length (meant t).clauses
  clause_within r p l m = omega (arith, clauses_count, mul-add-lt r (clauses_per_row t) p (rows t) l m, mul_comm (rows t) (clauses_per_row t))

  -- what holds of the first clause and of each kind of clause holds of every clause
  pub each_clause : (P : List ℕ → Type 0) → P (1 ∷ []) →
      ((r k : ℕ) → r < rows t → k < t.inputs + t.state_bits → P (valued (1 + k) (binary_digit r k) ∷ (2 * row_variable t r + 1) ∷ [])) →
      ((r : ℕ) → r < rows t → P (meeting t r)) →
      ((r j : ℕ) → r < rows t → j < t.state_bits → P ((2 * row_variable t r + 1) ∷ valued (next_variable t j) (binary_digit (t.next r) j) ∷ [])) →
      ((r o : ℕ) → r < rows t → o < t.rules → P ((2 * row_variable t r + 1) ∷ valued (rule_variable t o) (binary_digit (t.broken r) o) ∷ [])) →
      (c : ℕ) → c < length (meant t).clauses → P (get_or (meant t).clauses c [])
  each_clause P first given meets next rule zero l = first
  each_clause P first given meets next rule (suc c) l =
      let size : ℕ = clauses_per_row t in
      let some : 0 < size = omega arith in
      let r< : c / size < rows t = div_below c size (rows t) some (omega (arith, clauses_count)) in
      let p< : c % size < size = mod_below c size some in
      let at : suc c ≡ 1 + c / size * size + c % size = omega (arith, div-add-mod' c size) in
      subst P (sym (ap (λ (k : ℕ). get_or (meant t).clauses k []) at ∙ clause_at (c / size) (c % size) r< p<))
      (row-each t (c / size) P (λ k. given (c / size) k r<) (meets (c / size) r<) (λ j. next (c / size) j r<) (λ o. rule (c / size) o r<) (c % size) p<)
