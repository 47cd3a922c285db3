-- The clauses of a row as they are made.
use Rattle.std.proofs.Common.{◌≡◌, ℕ, ◌+◌, ◌-◌, ◌*◌, ◌<◌, List, [], ◌∷◌, ◌++◌, map, length, get_or, sym, ap, ◌∙◌, arith}
use Rattle.std.specs.List.{range_with_len}
use Rattle.std.proofs.lemmas.List.FromFn.{length-map-range_with_len, map-range_with_len_more}
use Rattle.std.proofs.lemmas.List.{length-map, map_push}
use Rattle.resolution.specs.Clauses.{denial}
use Rattle.table_format.specs.Tables.{Table}
use Rattle.table_format.specs.Stepping.{binary_digit, valued, given_literals, row_variable, next_variable, rule_variable, row_clauses}
use Rattle.table_format.proofs.RowClauses.{given_clause, meeting_clause, next_clause, rule_clause}

-- denials that were pushed one by one
module _ (f : ℕ → ℕ) (old : List ℕ) (k : ℕ) (so_far : old ≡ map denial (map f (range_with_len 0 k))) where
  pub denials_length : length old ≡ k
  denials_length = ap length so_far ∙ (length-map (map f (range_with_len 0 k)) denial ∙ length-map-range_with_len f 0 k)

  -- one denial more
  pub denials_more : (new : List ℕ) (l : ℕ) → new ≡ old ++ l ∷ [] → l ≡ denial (f k) → new ≡ map denial (map f (range_with_len 0 (k + 1)))
  denials_more new l is e =
      is ∙ both so_far e ∙ sym (ap (map denial) (map-range_with_len_more f 0 k k (omega arith)) ∙ map_push denial (map f (range_with_len 0 k)) (f k))
    where
      both : {xs ys : List ℕ} {x y : ℕ} → xs ≡ ys → x ≡ y → xs ++ x ∷ [] ≡ ys ++ y ∷ []
      both d e = cc

-- a clause of two literals
pair : {a a' b b' : ℕ} → a ≡ a' → b ≡ b' → a ∷ b ∷ [] ≡ a' ∷ b' ∷ []
pair e d = cc

-- the clauses of row r by their places, where so many inputs and state bits are given
module _ (t : Table) (r given place : ℕ) (all : given ≡ t.inputs + t.state_bits) where
  pub meets : (c : List ℕ) → place ≡ given → c ≡ map denial (given_literals t r) ++ (2 * row_variable t r) ∷ [] → c ≡ get_or (row_clauses t r) place []
  meets c e is = is ∙ sym (ap (λ (k : ℕ). get_or (row_clauses t r) k []) (e ∙ all) ∙ meeting_clause t r)

  -- those with the literal that says that it is the row
  module _ (here : ℕ) (is_here : here ≡ 2 * row_variable t r) where
    not_row : here + 1 ≡ 2 * row_variable t r + 1
    not_row = omega arith

    pub binds : (l : ℕ) → place < given → l ≡ valued (1 + place) (binary_digit r place) → l ∷ (here + 1) ∷ [] ≡ get_or (row_clauses t r) place []
    binds l low is = pair is not_row ∙ sym (given_clause t r place (omega arith))

    pub steps : (l v k n : ℕ) → given < place → k ≡ place - given - 1 → k < t.state_bits → v ≡ next_variable t k → n ≡ t.next r →
        l ≡ valued v (binary_digit n k) → (here + 1) ∷ l ∷ [] ≡ get_or (row_clauses t r) place []
    steps l v k n past ek low ev en is =
        let e : place ≡ t.inputs + t.state_bits + 1 + k = omega arith in
        pair not_row (is ∙ same ev en) ∙ sym (ap (λ (j : ℕ). get_or (row_clauses t r) j []) e ∙ next_clause t r k low)
      where
        same : {v v' n n' : ℕ} → v ≡ v' → n ≡ n' → valued v (binary_digit n k) ≡ valued v' (binary_digit n' k)
        same e d = cc

    pub breaks : (l v o n : ℕ) → given + t.state_bits < place → o ≡ place - given - 1 - t.state_bits → o < t.rules → v ≡ rule_variable t o → n ≡ t.broken r →
        l ≡ valued v (binary_digit n o) → (here + 1) ∷ l ∷ [] ≡ get_or (row_clauses t r) place []
    breaks l v o n past eo low ev en is =
        let e : place ≡ t.inputs + t.state_bits + 1 + (t.state_bits + o) = omega arith in
        pair not_row (is ∙ same ev en) ∙ sym (ap (λ (j : ℕ). get_or (row_clauses t r) j []) e ∙ rule_clause t r o low)
      where
        same : {v v' n n' : ℕ} → v ≡ v' → n ≡ n' → valued v (binary_digit n o) ≡ valued v' (binary_digit n' o)
        same e d = cc
