-- What a step table means: its rows are the steps, and each row gets a variable and clauses.
use Rattle.std.specs.Prelude.{ℕ, ◌+◌, ◌*◌, ◌/◌, ◌%◌, ◌^◌, Bool, false, cond, List, [], ◌∷◌, ◌++◌, map, replicate, ◌==◌, nat_eq}
use Rattle.std.specs.List.{range_with_len, flat_map}
use Rattle.resolution.specs.Clauses.{denial}
use Rattle.machine.specs.Meaning.{Meaning}
use Rattle.machine.specs.Rows.{byte}
use Rattle.table_format.specs.Tables.{Table, rows}

-- bit k of a number
unfoldable pub binary_digit : ℕ → ℕ → Bool
binary_digit n k = n / 2 ^ k % 2 == 1

-- the number with these bits, bit 0 first
abbrev pub number : List Bool → ℕ
number [] = 0
number (b ∷ bs) = byte b + 2 * number bs

-- the row of state s and inputs x
abbrev pub row_of : Table → List Bool → List Bool → ℕ
row_of t s x = number s * 2 ^ t.inputs + number x

-- the variable of row r; after those of all rows come the next variables, then the rule variables
abbrev pub row_variable : Table → ℕ → ℕ
row_variable t r = 1 + t.inputs + t.state_bits + r

abbrev pub next_variable : Table → ℕ → ℕ
next_variable t j = row_variable t (rows t) + j

abbrev pub rule_variable : Table → ℕ → ℕ
rule_variable t o = row_variable t (rows t) + t.state_bits + o

-- the literal that is true where variable v is b
abbrev pub valued : ℕ → Bool → ℕ
valued v b = cond b (2 * v) (2 * v + 1)

-- the literals of inputs and state that are true in row r, whose bits are the inputs and then the state
abbrev pub given_literals : Table → ℕ → List ℕ
given_literals t r = map (λ k. valued (1 + k) (binary_digit r k)) (range_with_len 0 (t.inputs + t.state_bits))

-- the literals of next state and rules that are true in row r
abbrev pub outcome_literals : Table → ℕ → List ℕ
outcome_literals t r =
    map (λ j. valued (next_variable t j) (binary_digit (t.next r) j)) (range_with_len 0 t.state_bits)
    ++ map (λ o. valued (rule_variable t o) (binary_digit (t.broken r) o)) (range_with_len 0 t.rules)

-- the clauses of row r: its variable is true exactly with its inputs and state, and then its outcomes are
abbrev pub row_clauses : Table → ℕ → List (List ℕ)
row_clauses t r =
    map (λ l. l ∷ (2 * row_variable t r + 1) ∷ []) (given_literals t r)
    ++ (map denial (given_literals t r) ++ (2 * row_variable t r) ∷ []) ∷
    map (λ l. (2 * row_variable t r + 1) ∷ l ∷ []) (outcome_literals t r)

-- how many clauses each row has
abbrev pub clauses_per_row : Table → ℕ
clauses_per_row t = t.inputs + 2 * t.state_bits + 1 + t.rules

-- a table as a machine: it starts with all bits false, and the row of state and inputs gives next state and broken rules
abbrev pub meant : Table → Meaning
meant t = record {
  inputs = t.inputs;
  state_bits = t.state_bits;
  rules = t.rules;
  variables = 1 + t.inputs + 2 * t.state_bits + rows t + t.rules;
  start = replicate t.state_bits false;
  step = λ s x. map (binary_digit (t.next (row_of t s x))) (range_with_len 0 t.state_bits);
  broken = λ o s x. binary_digit (t.broken (row_of t s x)) o;
  clauses = (1 ∷ []) ∷ flat_map (row_clauses t) (range_with_len 0 (rows t));
  next = map (λ j. 2 * next_variable t j) (range_with_len 0 t.state_bits);
  rule = map (λ o. 2 * rule_variable t o) (range_with_len 0 t.rules);
}

-- the fit of state s and inputs x: variable 0 is false, then inputs and state, for each row whether it is theirs, and what that row gives
unfoldable pub fitting : Table → List Bool → List Bool → List Bool
fitting t s x =
    (false ∷ (x ++ s))
    ++ (map (λ r. nat_eq r (row_of t s x)) (range_with_len 0 (rows t))
    ++ (map (binary_digit (t.next (row_of t s x))) (range_with_len 0 t.state_bits) ++ map (binary_digit (t.broken (row_of t s x))) (range_with_len 0 t.rules)))
