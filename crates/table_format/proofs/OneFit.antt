-- Every state and inputs have exactly one fit.
use Rattle.std.proofs.Common.{◌≡◌, ℕ, ◌+◌, ◌*◌, ◌<◌, ◌≤◌, Bool, true, false, not, eqb, List, [], ◌∷◌, ◌++◌, length, get_or, sym, ap, ◌∙◌, ⊎_elim, arith}
use Rattle.std.proofs.lemmas.List.{ext_get_or}
use Rattle.std.proofs.lemmas.Bool.{cases_lt, cases_eq, cases_Bool, eq-eqb, ne_eqb, true≢false}
use Rattle.resolution.specs.Clauses.{holds}
use Rattle.resolution.proofs.Settings.{true_twice, true_twice_odd}
use Rattle.machine.specs.Meaning.{Fits, lit, sat}
use Rattle.table_format.specs.Tables.{Table, rows}
use Rattle.table_format.specs.Stepping.{binary_digit, valued, row_of, row_variable, next_variable, rule_variable, row_clauses, clauses_per_row, meant, fitting}
use Rattle.table_format.proofs.Numbers.{row_bit, row_below, row_from_bits}
use Rattle.table_format.proofs.Literals.{holds_from, fails_at, fails_from, models_at, models_from, first_holds, second_holds, valued_true, from_valued, denied_false, from_denied}
use Rattle.table_format.proofs.RowClauses.{meeting, given_clause, meeting_clause, next_clause, rule_clause, meeting_length, meeting_given, meeting_last, clause_at, clause_within, each_clause}
use Rattle.table_format.proofs.FitValues.{each_variable, front_given, front_zero, fitting_length, fitting_front, fitting_given, fitting_row, fitting_next, fitting_rule}

-- a literal of a row's variable
row_true : (w : List Bool) (n : ℕ) → get_or w n false ≡ true → lit w (2 * n) ≡ true
row_true w n e = true_twice (λ k. get_or w k false) n ∙ e

row_denied : (w : List Bool) (n : ℕ) (b : Bool) → get_or w n false ≡ b → lit w (2 * n + 1) ≡ not b
row_denied w n b e = true_twice_odd (λ k. get_or w k false) n ∙ ap not e

module _ (t : Table) (s x : List Bool) (ls : length s ≡ t.state_bits) (lx : length x ≡ t.inputs) where
  -- under the fit the variables of the other rows are false
  other_row : (r : ℕ) → r < rows t → (r ≡ row_of t s x → ⊥) → lit (fitting t s x) (2 * row_variable t r + 1) ≡ true
  other_row r l n = row_denied (fitting t s x) (row_variable t r) false (fitting_row t s x ls lx r l ∙ ne_eqb r (row_of t s x) n)

  given_holds : (r k : ℕ) → r < rows t → k < t.inputs + t.state_bits →
      holds (λ n. get_or (fitting t s x) n false) (valued (1 + k) (binary_digit r k) ∷ (2 * row_variable t r + 1) ∷ []) ≡ true
  given_holds r k l m =
      let w : List Bool = fitting t s x in
      let c : List ℕ = valued (1 + k) (binary_digit r k) ∷ (2 * row_variable t r + 1) ∷ [] in
      ⊎_elim
      (λ (e : r ≡ row_of t s x).
      holds_from (λ n. get_or w n false) c 0 (omega arith)
      (valued_true w (1 + k) (binary_digit r k) (fitting_given t s x ls lx k m ∙ sym (row_bit t s x k lx) ∙ ap (λ (n : ℕ). binary_digit n k) (sym e))))
      (λ n. holds_from (λ n. get_or w n false) c 1 (omega arith) (other_row r l n))
      (cases_eq r (row_of t s x))

  meeting_holds : (r : ℕ) → r < rows t → holds (λ n. get_or (fitting t s x) n false) (meeting t r) ≡ true
  meeting_holds r l =
      let w : List Bool = fitting t s x in
      let v : ℕ → Bool = λ n. get_or w n false in
      let g : ℕ = t.inputs + t.state_bits in
      ⊎_elim
      (λ (e : r ≡ row_of t s x).
      holds_from v (meeting t r) g (omega (arith, meeting_length t r))
      (ap (lit w) (meeting_last t r) ∙ row_true w (row_variable t r) (fitting_row t s x ls lx r l ∙ eq-eqb r (row_of t s x) e)))
      (λ (n : r ≡ row_of t s x → ⊥). ⊎_elim (λ y. y)
      (λ f. absurd (n (row_from_bits t s x r ls lx l (λ k m.
      let k< : k < length (meeting t r) = omega (arith, meeting_length t r) in
      sym (fitting_given t s x ls lx k m)
      ∙ from_denied w (1 + k) (binary_digit r k) (ap (lit w) (sym (meeting_given t r k m)) ∙ fails_at v (meeting t r) k k< f)))))
      (cases_Bool (holds v (meeting t r))))
      (cases_eq r (row_of t s x))

  outcome_holds : (r n : ℕ) (f : ℕ → Bool) → r < rows t → get_or (fitting t s x) n false ≡ f (row_of t s x) →
      holds (λ k. get_or (fitting t s x) k false) ((2 * row_variable t r + 1) ∷ valued n (f r) ∷ []) ≡ true
  outcome_holds r n f l h =
      let w : List Bool = fitting t s x in
      let c : List ℕ = (2 * row_variable t r + 1) ∷ valued n (f r) ∷ [] in
      ⊎_elim
      (λ (e : r ≡ row_of t s x). holds_from (λ k. get_or w k false) c 1 (omega arith) (valued_true w n (f r) (h ∙ ap f (sym e))))
      (λ o. holds_from (λ k. get_or w k false) c 0 (omega arith) (other_row r l o))
      (cases_eq r (row_of t s x))

  fitting_sat : sat (fitting t s x) (meant t).clauses ≡ true
  fitting_sat =
      let v : ℕ → Bool = λ k. get_or (fitting t s x) k false in
      models_from v (meant t).clauses
      (each_clause t (λ c. holds v c ≡ true)
      (holds_from v (1 ∷ []) 0 (omega arith) (row_denied (fitting t s x) 0 false (front_zero t s x (fitting t s x) (fitting_front t s x ls lx))))
      given_holds meeting_holds
      (λ r j l m. outcome_holds r (next_variable t j) (λ n. binary_digit (t.next n) j) l (fitting_next t s x ls lx j m))
      (λ r o l m. outcome_holds r (rule_variable t o) (λ n. binary_digit (t.broken n) o) l (fitting_rule t s x ls lx o m)))

  pub fitting_fits : Fits (meant t) s x (fitting t s x)
  fitting_fits = record {
    state = ls;
    given = lx;
    size = fitting_length t s x ls lx;
    front = fitting_front t s x ls lx;
    holds = fitting_sat;
  }

module _ (t : Table) (s x w : List Bool) (f : Fits (meant t) s x w) where
  -- the clauses of a row hold under a fit
  row_holds : (r p : ℕ) (c : List ℕ) → r < rows t → p < clauses_per_row t → get_or (row_clauses t r) p [] ≡ c → holds (λ k. get_or w k false) c ≡ true
  row_holds r p c l m e =
      let v : ℕ → Bool = λ k. get_or w k false in
      ap (holds v) (sym (clause_at t r p l m ∙ e)) ∙ models_at v (meant t).clauses (1 + r * clauses_per_row t + p) (clause_within t r p l m) f.holds

  given_bit : (k : ℕ) → k < t.inputs + t.state_bits → get_or w (1 + k) false ≡ get_or (x ++ s) k false
  given_bit k l = front_given t s x w k f.front l

  -- the variable of the row of state and inputs is true: the clause that makes it true has no other true literal
  own_row : get_or w (row_variable t (row_of t s x)) false ≡ true
  own_row =
      let v : ℕ → Bool = λ k. get_or w k false in
      let r : ℕ = row_of t s x in
      let g : ℕ = t.inputs + t.state_bits in
      ⊎_elim (λ y. y)
      (λ (n : get_or w (row_variable t r) false ≡ false). absurd (true≢false (sym (row_holds r g (meeting t r) (row_below t s x f.state f.given) (omega arith) (meeting_clause t r))
      ∙ fails_from v (meeting t r) (λ k l. ⊎_elim
      (λ (low : k < g).
      ap (lit w) (meeting_given t r k low) ∙ denied_false w (1 + k) (binary_digit r k) (given_bit k low ∙ sym (row_bit t s x k f.given)))
      (λ (high : g ≤ k).
      let e : k ≡ g = omega (arith, meeting_length t r) in
      ap (λ (i : ℕ). lit w (get_or (meeting t r) i 0)) e ∙ ap (lit w) (meeting_last t r) ∙ true_twice v (row_variable t r) ∙ n)
      (cases_lt k g)))))
      (cases_Bool (get_or w (row_variable t r) false))

  -- a row whose variable is true is the row of state and inputs
  only_row : (r : ℕ) → r < rows t → get_or w (row_variable t r) false ≡ true → r ≡ row_of t s x
  only_row r l h =
      row_from_bits t s x r f.state f.given l
      (λ k m. sym (given_bit k m)
      ∙ from_valued w (1 + k) (binary_digit r k)
      (first_holds (λ n. get_or w n false) (valued (1 + k) (binary_digit r k)) (2 * row_variable t r + 1)
      (row_holds r k (valued (1 + k) (binary_digit r k) ∷ (2 * row_variable t r + 1) ∷ []) l (omega arith) (given_clause t r k m))
      (row_denied w (row_variable t r) true h)))

  row_value : (r : ℕ) → r < rows t → get_or w (row_variable t r) false ≡ eqb r (row_of t s x)
  row_value r l =
      ⊎_elim
      (λ (e : r ≡ row_of t s x). ap (λ (n : ℕ). get_or w (row_variable t n) false) e ∙ own_row ∙ sym (eq-eqb r (row_of t s x) e))
      (λ (n : r ≡ row_of t s x → ⊥). ⊎_elim (λ h. absurd (n (only_row r l h))) (λ h. h ∙ sym (ne_eqb r (row_of t s x) n)) (cases_Bool (get_or w (row_variable t r) false)))
      (cases_eq r (row_of t s x))

  -- the row of state and inputs gives the next state and the broken rules
  outcome_value : (p n : ℕ) (b : Bool) → p < clauses_per_row t →
      get_or (row_clauses t (row_of t s x)) p [] ≡ (2 * row_variable t (row_of t s x) + 1) ∷ valued n b ∷ [] → get_or w n false ≡ b
  outcome_value p n b l e =
      let r : ℕ = row_of t s x in
      from_valued w n b
      (second_holds (λ k. get_or w k false) (2 * row_variable t r + 1) (valued n b)
      (row_holds r p ((2 * row_variable t r + 1) ∷ valued n b ∷ []) (row_below t s x f.state f.given) l e)
      (row_denied w (row_variable t r) true own_row))

  pub next_value : (j : ℕ) → j < t.state_bits → get_or w (next_variable t j) false ≡ binary_digit (t.next (row_of t s x)) j
  next_value j l =
      outcome_value (t.inputs + t.state_bits + 1 + j) (next_variable t j) (binary_digit (t.next (row_of t s x)) j) (omega arith) (next_clause t (row_of t s x) j l)

  pub rule_value : (o : ℕ) → o < t.rules → get_or w (rule_variable t o) false ≡ binary_digit (t.broken (row_of t s x)) o
  rule_value o l =
      outcome_value (t.inputs + t.state_bits + 1 + (t.state_bits + o)) (rule_variable t o) (binary_digit (t.broken (row_of t s x)) o) (omega arith)
      (rule_clause t (row_of t s x) o l)

  pub fit_is : w ≡ fitting t s x
  fit_is =
      let ls : length s ≡ t.state_bits = f.state in
      let lx : length x ≡ t.inputs = f.given in
      let y : List Bool = fitting t s x in
      ext_get_or false w y (f.size ∙ sym (fitting_length t s x ls lx))
      (λ k l. each_variable t (λ n. get_or w n false ≡ get_or y n false)
      (front_zero t s x w f.front ∙ sym (front_zero t s x y (fitting_front t s x ls lx)))
      (λ k m. given_bit k m ∙ sym (fitting_given t s x ls lx k m))
      (λ r m. row_value r m ∙ sym (fitting_row t s x ls lx r m))
      (λ j m. next_value j m ∙ sym (fitting_next t s x ls lx j m))
      (λ o m. rule_value o m ∙ sym (fitting_rule t s x ls lx o m))
      k (omega (arith, f.size)))
