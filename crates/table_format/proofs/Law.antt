-- A step table within bounds keeps the law of machines.
use Rattle.std.proofs.Common.{◌≡◌, ℕ, suc, ◌+◌, ◌*◌, ◌<◌, ◌≤◌, Bool, true, false, List, [], ◌∷◌, map, length, get_or, sym, ap, ◌∙◌, ⊎_elim, arith, pow_mono}
use Rattle.std.proofs.lemmas.Nat.{mul-le}
use Rattle.std.proofs.lemmas.List.FromFn.{length-map-range_with_len, get_or-map-range_with_len, fill_by_all}
use Rattle.std.proofs.ByRecursion.{All-get_or}
use Rattle.std.proofs.lemmas.List.{length-map, length-replicate, get_or-map}
use Rattle.std.proofs.lemmas.Bool.{cases_lt, or_cases, false≢true}
use Rattle.resolution.specs.Clauses.{literal_true, denial, Rising}
use Rattle.resolution.proofs.Settings.{true_twice, denial_near}
use Rattle.machine.specs.Meaning.{Lawful, Fits, lit, sat}
use Rattle.table_format.specs.Tables.{Table, Bounded, rows}
use Rattle.table_format.specs.Stepping.{binary_digit, valued, row_of, row_variable, next_variable, rule_variable, clauses_per_row, meant, fitting}
use Rattle.resolution.proofs.Rises.{rising_by_steps}
use Rattle.table_format.proofs.Literals.{models_at, valued_near, from_valued}
use Rattle.table_format.proofs.RowClauses.{meeting, meeting_length, meeting_given, meeting_last, clauses_count, each_clause}
use Rattle.table_format.proofs.OneFit.{fitting_fits, next_value, rule_value, fit_is}

-- what the law asks of each clause
abbrev Fine : Table → List ℕ → Type 0
Fine t c = (length c ≤ 16) × Rising c × ((k : ℕ) → k < length c → get_or c k 0 < 2 * (meant t).variables)

-- the denied literal of a bit of inputs or state is one of its variable
denied_near : (k : ℕ) (b : Bool) → (2 * (1 + k) ≤ denial (valued (1 + k) b)) × (denial (valued (1 + k) b) < 2 * (1 + k) + 2)
denied_near k b =
    let near = valued_near (1 + k) b in
    let other = denial_near (valued (1 + k) b) in
    (omega arith, omega arith)

pair_fine : (t : Table) (a b : ℕ) → a < b → b < 2 * (meant t).variables → Fine t (a ∷ b ∷ [])
pair_fine t a b l m =
    (omega arith, ((l, tt), (tt, tt)), λ k h. All-get_or (λ n. n < 2 * (meant t).variables) (a ∷ b ∷ []) k 0 h (omega arith, (m, tt)))

meeting_rises : (t : Table) (r : ℕ) → Rising (meeting t r)
meeting_rises t r =
    let g : ℕ = t.inputs + t.state_bits in
    rising_by_steps (meeting t r) (λ k l.
    let k< : k < g = omega (arith, meeting_length t r) in
    ⊎_elim
    (λ (low : suc k < g).
    omega (arith, meeting_given t r k k<, meeting_given t r (suc k) low, denied_near k (binary_digit r k), denied_near (suc k) (binary_digit r (suc k))))
    (λ (high : g ≤ suc k).
    let e : suc k ≡ g = omega arith in
    omega (arith, meeting_given t r k k<, denied_near k (binary_digit r k), ap (λ (n : ℕ). get_or (meeting t r) n 0) e, meeting_last t r))
    (cases_lt (suc k) g))

meeting_fine : (t : Table) (r : ℕ) → t.inputs + t.state_bits ≤ 10 → r < rows t → Fine t (meeting t r)
meeting_fine t r few l =
    let g : ℕ = t.inputs + t.state_bits in (
      omega (arith, meeting_length t r),
      meeting_rises t r,
      λ k h. ⊎_elim
          (λ (low : k < g). omega (arith, meeting_given t r k low, denied_near k (binary_digit r k)))
          (λ (high : g ≤ k).
          let e : k ≡ g = omega (arith, meeting_length t r) in
          omega (arith, ap (λ (n : ℕ). get_or (meeting t r) n 0) e, meeting_last t r))
          (cases_lt k g),
    )

clause_fine : (t : Table) → t.inputs + t.state_bits ≤ 10 → (c : ℕ) → c < length (meant t).clauses → Fine t (get_or (meant t).clauses c [])
clause_fine t few =
    each_clause t (Fine t)
    (omega arith, (tt, tt), λ k h. All-get_or (λ n. n < 2 * (meant t).variables) (1 ∷ []) k 0 h (omega arith, tt))
    (λ r k l m. let near = valued_near (1 + k) (binary_digit r k) in
    pair_fine t (valued (1 + k) (binary_digit r k)) (2 * row_variable t r + 1) (omega arith) (omega arith))
    (λ r l. meeting_fine t r few l)
    (λ r j l m. let near = valued_near (next_variable t j) (binary_digit (t.next r) j) in
    pair_fine t (2 * row_variable t r + 1) (valued (next_variable t j) (binary_digit (t.next r) j)) (omega arith) (omega arith))
    (λ r o l m. let near = valued_near (rule_variable t o) (binary_digit (t.broken r) o) in
    pair_fine t (2 * row_variable t r + 1) (valued (rule_variable t o) (binary_digit (t.broken r) o)) (omega arith) (omega arith))

-- clause 0 makes variable 0 false
first_false : (t : Table) (w : List Bool) → sat w (meant t).clauses ≡ true → get_or w 0 false ≡ false
first_false t w h =
    let v : ℕ → Bool = λ k. get_or w k false in
    from_valued w 0 false
    (⊎_elim (λ y. y) (λ n. absurd (false≢true n)) (or_cases (literal_true v 1) false (models_at v (meant t).clauses 0 (omega arith) h)))

module _ (t : Table) where
  next_size : length (meant t).next ≡ t.state_bits
  next_size = length-map-range_with_len (λ j. 2 * next_variable t j) 0 t.state_bits

  next_at : (j : ℕ) → j < t.state_bits → get_or (meant t).next j 0 ≡ 2 * next_variable t j
  next_at j l = get_or-map-range_with_len (λ j. 2 * next_variable t j) 0 t.state_bits j j 0 l (omega arith)

  rule_at : (o : ℕ) → o < t.rules → get_or (meant t).rule o 0 ≡ 2 * rule_variable t o
  rule_at o l = get_or-map-range_with_len (λ o. 2 * rule_variable t o) 0 t.rules o o 0 l (omega arith)

  -- under a fit the next literals give the step, and a rule's literal says whether it is broken
  fit_steps : (s x w : List Bool) → Fits (meant t) s x w → (meant t).step s x ≡ map (lit w) (meant t).next
  fit_steps s x w f =
      sym (fill_by_all (binary_digit (t.next (row_of t s x))) (map (lit w) (meant t).next) t.state_bits false (length-map (meant t).next (lit w) ∙ next_size)
      (λ j l. let j< : j < length (meant t).next = omega (arith, next_size) in
      get_or-map (lit w) (meant t).next j 0 false j< ∙ ap (lit w) (next_at j l) ∙ true_twice (λ k. get_or w k false) (next_variable t j) ∙ next_value t s x w f j l))

  fit_breaks : (s x w : List Bool) (o : ℕ) → o < t.rules → Fits (meant t) s x w → (meant t).broken o s x ≡ lit w (get_or (meant t).rule o 0)
  fit_breaks s x w o l f = sym (ap (lit w) (rule_at o l) ∙ true_twice (λ k. get_or w k false) (rule_variable t o) ∙ rule_value t s x w f o l)

pub table_lawful : (t : Table) → Bounded t → Lawful (meant t)
table_lawful t bounded =
    let few : t.inputs + t.state_bits ≤ 10 = bounded.few_bits in
    let low : t.rules ≤ 32 = bounded.rules_few in
    let rows≤ : rows t ≤ 1024 = pow_mono few in
    let per≤ : clauses_per_row t ≤ 53 = omega arith in
    record {
      room = omega arith;
      few = omega arith;
      rules_some = bounded.rules_some;
      rules_few = low;
      clauses_few = omega (arith, clauses_count t, mul-le (rows t) (clauses_per_row t) 1024 53 rows≤ per≤);
      clause_short = λ c l. (clause_fine t few c l).0;
      start_size = length-replicate t.state_bits false;
      next_size = next_size t;
      rule_size = length-map-range_with_len (λ o. 2 * rule_variable t o) 0 t.rules;
      next_low = λ j l. omega (arith, next_at t j l);
      rule_low = λ o l. omega (arith, rule_at t o l);
      clause_low = λ c k l m. (clause_fine t few c l).2 k m;
      clause_rises = λ c l. (clause_fine t few c l).1;
      zero = λ w e h. first_false t w h;
      fit = λ s x ls lx. (fitting t s x, fitting_fits t s x ls lx);
      unique = λ s x w w' f f'. fit_is t s x w f ∙ sym (fit_is t s x w' f');
      steps = fit_steps t;
      breaks = fit_breaks t;
    }
