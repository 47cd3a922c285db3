-- A circuit keeps the law of machines: its gates in order give the one fit. (Proofs; the definitions are in Evaluation.)
use Rattle.std.proofs.Common.{◌≡◌, ℕ, suc, ◌+◌, ◌-◌, ◌*◌, ◌<◌, ◌≤◌, Bool, true, false, cond, not, ◌&&◌, ◌||◌, ltb, List, [], ◌∷◌, ◌++◌, map, length, get_or, take, drop, sym, refl, ap, ◌∙◌, arith}
use Rattle.std.specs.List.{AllByRecursion}
use Rattle.std.proofs.lemmas.List.{take_more, take_all, take_at, take-take, length_push, length-append, length-take-le, length-drop, length-replicate, get_or-take, get_or-drop, get_or_push}
use Rattle.std.proofs.ByRecursion.{All-get_or}
use Rattle.std.proofs.lemmas.Bool.{cond_both, ltb-true, ltb-false, and_parts, true≢false}
use Rattle.resolution.specs.Clauses.{literal_true, denial, holds, Rising}
use Rattle.resolution.proofs.Settings.{true_twice, true_twice_odd, denial_flips, denial_near}
use Rattle.machine.specs.Meaning.{Lawful, Fits, lit, sat}
use Rattle.machine.proofs.RowBits.{lit_front}
use Rattle.aiger.specs.declared.header.Header.{Header}
use Rattle.aiger.specs.Numbers.{Good, needed, gate_literal}
use Rattle.aiger.specs.Evaluation.{operands, next_literals, rule_literals, grow, evaluated, two, gate_clauses, meant}

-- operands in pairs, each a literal of a variable before its gate's, which is v for the first
abbrev Ordered : ℕ → List ℕ → Type 0
Ordered v [] = Unit {0}
Ordered v (a ∷ []) = ⊥
Ordered v (a ∷ b ∷ r) = (a < 2 * v) × (b < 2 * v) × Ordered (v + 1) r

ordered_from : (r : List ℕ) (v n : ℕ) → length r ≡ 2 * n →
    ((j : ℕ) → j < n → (get_or r (2 * j) 0 < 2 * (v + j)) × (get_or r (2 * j + 1) 0 ≤ get_or r (2 * j) 0)) → Ordered v r
ordered_from [] v n e h = tt
ordered_from (a ∷ []) v n e h = omega arith
ordered_from (a ∷ b ∷ r) v n e h =
    let first = h 0 (omega arith) in
    let hi : a < 2 * v = omega (arith, first.0) in
    let lo : b ≤ a = first.1 in
    (hi, omega arith, ordered_from r (v + 1) (n - 1) (omega arith) (λ j l. next j (h (j + 1) (omega arith))))
  where
    next : (j : ℕ) → (get_or (a ∷ b ∷ r) (2 * (j + 1)) 0 < 2 * (v + (j + 1))) × (get_or (a ∷ b ∷ r) (2 * (j + 1) + 1) 0 ≤ get_or (a ∷ b ∷ r) (2 * (j + 1)) 0) →
        (get_or r (2 * j) 0 < 2 * (v + 1 + j)) × (get_or r (2 * j + 1) 0 ≤ get_or r (2 * j) 0)
    next j h =
        let p : 2 * (j + 1) ≡ suc (suc (2 * j)) = omega arith in
        let q : 2 * (j + 1) + 1 ≡ suc (suc (2 * j + 1)) = omega arith in
        let x : get_or (a ∷ b ∷ r) (2 * (j + 1)) 0 ≡ get_or r (2 * j) 0 = ap (λ (k : ℕ). get_or (a ∷ b ∷ r) k 0) p in
        let y : get_or (a ∷ b ∷ r) (2 * (j + 1) + 1) 0 ≡ get_or r (2 * j + 1) 0 = ap (λ (k : ℕ). get_or (a ∷ b ∷ r) k 0) q in
        (omega (arith, h.0), omega (arith, h.1))

-- two literals in order hold as the two of them
holds_two : (v : ℕ → Bool) (x y : ℕ) (r : List ℕ) → holds v (two x y r) ≡ (literal_true v x || (literal_true v y || holds v r))
holds_two v x y r =
    cond_both (ltb x y) (x ∷ y ∷ r) (cond (ltb y x) (y ∷ x ∷ r) (x ∷ r)) Same
    (λ _. refl)
    (λ e. cond_both (ltb y x) (y ∷ x ∷ r) (x ∷ r) Same
    (λ _. swap (literal_true v y) (literal_true v x) (holds v r))
    (λ f. let s : x ≡ y = omega (arith, ltb-false x y e, ltb-false y x f) in once (literal_true v x) (holds v r) ∙ ap (λ (z : ℕ). literal_true v x || (literal_true v z || holds v r)) s))
  where
    Same : List ℕ → Type 0
    Same c = holds v c ≡ (literal_true v x || (literal_true v y || holds v r))

    swap : (a b c : Bool) → (a || (b || c)) ≡ (b || (a || c))
    swap true true c = refl
    swap true false c = refl
    swap false b c = refl

    once : (a c : Bool) → (a || c) ≡ (a || (a || c))
    once true c = refl
    once false c = refl

-- the three clauses of a gate g of a and b, and the rest r
abbrev gate_test : Bool → Bool → Bool → Bool → Bool
gate_test a b g r = (a || (not g || false)) && ((b || (not g || false)) && ((not a || (not b || (g || false))) && r))

gate_only : (a b g r : Bool) → gate_test a b g r ≡ true → (g ≡ (a && b)) × (r ≡ true)
gate_only true true true r h = (refl, h)
gate_only true true false r h = absurd (true≢false (sym h))
gate_only true false true r h = absurd (true≢false (sym h))
gate_only true false false r h = (refl, h)
gate_only false true true r h = absurd (true≢false (sym h))
gate_only false true false r h = (refl, h)
gate_only false false true r h = absurd (true≢false (sym h))
gate_only false false false r h = (refl, h)

gate_sat : (a b r : Bool) → gate_test a b (a && b) r ≡ r
gate_sat true true r = refl
gate_sat true false r = refl
gate_sat false true r = refl
gate_sat false false r = refl

sat_gate : (w : List Bool) (v a b : ℕ) (r : List ℕ) → sat w (gate_clauses v (a ∷ b ∷ r)) ≡ gate_test (lit w a) (lit w b) (get_or w v false) (sat w (gate_clauses (v + 1) r))
sat_gate w v a b r =
    let u : ℕ → Bool = λ k. get_or w k false in
    five (lit w a) (lit w b) (sat w (gate_clauses (v + 1) r)) (true_twice_odd u v) (holds_two u (denial a) (denial b) ((2 * v) ∷ [])
    ∙ three (denial_flips u a) (denial_flips u b) (true_twice u v))
  where
    three : {na nb g p q s : Bool} → na ≡ p → nb ≡ q → g ≡ s → ◌≡◌ {A = Bool} (na || (nb || (g || false))) (p || (q || (s || false)))
    three d e f = cc

    five : (x y s : Bool) {n t t' : Bool} → n ≡ not (get_or w v false) → t ≡ t' →
        ((x || (n || false)) && ((y || (n || false)) && (t && s))) ≡
        ((x || (not (get_or w v false) || false)) && ((y || (not (get_or w v false) || false)) && (t' && s)))
    five x y s p q = cc

-- any row that begins with u and satisfies the clauses is what the gates grow from u
unique_from : (r : List ℕ) (u w : List Bool) (v n : ℕ) → length u ≡ v → Ordered v r → length r ≡ 2 * n → length w ≡ v + n → take v w ≡ u → sat w (gate_clauses v r) ≡ true → w ≡ grow u r
unique_from [] u w v n lu o lr lw t h = sym (take_all v w (omega arith)) ∙ t
unique_from (a ∷ []) u w v n lu o lr lw t h = absurd o
unique_from (a ∷ b ∷ r) u w v n lu o lr lw t h =
    let parts = gate_only (lit w a) (lit w b) (get_or w v false) (sat w (gate_clauses (v + 1) r)) (sym (sat_gate w v a b r) ∙ h) in
    let la : lit w a ≡ lit u a = sym (lit_front w v a (omega (arith, o.0))) ∙ ap (λ (y : List Bool). lit y a) t in
    let lb : lit w b ≡ lit u b = sym (lit_front w v b (omega (arith, o.1))) ∙ ap (λ (y : List Bool). lit y b) t in
    let v< : v < length w = omega arith in
    let more : take (v + 1) w ≡ u ++ (lit u a && lit u b) ∷ [] =
    take_more w v false v< ∙ grown t (parts.0 ∙ both la lb) in
    unique_from r (u ++ (lit u a && lit u b) ∷ []) w (v + 1) (n - 1) (length_push u (lit u a && lit u b) ∙ ap (λ (k : ℕ). k + 1) lu) o.2 (omega arith) (omega arith) more parts.1
  where
    grown : {p q : List Bool} {x y : Bool} → p ≡ q → x ≡ y → p ++ x ∷ [] ≡ q ++ y ∷ []
    grown e f = cc

    both : {x x' y y' : Bool} → x ≡ x' → y ≡ y' → (x && y) ≡ (x' && y')
    both e f = cc

grow_length : (r : List ℕ) (u : List Bool) (n : ℕ) → length r ≡ 2 * n → length (grow u r) ≡ length u + n
grow_length [] u n e = omega arith
grow_length (a ∷ []) u n e = omega arith
grow_length (a ∷ b ∷ r) u n e =
    let k = grow_length r (u ++ (lit u a && lit u b) ∷ []) (n - 1) (omega arith) in
    omega (arith, length_push u (lit u a && lit u b))

-- the gates leave what the row began with
grow_front : (r : List ℕ) (u : List Bool) (n : ℕ) → length r ≡ 2 * n → take (length u) (grow u r) ≡ u
grow_front [] u n e = take_all (length u) u (omega arith)
grow_front (a ∷ []) u n e = take_all (length u) u (omega arith)
grow_front (a ∷ b ∷ r) u n e =
    let u' : List Bool = u ++ (lit u a && lit u b) ∷ [] in
    let lp : length u' ≡ length u + 1 = length_push u (lit u a && lit u b) in
    let le : length u ≤ length u' = omega arith in
    let ih : take (length u') (grow u' r) ≡ u' = grow_front r u' (n - 1) (omega arith) in
    sym (take-take (length u) (length u') (grow u' r) le) ∙ ap (take (length u)) ih ∙ take_at u ((lit u a && lit u b) ∷ []) (length u) refl

-- what the gates grow satisfies their clauses
grow_sat : (r : List ℕ) (u : List Bool) (v n : ℕ) → length u ≡ v → Ordered v r → length r ≡ 2 * n → sat (grow u r) (gate_clauses v r) ≡ true
grow_sat [] u v n lu o e = refl
grow_sat (a ∷ []) u v n lu o e = refl
grow_sat (a ∷ b ∷ r) u v n lu o e =
    let w : List Bool = grow u (a ∷ b ∷ r) in
    let u' : List Bool = u ++ (lit u a && lit u b) ∷ [] in
    let lp : length u' ≡ v + 1 = length_push u (lit u a && lit u b) ∙ ap (λ (k : ℕ). k + 1) lu in
    let fu : take v w ≡ u = ap (λ (k : ℕ). take k w) (sym lu) ∙ grow_front (a ∷ b ∷ r) u n e in
    let fu' : take (v + 1) w ≡ u' = ap (λ (k : ℕ). take k w) (sym lp) ∙ grow_front r u' (n - 1) (omega arith) in
    let la : lit w a ≡ lit u a = sym (lit_front w v a (omega (arith, o.0))) ∙ ap (λ (y : List Bool). lit y a) fu in
    let lb : lit w b ≡ lit u b = sym (lit_front w v b (omega (arith, o.1))) ∙ ap (λ (y : List Bool). lit y b) fu in
    let v< : v < v + 1 = omega arith in
    let g : get_or w v false ≡ (lit u a && lit u b) = sym (get_or-take (v + 1) w v false v<) ∙ ap (λ (y : List Bool). get_or y v false) fu' ∙ get_or_push u (lit u a && lit u b) false v lu in
    let rest : sat w (gate_clauses (v + 1) r) ≡ true = grow_sat r u' (v + 1) (n - 1) lp o.2 (omega arith) in
    sat_gate w v a b r ∙ four (sat w (gate_clauses (v + 1) r)) la lb g ∙ gate_sat (lit u a) (lit u b) (sat w (gate_clauses (v + 1) r)) ∙ rest
  where
    four : {x x' y y' z z' : Bool} (q : Bool) → x ≡ x' → y ≡ y' → z ≡ z' → gate_test x y z q ≡ gate_test x' y' z' q
    four q e f g = cc

clauses_length : (r : List ℕ) (v n : ℕ) → length r ≡ 2 * n → length (gate_clauses v r) ≡ 3 * n
clauses_length [] v n e = omega arith
clauses_length (a ∷ []) v n e = omega arith
clauses_length (a ∷ b ∷ r) v n e = omega (arith, clauses_length r (v + 1) (n - 1) (omega arith))

two_short : (x y : ℕ) (r : List ℕ) → length (two x y r) ≤ length r + 2
two_short x y r =
    cond_both (ltb x y) (x ∷ y ∷ r) (cond (ltb y x) (y ∷ x ∷ r) (x ∷ r)) (λ (c : List ℕ). length c ≤ length r + 2) (λ _. omega arith)
    (λ _. cond_both (ltb y x) (y ∷ x ∷ r) (x ∷ r) (λ (c : List ℕ). length c ≤ length r + 2) (λ _. omega arith) (λ _. omega arith))

two_low : (n x y : ℕ) (r : List ℕ) → x < n → y < n → AllByRecursion (λ l. l < n) r → AllByRecursion (λ l. l < n) (two x y r)
two_low n x y r p q h =
    cond_both (ltb x y) (x ∷ y ∷ r) (cond (ltb y x) (y ∷ x ∷ r) (x ∷ r)) (λ (c : List ℕ). AllByRecursion (λ l. l < n) c) (λ _. (p, (q, h)))
    (λ _. cond_both (ltb y x) (y ∷ x ∷ r) (x ∷ r) (λ (c : List ℕ). AllByRecursion (λ l. l < n) c) (λ _. (q, (p, h))) (λ _. (p, h)))

two_rises : (x y z : ℕ) → x < z → y < z → Rising (two x y (z ∷ []))
two_rises x y z p q =
    cond_both (ltb x y) (x ∷ y ∷ z ∷ []) (cond (ltb y x) (y ∷ x ∷ z ∷ []) (x ∷ z ∷ [])) (λ (c : List ℕ). Rising c)
    (λ e. ((ltb-true x y e, (p, tt)), ((q, tt), (tt, tt))))
    (λ _. cond_both (ltb y x) (y ∷ x ∷ z ∷ []) (x ∷ z ∷ []) (λ (c : List ℕ). Rising c)
    (λ e. ((ltb-true y x e, (q, tt)), ((p, tt), (tt, tt))))
    (λ _. ((p, tt), (tt, tt))))

-- what the law asks of each clause
abbrev Fine : ℕ → List ℕ → Type 0
Fine n c = (length c ≤ 16) × Rising c × AllByRecursion (λ l. l < 2 * n) c

gates_fine : (r : List ℕ) (v n k : ℕ) → Ordered v r → length r ≡ 2 * k → v + k ≤ n → AllByRecursion (Fine n) (gate_clauses v r)
gates_fine [] v n k o e h = tt
gates_fine (a ∷ []) v n k o e h = tt
gates_fine (a ∷ b ∷ r) v n k o e h =
    let la : a < 2 * v = o.0 in
    let lb : b < 2 * v = o.1 in
    let da = denial_near a in
    let db = denial_near b in
    let short = two_short (denial a) (denial b) ((2 * v) ∷ []) in (
      (omega arith, ((omega arith, tt), (tt, tt)), (omega arith, (omega arith, tt))),
      (
        (omega arith, ((omega arith, tt), (tt, tt)), (omega arith, (omega arith, tt))),
        (
          (omega arith, two_rises (denial a) (denial b) (2 * v) (omega arith) (omega arith), two_low (2 * n) (denial a) (denial b) ((2 * v) ∷ []) (omega arith) (omega arith) (omega arith, tt)),
          gates_fine r (v + 1) n (k - 1) o.2 (omega arith) (omega arith),
        ),
      ),
    )

module _ (h : Header) (area : List ℕ) (good : Good h area) (whole : length area ≡ needed h) where
  -- two operands for each gate
  pub operands_length : length (operands h area) ≡ 2 * h.gates
  operands_length = omega (arith, length-drop (h.latches + h.outputs) area)

  pub clauses_count : length (meant h area).clauses ≡ 1 + 3 * h.gates
  clauses_count = omega (arith, clauses_length (operands h area) (1 + h.inputs + h.latches) h.gates operands_length)

  gates_ordered : Ordered (1 + h.inputs + h.latches) (operands h area)
  gates_ordered = ordered_from (operands h area) (1 + h.inputs + h.latches) h.gates operands_length (λ j l. moved j (good.2 j l))
    where
      moved : (j : ℕ) → (get_or area (h.latches + h.outputs + 2 * j) 0 < gate_literal h j) × (get_or area (h.latches + h.outputs + (2 * j + 1)) 0 ≤ get_or area (h.latches + h.outputs + 2 * j) 0) →
          (get_or (operands h area) (2 * j) 0 < gate_literal h j) × (get_or (operands h area) (2 * j + 1) 0 ≤ get_or (operands h area) (2 * j) 0)
      moved j l =
          let p = get_or-drop (h.latches + h.outputs) area (2 * j) 0 in
          let q = get_or-drop (h.latches + h.outputs) area (2 * j + 1) 0 in
          (omega (arith, l.0), omega (arith, l.1))

  -- each fit is what the gates evaluate to
  fit_is : (s x w : List Bool) → Fits (meant h area) s x w → w ≡ evaluated h area s x
  fit_is s x w f =
      unique_from (operands h area) (false ∷ (x ++ s)) w (1 + h.inputs + h.latches) h.gates
      (omega (arith, length-append x s, f.state, f.given)) gates_ordered operands_length (omega (arith, f.size, good.0.0)) f.front
      (and_parts (holds (λ k. get_or w k false) (1 ∷ [])) (sat w (gate_clauses (1 + h.inputs + h.latches) (operands h area))) f.holds).1

  -- what the gates evaluate to is a fit
  pub evaluated_fits : (s x : List Bool) → length s ≡ h.latches → length x ≡ h.inputs → Fits (meant h area) s x (evaluated h area s x)
  evaluated_fits s x ls lx =
      let u : List Bool = false ∷ (x ++ s) in
      let r : List ℕ = operands h area in
      let v : ℕ = 1 + h.inputs + h.latches in
      let w : List Bool = grow u r in
      let lu : length u ≡ v = omega (arith, length-append x s) in
      let fr : take v w ≡ u = ap (λ (k : ℕ). take k w) (sym lu) ∙ grow_front r u h.gates operands_length in
      let pos : 0 < v = omega arith in
      let zeroth : get_or w 0 false ≡ false = sym (get_or-take v w 0 false pos) ∙ ap (λ (y : List Bool). get_or y 0 false) fr in
      let one : lit w 1 ≡ true = true_twice_odd (λ k. get_or w k false) 0 ∙ ap not zeroth in
      record {
        state = ls;
        given = lx;
        size = omega (arith, grow_length r u h.gates operands_length, good.0.0);
        front = fr;
        holds = both one (grow_sat r u v h.gates lu gates_ordered operands_length);
      }
    where
      both : {p q : Bool} → p ≡ true → q ≡ true → ((p || false) && q) ≡ true
      both e f = cc

  clauses_fine : AllByRecursion (Fine (h.maximum + 1)) (meant h area).clauses
  clauses_fine = (
    (omega arith, (tt, tt), (omega arith, tt)),
    gates_fine (operands h area) (1 + h.inputs + h.latches) (h.maximum + 1) h.gates gates_ordered operands_length (omega (arith, good.0.0)),
  )

  clause_fine : (c : ℕ) → c < length (meant h area).clauses → Fine (h.maximum + 1) (get_or (meant h area).clauses c [])
  clause_fine c l = All-get_or (Fine (h.maximum + 1)) (meant h area).clauses c [] l clauses_fine

  -- clause 0 makes variable 0 false
  first_false : (w : List Bool) → holds (λ k. get_or w k false) (1 ∷ []) ≡ true → get_or w 0 false ≡ false
  first_false w l = plain (get_or w 0 false) (ap (λ (b : Bool). b || false) (sym (true_twice_odd (λ k. get_or w k false) 0)) ∙ l)
    where
      plain : (b : Bool) → (not b || false) ≡ true → b ≡ false
      plain true l = absurd (true≢false (sym l))
      plain false l = refl

  pub circuit_lawful : Lawful (meant h area)
  circuit_lawful =
      let sum = good.0.0 in
      let low = good.0.1 in
      record {
        room = omega arith;
        few = omega arith;
        rules_some = good.0.2;
        rules_few = good.0.3;
        start_size = length-replicate h.latches false;
        next_size = length-take-le h.latches area (omega arith);
        rule_size = length-take-le h.outputs (drop h.latches area) (omega (arith, length-drop h.latches area));
        next_low = λ k l. omega (arith, get_or-take h.latches area k 0 l, good.1 k (omega arith));
        rule_low = λ k l. omega (arith, get_or-take h.outputs (drop h.latches area) k 0 l, get_or-drop h.latches area k 0, good.1 (h.latches + k) (omega arith));
        clauses_few = omega (arith, clauses_count);
        clause_short = λ c l. (clause_fine c l).0;
        clause_rises = λ c l. (clause_fine c l).1;
        clause_low = λ c k l kl. All-get_or (λ x. x < 2 * (h.maximum + 1)) (get_or (meant h area).clauses c []) k 0 kl (clause_fine c l).2;
        zero = λ w s l. first_false w (and_parts (holds (λ k. get_or w k false) (1 ∷ [])) (sat w (gate_clauses (1 + h.inputs + h.latches) (operands h area))) l).0;
        fit = λ s x ls lx. (evaluated h area s x, evaluated_fits s x ls lx);
        unique = λ s x w w' f f'. fit_is s x w f ∙ sym (fit_is s x w' f');
        steps = λ s x w f. ap (λ (y : List Bool). map (lit y) (next_literals h area)) (sym (fit_is s x w f));
        breaks = λ s x w o l f. ap (λ (y : List Bool). lit y (get_or (rule_literals h area) o 0)) (sym (fit_is s x w f));
      }
