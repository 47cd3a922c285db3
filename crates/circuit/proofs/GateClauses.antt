-- The clauses of the gates by their numbers.
use Rattle.std.proofs.Common.{◌≡◌, ℕ, zero, suc, ◌+◌, ◌-◌, ◌*◌, ◌/◌, ◌%◌, ◌<◌, ◌≤◌, cond, ltb, List, [], ◌∷◌, length, get_or, Some, None, sym, refl, ap, ◌∙◌, arith}
use Rattle.std.proofs.lemmas.List.{get_or-drop}
use Rattle.std.proofs.lemmas.Bool.{cond-true, cond-false, lt-ltb, le-ltb}
use Rattle.resolution.specs.Clauses.{denial}
use Rattle.machine.specs.Lists.{entry}
use Rattle.machine.proofs.Entries.{entry_at, entry_past}
use Rattle.aiger.specs.declared.header.Header.{Header}
use Rattle.aiger.specs.Numbers.{Good, needed, gate_literal}
use Rattle.aiger.specs.Evaluation.{operands, two, clauses_of_gate, gate_clauses, meant}
use Rattle.aiger.proofs.Law.{operands_length, clauses_count}

pub two_less : (x y : ℕ) (r : List ℕ) → x < y → x ∷ y ∷ r ≡ two x y r
two_less x y r h = sym (cond-true (ltb x y) (x ∷ y ∷ r) (cond (ltb y x) (y ∷ x ∷ r) (x ∷ r)) (lt-ltb x y h))

two_not_less : (x y : ℕ) (r : List ℕ) → y ≤ x → cond (ltb y x) (y ∷ x ∷ r) (x ∷ r) ≡ two x y r
two_not_less x y r h = sym (cond-false (ltb x y) (x ∷ y ∷ r) (cond (ltb y x) (y ∷ x ∷ r) (x ∷ r)) (le-ltb x y h))

pub two_greater : (x y : ℕ) (r : List ℕ) → y < x → y ∷ x ∷ r ≡ two x y r
two_greater x y r h = sym (cond-true (ltb y x) (y ∷ x ∷ r) (x ∷ r) (lt-ltb y x h)) ∙ two_not_less x y r (omega arith)

pub two_same : (x y : ℕ) (r : List ℕ) → x ≤ y → y ≤ x → x ∷ r ≡ two x y r
two_same x y r h k = sym (cond-false (ltb y x) (y ∷ x ∷ r) (x ∷ r) (le-ltb y x h)) ∙ two_not_less x y r k

-- the third clause of a gate
pub third : (gate a b place not_a not-b : ℕ) → place ≡ 2 → not_a ≡ denial a → not-b ≡ denial b →
    two not_a not-b (gate ∷ []) ≡ get_or (clauses_of_gate gate a b) place []
third gate a b place not_a not-b last ea eb = rw (last, ea, eb) refl

-- clause 3j + place of the gates is the one at that place of gate j
clause_at : (r : List ℕ) (v n j place : ℕ) → length r ≡ 2 * n → j < n → place < 3 →
    get_or (gate_clauses v r) (3 * j + place) [] ≡ get_or (clauses_of_gate (2 * (v + j)) (get_or r (2 * j) 0) (get_or r (2 * j + 1) 0)) place []
clause_at [] v n j place e h l = absurd (omega arith)
clause_at (a ∷ []) v n j place e h l = absurd (omega arith)
clause_at (a ∷ b ∷ r) v n zero place e h l =
    let p : 3 * zero + place ≡ place = omega arith in
    let w : v ≡ v + zero = omega arith in
    ap (λ (k : ℕ). get_or (gate_clauses v (a ∷ b ∷ r)) k []) p ∙ first place l ∙ ap (λ (u : ℕ). get_or (clauses_of_gate (2 * u) a b) place []) w
  where
    first : (k : ℕ) → k < 3 → get_or (gate_clauses v (a ∷ b ∷ r)) k [] ≡ get_or (clauses_of_gate (2 * v) a b) k []
    first zero l = refl
    first (suc zero) l = refl
    first (suc (suc zero)) l = refl
    first (suc (suc (suc k))) l = absurd (omega arith)
clause_at (a ∷ b ∷ r) v n (suc j) place e h l =
    let p : 3 * suc j + place ≡ suc (suc (suc (3 * j + place))) = omega arith in
    let x : suc (suc (2 * j)) ≡ 2 * suc j = omega arith in
    let y : suc (suc (2 * j + 1)) ≡ 2 * suc j + 1 = omega arith in
    let w : v + 1 + j ≡ v + suc j = omega arith in
    ap (λ (k : ℕ). get_or (gate_clauses v (a ∷ b ∷ r)) k []) p ∙ clause_at r (v + 1) (n - 1) j place (omega arith) (omega arith) l
    ∙ same w (ap (λ (k : ℕ). get_or (a ∷ b ∷ r) k 0) x) (ap (λ (k : ℕ). get_or (a ∷ b ∷ r) k 0) y)
  where
    same : {u u' x x' y y' : ℕ} → u ≡ u' → x ≡ x' → y ≡ y' → get_or (clauses_of_gate (2 * u) x y) place [] ≡ get_or (clauses_of_gate (2 * u') x' y') place []
    same d e f = cc

module _ (h : Header) (area : List ℕ) (good : Good h area) (whole : length area ≡ needed h) where
  -- clause 0 says that variable 0 is false
  pub clause_first : (c : ℕ) → c ≡ 0 → entry (meant h area).clauses c ≡ Some (1 ∷ [])
  clause_first c e = ap (entry (meant h area).clauses) e ∙ entry_at (meant h area).clauses 0 [] (omega (arith, clauses_count h area good whole))

  pub clause_past : (c : ℕ) → (c ≡ 0 → ⊥) → h.gates ≤ (c - 1) / 3 → entry (meant h area).clauses c ≡ None
  clause_past c n past = entry_past (meant h area).clauses c (omega (arith, clauses_count h area good whole))

  -- any other is a clause of a gate
  clause_there : (c : ℕ) → (c ≡ 0 → ⊥) → (c - 1) / 3 < h.gates →
      entry (meant h area).clauses c
      ≡ Some (get_or (clauses_of_gate (gate_literal h ((c - 1) / 3))
      (get_or area (h.latches + h.outputs + 2 * ((c - 1) / 3)) 0) (get_or area (h.latches + h.outputs + (2 * ((c - 1) / 3) + 1)) 0)) ((c - 1) % 3) [])
  clause_there c n low =
      let j : ℕ = (c - 1) / 3 in
      let place : ℕ = (c - 1) % 3 in
      let at : ℕ = h.latches + h.outputs in
      let v : ℕ = 1 + h.inputs + h.latches in
      let e : c ≡ suc (3 * j + place) = omega arith in
      entry_at (meant h area).clauses c [] (omega (arith, clauses_count h area good whole))
      ∙ ap Some (ap (λ (k : ℕ). get_or (meant h area).clauses k []) e ∙ clause_at (operands h area) v h.gates j place (operands_length h area good whole) low (omega arith)
      ∙ same (2 * (v + j)) place (get_or-drop at area (2 * j) 0) (get_or-drop at area (2 * j + 1) 0))
    where
      same : (gate place : ℕ) {x x' y y' : ℕ} → x ≡ x' → y ≡ y' → get_or (clauses_of_gate gate x y) place [] ≡ get_or (clauses_of_gate gate x' y') place []
      same gate place e f = cc

  -- the same, said of a gate literal and operands that were computed
  pub clause_gate : (c gate a b : ℕ) → (c ≡ 0 → ⊥) → (c - 1) / 3 < h.gates → gate ≡ gate_literal h ((c - 1) / 3) →
      a ≡ get_or area (h.latches + h.outputs + 2 * ((c - 1) / 3)) 0 → b ≡ get_or area (h.latches + h.outputs + (2 * ((c - 1) / 3) + 1)) 0 →
      entry (meant h area).clauses c ≡ Some (get_or (clauses_of_gate gate a b) ((c - 1) % 3) [])
  clause_gate c gate a b n low is_gate is_a is_b = rw (is_gate, is_a, is_b) (clause_there c n low)
