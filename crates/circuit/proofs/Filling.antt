-- What filling a row does, gate by gate.
use Rattle.std.proofs.Common.{◌≡◌, ℕ, suc, ◌+◌, ◌-◌, ◌*◌, ◌/◌, ◌<◌, ◌≤◌, Bool, true, false, ◌&&◌, ◌≢◌, List, [], ◌∷◌, ◌++◌, length, get_or, take, drop, set, sym, refl, ap, ◌∙◌, subst, ⊎_elim, arith, below_more}
use lib.Bits.{bit_and}
use Rattle.std.proofs.lemmas.List.{take_more_set, drop_more, drop_all, map_push, get_or-set_same, get_or-set_other, get_or-drop, length-take-le, length-drop, length-map, drop-set-lt, take-append-drop, drop-take, take-map, take-take}
use Rattle.std.proofs.lemmas.Bool.{cases_eq}
use Rattle.machine.specs.Meaning.{Meaning, Fits, lit}
use Rattle.machine.specs.Rows.{Filled, bit, byte, bits, row_inputs, row_state}
use Rattle.machine.proofs.RowBits.{bit_byte, byte_small, lit_taken}
use Rattle.aiger.specs.declared.header.Header.{Header}
use Rattle.aiger.specs.Numbers.{Good, needed}
use Rattle.aiger.specs.Evaluation.{operands, grow, meant}
use Rattle.aiger.proofs.Law.{operands_length, evaluated_fits}

both_bytes : (p q : Bool) → bit_and (byte p) (byte q) ≡ byte (p && q)
both_bytes true true = refl
both_bytes true false = refl
both_bytes false true = refl
both_bytes false false = refl

-- one gate more stands in the row
gate_more : (r row : List ℕ) (n j z : ℕ) → n < length row → 2 * j + 1 < length r →
    z ≡ byte (lit (bits (take n row)) (get_or r (2 * j) 0) && lit (bits (take n row)) (get_or r (2 * j + 1) 0)) →
    grow (bits (take (n + 1) (set row n z))) (drop (2 * (j + 1)) r) ≡ grow (bits (take n row)) (drop (2 * j) r)
gate_more r row n j z ln lr ez =
    let u : List Bool = bits (take n row) in
    let value : Bool = lit u (get_or r (2 * j) 0) && lit u (get_or r (2 * j + 1) 0) in
    let j0 : 2 * j < length r = omega arith in
    let e2 : 2 * (j + 1) ≡ 2 * j + 1 + 1 = omega arith in
    let rest : drop (2 * j) r ≡ get_or r (2 * j) 0 ∷ get_or r (2 * j + 1) 0 ∷ drop (2 * (j + 1)) r =
    drop_more r (2 * j) 0 j0 ∙ ap (λ (q : List ℕ). get_or r (2 * j) 0 ∷ q) (drop_more r (2 * j + 1) 0 lr ∙ ap (λ (k : ℕ). get_or r (2 * j + 1) 0 ∷ drop k r) (sym e2)) in
    let row' : bits (take (n + 1) (set row n z)) ≡ u ++ value ∷ [] =
    ap bits (take_more_set row n z ln) ∙ map_push bit (take n row) z ∙ ap (λ (y : Bool). u ++ y ∷ []) (ap bit ez ∙ bit_byte value) in
    ap (λ (w : List Bool). grow w (drop (2 * (j + 1)) r)) row' ∙ sym (ap (grow u) rest)

small_more : (row : List ℕ) (n z : ℕ) → n < length row → z < 2 → ((k : ℕ) → k < n → get_or row k 0 < 2) → (k : ℕ) → k < n + 1 → get_or (set row n z) k 0 < 2
small_more row n z l s h =
    below_more _ _
    (λ k k<. let ne : k ≢ n = omega arith in omega (arith, get_or-set_other row n k z 0 ne, h k k<))
    (omega (arith, get_or-set_same row n z 0 l))

small_first : (row : List ℕ) (n : ℕ) → 0 < length row → ((k : ℕ) → k < n → get_or row (1 + k) 0 < 2) → (k : ℕ) → k < 1 + n → get_or (set row 0 0) k 0 < 2
small_first row n l h k k< =
    ⊎_elim
    (λ (e : k ≡ 0). omega (arith, ap (λ (i : ℕ). get_or (set row 0 0) i 0) e, get_or-set_same row 0 0 0 l))
    (λ (ne : k ≢ 0).
    let e : 1 + (k - 1) ≡ k = omega arith in
    omega (arith, get_or-set_other row 0 k 0 0 ne, ap (λ (i : ℕ). get_or row i 0) e, h (k - 1) (omega arith)))
    (cases_eq k 0)

-- the first so many gates stand in the row, as 0 or 1, and what is beyond the variables stays
pub record GatesFilled (h : Header) (area old row : List ℕ) (gates : ℕ) : Type 0 where
  pub grown : grow (bits (take (1 + h.inputs + h.latches + gates) row)) (drop (2 * gates) (operands h area)) ≡ grow (bits (take (1 + h.inputs + h.latches) old)) (operands h area)
  pub small : (k : ℕ) → k < 1 + h.inputs + h.latches + gates → get_or row k 0 < 2
  pub rest : drop (h.maximum + 1) row ≡ drop (h.maximum + 1) old

pub no_gates : (h : Header) (area row : List ℕ) → 0 < length row → ((k : ℕ) → k < h.inputs + h.latches → get_or row (1 + k) 0 < 2) →
    GatesFilled h area (set row 0 0) (set row 0 0) 0
no_gates h area row some small =
    let e : 1 + h.inputs + h.latches + 0 ≡ 1 + h.inputs + h.latches = omega arith in
    record {
      grown = ap (λ (k : ℕ). grow (bits (take k (set row 0 0))) (operands h area)) e;
      small = λ k l. small_first row (h.inputs + h.latches) some small k (omega arith);
      rest = refl;
    }

-- one gate more, of the operands that stand in the area
pub gates_more : (h : Header) (area old row : List ℕ) (j n a b x y : ℕ) → Good h area → length area ≡ needed h → GatesFilled h area old row j →
    j < h.gates → n ≡ 1 + h.inputs + h.latches + j → a ≡ get_or area (h.latches + h.outputs + 2 * j) 0 → b ≡ get_or area (h.latches + h.outputs + (2 * j + 1)) 0 → n < length row →
    x ≡ byte (lit (bits row) a) → y ≡ byte (lit (bits row) b) → GatesFilled h area old (set row n (bit_and x y)) (j + 1)
gates_more h area old row j n a b x y good whole so_far low is_n is_a is_b room is_x is_y =
    let r : List ℕ = operands h area in
    let u : List Bool = bits (take n row) in
    let ops = good.2 j low in
    let first : ℕ = h.latches + h.outputs in
    let ea : get_or r (2 * j) 0 ≡ a = get_or-drop first area (2 * j) 0 ∙ sym is_a in
    let eb : get_or r (2 * j + 1) 0 ≡ b = get_or-drop first area (2 * j + 1) 0 ∙ sym is_b in
    let la : a / 2 < n = omega (arith, ops.0) in
    let lb : b / 2 < n = omega (arith, ops.0, ops.1) in
    let va : x ≡ byte (lit u (get_or r (2 * j) 0)) = is_x ∙ ap byte (sym (lit_taken row n a la) ∙ ap (lit u) (sym ea)) in
    let vb : y ≡ byte (lit u (get_or r (2 * j + 1) 0)) = is_y ∙ ap byte (sym (lit_taken row n b lb) ∙ ap (lit u) (sym eb)) in
    let z : bit_and x y ≡ byte (lit u (get_or r (2 * j) 0) && lit u (get_or r (2 * j + 1) 0)) = both va vb ∙ both_bytes (lit u (get_or r (2 * j) 0)) (lit u (get_or r (2 * j + 1) 0)) in
    let small = byte_small (lit u (get_or r (2 * j) 0) && lit u (get_or r (2 * j + 1) 0)) in
    let more = gate_more r row n j (bit_and x y) room (omega (arith, operands_length h area good whole)) z in
    let en : 1 + h.inputs + h.latches + (j + 1) ≡ n + 1 = omega arith in
    let inside : n < h.maximum + 1 = omega (arith, good.0.0) in
    record {
      grown = ap (λ (k : ℕ). grow (bits (take k (set row n (bit_and x y)))) (drop (2 * (j + 1)) r)) en ∙ more ∙ ap (λ (k : ℕ). grow (bits (take k row)) (drop (2 * j) r)) is_n ∙ so_far.grown;
      small = λ k l. small_more row n (bit_and x y) room (omega arith) (λ i low. so_far.small i (omega arith)) k (omega arith);
      rest = drop-set-lt (h.maximum + 1) row n (bit_and x y) inside ∙ so_far.rest;
    }
  where
    both : {p p' q q' : ℕ} → p ≡ p' → q ≡ q' → bit_and p q ≡ bit_and p' q'
    both e f = cc

-- the row begins with false, the inputs and the state
front_is : (m : Meaning) (row : List ℕ) → 1 + m.inputs + m.state_bits ≤ length row →
    bits (take (1 + m.inputs + m.state_bits) (set row 0 0)) ≡ false ∷ (row_inputs m row ++ row_state m row)
front_is m [] l = absurd (omega arith)
front_is m (b ∷ row) l =
    let i = m.inputs in
    let s = m.state_bits in
    let e : 1 + i + s ≡ suc (i + s) = omega arith in
    let split : take (i + s) (bits row) ≡ take i (bits row) ++ take s (drop i (bits row)) =
    sym (take-append-drop i (take (i + s) (bits row))) ∙ pair (take-take i (i + s) (bits row) (omega arith)) (drop-take i s (bits row)) in
    let d : 1 + i ≡ suc i = omega arith in
    ap (λ (k : ℕ). bits (take k (0 ∷ row))) e ∙ ap (λ (q : List Bool). false ∷ q) (sym (take-map bit (i + s) row) ∙ split) ∙
    ap (λ (k : ℕ). false ∷ (take i (bits row) ++ take s (drop k (bits (b ∷ row))))) (sym d)
  where
    pair : {p p' q q' : List Bool} → p ≡ p' → q ≡ q' → p ++ q ≡ p' ++ q'
    pair e f = cc

-- after the last gate the row is filled
pub filled : (h : Header) (area old new : List ℕ) → Good h area → length area ≡ needed h → h.maximum + 1 ≤ length old → length new ≡ length old →
    (n : ℕ) → n ≡ h.gates → GatesFilled h area (set old 0 0) new n → Filled (meant h area) old new
filled h area old new good whole room same n all done =
    let m : Meaning = meant h area in
    let i = h.inputs in
    let s = h.latches in
    let sum = good.0.0 in
    let none : drop (2 * n) (operands h area) ≡ [] = drop_all (2 * n) (operands h area) (omega (arith, operands_length h area good whole)) in
    let w : List Bool = bits (take (h.maximum + 1) new) in
    let size : h.maximum + 1 ≡ 1 + i + s + n = omega arith in
    let w-is : w ≡ grow (false ∷ (row_inputs m old ++ row_state m old)) (operands h area) =
    sym (ap (grow w) none) ∙ ap (λ (k : ℕ). grow (bits (take k new)) (drop (2 * n) (operands h area))) size ∙ done.grown ∙ ap (λ (u : List Bool). grow u (operands h area)) (front_is m old (omega arith)) in
    let li : length (row_inputs m old) ≡ i = length-take-le i (drop 1 (bits old)) (omega (arith, length-drop 1 (bits old), length-map old bit)) in
    let ls : length (row_state m old) ≡ s = length-take-le s (drop (1 + i) (bits old)) (omega (arith, length-drop (1 + i) (bits old), length-map old bit)) in
    let pos : 0 < h.maximum + 1 = omega arith in
    record {
      same_length = same;
      small = λ k l. done.small k (omega arith);
      fits = subst (λ (y : List Bool). Fits m (row_state m old) (row_inputs m old) y) (sym w-is) (evaluated_fits h area good whole (row_state m old) (row_inputs m old) ls li);
      rest = done.rest ∙ drop-set-lt (h.maximum + 1) old 0 0 pos;
    }
