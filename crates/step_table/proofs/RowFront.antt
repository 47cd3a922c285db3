-- What a row begins with: variable 0, the inputs and the state.
use Rattle.std.proofs.Common.{◌≡◌, ℕ, suc, ◌+◌, ◌-◌, ◌<◌, ◌≤◌, Bool, false, ◌≢◌, List, [], ◌∷◌, ◌++◌, length, get_or, take, drop, set, sym, ap, ◌∙◌, ⊎_elim, arith}
use Rattle.std.proofs.lemmas.List.{get_or-set_same, get_or-set_other, length-take-le, length-drop, length-map, take-append-drop, drop-take, drop-drop, take-map, take-take}
use Rattle.std.proofs.lemmas.Bool.{cases_eq}
use Rattle.machine.specs.Meaning.{Meaning}
use Rattle.machine.specs.Rows.{bit, bits, row_inputs, row_state}

module _ (m : Meaning) (row : List ℕ) where
  -- the inputs and then the state
  pub given_split : take (m.inputs + m.state_bits) (drop 1 (bits row)) ≡ row_inputs m row ++ row_state m row
  given_split =
      let i = m.inputs in
      let s = m.state_bits in
      let ys : List Bool = drop 1 (bits row) in
      sym (take-append-drop i (take (i + s) ys))
      ∙ pair (take-take i (i + s) ys (omega arith)) (drop-take i s ys ∙ ap (take s) (drop-drop i 1 (bits row)))
    where
      pair : {p p' q q' : List Bool} → p ≡ p' → q ≡ q' → p ++ q ≡ p' ++ q'
      pair e f = cc

  module _ (room : 1 + m.inputs + m.state_bits ≤ length row) where
    pub inputs_length : length (row_inputs m row) ≡ m.inputs
    inputs_length = length-take-le m.inputs (drop 1 (bits row)) (omega (arith, length-drop 1 (bits row), length-map row bit))

    pub state_length : length (row_state m row) ≡ m.state_bits
    state_length =
        length-take-le m.state_bits (drop (1 + m.inputs) (bits row)) (omega (arith, length-drop (1 + m.inputs) (bits row), length-map row bit))

-- a row whose first byte is set to 0 begins with false and what was given
pub front_is : (row : List ℕ) (n : ℕ) → n < length row → bits (take (1 + n) (set row 0 0)) ≡ false ∷ take n (drop 1 (bits row))
front_is [] n l = absurd (omega arith)
front_is (b ∷ row) n l =
    let e : 1 + n ≡ suc n = omega arith in
    ap (λ (k : ℕ). bits (take k (0 ∷ row))) e ∙ ap (λ (q : List Bool). false ∷ q) (sym (take-map bit n row))

-- and all of it is 0 or 1
pub small_front : (row : List ℕ) (n : ℕ) → n < length row → ((k : ℕ) → k < n → get_or row (1 + k) 0 < 2) → (k : ℕ) → k < 1 + n → get_or (set row 0 0) k 0 < 2
small_front row n l h k k< =
    ⊎_elim
    (λ (e : k ≡ 0). omega (arith, ap (λ (i : ℕ). get_or (set row 0 0) i 0) e, get_or-set_same row 0 0 0 (omega arith)))
    (λ (ne : k ≢ 0).
    let e : 1 + (k - 1) ≡ k = omega arith in
    omega (arith, get_or-set_other row 0 k 0 0 ne, ap (λ (i : ℕ). get_or row i 0) e, h (k - 1) (omega arith)))
    (cases_eq k 0)
