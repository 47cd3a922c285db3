-- An area with entries placed in it.
use Rattle.std.proofs.Common.{◌≡◌, ℕ, ◌+◌, ◌-◌, ◌<◌, ◌≤◌, min, List, [], ◌∷◌, ◌++◌, length, take, drop, set, sym, ap, ◌∙◌, ⊎_elim, add-one, arith}
use Rattle.std.proofs.lemmas.List.{set_split, append_assoc, take_at, take_all, take-take, length-take, length-drop, length-append}
use Rattle.std.proofs.lemmas.Bool.{cases_lt}
use Rattle.stack.specs.Pushes.{placed}

module _ {X : Type 0} (area : List X) (n : ℕ) where
  pub placed_one : (x : X) → n < length area → set area n x ≡ placed n (x ∷ []) area
  placed_one x h =
      set_split area n x h ∙ ap (λ k. take n area ++ x ∷ drop k area) (sym (add-one n))
      ∙ sym (append_assoc (take n area) (x ∷ []) (drop (n + 1) area))

  module _ (xs : List X) (h : n + length xs ≤ length area) where
    pub length_placed : length (placed n xs area) ≡ length area
    length_placed = simp (length-append, length-take, length-drop) (omega arith)

    -- what is on the stack afterwards
    pub take_placed : take (n + length xs) (placed n xs area) ≡ take n area ++ xs
    take_placed = take_at (take n area ++ xs) (drop (n + length xs) area) (n + length xs) (simp (length-append, length-take) (omega arith))

    -- what is below stays
    pub below_placed : (k : ℕ) → k ≤ n → take k (placed n xs area) ≡ take k area
    below_placed k l =
        sym (take-take k (n + length xs) (placed n xs area) (omega arith)) ∙ ap (take k) take_placed
        ∙ sym (take-take k n (take n area ++ xs) l) ∙ ap (take k) (take_at (take n area) xs n (simp length-take (omega arith)))
        ∙ take-take k n area l

-- no more than all
pub take_min : {X : Type 0} (n : ℕ) (xs : List X) → take (min n (length xs)) xs ≡ take n xs
take_min n xs =
    ⊎_elim
    (λ (l : n < length xs). let e : min n (length xs) ≡ n = omega arith in ap (λ k. take k xs) e)
    (λ (g : length xs ≤ n). let h : length xs ≤ min n (length xs) = omega arith in take_all (min n (length xs)) xs h ∙ sym (take_all n xs g))
    (cases_lt n (length xs))

-- the entries from a up to b, where no more are there
pub between_min : {X : Type 0} (area : List X) (a b start end : ℕ) → end ≡ min b (length area) → start ≡ min a end → take (b - a) (drop a area) ≡ take (end - start) (drop start area)
between_min area a b start end e s =
    ⊎_elim
    (λ (l : a < end).
    let q : start ≡ a = omega arith in
    let z : min (b - a) (length area - a) ≡ end - a = omega arith in
    sym (take_min (b - a) (drop a area)) ∙ ap (λ n. take (min (b - a) n) (drop a area)) (length-drop a area) ∙ ap (λ n. take n (drop a area)) z ∙ ap (λ n. take (end - n) (drop n area)) (sym q))
    (λ (g : end ≤ a).
    let z : min (b - a) (length area - a) ≡ 0 = omega arith in
    let y : end - start ≡ 0 = omega arith in
    sym (take_min (b - a) (drop a area)) ∙ ap (λ n. take (min (b - a) n) (drop a area)) (length-drop a area) ∙ ap (λ n. take n (drop a area)) z ∙ ap (λ n. take n (drop start area)) (sym y))
    (cases_lt a end)

pub length_between : {X : Type 0} (area : List X) (a b start end : ℕ) → end ≡ min b (length area) → start ≡ min a end → length (take (b - a) (drop a area)) ≡ end - start
length_between area a b start end e s = simp (length-take, length-drop) (omega arith)
