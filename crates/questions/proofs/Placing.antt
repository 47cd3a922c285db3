-- Entries placed in an area one by one.
use Rattle.std.proofs.Common.{◌≡◌, ℕ, ◌+◌, ◌<◌, List, [], ◌∷◌, ◌++◌, length, get_or, take, drop, set, sym, ap, ◌∙◌, arith}
use Rattle.std.proofs.lemmas.List.{append-nil, append_assoc, take-append-drop, length-take, length-append, length_push, drop_more, set_at}
use Rattle.stack.specs.Pushes.{placed}

module _ {X : Type 0} (area : List X) (n : ℕ) where
  pub placed_none : area ≡ placed n [] area
  placed_none =
      let e : n + length {A = X} [] ≡ n = omega arith in
      sym (ap (λ (k : ℕ). (take n area ++ []) ++ drop k area) e ∙ ap (λ (xs : List X). xs ++ drop n area) (append-nil (take n area)) ∙ take-append-drop n area)

  pub placed_more : (xs : List X) (k : ℕ) (x : X) → k ≡ n + length xs → k < length area → set (placed n xs area) k x ≡ placed n (xs ++ x ∷ []) area
  placed_more xs k x e h =
      let q : drop (n + length xs) area ≡ get_or area (n + length xs) x ∷ drop (n + length xs + 1) area = drop_more area (n + length xs) x (omega arith) in
      let size : length (take n area ++ xs) ≡ k = simp (length-append, length-take) (omega arith) in
      let len = length_push xs x in
      let z : n + length xs + 1 ≡ n + length (xs ++ x ∷ []) = omega arith in
      ap (λ (ys : List X). set ((take n area ++ xs) ++ ys) k x) q
      ∙ set_at (take n area ++ xs) (get_or area (n + length xs) x) (drop (n + length xs + 1) area) x k size
      ∙ ap (λ (i : ℕ). (take n area ++ xs) ++ x ∷ drop i area) z
      ∙ sym (append_assoc (take n area ++ xs) (x ∷ []) (drop (n + length (xs ++ x ∷ [])) area))
      ∙ ap (λ (ys : List X). ys ++ drop (n + length (xs ++ x ∷ [])) area) (append_assoc (take n area) xs (x ∷ []))
