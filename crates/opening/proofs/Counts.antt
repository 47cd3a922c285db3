-- How many clauses and literals stand, as records are read.
use Rattle.std.proofs.Common.{◌≡◌, ℕ, ◌+◌, ◌≤◌, List, [], ◌∷◌, ◌++◌, length, sym, refl, ap, ◌∙◌, append_assoc, arith}
use Rattle.std.specs.List.{flat_map}
use Rattle.std.proofs.lemmas.List.{length-append, flat_map_more}
use Rattle.frames.specs.Held.{flat}
use Rattle.opening.specs.Steps.{clauses_in, clause_count, literal_count}

joined_append : {X A : Type 0} (f : X → List A) (xs ys : List X) → flat_map f (xs ++ ys) ≡ flat_map f xs ++ flat_map f ys
joined_append f [] ys = refl
joined_append f (x ∷ xs) ys = ap (λ l. f x ++ l) (joined_append f xs ys) ∙ sym (append_assoc (f x) (flat_map f xs) (flat_map f ys))

pub joined_push : {X A : Type 0} (f : X → List A) (xs : List X) (x : X) → flat_map f (xs ++ x ∷ []) ≡ flat_map f xs ++ f x
joined_push f xs x = sym (flat_map_more f [] xs x)

module _ (Fs : List (List (List ℕ))) (F : List (List ℕ)) (c : List ℕ) where
  -- a literal
  pub literals_push : (l : ℕ) → literal_count Fs F (c ++ l ∷ []) ≡ literal_count Fs F c + 1
  literals_push l = omega (arith, length-append c (l ∷ []))

  -- the end of a clause
  clause_push : clauses_in Fs ++ (F ++ c ∷ []) ≡ (clauses_in Fs ++ F) ++ c ∷ []
  clause_push = sym (append_assoc (clauses_in Fs) F (c ∷ []))

  pub clauses_push : clause_count Fs (F ++ c ∷ []) ≡ clause_count Fs F + 1
  clauses_push = ap length clause_push ∙ length-append (clauses_in Fs ++ F) (c ∷ [])

  pub literals_clause : literal_count Fs (F ++ c ∷ []) [] ≡ literal_count Fs F c
  literals_clause =
      ap (λ (x : List (List ℕ)). length (flat x) + length {A = ℕ} []) clause_push
      ∙ ap (λ (x : List ℕ). length x + length {A = ℕ} []) (joined_push (λ (d : List ℕ). d) (clauses_in Fs ++ F) c)
      ∙ omega (arith, length-append (flat (clauses_in Fs ++ F)) c)

-- the end of a frame
pub frame_push : (Fs : List (List (List ℕ))) (F : List (List ℕ)) → clauses_in (Fs ++ F ∷ []) ≡ clauses_in Fs ++ F
frame_push Fs F = joined_push (λ (G : List (List ℕ)). G) Fs F

-- clauses and literals up to a frame are among all
module _ (Fs : List (List (List ℕ))) (G : List (List ℕ)) (Gs : List (List (List ℕ))) where
  up_to : clauses_in (Fs ++ G ∷ Gs) ≡ (clauses_in Fs ++ G) ++ clauses_in Gs
  up_to = joined_append (λ (F : List (List ℕ)). F) Fs (G ∷ Gs) ∙ sym (append_assoc (clauses_in Fs) G (clauses_in Gs))

  pub clauses_among : clause_count Fs G ≤ length (clauses_in (Fs ++ G ∷ Gs))
  clauses_among = omega (arith, ap length up_to, length-append (clauses_in Fs ++ G) (clauses_in Gs))

  pub literals_among : literal_count Fs G [] ≤ length (flat (clauses_in (Fs ++ G ∷ Gs)))
  literals_among =
      omega (
        arith,
        ap (λ (x : List (List ℕ)). length (flat x)) up_to,
        ap length (joined_append (λ (d : List ℕ). d) (clauses_in Fs ++ G) (clauses_in Gs)),
        length-append (flat (clauses_in Fs ++ G)) (flat (clauses_in Gs)),
      )

-- and those up to a clause are among those of its frame
module _ (Fs : List (List (List ℕ))) (F : List (List ℕ)) (c : List ℕ) (G : List (List ℕ)) where
  up_to_clause : clauses_in Fs ++ (F ++ c ∷ G) ≡ (clauses_in Fs ++ (F ++ c ∷ [])) ++ G
  up_to_clause = ap (λ (x : List (List ℕ)). clauses_in Fs ++ x) (sym (append_assoc F (c ∷ []) G)) ∙ sym (append_assoc (clauses_in Fs) (F ++ c ∷ []) G)

  pub clause_within : clause_count Fs F + 1 ≤ clause_count Fs (F ++ c ∷ G)
  clause_within = omega (arith, ap length up_to_clause, length-append (clauses_in Fs ++ (F ++ c ∷ [])) G, clauses_push Fs F c)

  pub literals_within : literal_count Fs F c ≤ literal_count Fs (F ++ c ∷ G) []
  literals_within =
      omega (
        arith,
        ap (λ (x : List (List ℕ)). length (flat x)) up_to_clause,
        ap length (joined_append (λ (d : List ℕ). d) (clauses_in Fs ++ (F ++ c ∷ [])) G),
        length-append (flat (clauses_in Fs ++ (F ++ c ∷ []))) (flat G),
        literals_clause Fs F c,
      )
