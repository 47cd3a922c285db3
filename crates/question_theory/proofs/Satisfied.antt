-- Settings that satisfy clauses, where these are joined, moved or denied.
use Rattle.std.proofs.Common.{◌≡◌, ℕ, zero, suc, ◌+◌, Bool, true, false, not, ◌&&◌, ◌||◌, List, [], ◌∷◌, ◌++◌, map, sym, refl, ap, ◌∙◌, ap₂, arith}
use Rattle.std.specs.List.{range_with_len, AllByRecursion}
use Rattle.std.proofs.lemmas.Bool.{and_parts, and_from}
use Rattle.resolution.specs.Clauses.{literal_true, denial, holds, models}
use Rattle.resolution.proofs.Settings.{denial_flips}

pub models_append : (v : ℕ → Bool) (ps qs : List (List ℕ)) → models v (ps ++ qs) ≡ (models v ps && models v qs)
models_append v [] bs = refl
models_append v (a ∷ ps) qs = ap (λ (b : Bool). holds v a && b) (models_append v ps qs) ∙ grouped (holds v a) (models v ps) (models v qs)
  where
    grouped : (x y z : Bool) → (x && (y && z)) ≡ ((x && y) && z)
    grouped true y z = refl
    grouped false y z = refl

pub parts : (v : ℕ → Bool) (ps qs : List (List ℕ)) → models v (ps ++ qs) ≡ true → (models v ps ≡ true) × (models v qs ≡ true)
parts v ps qs h = and_parts (models v ps) (models v qs) (sym (models_append v ps qs) ∙ h)

pub joins : (v : ℕ → Bool) (ps qs : List (List ℕ)) → models v ps ≡ true → models v qs ≡ true → models v (ps ++ qs) ≡ true
joins v ps qs h k = models_append v ps qs ∙ and_from (models v ps) (models v qs) h k

-- the clauses of a unit
pub unit_is : (v : ℕ → Bool) (l : ℕ) → models v ((l ∷ []) ∷ []) ≡ literal_true v l
unit_is v l = plain (literal_true v l)
  where
    plain : (b : Bool) → ((b || false) && true) ≡ b
    plain true = refl
    plain false = refl

-- clauses whose literals have, moved, the values that another setting gives them
pub holds_moved : (u v : ℕ → Bool) (f : ℕ → ℕ) (P : ℕ → Type 0) → ((l : ℕ) → P l → literal_true v (f l) ≡ literal_true u l) → (c : List ℕ) → AllByRecursion P c → holds v (map f c) ≡ holds u c
holds_moved u v f P h [] a = refl
holds_moved u v f P h (l ∷ c) a = ap₂ (λ (x y : Bool). x || y) (h l a.0) (holds_moved u v f P h c a.1)

pub models_moved : (u v : ℕ → Bool) (f : ℕ → ℕ) (P : ℕ → Type 0) → ((l : ℕ) → P l → literal_true v (f l) ≡ literal_true u l) → (cs : List (List ℕ)) → AllByRecursion (AllByRecursion P) cs → models v (map (map f) cs) ≡ models u cs
models_moved u v f P h [] a = refl
models_moved u v f P h (c ∷ cs) a = ap₂ (λ (x y : Bool). x && y) (holds_moved u v f P h c a.0) (models_moved u v f P h cs a.1)

pub holds_same : (u v : ℕ → Bool) (P : ℕ → Type 0) → ((l : ℕ) → P l → literal_true v l ≡ literal_true u l) → (c : List ℕ) → AllByRecursion P c → holds v c ≡ holds u c
holds_same u v P h [] a = refl
holds_same u v P h (l ∷ c) a = ap₂ (λ (x y : Bool). x || y) (h l a.0) (holds_same u v P h c a.1)

pub models_same : (u v : ℕ → Bool) (P : ℕ → Type 0) → ((l : ℕ) → P l → literal_true v l ≡ literal_true u l) → (cs : List (List ℕ)) → AllByRecursion (AllByRecursion P) cs → models v cs ≡ models u cs
models_same u v P h [] a = refl
models_same u v P h (c ∷ cs) a = ap₂ (λ (x y : Bool). x && y) (holds_same u v P h c a.0) (models_same u v P h cs a.1)

-- the units that deny each literal of a clause
pub denied : (u v : ℕ → Bool) (f : ℕ → ℕ) (P : ℕ → Type 0) → ((l : ℕ) → P l → literal_true v (f l) ≡ literal_true u l) → (c : List ℕ) → AllByRecursion P c → models v (map (λ (l : ℕ). denial (f l) ∷ []) c) ≡ not (holds u c)
denied u v f P h [] a = refl
denied u v f P h (l ∷ c) a =
    ap₂ (λ (x y : Bool). (x || false) && y) (denial_flips v (f l) ∙ ap not (h l a.0)) (denied u v f P h c a.1) ∙ neither (literal_true u l) (holds u c)
  where
    neither : (x y : Bool) → ((not x || false) && not y) ≡ not (x || y)
    neither true y = refl
    neither false y = refl

pub map_split : (v : ℕ → Bool) (n a b k c : ℕ) → n + b ≡ k → a + n ≡ c → map v (range_with_len a k) ≡ map v (range_with_len a n) ++ map v (range_with_len c b)
map_split v zero a b k c e d =
    let p : k ≡ b = omega arith in
    let q : a ≡ c = omega arith in
    ap₂ (λ (x y : ℕ). map v (range_with_len x y)) q p
map_split v (suc n) a b zero c e d = let none : ⊥ = omega arith in absurd none
map_split v (suc n) a b (suc k) c e d = ap (λ (r : List Bool). v a ∷ r) (map_split v n (a + 1) b k c (omega arith) (omega arith))

-- each clause of a list that is satisfied
pub all_from_models : (v : ℕ → Bool) (cs : List (List ℕ)) → models v cs ≡ true → AllByRecursion (λ c. holds v c ≡ true) cs
all_from_models v [] h = tt
all_from_models v (c ∷ cs) h = let p = and_parts (holds v c) (models v cs) h in (p.0, all_from_models v cs p.1)
