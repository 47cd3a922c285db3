-- How far a merge has come.
use Rattle.std.specs.Prelude.{◌≡◌, ℕ, ◌<◌, ◌≤◌, Bool, ◌&&◌, List, ◌≢◌}
use Rattle.stack.specs.Runs.{part}
use Rattle.resolution.specs.Clauses.{denial}
use Rattle.resolution.specs.declared.merging.Merge.{Merge}
use Rattle.resolution.specs.Resolvents.{merge, without, contains}

-- two clauses may be resolved: the left one has the pivot, the right one its denial
abbrev pub clash : List ℕ → List ℕ → ℕ → Bool
clash left right pivot = contains pivot left && contains (denial pivot) right

-- what is still to be written of a resolvent, when the left clause is read up to i and the right one up to j
unfoldable pub rest : List ℕ → ℕ → ℕ → ℕ → ℕ → ℕ → ℕ → List ℕ
rest ls p q i e j f = merge (without p (part ls i e)) (without q (part ls j f))

-- the same of one merge
abbrev pub rest_at : Merge → List ℕ → ℕ → ℕ → List ℕ
rest_at m ls i j = rest ls m.pivot m.against i m.left.end j m.right.end

-- all that a merge writes
abbrev pub merged : Merge → List ℕ → List ℕ
merged m ls = rest_at m ls m.left.start m.right.start

-- how a merge of x ∷ .. without p and y ∷ .. without q goes on: how many literals it reads of each, and how many it keeps
pub data Moves (x y p q l r k : ℕ) : Type 0 where
  skip_left : x ≡ p → l ≡ 1 → r ≡ 0 → k ≡ 0 → Moves x y p q l r k
  skip_right : y ≡ q → l ≡ 0 → r ≡ 1 → k ≡ 0 → Moves x y p q l r k
  keep_left : (x ≢ p) → (y ≢ q) → x < y → l ≡ 1 → r ≡ 0 → k ≡ 1 → Moves x y p q l r k
  keep_right : (x ≢ p) → (y ≢ q) → y < x → l ≡ 0 → r ≡ 1 → k ≡ 1 → Moves x y p q l r k
  keep_both : (x ≢ p) → (y ≢ q) → x ≤ y → y ≤ x → l ≡ 1 → r ≡ 1 → k ≡ 1 → Moves x y p q l r k

-- how many literals of the left clause are read
pub record LeftOf (x y p q r : ℕ) : Type 0 where
  pub skip : x ≡ p → r ≡ 1
  pub wait : (x ≢ p) → y ≡ q → r ≡ 0
  pub low : (x ≢ p) → (y ≢ q) → x ≤ y → r ≡ 1
  pub high : (x ≢ p) → (y ≢ q) → y < x → r ≡ 0

-- how many of the right one
pub record RightOf (x y p q r : ℕ) : Type 0 where
  pub wait : x ≡ p → r ≡ 0
  pub skip : (x ≢ p) → y ≡ q → r ≡ 1
  pub low : (x ≢ p) → (y ≢ q) → y ≤ x → r ≡ 1
  pub high : (x ≢ p) → (y ≢ q) → x < y → r ≡ 0

-- how many are kept
pub record KeptOf (x y p q r : ℕ) : Type 0 where
  pub left : x ≡ p → r ≡ 0
  pub right : y ≡ q → r ≡ 0
  pub both : (x ≢ p) → (y ≢ q) → r ≡ 1
