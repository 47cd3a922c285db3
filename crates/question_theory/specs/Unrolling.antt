-- The clauses of rows that follow one another, and the linked rows that satisfy them.
use Rattle.std.specs.Prelude.{◌≡◌, ℕ, zero, suc, ◌+◌, ◌*◌, ◌≤◌, Bool, true, List, [], ◌∷◌, ◌++◌, map, length}
use Rattle.std.specs.List.{range_with_len}
use Rattle.resolution.specs.Clauses.{denial, models}
use Rattle.machine.specs.Meaning.{Meaning, Lawful, Fits}

-- a literal moved to frame t
abbrev pub moved : Meaning → ℕ → ℕ → ℕ
moved m t l = 2 * (t * m.variables) + l

-- the machine's clauses moved to frame t
abbrev pub clauses_at : Meaning → ℕ → List (List ℕ)
clauses_at m t = map (map (moved m t)) m.clauses

-- the machine's clauses moved to frame 0, then to frame 1, up to frame n
unfoldable pub clauses_upto : Meaning → ℕ → List (List ℕ)
clauses_upto m zero = clauses_at m zero
clauses_upto m (suc n) = clauses_upto m n ++ clauses_at m (suc n)

-- the literal of state bit i
abbrev pub literal_of_state : Meaning → ℕ → ℕ
literal_of_state m i = 2 * (m.inputs + 1 + i)

-- the literals xs at frame t are state bits i, i + 1, .. at frame t + 1
abbrev pub tie : Meaning → ℕ → ℕ → List ℕ → List (List ℕ)
tie m t i [] = []
tie m t i (x ∷ xs) =
    (moved m t x ∷ denial (moved m (suc t) (literal_of_state m i)) ∷ []) ∷
    (denial (moved m t x) ∷ moved m (suc t) (literal_of_state m i) ∷ []) ∷ tie m t (i + 1) xs

-- each frame before n is tied to the one after it
unfoldable pub ties : Meaning → ℕ → List (List ℕ)
ties m zero = []
ties m (suc t) = ties m t ++ tie m t 0 m.next

-- the clauses of n + 1 rows that follow one another
unfoldable pub unroll : Meaning → ℕ → List (List ℕ)
unroll m n = clauses_upto m n ++ ties m n

-- the state of row t, where row 0 has state s and row j has the inputs ins j
abbrev pub linked_state : Meaning → List Bool → (ℕ → List Bool) → ℕ → List Bool
linked_state m s ins zero = s
linked_state m s ins (suc t) = m.step (linked_state m s ins t) (ins t)

-- rows 0 to t each set every input
abbrev pub Inputs : Meaning → (ℕ → List Bool) → ℕ → Type 0
Inputs m ins t = (j : ℕ) → j ≤ t → length (ins j) ≡ m.inputs

-- whether the rule is broken in row t
abbrev pub broken_at : Meaning → ℕ → List Bool → (ℕ → List Bool) → ℕ → Bool
broken_at m o s ins t = m.broken o (linked_state m s ins t) (ins t)

-- what a setting makes of the variables of frame t
abbrev pub row_at : Meaning → (ℕ → Bool) → ℕ → List Bool
row_at m v t = map v (range_with_len (t * m.variables) m.variables)

-- the setting is the rows 0 to n that begin in s and have these inputs: each frame is the fit of its row
pub record LinkedRows (m : Meaning) (n : ℕ) (v : ℕ → Bool) (s : List Bool) (ins : ℕ → List Bool) : Type 0 where
  pub given : Inputs m ins n
  pub fits : (t : ℕ) → t ≤ n → Fits m (linked_state m s ins t) (ins t) (row_at m v t)

-- a setting that satisfies unroll n is n + 1 linked rows, and all n + 1 linked rows are such a setting
pub record Unrolled (m : Meaning) (n : ℕ) : Type 0 where
  pub rows : (v : ℕ → Bool) → models v (unroll m n) ≡ true → (s : List Bool) × (ins : ℕ → List Bool) × LinkedRows m n v s ins
  pub setting : (s : List Bool) (ins : ℕ → List Bool) → length s ≡ m.state_bits → Inputs m ins n → (v : ℕ → Bool) × (models v (unroll m n) ≡ true) × LinkedRows m n v s ins

abbrev pub Unrolls : Type 0
Unrolls = (m : Meaning) → Lawful m → (n : ℕ) → Unrolled m n
