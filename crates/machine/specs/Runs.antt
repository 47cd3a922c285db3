-- Runs of a machine, and what it is for a run to break a rule.
use Rattle.std.specs.Prelude.{◌≡◌, ℕ, zero, suc, ◌-◌, ◌≤◌, Bool, true, List, [], length, slice_index_or}
use Rattle.std.specs.List.{AllByRecursion}
use Rattle.machine.specs.Meaning.{Meaning}

-- a run is at least one row, and each row sets every input
pub record Run (m : Meaning) (rows : List (List Bool)) : Type 0 where
  pub some : 1 ≤ length rows
  pub wide : AllByRecursion (λ x. length x ≡ m.inputs) rows

-- the state of row t: the first state is the start, each later one is the step of the row before
abbrev pub state_at : Meaning → List (List Bool) → ℕ → List Bool
state_at m rows zero = m.start
state_at m rows (suc t) = m.step (state_at m rows t) (slice_index_or rows t [])

-- a run breaks a rule if the rule is broken in its last row
abbrev pub Breaks : Meaning → ℕ → List (List Bool) → Type 0
Breaks m o rows = m.broken o (state_at m rows (length rows - 1)) (slice_index_or rows (length rows - 1) []) ≡ true

-- a rule is kept if no run, of any length, breaks it
abbrev pub Kept : Meaning → ℕ → Type 0
Kept m o = (rows : List (List Bool)) → Run m rows → Breaks m o rows → ⊥
