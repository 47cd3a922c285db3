-- What a push onto a stack does to the area below it.
use Rattle.std.specs.Prelude.{◌≡◌, ℕ, ◌+◌, ◌<◌, ◌≤◌, List, ◌++◌, length, take, drop, Result, Ok, Err}
use Rattle.refusal.specs.declared.faults.Full.{Full}

-- the area with the entries xs from place n on; all other entries stay
abbrev pub placed : {X : Type 0} → ℕ → List X → List X → List X
placed n xs area = (take n area ++ xs) ++ drop (n + length xs) area

-- the entries xs are pushed onto the first n entries exactly when they fit; where they do not, nothing changes
abbrev pub PushedAs : {X : Type 0} → List X → ℕ → ℕ → List X → List X → Result (Unit {0}) Full → Type 0
PushedAs xs n end area after (Ok _) = (n + length xs ≤ length area) × (end ≡ n + length xs) × (after ≡ placed n xs area)
PushedAs xs n end area after (Err _) = (length area < n + length xs) × (end ≡ n) × (after ≡ area)
