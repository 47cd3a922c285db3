-- Clauses by value that are pushed onto a stack of literals.
use Rattle.std.specs.Prelude.{◌≡◌, ℕ, ◌+◌, ◌<◌, List, length, Some, None, Option, Result, Ok, Err}
use Rattle.refusal.specs.declared.faults.RefutationFault.{RefutationFault}
use Rattle.refusal.specs.declared.faults.RefutationFault.TheVariants.{NoClause, Full}
use Rattle.stack.specs.Pushes.{PushedAs}
use Rattle.machine.specs.declared.clause.Clause.{Clause}
use Rattle.machine.specs.Clauses.{listed}

-- the clause is pushed exactly when there is one and it fits; else nothing changes, and the fault says which of the two failed
abbrev pub PushedClause : Option Clause → ℕ → ℕ → List ℕ → List ℕ → Result (Unit {0}) RefutationFault → Type 0
PushedClause (Some c) used end area after (Ok u) = PushedAs (listed c) used end area after (Ok u)
PushedClause (Some c) used end area after (Err e) = (e ≡ Full) × (length area < used + length (listed c)) × (end ≡ used) × (after ≡ area)
PushedClause None used end area after r = (r ≡ Err NoClause) × (end ≡ used) × (after ≡ area)
