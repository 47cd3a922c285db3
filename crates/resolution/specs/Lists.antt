-- Lists of clauses, and clauses that are copied onto a stack of literals.
use Rattle.std.specs.Prelude.{◌≡◌, ℕ, ◌+◌, ◌-◌, ◌<◌, ◌≤◌, Bool, true, false, ◌||◌, List, [], length, Result, Ok, Err, ◌==◌, nat_lt, slice_index, slice_index_or}
use Rattle.refusal.specs.declared.faults.RefutationFault.{RefutationFault}
use Rattle.refusal.specs.declared.faults.RefutationFault.TheVariants.{NoClause, NoPivot, Full, NotRefuted}
use Rattle.stack.specs.declared.spans.Span.{Span}
use Rattle.stack.specs.Pushes.{PushedAs}
use Rattle.stack.specs.Runs.{run}
use Rattle.resolution.specs.Clauses.{Rising}

-- clause number n of a list of clauses; none is past its end
abbrev pub numbered_clause : List (List ℕ) → ℕ → List ℕ
numbered_clause clauses n = slice_index_or clauses n []

-- clause n is pushed onto a stack exactly when there is one and it fits; else nothing changes, and the fault says which of the two failed
abbrev pub CopiedAs : List (List ℕ) → ℕ → ℕ → ℕ → List ℕ → List ℕ → Result (Unit {0}) RefutationFault → Type 0
CopiedAs clauses n used end area after (Ok u) = (n < length clauses) × PushedAs (numbered_clause clauses n) used end area after (Ok u)
CopiedAs clauses n used end area after (Err NoClause) = (length clauses ≤ n) × (end ≡ used) × (after ≡ area)
CopiedAs clauses n used end area after (Err Full) = (n < length clauses) × (length area < used + length (numbered_clause clauses n)) × (end ≡ used) × (after ≡ area)
CopiedAs clauses n used end area after (Err NoPivot) = ⊥
CopiedAs clauses n used end area after (Err NotRefuted) = ⊥

-- is the literal above the last one of the clause?
unfoldable pub above : List ℕ → ℕ → Bool
above clause l = length clause == 0 || nat_lt (slice_index clause (length clause - 1)) l

-- a span of a table: within its literals, and these strictly rising
abbrev pub Proper : List ℕ → Span → Type 0
Proper literals span = (span.start + span.length ≤ length literals) × Rising (run literals span)

-- a yes or no about a fact
abbrev pub Tells : Bool → Type 0 → Type 0
Tells true P = P
Tells false P = P → ⊥
