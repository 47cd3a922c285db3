-- A refutation with the areas that its clauses stand in.
use Rattle.std.specs.Prelude.{◌≡◌, ℕ, ◌+◌, ◌-◌, ◌≤◌, Bool, true, false, cond, List, [], ◌∷◌, length, take, drop, replicate, Ok, Err, Result}
use Rattle.std.specs.List.{AllByRecursion}
use Rattle.refusal.specs.declared.faults.DocketFault.{DocketFault}
use Rattle.refusal.specs.declared.faults.DocketFault.TheVariants.{UnfitArea}
use Rattle.refusal.specs.declared.faults.RefutationFault.{RefutationFault}
use Rattle.refusal.specs.declared.faults.RefutationFault.TheVariants.{NoClause, NotRefuted}
use Rattle.stack.specs.declared.spans.Span.{Span}
use Rattle.stack.specs.Pushes.{placed}
use Rattle.stack.specs.Runs.{runs}
use Rattle.resolution.specs.declared.refutation.Refutation.{Refutation}
use Rattle.resolution.specs.declared.refutation.Refuted.{Refuted}
use Rattle.resolution.specs.Clauses.{holds, models, Rising}
use Rattle.resolution.specs.Outcomes.{admitted, takes, resolves, numbered, added, ends}

-- the clauses of the spans from a up to m, of the first n literals
unfoldable pub own_of : ℕ → ℕ → ℕ → List ℕ → List Span → List (List ℕ)
own_of n a m ls ps = runs (take n ls) (take (m - a) (drop a ps))

-- the clauses that the refutation has made so far
abbrev pub own : Refutation → List ℕ → List Span → List (List ℕ)
own t ls ps = own_of t.literals.used t.first t.spans.used ls ps

-- what a take gives; a refutation that has ended takes no clause
abbrev pub taken : Refutation → List (List ℕ) → ℕ → List ℕ → List Span → Result (List ℕ) RefutationFault
taken t list n ls ps = cond t.spent (Err NoClause) (takes list n t.literals.used (length ls) t.spans.used (length ps))

-- what a resolve gives
abbrev pub resolved : Refutation → ℕ → ℕ → ℕ → List ℕ → List Span → Result (List ℕ) RefutationFault
resolved t left right pivot ls ps = resolves (own t ls ps) left right pivot t.literals.used (length ls) t.spans.used (length ps)

-- the refutation, its literals and its spans after such a step
abbrev pub grown : Refutation → Result (List ℕ) RefutationFault → Refutation
grown t (Ok c) = record { floor = t.floor; first = t.first; literals = record { used = t.literals.used + length c }; spans = record { used = t.spans.used + 1 }; spent = t.spent }
grown t (Err e) = t

abbrev pub written : Refutation → List ℕ → Result (List ℕ) RefutationFault → List ℕ
written t ls (Ok c) = placed t.literals.used c ls
written t ls (Err e) = ls

abbrev pub noted : Refutation → List Span → Result (List ℕ) RefutationFault → List Span
noted t ps (Ok c) = placed t.spans.used (record { start = t.literals.used; length = length c } ∷ []) ps
noted t ps (Err e) = ps

-- a refutation from these marks on, with no clause yet
abbrev pub fresh : ℕ → ℕ → Refutation
fresh floor first = record { floor = floor; first = first; literals = record { used = floor }; spans = record { used = first }; spent = false }

-- what a start gives
abbrev pub started : List ℕ → List Span → Result Refutation DocketFault
started ls ps = cond (admitted (length ls) (length ps)) (Ok (fresh 0 0)) (Err UnfitArea)

-- a refutation that has ended: its clauses are dropped
abbrev pub closed : Refutation → Refutation
closed t = record { floor = t.floor; first = t.first; literals = record { used = t.floor }; spans = record { used = t.first }; spent = true }

-- what the end of a refutation with these clauses gives
abbrev pub ended : List (List ℕ) → Result Refuted RefutationFault
ended clauses = cond (ends clauses) (Ok (record { clauses = length clauses })) (Err NotRefuted)

-- areas of zeros
abbrev pub no_literals : List ℕ → List ℕ
no_literals ls = replicate (length ls) 0

abbrev pub no_spans : List Span → List Span
no_spans ps = replicate (length ps) (record { start = 0; length = 0 })

-- how many literals clauses have
abbrev pub entries : List (List ℕ) → ℕ
entries [] = 0
entries (c ∷ cs) = length c + entries cs

-- the refutation is under way, and the areas are as its last call left them
pub record Standing (t : Refutation) (ls : List ℕ) (ps : List Span) : Type 0 where
  pub open_yet : t.spent ≡ false
  pub admits : admitted (length ls) (length ps) ≡ true
  pub literals : t.literals.used ≤ length ls
  pub first : t.first ≤ t.spans.used
  pub spans : t.spans.used ≤ length ps
  pub each : AllByRecursion (λ p. p.start + p.length ≤ t.literals.used) (take (t.spans.used - t.first) (drop t.first ps))
  pub used : t.literals.used ≡ t.floor + entries (own t ls ps)

-- what is below the refutation's marks stays
pub record Kept (t : Refutation) (ls ms : List ℕ) (ps qs : List Span) : Type 0 where
  pub literals : take t.floor ms ≡ take t.floor ls
  pub spans : take t.first qs ≡ take t.first ps

-- a clause holds under each setting that satisfies the list
unfoldable pub Implied : List (List ℕ) → List ℕ → Type 0
Implied list c = (v : ℕ → Bool) → models v list ≡ true → holds v c ≡ true

-- each clause follows from the list
abbrev pub Follows : List (List ℕ) → List (List ℕ) → Type 0
Follows list clauses = AllByRecursion (Implied list) clauses

-- how a step goes on, where the areas are as the last call left them
pub record GoesOn (t u : Refutation) (ls ms : List ℕ) (ps qs : List Span) (after : List (List ℕ)) : Type 0 where
  pub stands : Standing u ms qs
  pub clauses : own u ms qs ≡ after
  pub kept : Kept t ls ms ps qs

-- what a step does: the refutation, both areas and the answer r are as o says, for every state;
-- and it goes on with one clause more, where the areas are as the last call left them
pub record Steps (t u : Refutation) (ls ms : List ℕ) (ps qs : List Span) (o : Result (List ℕ) RefutationFault) (r : Result ℕ RefutationFault) : Type 0 where
  pub answer : r ≡ numbered (own t ls ps) o
  pub refutation : u ≡ grown t o
  pub literals : ms ≡ written t ls o
  pub spans : qs ≡ noted t ps o
  pub goes_on : Standing t ls ps → GoesOn t u ls ms ps qs (added (own t ls ps) o)

-- what clauses have in common with those after a step: they follow from the list; they rise
pub record Carries (list before after : List (List ℕ)) : Type 0 where
  pub follows : Follows list before → Follows list after
  pub rises : AllByRecursion Rising list → AllByRecursion Rising before → AllByRecursion Rising after
