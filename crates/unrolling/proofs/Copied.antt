-- A clause that was made by value, pushed as the clause of a list.
use Rattle.std.proofs.Common.{◌≡◌, ℕ, ◌+◌, ◌<◌, ◌≤◌, List, [], length, get_or, Some, None, Option, Result, Ok, Err, sym, ◌∙◌, subst, ⊎_elim, arith}
use Rattle.std.specs.Option.{option_map}
use Rattle.std.proofs.lemmas.Bool.{cases_lt}
use Rattle.refusal.specs.declared.faults.RefutationFault.{RefutationFault}
use Rattle.resolution.specs.Lists.{CopiedAs}
use Rattle.resolution.proofs.Copies.{copied}
use Rattle.machine.specs.declared.clause.Clause.{Clause}
use Rattle.machine.specs.Clauses.{listed}
use Rattle.machine.specs.Lists.{entry}
use Rattle.machine.proofs.Entries.{entry_at, entry_past}
use Rattle.unrolling.specs.Pushes.{PushedClause}
use Rattle.unrolling.proofs.Answered.{some_same}

module _ (cs : List (List ℕ)) (n : ℕ) where
  -- an entry that is there, and one that is not
  some_entry : (xs : List ℕ) → ◌≡◌ {A = Option (List ℕ)} (Some xs) (entry cs n) → (n < length cs) × (get_or cs n [] ≡ xs)
  some_entry xs e =
      ⊎_elim
      (λ (l : n < length cs). (l, some_same (sym (e ∙ entry_at cs n [] l))))
      (λ (g : length cs ≤ n). let f = e ∙ entry_past cs n g in let no : ◌≡◌ {A = ℕ} 0 1 = cc in absurd (omega arith))
      (cases_lt n (length cs))

  no_entry : ◌≡◌ {A = Option (List ℕ)} None (entry cs n) → length cs ≤ n
  no_entry e =
      ⊎_elim
      (λ (l : n < length cs). let f = e ∙ entry_at cs n [] l in let no : ◌≡◌ {A = ℕ} 0 1 = cc in absurd (omega arith))
      (λ (g : length cs ≤ n). g)
      (cases_lt n (length cs))

  pub pushed_copy : (o : Option Clause) (used end : ℕ) (ls ms : List ℕ) (r : Result (Unit {0}) RefutationFault) → option_map listed o ≡ entry cs n → PushedClause o used end ls ms r → CopiedAs cs n used end ls ms r
  pushed_copy (Some c) used end ls ms (Ok u) e p = let q = some_entry (listed c) e in copied cs n used end ls ms (Ok u) (listed c) q.0 q.1 p
  pushed_copy (Some c) used end ls ms (Err f) e p =
      let q = some_entry (listed c) e in
      subst (λ t. CopiedAs cs n used end ls ms (Err t)) (sym p.0) (q.0, subst (λ xs. length ls < used + length xs) (sym q.1) p.1, p.2, p.3)
  pushed_copy None used end ls ms r e p = subst (λ t. CopiedAs cs n used end ls ms t) (sym p.0) (no_entry e, p.1, p.2)
