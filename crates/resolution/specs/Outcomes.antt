-- What each step of a refutation gives, by the clauses that it has so far.
use Rattle.std.specs.Prelude.{ℕ, ◌+◌, ◌-◌, Bool, cond, ◌&&◌, List, [], ◌∷◌, ◌++◌, length, Ok, Err, Result, ◌==◌, nat_le, nat_lt}
use Rattle.refusal.specs.declared.faults.RefutationFault.{RefutationFault}
use Rattle.refusal.specs.declared.faults.RefutationFault.TheVariants.{NoClause, NoPivot, Full}
use Rattle.resolution.specs.Clauses.{denial}
use Rattle.resolution.specs.Lists.{numbered_clause}
use Rattle.resolution.specs.Resolvents.{resolvent, contains}

-- areas of so many literals and spans are admitted
unfoldable pub admitted : ℕ → ℕ → Bool
admitted literals spans = nat_le literals 1048576 && nat_le spans 65536

-- the new clause c, if its span and its literals fit: `used` literals and `made` spans are in use
unfoldable pub fits : List ℕ → ℕ → ℕ → ℕ → ℕ → Result (List ℕ) RefutationFault
fits c used literals made spans = cond ((admitted literals spans && nat_lt made spans) && nat_le (used + length c) literals) (Ok c) (Err Full)

-- taking clause n of a list
unfoldable pub takes : List (List ℕ) → ℕ → ℕ → ℕ → ℕ → ℕ → Result (List ℕ) RefutationFault
takes list n used literals made spans = cond (nat_lt n (length list)) (fits (numbered_clause list n) used literals made spans) (Err NoClause)

-- resolving two of the own clauses on a pivot
unfoldable pub resolves : List (List ℕ) → ℕ → ℕ → ℕ → ℕ → ℕ → ℕ → ℕ → Result (List ℕ) RefutationFault
resolves own left right pivot used literals made spans =
    cond (nat_lt left (length own) && nat_lt right (length own))
    (cond (contains pivot (numbered_clause own left) && contains (denial pivot) (numbered_clause own right))
    (fits (resolvent (numbered_clause own left) (numbered_clause own right) pivot) used literals made spans)
    (Err NoPivot))
    (Err NoClause)

-- the answer: the new clause's number, or the refusal
abbrev pub numbered : List (List ℕ) → Result (List ℕ) RefutationFault → Result ℕ RefutationFault
numbered own (Ok c) = Ok (length own)
numbered own (Err e) = Err e

-- the own clauses after it
abbrev pub added : List (List ℕ) → Result (List ℕ) RefutationFault → List (List ℕ)
added own (Ok c) = own ++ c ∷ []
added own (Err e) = own

-- there is a clause, and the latest is empty
unfoldable pub ends : List (List ℕ) → Bool
ends own = nat_lt 0 (length own) && length (numbered_clause own (length own - 1)) == 0

-- one thing where a call is granted, another where it is refused
abbrev pub granted : {A E X : Type 0} → Result A E → X → X → X
granted (Ok a) x y = x
granted (Err e) x y = y
