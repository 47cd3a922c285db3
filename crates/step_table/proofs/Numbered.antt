-- Literals and clauses of a step table by their numbers.
use Rattle.std.proofs.Common.{◌≡◌, ℕ, ◌+◌, ◌-◌, ◌*◌, ◌/◌, ◌%◌, ◌<◌, ◌≤◌, [], ◌∷◌, map, get_or, Some, None, Option, is_some, IfSome, ltb, sym, ap, ◌∙◌, le_refl, arith}
use Rattle.std.proofs.lemmas.Bool.{ltb-true, ltb-false}
use Rattle.std.specs.List.{range_with_len}
use Rattle.std.proofs.lemmas.Nat.{div-add-mod', mod_below, mul-le}
use Rattle.std.proofs.lemmas.List.FromFn.{length-map-range_with_len, get_or-map-range_with_len}
use Rattle.machine.specs.Lists.{entry}
use Rattle.machine.proofs.Entries.{entry_at, entry_past}
use Rattle.table_format.specs.Tables.{Table, rows}
use Rattle.table_format.specs.Stepping.{row_clauses, clauses_per_row, meant}
use Rattle.table_format.proofs.RowClauses.{clauses_count, clause_at, clause_within}

-- an entry of a list that is made number by number
made_at : (f : ℕ → ℕ) (n i : ℕ) → i < n → entry (map f (range_with_len 0 n)) i ≡ Some (f i)
made_at f n i l = entry_at (map f (range_with_len 0 n)) i 0 (omega (arith, length-map-range_with_len f 0 n)) ∙ ap Some (get_or-map-range_with_len f 0 n i i 0 l (omega arith))

made_past : (f : ℕ → ℕ) (n i : ℕ) → n ≤ i → entry (map f (range_with_len 0 n)) i ≡ None
made_past f n i l = entry_past (map f (range_with_len 0 n)) i (omega (arith, length-map-range_with_len f 0 n))

-- an answer that is there below n, and is then what is made for its number
pub made_if : {P : ℕ → Type 0} (f : ℕ → ℕ) (n i : ℕ) (o : Option ℕ) → is_some o ≡ ltb i n → IfSome o P → ((x : ℕ) → P x → x ≡ f i) → o ≡ entry (map f (range_with_len 0 n)) i
made_if f n i None test is made = sym (made_past f n i (ltb-false i n (sym test)))
made_if f n i (Some x) test is made = ap Some (made x is) ∙ sym (made_at f n i (ltb-true i n (sym test)))

module _ (t : Table) (c : ℕ) where
  -- clause 0 says that variable 0 is false
  pub clause_first : c ≡ 0 → entry (meant t).clauses c ≡ Some (1 ∷ [])
  clause_first e = ap (entry (meant t).clauses) e ∙ entry_at (meant t).clauses 0 [] (omega arith)

  -- any other is a clause of a row
  module _ (per : ℕ) (all : per ≡ clauses_per_row t) (later : c ≡ 0 → ⊥) where
    pub clause_past : rows t ≤ (c - 1) / per → entry (meant t).clauses c ≡ None
    clause_past past =
        let size = ap (λ (n : ℕ). rows t * n) all in
        entry_past (meant t).clauses c (omega (arith, clauses_count t, size, mul-le (rows t) per ((c - 1) / per) per past (le_refl per), div-add-mod' (c - 1) per))

    clause_row : (c - 1) / per < rows t → entry (meant t).clauses c ≡ Some (get_or (row_clauses t ((c - 1) / per)) ((c - 1) % per) [])
    clause_row low =
        let r : ℕ = (c - 1) / per in
        let p : ℕ = (c - 1) % per in
        let some : 0 < per = omega arith in
        let p< : p < clauses_per_row t = omega (arith, mod_below (c - 1) per some) in
        let size = ap (λ (n : ℕ). r * n) all in
        let e : c ≡ 1 + r * clauses_per_row t + p = omega (arith, size, div-add-mod' (c - 1) per) in
        ap (entry (meant t).clauses) e ∙ entry_at (meant t).clauses (1 + r * clauses_per_row t + p) [] (clause_within t r p low p<) ∙ ap Some (clause_at t r p low p<)

    -- the same, said of a row that is found
    pub clause_found : (t' : Table) (r : ℕ) → t' ≡ t → r ≡ (c - 1) / per → r < rows t' → entry (meant t).clauses c ≡ Some (get_or (row_clauses t' r) ((c - 1) % per) [])
    clause_found t' r same_table same_row within =
        let low : (c - 1) / per < rows t = omega (arith, ap rows same_table) in
        clause_row low ∙ ap Some (sym (both same_table same_row))
      where
        both : {a a' : Table} {i i' : ℕ} → a ≡ a' → i ≡ i' → get_or (row_clauses a i) ((c - 1) % per) [] ≡ get_or (row_clauses a' i') ((c - 1) % per) []
        both e d = cc
