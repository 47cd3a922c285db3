-- Bytes that were written one for each number.
use Rattle.std.proofs.Common.{◌≡◌, ℕ, ◌+◌, ◌<◌, ◌≢◌, Bool, true, false, eqb, List, map, length, get_or, replicate, set, sym, refl, ap, ◌∙◌, ⊎_elim, arith, below_more}
use mir.Val.{bool_byte}
use Rattle.std.specs.List.{range_with_len}
use Rattle.std.proofs.lemmas.List.FromFn.{length-map-range_with_len, get_or-map-range_with_len}
use Rattle.std.proofs.lemmas.List.{ext_get_or, get_or-set_same, get_or-set_other, length-replicate, get_or-replicate}
use Rattle.std.proofs.lemmas.Bool.{cases_eq, eq-eqb, ne_eqb}
use Rattle.machine.specs.Rows.{byte}

byte_from : (b : Bool) → bool_byte b ≡ byte b
byte_from true = refl
byte_from false = refl

-- each byte up to the length is that of its number
pub all_written : (f : ℕ → Bool) (xs : List ℕ) (n : ℕ) → length xs ≡ n → ((k : ℕ) → k < n → get_or xs k 0 ≡ byte (f k)) → xs ≡ map (λ k. byte (f k)) (range_with_len 0 n)
all_written f xs n size each =
    ext_get_or 0 xs (map (λ k. byte (f k)) (range_with_len 0 n)) (size ∙ sym (length-map-range_with_len (λ k. byte (f k)) 0 n))
    (λ k l. let k< : k < n = omega (arith, l) in each k k< ∙ sym (get_or-map-range_with_len (λ k. byte (f k)) 0 n k k 0 k< (omega arith)))

-- one byte more
pub written_more : (f : ℕ → Bool) (xs : List ℕ) (k v : ℕ) (b : Bool) → k < length xs → v ≡ bool_byte b → b ≡ f k →
    ((j : ℕ) → j < k → get_or xs j 0 ≡ byte (f j)) → (j : ℕ) → j < k + 1 → get_or (set xs k v) j 0 ≡ byte (f j)
written_more f xs k v b inside is_v is_b so_far =
    below_more _ _
    (λ j low. let ne : j ≢ k = omega arith in get_or-set_other xs k j v 0 ne ∙ so_far j low)
    (get_or-set_same xs k v 0 inside ∙ is_v ∙ byte_from b ∙ ap byte is_b)

-- where one byte of many is 1
pub one_written : (n marked : ℕ) (k : ℕ) → marked < n → k < n → get_or (set (replicate n 0) marked 1) k 0 ≡ byte (eqb k marked)
one_written n marked k inside low =
    ⊎_elim
    (λ (here : k ≡ marked). ap (λ (j : ℕ). get_or (set (replicate n 0) marked 1) j 0) here ∙ get_or-set_same (replicate n 0) marked 1 0 (omega (arith, length-replicate {A = ℕ} n 0)) ∙ sym (ap byte (eq-eqb k marked here)))
    (λ (other : k ≢ marked). get_or-set_other (replicate n 0) marked k 1 0 other ∙ get_or-replicate n k 0 0 low ∙ sym (ap byte (ne_eqb k marked other)))
    (cases_eq k marked)
