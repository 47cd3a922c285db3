-- Entries that are read with a default.
use Rattle.std.proofs.Common.{◌≡◌, ℕ, ◌<◌, ◌≤◌, min, List, length, get_or, take, Some, None, Option, unwrap_or, sym, ◌∙◌, arith, MatchOption}
use Rattle.std.proofs.lemmas.List.{length-take, get_or-take, get_or_past, get_or_read}

-- an entry of the first n of an area
pub read_or : (n : ℕ) (xs : List ℕ) (k d : ℕ) (o : Option ℕ) → MatchOption o (min n (length xs) ≤ k) (λ x. (k < min n (length xs)) × (x ≡ get_or xs k x)) → unwrap_or o d ≡ get_or (take n xs) k d
read_or n xs k d (Some x) h = get_or_read xs k x (omega (arith, h.0)) h.1 d ∙ sym (get_or-take n xs k d (omega (arith, h.0)))
read_or n xs k d None h = let l : length (take n xs) ≤ k = simp length-take h in sym (get_or_past (take n xs) k d l)
