-- Bits of the start.
use Rattle.std.proofs.Common.{◌≡◌, ℕ, ◌<◌, ◌≤◌, Bool, false, List, length, get_or, Option, unwrap_or, sym, ap, ◌∙◌, ⊎_elim}
use Rattle.std.proofs.lemmas.List.{get_or_past}
use Rattle.std.proofs.lemmas.Bool.{cases_lt}
use Rattle.machine.specs.Lists.{entry}
use Rattle.machine.proofs.Entries.{entry_at, entry_past}

entry_or : (bits : List Bool) (i : ℕ) → unwrap_or (entry bits i) false ≡ get_or bits i false
entry_or bits i =
    ⊎_elim
    (λ (h : i < length bits). ap (λ o. unwrap_or o false) (entry_at bits i false h))
    (λ (h : length bits ≤ i). ap (λ o. unwrap_or o false) (entry_past bits i h) ∙ sym (get_or_past bits i false h))
    (cases_lt i (length bits))

-- the bit that was asked for, false where there is none
pub bit_at : (bits : List Bool) (i j : ℕ) (o : Option Bool) (b : Bool) → j ≡ i → o ≡ entry bits j → b ≡ unwrap_or o false → b ≡ get_or bits i false
bit_at bits i j o b e p q = q ∙ ap (λ (x : Option Bool). unwrap_or x false) (p ∙ ap (entry bits) e) ∙ entry_or bits i
