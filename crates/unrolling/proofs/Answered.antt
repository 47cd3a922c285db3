-- What a machine answers about an entry of one of its lists.
use Rattle.std.proofs.Common.{◌≡◌, ℕ, ◌<◌, ◌≤◌, true, List, length, get_or, is_some, Some, None, Option, unwrap_or, sym, refl, ap, ◌∙◌, ⊎_elim, arith}
use Rattle.std.specs.Option.{option_map}
use Rattle.std.proofs.lemmas.List.{get_or_past}
use Rattle.std.proofs.lemmas.Bool.{cases_lt}
use Rattle.machine.specs.Lists.{entry}
use Rattle.machine.proofs.Entries.{entry_at, entry_past}

pub some_same : {A : Type 0} {x y : A} → ◌≡◌ {A = Option A} (Some x) (Some y) → x ≡ y
some_same e = cc

-- below the length there is an entry
pub there : {A : Type 0} (xs : List A) (i : ℕ) (d : A) (r : Option A) → i < length xs → r ≡ entry xs i → is_some r ≡ true
there xs i d r l e = ap is_some (e ∙ entry_at xs i d l)

-- and it is what stands there
pub got : {A : Type 0} (xs : List A) (i : ℕ) (d : A) (r : Option A) (x : A) → i < length xs → r ≡ entry xs i → r ≡ Some x → x ≡ get_or xs i d
got xs i d r x l e f = some_same (sym f ∙ e ∙ entry_at xs i d l)

-- the same where the answer stands for an entry
some_mapped : {A B : Type 0} (f : B → A) (r : Option B) (x : A) → option_map f r ≡ Some x → is_some r ≡ true
some_mapped f (Some b) x e = refl
some_mapped f None x e = let no : ◌≡◌ {A = ℕ} 0 1 = cc in absurd (omega arith)

pub there_as : {A B : Type 0} (f : B → A) (xs : List A) (i : ℕ) (d : A) (r : Option B) → i < length xs → option_map f r ≡ entry xs i → is_some r ≡ true
there_as f xs i d r l e = some_mapped f r (get_or xs i d) (e ∙ entry_at xs i d l)

pub got_as : {A B : Type 0} (f : B → A) (xs : List A) (i : ℕ) (d : A) (r : Option B) (b : B) → i < length xs → option_map f r ≡ entry xs i → r ≡ Some b → f b ≡ get_or xs i d
got_as f xs i d r b l e g = some_same (sym (ap (option_map f) g) ∙ e ∙ entry_at xs i d l)

-- the entry, or what stands for one that is absent
pub got_or : {A : Type 0} (xs : List A) (i : ℕ) (d x : A) (r : Option A) → r ≡ entry xs i → x ≡ unwrap_or r d → x ≡ get_or xs i d
got_or xs i d x r e v =
    v ∙ ap (λ o. unwrap_or o d) e ∙ ⊎_elim
    (λ (l : i < length xs). ap (λ o. unwrap_or o d) (entry_at xs i d l))
    (λ (g : length xs ≤ i). ap (λ o. unwrap_or o d) (entry_past xs i g) ∙ sym (get_or_past xs i d g))
    (cases_lt i (length xs))
