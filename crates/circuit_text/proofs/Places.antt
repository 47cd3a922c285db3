-- Bytes that stand in a text from one place to another.
use Rattle.std.proofs.Common.{◌≡◌, ℕ, ◌+◌, List, [], ◌++◌, length, drop, sym, refl, ap, ◌∙◌, add-zero, arith}
use Rattle.std.proofs.lemmas.List.{append_assoc, length-append, drop-drop, drop_at}

-- `bytes` stand in the text from `at` to `end`
pub record Here (text : List ℕ) (at : ℕ) (bytes : List ℕ) (end : ℕ) : Type 0 where
  pub bytes_here : drop at text ≡ bytes ++ drop end text
  pub size : end ≡ at + length bytes

pub here_none : (text : List ℕ) (at : ℕ) → Here text at [] at
here_none text at = record { bytes_here = refl; size = sym (add-zero at) }

-- from what is left of the text
pub here_from : (text : List ℕ) (at : ℕ) (bytes rest : List ℕ) → drop at text ≡ bytes ++ rest → Here text at bytes (at + length bytes)
here_from text at bytes rest e =
    let r : drop (at + length bytes) text ≡ rest = sym (drop-drop (length bytes) at text) ∙ (ap (drop (length bytes)) e ∙ drop_at bytes rest (length bytes) refl) in
    record { bytes_here = e ∙ ap (λ (l : List ℕ). bytes ++ l) (sym r); size = refl }

pub here_join : (text : List ℕ) (at : ℕ) (xs : List ℕ) (mid : ℕ) (ys : List ℕ) (end : ℕ) → Here text at xs mid → Here text mid ys end → Here text at (xs ++ ys) end
here_join text at xs mid ys end a b = record {
  bytes_here = a.bytes_here ∙ (ap (λ (l : List ℕ). xs ++ l) b.bytes_here ∙ sym (append_assoc xs ys (drop end text)));
  size = omega (arith, a.size, b.size, length-append xs ys);
}

pub here_split : (text : List ℕ) (at : ℕ) (xs ys : List ℕ) (end : ℕ) → Here text at (xs ++ ys) end
    → (mid : ℕ) × Here text at xs mid × Here text mid ys end
here_split text at xs ys end h =
    let e : drop at text ≡ xs ++ (ys ++ drop end text) = h.bytes_here ∙ append_assoc xs ys (drop end text) in
    let r : drop (at + length xs) text ≡ ys ++ drop end text =
    sym (drop-drop (length xs) at text) ∙ (ap (drop (length xs)) e ∙ drop_at xs (ys ++ drop end text) (length xs) refl) in (
      at + length xs,
      here_from text at xs (ys ++ drop end text) e,
      record { bytes_here = r; size = omega (arith, h.size, length-append xs ys) },
    )
