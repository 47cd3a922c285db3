-- Sections are read exactly where they stand in the text.
use Rattle.std.proofs.Common.{◌≡◌, ℕ, zero, suc, ◌+◌, ◌^◌, ◌<◌, ◌≤◌, List, [], ◌∷◌, ◌++◌, length, Ok, Err, Result, sym, refl, ap, ◌∙◌, subst, arith}
use Rattle.std.proofs.lemmas.List.{append_assoc, append-nil}
use Rattle.std.specs.List.{flat_map}
use Rattle.refusal.specs.declared.faults.TextFault.{TextFault}
use Rattle.aiger.specs.declared.header.Header.{Header}
use Rattle.circuit_text.specs.declared.line.LineKind.{LineKind}
use Rattle.circuit_text.specs.Lines.{line_at}
use Rattle.circuit_text.specs.Sections.{Read, lines_on}
use Rattle.circuit_text.specs.Printed.{Entry, line_of, numbers, lines, AllInRange}
use Rattle.circuit_text.proofs.Places.{Here, here_none, here_join, here_split}
use Rattle.circuit_text.proofs.LinesExact.{line_in, line_out}
use Rattle.circuit_text.proofs.Sections.{after, lines_step}

module _ (h : Header) (kind : LineKind) (text : List ℕ) where
  pub lines_in : (xs : List (Entry kind)) (i at end : ℕ) (got : List ℕ) → h.maximum ≤ 16383 → h.inputs + h.latches + i + length xs < 2 ^ 20
      → AllInRange h kind i xs → Here text at (lines h kind i xs) end → lines_on h kind text (length xs) i (got, at) ≡ Ok (got ++ flat_map (numbers kind) xs, end)
  unfolding lines AllInRange lines_on
  lines_in [] i at end got low few range here =
      let same : at ≡ end = omega (arith, here.size) in
      ap (λ (m : ℕ). Ok (got, m)) same ∙ ap (λ (l : List ℕ). Ok (l, end)) (sym (append-nil got))
  lines_in (x ∷ xs) i at end got low few range here =
      let s = here_split text at (line_of h kind i x) (lines h kind (i + 1) xs) end here in
      let l = line_in h i text at s.0 low (omega arith) kind x range.0 s.1 in
      let next = lines_in xs (i + 1) s.0 end (got ++ l.0) low (omega arith) range.1 s.2 in
      lines_step h kind text (suc (length xs)) (length xs) i (got, at) (Ok (l.0, s.0)) refl l.1
      ∙ (next ∙ ap (λ (ns : List ℕ). Ok (ns, end)) (append_assoc got l.0 (flat_map (numbers kind) xs) ∙ ap (λ (ns : List ℕ). got ++ (ns ++ flat_map (numbers kind) xs)) l.2))

  -- what came before lines that were read
  after_came : (n i : ℕ) (r : Read) (o : Result (List ℕ × ℕ) TextFault) (y : Read) → after h kind text n i r o ≡ Ok y
      → (l : List ℕ × ℕ) × (o ≡ Ok l) × (lines_on h kind text n (i + 1) (r.0 ++ l.0, l.1) ≡ Ok y)
  after_came n i r (Ok l) y e = (l, refl, e)
  after_came n i r (Err f) y e = absurd (let z : ◌≡◌ {A = ℕ} 0 1 = cc in omega arith)

  abbrev pub Section : ℕ → ℕ → ℕ → ℕ → List ℕ → List ℕ → Type 0
  Section n i at end got ns =
      (xs : List (Entry kind)) × (length xs ≡ n) × AllInRange h kind i xs × Here text at (lines h kind i xs) end × (ns ≡ got ++ flat_map (numbers kind) xs)

  pub lines_out : (n i at end : ℕ) (got ns : List ℕ) → lines_on h kind text n i (got, at) ≡ Ok (ns, end) → Section n i at end got ns
  unfolding lines AllInRange lines_on
  lines_out zero i at end got ns e =
      let both : ◌≡◌ {A = Read} (got, at) (ns, end) = cc in
      ([], refl, tt, subst (λ (m : ℕ). Here text at [] m) (ap (λ (r : Read). r.1) both) (here_none text at), sym (ap (λ (r : Read). r.0) both) ∙ sym (append-nil got))
  lines_out (suc n) i at end got ns e =
      let a = after_came n i (got, at) (line_at h kind i text at) (ns, end) e in
      let k = a.0.0 in
      let mid = a.0.1 in
      let l = line_out h kind i text at k mid a.1 in
      let s = lines_out n (i + 1) mid end (got ++ k) ns a.2 in (
        l.0 ∷ s.0,
        ap suc s.1,
        (l.1, s.2),
        here_join text at (line_of h kind i l.0) mid (lines h kind (i + 1) s.0) end l.2 s.3,
        s.4 ∙ (append_assoc got k (flat_map (numbers kind) s.0) ∙ ap (λ (l : List ℕ). got ++ (l ++ flat_map (numbers kind) s.0)) l.3),
      )
