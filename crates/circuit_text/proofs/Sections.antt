-- The lines of a section, one at a time.
use Rattle.std.proofs.Common.{◌≡◌, ℕ, suc, ◌+◌, ◌-◌, ◌*◌, ◌<◌, ◌≤◌, List, [], ◌++◌, take, drop, IfOk, Ok, Err, Result, sym, ap, ◌∙◌, arith, MatchResult}
use Rattle.std.proofs.lemmas.List.{drop-drop}
use Rattle.refusal.specs.declared.faults.TextFault.{TextFault}
use Rattle.refusal.specs.declared.faults.TextRefusal.{TextRefusal}
use Rattle.aiger.specs.declared.header.Header.{Header}
use Rattle.aiger.specs.Numbers.{Admitted, needed}
use Rattle.circuit_text.specs.declared.line.LineKind.{LineKind}
use Rattle.circuit_text.specs.declared.line.LineKind.TheVariants.{Input, Latch, Output, Gate}
use Rattle.circuit_text.specs.Lines.{line_at}
use Rattle.circuit_text.specs.Sections.{width, lines_of, Read, lines_on, section_on, sections_read, Stores}
use Rattle.circuit_text.specs.Chains.{carried}
use Rattle.circuit_text.specs.declared.section.Place.{Place}

abbrev pub after : Header → LineKind → List ℕ → ℕ → ℕ → Read → Result (List ℕ × ℕ) TextFault → Result Read TextRefusal
after h kind text n i r o =
    elim o [
      | Ok l ↦ lines_on h kind text n (i + 1) (r.0 ++ l.0, l.1)
      | Err f ↦ Err record { fault = f; offset = r.1 }
    ]

pub lines_step : (h : Header) (kind : LineKind) (text : List ℕ) (m n i : ℕ) (r : Read) (o : Result (List ℕ × ℕ) TextFault)
    → m ≡ suc n → line_at h kind i text r.1 ≡ o → lines_on h kind text m i r ≡ after h kind text n i r o
unfolding lines_on
lines_step h kind text m n i r o e l = ap (λ (k : ℕ). lines_on h kind text k i r) e ∙ ap (after h kind text n i r) l

pub lines_end : (h : Header) (kind : LineKind) (text : List ℕ) (m i : ℕ) (r : Read) → m ≡ 0 → lines_on h kind text m i r ≡ Ok r
unfolding lines_on
lines_end h kind text m i r e = ap (λ (k : ℕ). lines_on h kind text k i r) e

-- an admitted circuit has few lines
pub lines_few : (h : Header) (size : ℕ) (kind : LineKind) → Admitted h size → (lines_of h kind ≤ 16383) × (h.inputs + h.latches ≤ 16383)
lines_few h size Input a = (omega arith, omega arith)
lines_few h size Latch a = (omega arith, omega arith)
lines_few h size Output a = (omega arith, omega arith)
lines_few h size Gate a = (omega arith, omega arith)

-- one line more
pub width_more : (kind : LineKind) (i n : ℕ) → i < n → (width kind * (i + 1) ≡ width kind * i + width kind) × (width kind * i + width kind ≤ width kind * n)
width_more Input i n l = (omega arith, omega arith)
width_more Latch i n l = (omega arith, omega arith)
width_more Output i n l = (omega arith, omega arith)
width_more Gate i n l = (omega arith, omega arith)

-- lists that agree from m on agree from n on
pub drop_further : (xs ys : List ℕ) (m n : ℕ) → m ≤ n → drop m xs ≡ drop m ys → drop n xs ≡ drop n ys
drop_further xs ys m n l e =
    let k : m + (n - m) ≡ n = omega arith in
    ap (λ (j : ℕ). drop j xs) (sym k) ∙ (sym (drop-drop (n - m) m xs) ∙ (ap (drop (n - m)) e ∙ (drop-drop (n - m) m ys ∙ ap (λ (j : ℕ). drop j ys) k)))

-- what a section answers and leaves, from a place on
abbrev Reads : Header → LineKind → List ℕ → List ℕ → List ℕ → Place → Result Place TextRefusal → Type 0
Reads h kind text old new from r =
    MatchResult r (λ p. Stores (section_on h kind text (take from.used old, from.offset)) old new p.offset p.used)
    (λ e. section_on h kind text (take from.used old, from.offset) ≡ Err e)

abbrev Uses : Header → LineKind → Place → Result Place TextRefusal → Type 0
Uses h kind from r = IfOk r (λ p. p.used ≡ from.used + width kind * lines_of h kind)

-- the sections one after another
pub sections_on : (h : Header) (text : List ℕ) (start : ℕ) (inputs latches outputs : Read)
    → section_on h Input text ([], start) ≡ Ok inputs → section_on h Latch text inputs ≡ Ok latches → section_on h Output text latches ≡ Ok outputs
    → sections_read h text start ≡ section_on h Gate text outputs
sections_on h text start inputs latches outputs i l o =
    ap (λ (r : Result Read TextRefusal). carried r (λ a. carried (section_on h Latch text a) (λ b. carried (section_on h Output text b) (section_on h Gate text)))) i
    ∙ (ap (λ (r : Result Read TextRefusal). carried r (λ b. carried (section_on h Output text b) (section_on h Gate text))) l
    ∙ ap (λ (r : Result Read TextRefusal). carried r (section_on h Gate text)) o)

module _ (h : Header) (text : List ℕ) (start : ℕ) (a0 a1 a2 a3 : List ℕ) (p1 p2 p3 : Place) where
  abbrev at_start : Place
  at_start = record { offset = start; used = 0 }

  pub four_read : Reads h Input text a0 a1 at_start (Ok p1) → Reads h Latch text a1 a2 p1 (Ok p2) → Reads h Output text a2 a3 p2 (Ok p3)
      → Uses h Input at_start (Ok p1) → Uses h Latch p1 (Ok p2) → Uses h Output p2 (Ok p3)
      → (a4 : List ℕ) (r : Result Place TextRefusal) → Reads h Gate text a3 a4 p3 r → Uses h Gate p3 r
      → MatchResult r (λ p. Stores (sections_read h text start) a0 a4 p.offset p.used) (λ e. sections_read h text start ≡ Err e)
      × IfOk r (λ p. p.used ≡ needed h)
  four_read i l o ui ul uo a4 (Ok p) g ug =
      let on = sections_on h text start (take p1.used a1, p1.offset) (take p2.used a2, p2.offset) (take p3.used a3, p3.offset) i.stored l.stored o.stored in
      let rest3 = g.rest ∙ drop_further a3 a2 p3.used p.used (omega arith) o.rest in
      let rest2 = rest3 ∙ drop_further a2 a1 p2.used p.used (omega arith) l.rest in (
        record {
          stored = on ∙ g.stored;
          rest = rest2 ∙ drop_further a1 a0 p1.used p.used (omega arith) i.rest;
        },
        omega arith,
      )
  four_read i l o ui ul uo a4 (Err e) g ug =
      (sections_on h text start (take p1.used a1, p1.offset) (take p2.used a2, p2.offset) (take p3.used a3, p3.offset) i.stored l.stored o.stored ∙ g, tt)
