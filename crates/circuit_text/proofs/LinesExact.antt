-- Lines are read exactly where they stand in the text.
use Rattle.std.proofs.Common.{◌≡◌, ℕ, ◌+◌, ◌*◌, ◌^◌, ◌<◌, ◌≤◌, List, [], ◌∷◌, length, Some, None, Ok, Option, Result, refl, ap, ◌∙◌, subst, arith}
use Rattle.std.proofs.lemmas.Bool.Decides.{nat_tests}
use Rattle.refusal.specs.declared.faults.TextFault.{TextFault}
use Rattle.aiger.specs.declared.header.Header.{Header}
use Rattle.circuit_text.specs.declared.line.LineKind.{LineKind}
use Rattle.circuit_text.specs.declared.line.LineKind.TheVariants.{Input, Latch, Output, Gate}
use Rattle.circuit_text.specs.declared.line.Line.{Line}
use Rattle.circuit_text.specs.declared.line.Line.TheVariants.{Input as InputLine, Latch as LatchLine, Output as OutputLine, Gate as GateLine}
use Rattle.circuit_text.specs.Chains.{carried}
use Rattle.circuit_text.specs.Fields.{end_of_line, number_at, spaced_at}
use Rattle.circuit_text.specs.Lines.{form_at, questioned, asked, line_at}
use Rattle.circuit_text.specs.Sections.{width}
use Rattle.circuit_text.specs.Printed.{line, Entry, line_of, InRange, numbers}
use Rattle.circuit_text.proofs.Chains.{came, carried_came}
use Rattle.circuit_text.proofs.Places.{Here}
use Rattle.circuit_text.proofs.FieldsExact.{first_in, spaced_in, end_in, first_out, spaced_out, end_out}

-- a line of a kind with its numbers, and its bytes
abbrev kind_of : Line → LineKind
kind_of (InputLine n) = Input
kind_of (LatchLine n x) = Latch
kind_of (OutputLine n) = Output
kind_of (GateLine g a b) = Gate

abbrev written : Line → List ℕ
written (InputLine n) = line n []
written (LatchLine n x) = line n (x ∷ [])
written (OutputLine n) = line n []
written (GateLine g a b) = line g (a ∷ b ∷ [])

abbrev Short : Line → Type 0
Short (InputLine n) = n < 10000000
Short (LatchLine n x) = (n < 10000000) × (x < 10000000)
Short (OutputLine n) = n < 10000000
Short (GateLine g a b) = (g < 10000000) × (a < 10000000) × (b < 10000000)

form_in : (text : List ℕ) (at : ℕ) (l : Line) (end : ℕ) → Short l → Here text at (written l) end → form_at (kind_of l) text at ≡ Some (l, end)
form_in text at (InputLine n) end small h =
    let f = first_in text at n [] end small h in
    let e = end_in text f.0 end f.2 in
    simp (f.1, e)
form_in text at (LatchLine n x) end small h =
    let f = first_in text at n (x ∷ []) end small.0 h in
    let s = spaced_in text f.0 x [] end small.1 f.2 in
    let e = end_in text s.0 end s.2 in
    simp (f.1, s.1, e)
form_in text at (OutputLine n) end small h =
    let f = first_in text at n [] end small h in
    let e = end_in text f.0 end f.2 in
    simp (f.1, e)
form_in text at (GateLine g a b) end small h =
    let f = first_in text at g (a ∷ b ∷ []) end small.0 h in
    let s = spaced_in text f.0 a (b ∷ []) end small.1 f.2 in
    let t = spaced_in text s.0 b [] end small.2 s.2 in
    let e = end_in text t.0 end t.2 in
    simp (f.1, s.1, t.1, e)

abbrev Formed : LineKind → List ℕ → ℕ → Line → ℕ → Type 0
Formed kind text at l end = (kind_of l ≡ kind) × Here text at (written l) end

-- the pair that a form gave
given : (kind : LineKind) (text : List ℕ) (at : ℕ) (p q : Line × ℕ) → Formed kind text at p.0 p.1 → Some p ≡ Some q → Formed kind text at q.0 q.1
given kind text at p q f e = subst (λ (r : Line × ℕ). Formed kind text at r.0 r.1) (let same : p ≡ q = cc in same) f

form_out : (kind : LineKind) (text : List ℕ) (at : ℕ) (l : Line) (end : ℕ) → form_at kind text at ≡ Some (l, end) → Formed kind text at l end
form_out Input text at l end e =
    let n = came (number_at text at) _ (l, end) e in
    let z = came (end_of_line text n.0.1) _ (l, end) n.2 in
    given Input text at (InputLine n.0.0, z.0) (l, end) (refl, first_out text at n.0.0 n.0.1 [] z.0 n.1 (end_out text n.0.1 z.0 z.1)) z.2
form_out Latch text at l end e =
    let n = came (number_at text at) _ (l, end) e in
    let x = came (spaced_at text n.0.1) _ (l, end) n.2 in
    let z = came (end_of_line text x.0.1) _ (l, end) x.2 in
    let tail = spaced_out text n.0.1 x.0.0 x.0.1 [] z.0 x.1 (end_out text x.0.1 z.0 z.1) in
    given Latch text at (LatchLine n.0.0 x.0.0, z.0) (l, end) (refl, first_out text at n.0.0 n.0.1 (x.0.0 ∷ []) z.0 n.1 tail) z.2
form_out Output text at l end e =
    let n = came (number_at text at) _ (l, end) e in
    let z = came (end_of_line text n.0.1) _ (l, end) n.2 in
    given Output text at (OutputLine n.0.0, z.0) (l, end) (refl, first_out text at n.0.0 n.0.1 [] z.0 n.1 (end_out text n.0.1 z.0 z.1)) z.2
form_out Gate text at l end e =
    let g = came (number_at text at) _ (l, end) e in
    let a = came (spaced_at text g.0.1) _ (l, end) g.2 in
    let b = came (spaced_at text a.0.1) _ (l, end) a.2 in
    let z = came (end_of_line text b.0.1) _ (l, end) b.2 in
    let last = spaced_out text a.0.1 b.0.0 b.0.1 [] z.0 b.1 (end_out text b.0.1 z.0 z.1) in
    let tail = spaced_out text g.0.1 a.0.0 a.0.1 (b.0.0 ∷ []) z.0 a.1 last in
    given Gate text at (GateLine g.0.0 a.0.0 b.0.0, z.0) (l, end) (refl, first_out text at g.0.0 g.0.1 (a.0.0 ∷ b.0.0 ∷ []) z.0 g.1 tail) z.2

-- the questions were answered yes
asked_out : (h : Header) (i : ℕ) (o : Option (Line × ℕ)) (k : List ℕ) (end : ℕ) → asked h i o ≡ Ok (k, end)
    → (l : Line) × (o ≡ Some (l, end)) × (questioned h i l ≡ Ok k)
asked_out h i None k end e = absurd (let z : ◌≡◌ {A = ℕ} 0 1 = cc in omega arith)
asked_out h i (Some p) k end e =
    let q = carried_came (questioned h i p.0) (λ kept. Ok (kept, p.1)) (k, end) e in
    let both : ◌≡◌ {A = List ℕ × ℕ} (q.0, p.1) (k, end) = cc q.2 in
    (p.0, ap (λ (r : List ℕ × ℕ). Some (p.0, r.1)) both, q.1 ∙ ap (λ (r : List ℕ × ℕ). Ok r.0) both)

-- the entry of a line that was answered yes
abbrev Told : Header → (kind : LineKind) → ℕ → Line → List ℕ → Type 0
Told h kind i l k = (x : Entry kind) × InRange h kind i x × (written l ≡ line_of h kind i x) × (k ≡ numbers kind x)

questioned_out : (h : Header) (i : ℕ) (l : Line) (k : List ℕ) → questioned h i l ≡ Ok k → Told h (kind_of l) i l k
questioned_out h i (InputLine n) k e =
    let own : n ≡ 2 * (1 + i) = grind (arith, nat_tests) in
    let kept : k ≡ [] = grind (arith, nat_tests) in
    (tt, tt, ap (λ (m : ℕ). line m []) own, kept)
questioned_out h i (LatchLine n x) k e =
    let own : n ≡ 2 * (1 + h.inputs + i) = grind (arith, nat_tests) in
    let low : x ≤ 2 * h.maximum + 1 = grind (arith, nat_tests) in
    let kept : k ≡ x ∷ [] = grind (arith, nat_tests) in
    (x, low, ap (λ (m : ℕ). line m (x ∷ [])) own, kept)
questioned_out h i (OutputLine x) k e =
    let low : x ≤ 2 * h.maximum + 1 = grind (arith, nat_tests) in
    let kept : k ≡ x ∷ [] = grind (arith, nat_tests) in
    (x, low, refl, kept)
questioned_out h i (GateLine g a b) k e =
    let own : g ≡ 2 * (1 + h.inputs + h.latches + i) = grind (arith, nat_tests) in
    let below : a < g = grind (arith, nat_tests) in
    let order : b ≤ a = grind (arith, nat_tests) in
    let kept : k ≡ a ∷ b ∷ [] = grind (arith, nat_tests) in
    ((a, b), (omega arith, order), ap (λ (m : ℕ). line m (a ∷ b ∷ [])) own, kept)

-- a line that is read stands in the text
pub line_out : (h : Header) (kind : LineKind) (i : ℕ) (text : List ℕ) (at : ℕ) (k : List ℕ) (end : ℕ) → line_at h kind i text at ≡ Ok (k, end)
    → (x : Entry kind) × InRange h kind i x × Here text at (line_of h kind i x) end × (k ≡ numbers kind x)
unfolding line_at
line_out h kind i text at k end e =
    let a = asked_out h i (form_at kind text at) k end e in
    let f = form_out kind text at a.0 end a.1 in
    let q : Told h kind i a.0 k = subst (λ (d : LineKind). Told h d i a.0 k) f.0 (questioned_out h i a.0 k a.2) in
    (q.0, q.1, subst (λ (bs : List ℕ). Here text at bs end) q.2 f.1, q.3)

numbers_width : (kind : LineKind) (x : Entry kind) → length (numbers kind x) ≡ width kind
numbers_width Input x = refl
numbers_width Latch x = refl
numbers_width Output x = refl
numbers_width Gate x = refl

-- a line of a kind keeps as many numbers as it should
pub kept_width : (h : Header) (kind : LineKind) (i : ℕ) (text : List ℕ) (at : ℕ) (k : List ℕ) (end : ℕ) → line_at h kind i text at ≡ Ok (k, end) → length k ≡ width kind
kept_width h kind i text at k end e =
    let o = line_out h kind i text at k end e in
    ap length o.3 ∙ numbers_width kind o.0

-- a line that stands in the text is read
module _ (h : Header) (i : ℕ) (text : List ℕ) (at end : ℕ) (low : h.maximum ≤ 16383) (few : h.inputs + h.latches + i < 2 ^ 20) where
  answered : (l : Line) (k : List ℕ) → Short l → Here text at (written l) end → questioned h i l ≡ Ok k → line_at h (kind_of l) i text at ≡ Ok (k, end)
  unfolding line_at
  answered l k short here granted =
      ap (asked h i) (form_in text at l end short here) ∙ ap (λ (r : Result (List ℕ) TextFault). carried r (λ kept. Ok (kept, end))) granted

  pub line_in : (kind : LineKind) (x : Entry kind) → InRange h kind i x → Here text at (line_of h kind i x) end
      → (k : List ℕ) × (line_at h kind i text at ≡ Ok (k, end)) × (k ≡ numbers kind x)
  line_in Input x range here =
      ([], answered (InputLine (2 * (1 + i))) [] (omega arith) here (grind (arith, nat_tests)), refl)
  line_in Latch x range here =
      (x ∷ [], answered (LatchLine (2 * (1 + h.inputs + i)) x) (x ∷ []) (omega arith, omega arith) here (grind (arith, nat_tests)), refl)
  line_in Output x range here =
      (x ∷ [], answered (OutputLine x) (x ∷ []) (omega arith) here (grind (arith, nat_tests)), refl)
  line_in Gate x range here = (
    x.0 ∷ x.1 ∷ [],
    answered (GateLine (2 * (1 + h.inputs + h.latches + i)) x.0 x.1) (x.0 ∷ x.1 ∷ []) (omega arith, omega arith, omega arith) here
        (grind (arith, nat_tests)),
    refl,
  )
