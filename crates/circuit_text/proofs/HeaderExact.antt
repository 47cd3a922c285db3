-- The first line is read exactly where it stands in the text.
use Rattle.std.proofs.Common.{◌≡◌, ℕ, ◌<◌, ◌≤◌, Bool, true, false, cond, List, [], ◌∷◌, length, get_or, drop, Some, None, Ok, Err, Option, Result, refl, ap, ◌∙◌, subst, arith}
use Rattle.std.proofs.lemmas.Bool.Decides.{nat_tests}
use Rattle.std.proofs.lemmas.Bool.{cond-true}
use Rattle.std.proofs.lemmas.List.{drop_more}
use Rattle.refusal.specs.declared.faults.TextFault.{TextFault}
use Rattle.refusal.specs.declared.faults.TextRefusal.{TextRefusal}
use Rattle.aiger.specs.declared.header.Header.{Header}
use Rattle.aiger.specs.Numbers.{admitted, Admitted}
use Rattle.circuit_text.specs.Fields.{end_of_line, spaced_at}
use Rattle.circuit_text.specs.Printed.{spaced, written_header}
use Rattle.circuit_text.specs.Texts.{marked, numbers_at, header_at, opened_header, opening_of}
use Rattle.circuit_text.proofs.Chains.{came}
use Rattle.circuit_text.proofs.Places.{Here, here_join, here_split}
use Rattle.circuit_text.proofs.FieldsExact.{spaced_in, end_in, spaced_out, end_out}

abbrev aag : List ℕ
aag = 97 ∷ 97 ∷ 103 ∷ []

abbrev five : Header → List ℕ
five h = h.maximum ∷ h.inputs ∷ h.latches ∷ h.outputs ∷ h.gates ∷ []

abbrev pub Short : Header → Type 0
Short h = (h.maximum < 10000000) × (h.inputs < 10000000) × (h.latches < 10000000) × (h.outputs < 10000000) × (h.gates < 10000000)

mark_in : (text : List ℕ) (end : ℕ) → Here text 0 aag end → marked text ≡ true
mark_in text end here =
    let long : 3 ≤ length text = omega (arith, ap length here.bytes_here) in
    let a : get_or text 0 0 ≡ 97 = ap (λ (l : List ℕ). get_or l 0 0) here.bytes_here in
    let b : get_or text 1 0 ≡ 97 = ap (λ (l : List ℕ). get_or l 1 0) here.bytes_here in
    let c : get_or text 2 0 ≡ 103 = ap (λ (l : List ℕ). get_or l 2 0) here.bytes_here in
    grind (arith, nat_tests)

mark_out : (text : List ℕ) → marked text ≡ true → Here text 0 aag 3
mark_out text e =
    let long : 3 ≤ length text = grind (arith, nat_tests) in
    let a : get_or text 0 0 ≡ 97 = grind (arith, nat_tests) in
    let b : get_or text 1 0 ≡ 97 = grind (arith, nat_tests) in
    let c : get_or text 2 0 ≡ 103 = grind (arith, nat_tests) in
    record {
      bytes_here =
          drop_more text 0 0 (omega arith) ∙ (ap (λ (l : List ℕ). get_or text 0 0 ∷ l) (drop_more text 1 0 (omega arith))
          ∙ (ap (λ (l : List ℕ). get_or text 0 0 ∷ get_or text 1 0 ∷ l) (drop_more text 2 0 (omega arith))
          ∙ (ap (λ (x : ℕ). x ∷ get_or text 1 0 ∷ get_or text 2 0 ∷ drop 3 text) a
          ∙ (ap (λ (x : ℕ). 97 ∷ x ∷ get_or text 2 0 ∷ drop 3 text) b
          ∙ ap (λ (x : ℕ). 97 ∷ 97 ∷ x ∷ drop 3 text) c))));
      size = refl;
    }

numbers_in : (text : List ℕ) (h : Header) (end : ℕ) → Short h → Here text 3 (spaced (five h)) end → numbers_at text ≡ Some (h, end)
numbers_in text h end short here =
    let m = spaced_in text 3 h.maximum (h.inputs ∷ h.latches ∷ h.outputs ∷ h.gates ∷ []) end short.0 here in
    let i = spaced_in text m.0 h.inputs (h.latches ∷ h.outputs ∷ h.gates ∷ []) end short.1 m.2 in
    let l = spaced_in text i.0 h.latches (h.outputs ∷ h.gates ∷ []) end short.2 i.2 in
    let o = spaced_in text l.0 h.outputs (h.gates ∷ []) end short.3 l.2 in
    let a = spaced_in text o.0 h.gates [] end short.4 o.2 in
    let e = end_in text a.0 end a.2 in
    simp (m.1, i.1, l.1, o.1, a.1, e)

pub header_in : (text : List ℕ) (h : Header) (end : ℕ) → Short h → Here text 0 (written_header h) end → header_at text ≡ Some (h, end)
header_in text h end short here =
    let s = here_split text 0 aag (spaced (five h)) end here in
    let three : s.0 ≡ 3 = omega (arith, s.1.size) in
    cond-true (marked text) (numbers_at text) None (mark_in text s.0 s.1)
    ∙ numbers_in text h end short (subst (λ (n : ℕ). Here text n (spaced (five h)) end) three s.2)

numbers_out : (text : List ℕ) (h : Header) (end : ℕ) → numbers_at text ≡ Some (h, end) → Here text 3 (spaced (five h)) end
numbers_out text h end e =
    let m = came (spaced_at text 3) _ (h, end) e in
    let i = came (spaced_at text m.0.1) _ (h, end) m.2 in
    let l = came (spaced_at text i.0.1) _ (h, end) i.2 in
    let o = came (spaced_at text l.0.1) _ (h, end) l.2 in
    let a = came (spaced_at text o.0.1) _ (h, end) o.2 in
    let z = came (end_of_line text a.0.1) _ (h, end) a.2 in
    let g : Header = record { maximum = m.0.0; inputs = i.0.0; latches = l.0.0; outputs = o.0.0; gates = a.0.0 } in
    let same : ◌≡◌ {A = Header × ℕ} (g, z.0) (h, end) = cc z.2 in
    let fourth = spaced_out text o.0.1 a.0.0 a.0.1 [] z.0 a.1 (end_out text a.0.1 z.0 z.1) in
    let third = spaced_out text l.0.1 o.0.0 o.0.1 (a.0.0 ∷ []) z.0 o.1 fourth in
    let second = spaced_out text i.0.1 l.0.0 l.0.1 (o.0.0 ∷ a.0.0 ∷ []) z.0 l.1 third in
    let first = spaced_out text m.0.1 i.0.0 i.0.1 (l.0.0 ∷ o.0.0 ∷ a.0.0 ∷ []) z.0 i.1 second in
    let all = spaced_out text 3 m.0.0 m.0.1 (i.0.0 ∷ l.0.0 ∷ o.0.0 ∷ a.0.0 ∷ []) z.0 m.1 first in
    subst (λ (p : Header × ℕ). Here text 3 (spaced (five p.0)) p.1) same all

chosen : {X : Type 0} (b : Bool) (o : Option X) (x : X) → cond b o None ≡ Some x → (b ≡ true) × (o ≡ Some x)
chosen true o x e = (refl, e)
chosen false o x e = absurd (let z : ◌≡◌ {A = ℕ} 0 1 = cc in omega arith)

pub header_out : (text : List ℕ) (h : Header) (end : ℕ) → header_at text ≡ Some (h, end) → Here text 0 (written_header h) end
header_out text h end e =
    let c = chosen (marked text) (numbers_at text) (h, end) e in
    here_join text 0 aag 3 (spaced (five h)) end (mark_out text c.0) (numbers_out text h end c.1)

-- the questions on the numbers
admitted_in : (h : Header) (size : ℕ) → Admitted h size → admitted h size ≡ Ok tt
admitted_in h size a = grind (arith, nat_tests)

admitted_out : (h : Header) (size : ℕ) → admitted h size ≡ Ok tt → Admitted h size
admitted_out h size e = (grind (arith, nat_tests), grind (arith, nat_tests), grind (arith, nat_tests), grind (arith, nat_tests), grind (arith, nat_tests))

abbrev granted : Header × ℕ → Result (Unit {0}) TextFault → Result (Header × ℕ) TextRefusal
granted p r = elim r [ Ok _ ↦ Ok p | Err f ↦ Err record { fault = f; offset = 0 } ]

pub opening_in : (text : List ℕ) (size : ℕ) (h : Header) (start : ℕ) → Short h → Here text 0 (written_header h) start → Admitted h size → opening_of text size ≡ Ok (h, start)
opening_in text size h start short here a =
    ap (opened_header size) (header_in text h start short here) ∙ ap (granted (h, start)) (admitted_in h size a)

granted_out : (p q : Header × ℕ) (r : Result (Unit {0}) TextFault) → granted p r ≡ Ok q → (r ≡ Ok tt) × (p ≡ q)
granted_out p q (Ok _) e = (refl, cc)
granted_out p q (Err f) e = absurd (let z : ◌≡◌ {A = ℕ} 0 1 = cc in omega arith)

opened_out : (size : ℕ) (o : Option (Header × ℕ)) (q : Header × ℕ) → opened_header size o ≡ Ok q → (o ≡ Some q) × Admitted q.0 size
opened_out size None q e = absurd (let z : ◌≡◌ {A = ℕ} 0 1 = cc in omega arith)
opened_out size (Some p) q e =
    let g = granted_out p q (admitted p.0 size) e in
    (ap (λ (x : Header × ℕ). Some x) g.1, subst (λ (x : Header × ℕ). Admitted x.0 size) g.1 (admitted_out p.0 size g.0))

pub opening_out : (text : List ℕ) (size : ℕ) (h : Header) (start : ℕ) → opening_of text size ≡ Ok (h, start) → Here text 0 (written_header h) start × Admitted h size
opening_out text size h start e =
    let o = opened_out size (header_at text) (h, start) e in
    (header_out text h start o.0, o.1)
