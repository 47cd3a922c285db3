-- The first line, then the sections.
use Rattle.std.proofs.Common.{◌≡◌, ℕ, ◌-◌, ◌≤◌, List, ◌++◌, length, take, drop, replicate, Ok, Err, Result, true, false, MatchResult, sym, ap, ◌∙◌, arith}
use Rattle.std.proofs.lemmas.List.{take-append-drop, drop-replicate, length-take-le}
use Rattle.std.proofs.lemmas.Bool.{false≢true, true≢false}
use Rattle.std.specs.Result.{is_err}
use Rattle.refusal.specs.declared.faults.TextRefusal.{TextRefusal}
use Rattle.aiger.specs.Numbers.{needed}
use Rattle.aiger.specs.declared.header.Header.{Header}
use Rattle.circuit_text.specs.Chains.{carried}
use Rattle.circuit_text.specs.Sections.{Read, sections_read}
use Rattle.circuit_text.specs.Texts.{opening_of, circuit_of, answer_of, area_of, Fills}

-- what follows an opening, and the sections
abbrev after_sections : Header → Result Read TextRefusal → Result (Header × List ℕ) TextRefusal
after_sections h r = carried r (λ read. Ok (h, read.0))

abbrev after_opening : List ℕ → Result (Header × ℕ) TextRefusal → Result (Header × List ℕ) TextRefusal
after_opening text o = carried o (λ p. after_sections p.0 (sections_read p.0 text p.1))

pub circuit_refused : (text : List ℕ) (size : ℕ) (e : TextRefusal) → opening_of text size ≡ Err e → circuit_of text size ≡ Err e
unfolding circuit_of
circuit_refused text size e o = ap (after_opening text) o

pub circuit_on : (text : List ℕ) (size : ℕ) (h : Header) (start : ℕ) (r : Result Read TextRefusal) → opening_of text size ≡ Ok (h, start) → sections_read h text start ≡ r
    → circuit_of text size ≡ after_sections h r
unfolding circuit_of
circuit_on text size h start r o s = ap (after_opening text) o ∙ ap (after_sections h) s

-- an area that was clear holds the circuit's numbers, and then zeros
zeros_after : (n size : ℕ) (old new : List ℕ) → n ≤ length new → drop n new ≡ drop n old → old ≡ replicate size 0
    → new ≡ take n new ++ replicate (size - length (take n new)) 0
zeros_after n size old new room rest clear =
    let left : size - n ≡ size - length (take n new) = omega (arith, length-take-le n new room) in
    sym (take-append-drop n new)
    ∙ ap (λ (l : List ℕ). take n new ++ l) (rest ∙ (ap (drop n) clear ∙ (drop-replicate n size 0 ∙ ap (λ (k : ℕ). replicate k 0) left)))

pub area_filled : (circuit : Result (Header × List ℕ) TextRefusal) (h : Header) (old new : List ℕ) (size : ℕ) → Fills circuit h old new → old ≡ replicate size 0
    → new ≡ area_of size circuit
area_filled circuit h old new size f clear =
    zeros_after (needed h) size old new f.room f.rest clear ∙ sym (ap (area_of size) f.stored)

-- what a filled area answers, and what it holds then: the circuit, or after a refusal what it is cleared to
module _ (circuit : Result (Header × List ℕ) TextRefusal) (old new : List ℕ) where
  abbrev Filled : Result Header TextRefusal → Type 0
  Filled r = MatchResult r (λ h. Fills circuit h old new) (λ e. circuit ≡ Err e)

  pub answer_is : (r : Result Header TextRefusal) → Filled r → r ≡ answer_of circuit
  answer_is (Ok h) f = sym (ap answer_of f.stored)
  answer_is (Err e) refused = sym (ap answer_of refused)

  pub area_kept : (r : Result Header TextRefusal) (size : ℕ) → is_err r ≡ false → Filled r → old ≡ replicate size 0 → new ≡ area_of size circuit
  area_kept (Ok h) size ok f clear = area_filled circuit h old new size f clear
  area_kept (Err e) size ok f clear = absurd (true≢false ok)

  pub area_cleared : (r : Result Header TextRefusal) (size : ℕ) → is_err r ≡ true → Filled r → replicate size 0 ≡ area_of size circuit
  area_cleared (Ok h) size err f = absurd (false≢true err)
  area_cleared (Err e) size err refused = sym (ap (area_of size) refused)
