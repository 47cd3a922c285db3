use Rattle.std.proofs.Common.{◌≡◌, sym, ap, ◌∙◌, ⊎_elim, arith}
use Rattle.std.proofs.lemmas.Fmt.{decimal_injective}
use Rattle.calls.specs.declared.answer.Lengths.{Lengths}
use Rattle.calls.specs.Cuts.{before, after}
use Rattle.calls.specs.Lines.{Lendable}
use Rattle.calls.proofs.Words.{lengths_cut, lengths_join}
use Rattle.calls.proofs.lines.lengths.Goals as goal

pub returns-in_err-number_word : goal.returns-in_err-number_word
returns-in_err-number_word c =
    rw c.from_residual.ensures (λ l h e.
    let p = lengths_cut c.args.words.now l h e in
    c.in_err-number_word.ensures l.bytes (omega (arith, h.0)) (c.cut.ensures.front ∙ p.0))

pub returns-in_err-number_word-2 : goal.returns-in_err-number_word-2
returns-in_err-number_word-2 c =
    rw c.from_residual-in_err-number_word-2.ensures (λ l h e.
    let p = lengths_cut c.args.words.now l h e in
    c.in_err-number_word-2.ensures l.literals (omega (arith, h.1)) (c.cut-2.ensures.front ∙ ap (before 32) c.cut.ensures.back ∙ p.1))

pub returns-in_err-number_word-3 : goal.returns-in_err-number_word-3
returns-in_err-number_word-3 c =
    rw c.from_residual-in_err-number_word-3.ensures (λ l h e.
    let p = lengths_cut c.args.words.now l h e in
    c.in_err-number_word-3.ensures l.places (omega (arith, h.2)) (c.cut-2.ensures.back ∙ ap (after 32) c.cut.ensures.back ∙ p.2))

pub returns-then-lengths-gt2000000 : goal.returns-then-lengths-gt2000000
returns-then-lengths-gt2000000 c = λ l h e.
    let p = lengths_cut c.args.words.now l h e in
    let b : c.in_ok-number_word.field-0 ≡ l.bytes =
    decimal_injective c.in_ok-number_word.field-0 l.bytes (omega arith) (omega (arith, h.0)) (sym c.in_ok-number_word.ensures ∙ c.cut.ensures.front ∙ p.0) in
    let n : c.in_ok-number_word-2.field-0 ≡ l.literals =
    decimal_injective c.in_ok-number_word-2.field-0 l.literals (omega arith) (omega (arith, h.1))
    (sym c.in_ok-number_word-2.ensures ∙ c.cut-2.ensures.front ∙ ap (before 32) c.cut.ensures.back ∙ p.1) in
    let s : c.in_ok-number_word-3.field-0 ≡ l.places =
    decimal_injective c.in_ok-number_word-3.field-0 l.places (omega arith) (omega (arith, h.2))
    (sym c.in_ok-number_word-3.ensures ∙ c.cut-2.ensures.back ∙ ap (after 32) c.cut.ensures.back ∙ p.2) in
    ⊎_elim (λ x. omega (arith, h.0)) (λ x. ⊎_elim (λ y. omega (arith, h.1)) (λ y. omega (arith, h.2)) x) c.then-lengths-gt2000000.either

pub returns : goal.returns
returns c =
    let l : Lengths = record { bytes = c.in_ok-number_word.field-0; literals = c.in_ok-number_word-2.field-0; places = c.in_ok-number_word-3.field-0 } in
    let h : Lendable l = (omega arith, omega arith, omega arith) in (
      h,
      lengths_join c.args.words.now l h (
        sym c.cut.ensures.front ∙ c.in_ok-number_word.ensures,
        ap (before 32) (sym c.cut.ensures.back) ∙ sym c.cut-2.ensures.front ∙ c.in_ok-number_word-2.ensures,
        ap (after 32) (sym c.cut.ensures.back) ∙ sym c.cut-2.ensures.back ∙ c.in_ok-number_word-3.ensures,
      ),
    )
