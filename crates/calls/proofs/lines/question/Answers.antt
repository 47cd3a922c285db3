use Rattle.std.proofs.Common.{◌≡◌, ℕ, ◌^◌, ◌<◌, List, ◌∷◌, ◌++◌, decimal, sym, refl, ap, ◌∙◌, subst, arith}
use Rattle.std.proofs.lemmas.Fmt.{decimal_nonempty}
use Rattle.std.proofs.lemmas.List.{length-append}
use Rattle.calls.specs.Cuts.{before, after}
use Rattle.calls.specs.Lines.{Name}
use Rattle.calls.proofs.Words.{joined, decimal_lacks, is_verb}
use Rattle.calls.proofs.lines.question.Goals as goal

-- the three words of an argument
words : (rest file : List ℕ) (rule number : ℕ) → rule < 2 ^ 32 → Name file → rest ≡ decimal rule ++ (32 ∷ (file ++ (32 ∷ decimal number))) →
    (before 32 rest ≡ decimal rule) × (before 32 (after 32 rest) ≡ file) × (after 32 (after 32 rest) ≡ decimal number)
words rest file rule number r n e =
    let first = joined 32 (decimal rule) (file ++ (32 ∷ decimal number)) (decimal_lacks rule r) in
    let second = joined 32 file (decimal number) n.1 in
    let back : after 32 rest ≡ file ++ (32 ∷ decimal number) = ap (after 32) e ∙ first.1 in
    (ap (before 32) e ∙ first.0, ap (before 32) back ∙ second.0, ap (after 32) back ∙ second.1)

pub returns-in_err-number_word : goal.returns-in_err-number_word
returns-in_err-number_word c =
    rw c.from_residual.ensures
    (λ a. c.in_err-number_word.ensures a.0 a.3 (c.cut.ensures.front ∙ (words c.args.rest.now a.1 a.0 a.2 a.3 a.4 a.6).0))

pub returns-in_err-name : goal.returns-in_err-name
returns-in_err-name c =
    rw c.from_residual-in_err-name.ensures
    (λ a. c.in_err-name.ensures
    (subst Name (sym (c.cut-2.ensures.front ∙ ap (before 32) c.cut.ensures.back ∙ (words c.args.rest.now a.1 a.0 a.2 a.3 a.4 a.6).1)) a.4))

pub returns-in_err-number_word-2 : goal.returns-in_err-number_word-2
returns-in_err-number_word-2 c =
    rw c.from_residual-in_err-number_word-2.ensures
    (λ a. c.in_err-number_word-2.ensures a.2 a.5
    (c.cut-2.ensures.back ∙ ap (after 32) c.cut.ensures.back ∙ (words c.args.rest.now a.1 a.0 a.2 a.3 a.4 a.6).2))

pub returns : goal.returns
returns c =
    let file = c.in_ok-name.ensures in
    let name : Name c.in_ok-name.field-0.now = subst Name (sym file.0) file.1 in
    let number = c.in_ok-number_word-2.field-0 in
    let tail : List ℕ = c.in_ok-name.field-0.now ++ (32 ∷ decimal number) in
    let small : number < 2 ^ 32 = omega arith in
    let back : after 32 c.args.rest.now ≡ tail =
    is_verb (after 32 c.args.rest.now) c.in_ok-name.field-0.now (decimal number)
    (ap (before 32) (sym c.cut.ensures.back) ∙ sym c.cut-2.ensures.front ∙ sym file.0)
    (ap (after 32) (sym c.cut.ensures.back) ∙ sym c.cut-2.ensures.back ∙ c.in_ok-number_word-2.ensures) (decimal_nonempty number (omega arith)) in (
      (omega arith, name, omega arith),
      refl,
      is_verb c.args.rest.now (decimal c.in_ok-number_word.field-0) tail (sym c.cut.ensures.front ∙ c.in_ok-number_word.ensures) back
          (omega (arith, length-append c.in_ok-name.field-0.now (32 ∷ decimal number))),
    )
