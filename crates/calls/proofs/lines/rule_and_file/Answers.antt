use Rattle.std.proofs.Common.{decimal, sym, ap, ◌∙◌, subst}
use Rattle.calls.specs.Cuts.{before, after}
use Rattle.calls.specs.Lines.{Name}
use Rattle.calls.proofs.Words.{joined, decimal_lacks, is_verb}
use Rattle.calls.proofs.lines.rule_and_file.Goals as goal

pub returns-in_err-number_word : goal.returns-in_err-number_word
returns-in_err-number_word c =
    rw c.from_residual.ensures
    (λ rule file h n e. c.in_err-number_word.ensures rule h (c.cut.ensures.front ∙ ap (before 32) e ∙ (joined 32 (decimal rule) file (decimal_lacks rule h)).0))

pub returns-in_err-name : goal.returns-in_err-name
returns-in_err-name c =
    rw c.from_residual-in_err-name.ensures
    (λ rule file h n e. c.in_err-name.ensures (subst Name (sym (c.cut.ensures.back ∙ ap (after 32) e ∙ (joined 32 (decimal rule) file (decimal_lacks rule h)).1)) n))

pub returns : goal.returns
returns c =
    let file = c.in_ok-name.ensures in
    let name : Name c.in_ok-name.field-0.now = subst Name (sym file.0) file.1 in (
      name,
      is_verb c.args.words.now (decimal c.in_ok-number_word.field-0) c.in_ok-name.field-0.now
          (sym c.cut.ensures.front ∙ c.in_ok-number_word.ensures) (sym c.cut.ensures.back ∙ sym file.0) name.0,
    )
