use Rattle.std.proofs.Common.{◌≡◌, ℕ, List, length, sym, ap, ◌∙◌, subst}
use Rattle.calls.specs.Cuts.{before}
use Rattle.calls.specs.Lines.{verb_text, Read}
use Rattle.calls.specs.Arguments.{followed}
use Rattle.calls.proofs.Verbs.{no_verb, read_bare, whole_line, longer_line}
use Rattle.calls.proofs.lines.parse.Goals as goal

pub returns-in_err-found : goal.returns-in_err-found
returns-in_err-found c = rw c.from_residual.ensures (no_verb c.args.line.now (λ v e. c.in_err-found.ensures v (c.cut.ensures.front ∙ e)))

pub returns-then-word-line : goal.returns-then-word-line
returns-then-word-line c =
    let line = c.args.line.now in
    let word : before 32 line ≡ verb_text c.in_ok-found.found = sym c.cut.ensures.front ∙ c.in_ok-found.ensures in
    let whole : before 32 line ≡ line = whole_line line (ap length (sym c.cut.ensures.front) ∙ c.if-word-line.true) in
    subst (Read line) (sym c.bare.ensures) (read_bare line c.in_ok-found.found word (sym whole ∙ word))

pub returns : goal.returns
returns c =
    let line = c.args.line.now in
    let rest = c.cut.result.1.now in
    let found = c.in_ok-found.found in
    let word : before 32 line ≡ verb_text found = sym c.cut.ensures.front ∙ c.in_ok-found.ensures in
    let whole : followed found rest ≡ line = longer_line line rest found word c.cut.ensures.back (λ e. c.if-word-line.false (ap length c.cut.ensures.front ∙ e)) in
    subst (λ (text : List ℕ). Read text c.with_rest.result) whole c.with_rest.ensures
