use Rattle.std.proofs.Common.{sym, refl, ap, ◌∙◌, subst}
use Rattle.calls.specs.Cuts.{before, after}
use Rattle.calls.specs.Lines.{Name}
use Rattle.calls.proofs.Words.{joined, is_verb}
use Rattle.calls.proofs.lines.refute.Goals as goal

pub returns-in_err-name : goal.returns-in_err-name
returns-in_err-name c =
    rw c.from_residual.ensures
    (λ a. c.in_err-name.ensures (subst Name (sym (c.cut.ensures.front ∙ ap (before 32) a.4 ∙ (joined 32 a.0 a.1 a.2.1).0)) a.2))

pub returns-in_err-name-2 : goal.returns-in_err-name-2
returns-in_err-name-2 c =
    rw c.from_residual-in_err-name-2.ensures
    (λ a. c.in_err-name-2.ensures (subst Name (sym (c.cut.ensures.back ∙ ap (after 32) a.4 ∙ (joined 32 a.0 a.1 a.2.1).1)) a.3))

pub returns : goal.returns
returns c =
    let clauses = c.in_ok-name.ensures in
    let proof = c.in_ok-name-2.ensures in
    let second : Name c.in_ok-name-2.field-0.now = subst Name (sym proof.0) proof.1 in (
      (subst Name (sym clauses.0) clauses.1, second),
      refl,
      is_verb c.args.rest.now c.in_ok-name.field-0.now c.in_ok-name-2.field-0.now
          (sym c.cut.ensures.front ∙ sym clauses.0) (sym c.cut.ensures.back ∙ sym proof.0) second.0,
    )
