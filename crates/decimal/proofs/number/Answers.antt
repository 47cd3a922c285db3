use Rattle.std.proofs.Common.{◌≡◌, drop, [], None, sym, ap, ◌∙◌, arith}
use Rattle.std.proofs.lemmas.List.{drop_all, take_rest}
use Rattle.decimal.specs.Number.{number_of}
use Rattle.decimal.proofs.Exactness.{clauses, number_none, number_unfit, number_asked}
use Rattle.decimal.proofs.number.Goals as goal

pub returns-in_err-rest : goal.returns-in_err-rest
returns-in_err-rest c =
    let none : drop c.args.at c.args.text.now ≡ [] = drop_all c.args.at c.args.text.now (grind (arith, c.in_err-rest.ensures)) in
    let e = clauses (drop c.args.at c.args.text.now) None (number_none ∙ ap number_of (sym none)) in
    rw c.from_residual.ensures record { value = e.0; written = e.1; reads = e.2 }

pub returns-in_err-first : goal.returns-in_err-first
returns-in_err-first c =
    let none : drop c.args.at c.args.text.now ≡ [] = drop_all c.args.at c.args.text.now (grind (arith, c.in_ok-rest.ensures, c.in_err-first.ensures)) in
    let e = clauses (drop c.args.at c.args.text.now) None (number_none ∙ ap number_of (sym none)) in
    rw c.from_residual-in_err-first.ensures record { value = e.0; written = e.1; reads = e.2 }

pub returns-in_err-value : goal.returns-in_err-value
returns-in_err-value c =
    let rest : c.in_ok-rest.rest.now ≡ drop c.args.at c.args.text.now = c.in_ok-rest.ensures.lookup.0.2 ∙ take_rest c.args.text.now c.args.at in
    let e = clauses (drop c.args.at c.args.text.now) None (number_unfit c.in_ok-rest.rest.now c.in_err-value.ensures ∙ ap number_of rest) in
    rw c.from_residual-in_err-value.ensures record { value = e.0; written = e.1; reads = e.2 }

pub returns : goal.returns
returns c =
    let rest : c.in_ok-rest.rest.now ≡ drop c.args.at c.args.text.now = c.in_ok-rest.ensures.lookup.0.2 ∙ take_rest c.args.text.now c.args.at in
    let asked = number_asked c.in_ok-rest.rest.now c.in_ok-first.field-0.now c.in_ok-value.value c.in_ok-value.size (c.in_ok-first.ensures.item.3.1 0) c.in_ok-value.ensures in
    let e = clauses (drop c.args.at c.args.text.now) c.then_some.result
    (c.then_some.ensures ∙ (rw c.is_plain.ensures asked) ∙ ap number_of rest) in
    record { value = e.0; written = e.1; reads = e.2 }
