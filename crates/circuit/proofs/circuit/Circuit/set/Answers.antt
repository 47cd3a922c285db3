use Rattle.std.proofs.Common.{ℕ, take, sym, refl, ap}
use Rattle.std.proofs.lemmas.Result.{err_from_is_err_and}
use Rattle.circuit.proofs.Judged.{good_from, not_good_from, cut}
use Rattle.circuit.proofs.circuit.Circuit.set.Goals as goal

pub returns-in_err-judge : goal.returns-in_err-judge
returns-in_err-judge c =
    let p = err_from_is_err_and c.from_residual.result c.from_residual.ensures.1 in
    let e = c.in_err-judge.ensures in
    rw (p.1, p.2) (record { answer = e; circuit = (not_good_from c.args.header c.args.area.now c.in_err-judge.field-0.0 (sym e), refl) })

pub invariant_of-self : goal.invariant_of-self
invariant_of-self c =
    let h = c.args.header in
    let good = good_from h c.args.area.now c.in_ok-judge.field-0 (sym c.in_ok-judge.ensures) in
    let both = cut h c.args.area.now c.needed.result c.needed.ensures good in
    record { good = both.0; whole = both.1 }

pub returns-clause-circuit : goal.returns-clause-circuit
returns-clause-circuit c =
    (good_from c.args.header c.args.area.now c.in_ok-judge.field-0 (sym c.in_ok-judge.ensures), refl, ap (λ (k : ℕ). take k c.args.area.now) c.needed.ensures)
