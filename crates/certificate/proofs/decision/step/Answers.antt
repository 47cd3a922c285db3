use Rattle.std.proofs.Common.{subst, arith}
use Rattle.certificate.specs.Views.{Steady}
use Rattle.certificate.proofs.Laws.{fillable}
use Rattle.certificate.proofs.decision.step.Goals as goal

pub end_row-requires-clause-fillable : goal.end_row-requires-clause-fillable
end_row-requires-clause-fillable g c =
    let m = g.M.Machine.meaning c.args.machine.now in
    let s = subst (λ p. Steady m p c.args.row.now) c.in-RowEnd-Row.is-1 c.requires.steady in
    fillable m c.args.row.now c.in-RowEnd-Row.bits c.requires.room (omega arith) s.1 s.2
