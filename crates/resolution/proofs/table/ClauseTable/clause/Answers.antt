use Rattle.std.proofs.Common.{length, sym, ap, ◌∙◌, arith}
use Rattle.std.proofs.lemmas.List.{take_all}
use Rattle.stack.specs.Runs.{part, run}
use Rattle.resolution.proofs.Copies.{runs_at}
use Rattle.resolution.proofs.table.ClauseTable.clause.Goals as goal

pub returns : goal.returns
unfolding part
returns c =
    let ls = c.args.self.now.literals.now in
    let ps = c.args.self.now.spans.now in
    let p = c.in_ok-span.span.now in
    let at = c.in_ok-span.ensures.lookup in (
      at.3.0,
      c.bounds-start.ensures.marks ls (omega arith) ∙ ap (λ l. run l p) (take_all (length ls) ls (omega arith)) ∙ ap (run ls) at.1 ∙ sym (runs_at ls ps c.args.number p at.3.0),
    )
