use Rattle.std.proofs.Common.{length, ap, sym, ◌∙◌, arith}
use borrow.Author.Tests.{eqb-false}
use Rattle.calls.proofs.Words.{after_less}
use Rattle.calls.proofs.text.LinesIterator.next.Goals as goal

pub returns-clause-goes : goal.returns-clause-goes
returns-clause-goes c =
    let text = c.args.self.now.rest.now in
    let some = eqb-false (length text) 0 (sym c.is_empty.ensures ∙ c.if-is_empty.false) in
    record {
      on = λ _. (tt, tt, omega (arith, ap length c.cut.ensures.back, after_less 10 text (omega arith)));
      keeps = tt;
      rests = λ _. tt;
    }
