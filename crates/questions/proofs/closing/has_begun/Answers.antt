use Rattle.std.proofs.Common.{rules, tests, ap}
use Rattle.questions.proofs.Halving.{begun_read}
use Rattle.questions.proofs.closing.has_begun.Goals as goal

pub returns : goal.returns
returns c =
    begun_read c.args.frames.now.spans.used c.spans.result.used c.args.spans.now c.args.literal c.args.number c.read.result c.is_some_and.result _
    (ap (λ s. s.used) c.spans.ensures) c.read.ensures c.is_some_and.ensures (λ p h. search (rules, tests))
