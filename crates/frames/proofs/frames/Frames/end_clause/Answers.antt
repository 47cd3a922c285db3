use Rattle.std.proofs.Common.{rules, refl}
use Rattle.frames.proofs.Writing.{adds_clause, adds_no_clause}
use Rattle.frames.proofs.frames.Frames.end_clause.Goals as goal

pub returns-in_err-push-clause-adds : goal.returns-in_err-push-clause-adds
returns-in_err-push-clause-adds c = adds_no_clause c.args.self.now _ c.args.spans.now c.push.new.area c.push.result _ (search rules) (search rules) refl refl refl c.push.ensures

pub returns-clause-adds : goal.returns-clause-adds
returns-clause-adds c =
    adds_clause c.args.self.now _ c.args.spans.now c.push.new.area
    (record { marks = refl; count = refl; ended = refl; literals = refl; spans = search rules }) (search rules)
