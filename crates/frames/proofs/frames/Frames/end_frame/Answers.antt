use Rattle.std.proofs.Common.{refl, arith}
use Rattle.std.proofs.lemmas.List.{take_more_set}
use Rattle.frames.proofs.Writing.{adds_frame}
use Rattle.frames.proofs.frames.Frames.end_frame.Goals as goal

pub returns-clause-adds : goal.returns-clause-adds
returns-clause-adds c =
    let f = c.args.self.now in
    adds_frame f _ refl refl refl (take_more_set f.marks f.count (record { clauses = f.spans.used; literals = f.ended }) (omega (arith, f.whole)))
