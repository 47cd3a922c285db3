use Rattle.std.proofs.Common.{ap, arith}
use Rattle.questions.proofs.FramedClauses.{frame_count}
use Rattle.questions.proofs.framed.count_framed.Goals as goal

pub returns-clause-size : goal.returns-clause-size
returns-clause-size c ls =
    let f = c.args.frames.now in
    let u = ap (λ s. s.used) c.spans.ensures in
    let a = ap (λ m. m.clauses) c.before-2.ensures in
    let b = c.frame_end.ensures.end in
    let n = frame_count f ls c.args.spans.now c.args.index in
    omega arith
