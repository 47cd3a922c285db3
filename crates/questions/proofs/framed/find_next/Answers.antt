use Rattle.std.proofs.Common.{arith}
use Rattle.questions.proofs.FramedClauses.{next_is}
use Rattle.questions.proofs.framed.find_next.Goals as goal

pub returns-clause-marks : goal.returns-clause-marks
returns-clause-marks c =
    next_is c.args.frames.now c.args.literals.now c.args.spans.now c.args.index c.args.clause c.saturating_add-place.result c.find_clause.result c.unwrap_or_default.result
    (omega (arith, c.saturating_add-place.ensures, c.frame_end.ensures.end)) c.find_clause.ensures c.unwrap_or_default.ensures
