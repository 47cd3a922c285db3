use Rattle.std.proofs.Common.{[], min}
use Rattle.question_theory.specs.Inductions.{questions_of_induction}
use Rattle.unrolling.specs.Asked.{asked}
use Rattle.unrolling.proofs.Answered.{there_as}
use Rattle.checking.proofs.refutations.fn.check_induction.question.Goals as goal

pub unwrap-requires : goal.unwrap-requires
unwrap-requires g c =
    let m = g.M.Machine.meaning c.captures.machine.now in
    there_as (asked m c.captures.rule) (questions_of_induction m c.captures.rule (min c.captures.k 64)) c.args.number [] _ c.requires (c.induction_question.ensures m c.captures.rule)
