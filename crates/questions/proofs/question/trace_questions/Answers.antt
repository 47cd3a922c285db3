use Rattle.std.proofs.Common.{◌≡◌, ◌+◌, ◌∙◌, arith}
use Rattle.questions.specs.Numbers.{questions_of}
use Rattle.questions.proofs.Numbering.{counted}
use Rattle.questions.proofs.question.trace_questions.Goals as goal

pub returns-clause-trace : goal.returns-clause-trace
returns-clause-trace c m o ls ps s =
    let e : c.count_steps.result + c.last_frame.result + 2 ≡ questions_of c.args.frames.now = omega (arith, c.count_steps.ensures, c.last_frame.ensures) in
    e ∙ counted c.args.frames.now ls ps s m o
