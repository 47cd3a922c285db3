use Rattle.std.proofs.Common.{Some, None, arith}
use Rattle.questions.specs.declared.question.TraceQuestion.TheVariants.{Safe, Closing}
use Rattle.questions.proofs.Numbering.{found}
use Rattle.questions.proofs.question.trace_question.Goals as goal

pub returns-in-None-clause-trace : goal.returns-in-None-clause-trace
returns-in-None-clause-trace c = found c.args.frames.now c.args.number c.step_question.result c.step_question.ensures

pub returns-in-Some-clause-trace : goal.returns-in-Some-clause-trace
returns-in-Some-clause-trace c = found c.args.frames.now c.args.number (Some (Safe c.in-Some.frame)) (grind arith)

pub returns-in-Some-2-clause-trace : goal.returns-in-Some-2-clause-trace
returns-in-Some-2-clause-trace c = found c.args.frames.now c.args.number (Some Closing) (grind arith)

pub returns-in-Some-3-clause-trace : goal.returns-in-Some-3-clause-trace
returns-in-Some-3-clause-trace c = found c.args.frames.now c.args.number None (grind arith)
