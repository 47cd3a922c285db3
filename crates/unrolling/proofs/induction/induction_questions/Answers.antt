use Rattle.std.proofs.Common.{min, arith}
use Rattle.question_theory.proofs.QuestionOrder.{induction_in_order}
use Rattle.unrolling.proofs.induction.induction_questions.Goals as goal

pub returns-clause-questions : goal.returns-clause-questions
returns-clause-questions c m o = omega (arith, (induction_in_order m o (min c.args.k 64)).count)
