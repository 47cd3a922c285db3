use Rattle.std.proofs.Common.{ℕ, Some, ap, ◌∙◌, arith}
use Rattle.question_theory.specs.Inductions.{last_question}
use Rattle.unrolling.proofs.Decisions.{base_number, last_number, no_number}
use Rattle.unrolling.proofs.induction.induction_question.Goals as goal

pub returns-in-Less : goal.returns-in-Less
returns-in-Less c m o = base_number m o _ c.args.number (grind arith)

pub returns-in-Greater : goal.returns-in-Greater
returns-in-Greater c m o = no_number m o _ c.args.number (grind arith)

pub returns-in-Equal : goal.returns-in-Equal
returns-in-Equal c m o = ap (λ (n : ℕ). Some (last_question m o n)) c.min-depth.ensures ∙ last_number m o _ c.args.number (grind arith)
