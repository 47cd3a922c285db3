-- The law of inductions, and its converse.
use Rattle.question_theory.specs.Inductions.{InductionLaw, InductionComplete}
use Rattle.question_theory.proofs.InductionSound.{induction_sound, induction_keeps}
use Rattle.question_theory.proofs.InductionComplete.{induction_refuted}
use Rattle.question_theory.proofs.QuestionOrder.{induction_each, induction_all}

pub induction_law : InductionLaw
induction_law m law o lo k h =
    let inductive = induction_sound m law o lo k (induction_each m o k h) in
    (inductive, induction_keeps m law o k inductive)

pub induction_complete : InductionComplete
induction_complete m law o lo k inductive = induction_all m o k (induction_refuted m law o lo k inductive)
