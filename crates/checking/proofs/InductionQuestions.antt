-- The questions of an induction by their numbers.
use Rattle.std.proofs.Common.{◌≡◌, ℕ, ◌<◌, ◌≤◌, min, List, [], length, get_or, Some, Option, sym, ap, ◌∙◌, subst, arith}
use Rattle.std.specs.Option.{option_map}
use Rattle.machine.specs.Meaning.{Meaning}
use Rattle.machine.specs.Lists.{entry}
use Rattle.question_theory.specs.Inductions.{questions_of_induction}
use Rattle.certificate.specs.declared.claim.Claim.{Claim}
use Rattle.certificate.specs.declared.claim.Claim.TheVariants.{Induction}
use Rattle.unrolling.specs.declared.question.InductionQuestion.{InductionQuestion}
use Rattle.unrolling.specs.Asked.{asked}
use Rattle.unrolling.proofs.Answered.{got_as}
use Rattle.checking.specs.Asked.{questions}

module _ (m : Meaning) (rule : ℕ) (claim : Claim) (size : ℕ) (frames : List (List (List ℕ))) (is : claim ≡ Induction) (few : size ≤ 64) where
  questions_are : questions_of_induction m rule (min size 64) ≡ questions m rule claim size frames
  questions_are =
      let s : min size 64 ≡ size = omega arith in
      ap (questions_of_induction m rule) s ∙ ap (λ (c : Claim). questions m rule c size frames) (sym is)

  pub induction_count : (count : ℕ) → count ≡ length (questions_of_induction m rule (min size 64)) → count ≡ length (questions m rule claim size frames)
  induction_count count e = e ∙ ap (λ (qs : List (List (List ℕ))). length qs) questions_are

  module _ (number : ℕ) (r : Option InductionQuestion) (e : option_map (asked m rule) r ≡ entry (questions_of_induction m rule (min size 64)) number) where
    pub induction_asks : (q : InductionQuestion) → r ≡ Some q → number < length (questions m rule claim size frames) → asked m rule q ≡ get_or (questions m rule claim size frames) number []
    induction_asks q f l =
        subst (λ (qs : List (List (List ℕ))). number < length qs → asked m rule q ≡ get_or qs number []) questions_are
        (λ h. got_as (asked m rule) (questions_of_induction m rule (min size 64)) number [] r q h e f) l
