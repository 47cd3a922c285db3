-- The clause of an induction's question that a number stands for.
use Rattle.std.proofs.Common.{◌≡◌, ℕ, ◌+◌, ◌<◌, List, [], ◌∷◌, length, get_or, Some, None, Option, sym, ◌∙◌, arith}
use Rattle.machine.specs.Lists.{entry}
use Rattle.machine.specs.Meaning.{Meaning, Lawful}
use Rattle.machine.proofs.Entries.{entry_at, entry_past}
use Rattle.question_theory.specs.Unrolling.{moved, unroll}
use Rattle.question_theory.specs.Shapes.{unroll_size}
use Rattle.question_theory.proofs.UnrollOrder.{unroll_in_order}
use Rattle.question_theory.proofs.QuestionClauses.{base_in_order, last_in_order}
use Rattle.unrolling.specs.declared.question.Kind.{Kind}
use Rattle.unrolling.specs.declared.question.Kind.TheVariants.{Base, Last}
use Rattle.unrolling.specs.Asked.{asked_as, assumptions, assumption_at}
use Rattle.unrolling.proofs.UnrolledNumbers.{found}

module _ (m : Meaning) (law : Lawful m) (o : ℕ) where
  pub asked_count : (q : Kind) (n : ℕ) → length (asked_as m o q n) ≡ unroll_size m n + assumptions m q n + 1
  asked_count Base n = (base_in_order m law o n).count
  asked_count Last n = (last_in_order m law o n).count

  asked_unrolled : (q : Kind) (n k : ℕ) → k < unroll_size m n → get_or (asked_as m o q n) k [] ≡ get_or (unroll m n) k []
  asked_unrolled Base n k h = (base_in_order m law o n).unrolled k h
  asked_unrolled Last n k h = (last_in_order m law o n).unrolled k h

  asked_assumed : (q : Kind) (n k j : ℕ) → k ≡ unroll_size m n + j → j < assumptions m q n → get_or (asked_as m o q n) k [] ≡ assumption_at m o q j
  asked_assumed Base n k j e h = (base_in_order m law o n).started k j e h
  asked_assumed Last n k j e h = (last_in_order m law o n).unbroken k j e h

  asked_broken : (q : Kind) (n k : ℕ) → k ≡ unroll_size m n + assumptions m q n → get_or (asked_as m o q n) k [] ≡ moved m n (get_or m.rule o 0) ∷ []
  asked_broken Base n k e = (base_in_order m law o n).broken k e
  asked_broken Last n k e = (last_in_order m law o n).broken k e

-- clause k of the unrolling
pub of_unrolling : (m : Meaning) → Lawful m → (o : ℕ) (q : Kind) (n k : ℕ) (r : Option (List ℕ)) → k < unroll_size m n → r ≡ entry (unroll m n) k → r ≡ entry (asked_as m o q n) k
of_unrolling m law o q n k r h is =
    is ∙ entry_at (unroll m n) k [] (omega (arith, (unroll_in_order m law n).count))
    ∙ found (asked_as m o q n) k (get_or (unroll m n) k []) (omega (arith, asked_count m law o q n)) (sym (asked_unrolled m law o q n k h))

-- clause k is clause j behind the unrolling
module _ (m : Meaning) (law : Lawful m) (o : ℕ) (q : Kind) (n k j : ℕ) (at : k ≡ unroll_size m n + j) where
  pub of_assumptions : (xs : List ℕ) → j < assumptions m q n → xs ≡ assumption_at m o q j → ◌≡◌ {A = Option (List ℕ)} (Some xs) (entry (asked_as m o q n) k)
  of_assumptions xs h is = found (asked_as m o q n) k xs (omega (arith, asked_count m law o q n)) (is ∙ sym (asked_assumed m law o q n k j at h))

  pub of_rule : (xs : List ℕ) → j ≡ assumptions m q n → xs ≡ moved m n (get_or m.rule o 0) ∷ [] → ◌≡◌ {A = Option (List ℕ)} (Some xs) (entry (asked_as m o q n) k)
  of_rule xs h is = found (asked_as m o q n) k xs (omega (arith, asked_count m law o q n)) (is ∙ sym (asked_broken m law o q n k (omega arith)))

  pub of_none : assumptions m q n < j → ◌≡◌ {A = Option (List ℕ)} None (entry (asked_as m o q n) k)
  of_none h = sym (entry_past (asked_as m o q n) k (omega (arith, asked_count m law o q n)))
