-- What the questions of an induction decide, and what their clauses are like.
use Rattle.std.proofs.Common.{◌≡◌, ℕ, suc, ◌*◌, ◌<◌, List, [], Some, None, Option, sym, ap, ◌∙◌, arith}
use Rattle.machine.specs.Lists.{entry}
use Rattle.machine.specs.Meaning.{Meaning, Lawful}
use Rattle.machine.proofs.Entries.{entry_at, entry_past}
use Rattle.question_theory.specs.Inductions.{base_question, last_question, questions_of_induction}
use Rattle.question_theory.specs.Shapes.{Fine}
use Rattle.question_theory.proofs.InductionLaw.{induction_law, induction_complete}
use Rattle.question_theory.proofs.QuestionOrder.{induction_in_order}
use Rattle.question_theory.proofs.Fineness.{induction_fine}
use Rattle.unrolling.specs.declared.question.Kind.{Kind}
use Rattle.unrolling.specs.declared.question.Kind.TheVariants.{Base, Last}
use Rattle.unrolling.specs.Asked.{asked_as, Decides}

pub decides : (m : Meaning) → Lawful m → (o : ℕ) → o < m.rules → (k : ℕ) → Decides m o k
decides m law o h k =
    record {
      sound = λ all. (induction_law m law o h k all).0;
      complete = induction_complete m law o h k;
      kept = λ holds. (induction_law m law o h k (induction_complete m law o h k holds)).1;
    }

pub asked_fine : (m : Meaning) → Lawful m → (o : ℕ) → o < m.rules → (q : Kind) (n : ℕ) → Fine (2 * (suc n * m.variables)) (asked_as m o q n)
asked_fine m law o h Base n = (induction_fine m law o h (suc n)).base n (omega arith)
asked_fine m law o h Last n = (induction_fine m law o h n).last

-- question q of the induction over k rows
module _ (m : Meaning) (o k q : ℕ) where
  pub base_number : q < k → ◌≡◌ {A = Option (List (List ℕ))} (Some (base_question m o q)) (entry (questions_of_induction m o k) q)
  base_number h =
      ap (λ (cs : List (List ℕ)). Some cs) (sym ((induction_in_order m o k).base q h))
      ∙ sym (entry_at (questions_of_induction m o k) q [] (omega (arith, (induction_in_order m o k).count)))

  pub last_number : q ≡ k → ◌≡◌ {A = Option (List (List ℕ))} (Some (last_question m o k)) (entry (questions_of_induction m o k) q)
  last_number h =
      ap (λ (cs : List (List ℕ)). Some cs) (sym ((induction_in_order m o k).last q h))
      ∙ sym (entry_at (questions_of_induction m o k) q [] (omega (arith, (induction_in_order m o k).count)))

  pub no_number : k < q → ◌≡◌ {A = Option (List (List ℕ))} None (entry (questions_of_induction m o k) q)
  no_number h = sym (entry_past (questions_of_induction m o k) q (omega (arith, (induction_in_order m o k).count)))
