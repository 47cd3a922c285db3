-- What the verdict on two files that were read comes to.
use Rattle.std.proofs.Common.{◌≡◌, ℕ, Bool, true, false, cond, List, length, Ok, Err, Result, OnOk, sym, ap, ◌∙◌, subst}
use Rattle.refusal.specs.declared.faults.Refusal.{Refusal}
use Rattle.resolution.specs.Clauses.{Unsat}
use Rattle.refute.specs.declared.steps.Step.{Step}
use Rattle.refute.specs.Verdicts.{verdict}
use Rattle.refutation_files.specs.declared.proof_file.Ending.{Ending}
use Rattle.refutation_files.specs.declared.proof_file.Ending.TheVariants.{Whole, Cut, More}
use Rattle.refutation_files.specs.declared.unproved.Unproved.{Unproved}
use Rattle.refutation_files.specs.declared.unproved.Unproved.TheVariants.{NotARefutation, Refused}
use Rattle.refutation_files.specs.ClauseFiles.{ClausesOf}
use Rattle.refutation_files.specs.ProofFiles.{ProofOf}
use Rattle.refutation_files.specs.Verdicts.{at_finish, judged, ComesTo}

module _ (clauses proof : List ℕ) (literals spans : ℕ) (cs : List (List ℕ)) (steps : List Step) (listed : ClausesOf clauses cs) where
  -- by the outcome of the steps and by the ending
  by_outcome : (ending : Ending) (o : Result ℕ Refusal) → ProofOf proof steps ending → judged o ending (length steps) ≡ judged (verdict cs literals spans steps) ending (length steps) → OnOk o (Unsat cs)
      → ComesTo clauses proof literals spans (judged o ending (length steps))
  by_outcome Whole (Ok n) p e u = (cs, steps, Whole, listed, p, e, u)
  by_outcome Cut (Ok n) p e u = (cs, steps, Cut, listed, p, e, tt)
  by_outcome More (Ok n) p e u = (cs, steps, More, listed, p, e, tt)
  by_outcome Whole (Err r) p e u = (cs, steps, Whole, listed, p, e, tt)
  by_outcome More (Err r) p e u = (cs, steps, More, listed, p, e, tt)
  by_outcome Cut (Err r) p e u = by_fault (at_finish r) e
    where
      by_fault : (b : Bool) → cond b (Err NotARefutation) (Err (Refused r)) ≡ judged (verdict cs literals spans steps) Cut (length steps) → ComesTo clauses proof literals spans (cond b (Err NotARefutation) (Err (Refused r)))
      by_fault true f = (cs, steps, Cut, listed, p, f, tt)
      by_fault false f = (cs, steps, Cut, listed, p, f, tt)

  pub comes : (ending : Ending) (o : Result ℕ Refusal) (n : ℕ) (v : Result ℕ Unproved) → ProofOf proof steps ending → o ≡ verdict cs literals spans steps → OnOk o (Unsat cs) → n ≡ length steps → v ≡ judged o ending n
      → ComesTo clauses proof literals spans v
  comes ending o n v p e u size j =
      subst (ComesTo clauses proof literals spans) (sym (j ∙ ap (judged o ending) size))
      (by_outcome ending o p (ap (λ x. judged x ending (length steps)) e) u)
