use Rattle.std.proofs.Common.{refl, ◌∙◌, ◌||◌, rules}
use Rattle.std.specs.List.{list_any}
use Rattle.std.proofs.lemmas.List.Recursion.{same_from_clauses}
use Rattle.std.proofs.lemmas.Iterator.{YieldsList-from_slice}
use Rattle.std.proofs.lemmas.Iterator.Search.{any_from_yields_List}
use Rattle.resolution.specs.Clauses.{literal_true, holds}
use Rattle.question_theory.specs.Traces.{state_setting}
use Rattle.opening.proofs.start.holds.Goals as goal

pub returns : goal.returns
returns g c =
    let m = g.M.Machine.meaning c.args.machine.now in
    let test = literal_true (state_setting m m.start) in
    any_from_yields_List test _ _ _ c.any.ensures.ran (YieldsList-from_slice c.args.clause.now cc) (λ x b q k. search rules)
    ∙ same_from_clauses (list_any test) (holds (state_setting m m.start)) (λ l b. test l || b) refl (λ _ _. refl) (λ _ _. refl) c.args.clause.now
