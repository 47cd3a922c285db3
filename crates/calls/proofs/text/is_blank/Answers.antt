use Rattle.std.proofs.Common.{◌≡◌, ℕ, ◌||◌, eqb, List, [], ◌∷◌, refl, ap, ◌&&◌, ◌∙◌, rules, tests}
use Rattle.std.specs.List.{list_all}
use Rattle.std.proofs.lemmas.Iterator.{YieldsList-from_slice}
use Rattle.std.proofs.lemmas.Iterator.Search.{all_from_yields_List}
use Rattle.calls.specs.Text.{blank}
use Rattle.calls.proofs.text.is_blank.Goals as goal

each_blank : (line : List ℕ) → list_all (λ b. eqb b 32 || eqb b 9) line ≡ blank line
each_blank [] = refl
each_blank (b ∷ line) = ap (λ rest. (eqb b 32 || eqb b 9) && rest) (each_blank line)

pub returns : goal.returns
returns c =
    let line = c.args.line.now in
    all_from_yields_List (λ b. eqb b 32 || eqb b 9) _ _ _ c.all.ensures.ran (YieldsList-from_slice line cc) (λ x b q k. search (rules, tests)) ∙ each_blank line
