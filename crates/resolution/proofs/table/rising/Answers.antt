use Rattle.std.proofs.Common.{◌≡◌, ltb, rules}
use Rattle.std.proofs.lemmas.List.Sorted.{answers_always}
use Rattle.resolution.proofs.Rises.{tells_rising}
use Rattle.resolution.proofs.table.rising.Goals as goal

pub returns : goal.returns
returns c = tells_rising c.args.clause.now _ (c.is_sorted_by.ensures.cases ltb (answers_always _ (λ a r. r ≡ ltb a.0.now a.1.0.now) _ (λ f a r g q. search rules)))
