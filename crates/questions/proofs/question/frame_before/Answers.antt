use Rattle.std.proofs.Common.{suc, ◌<◌, ◌≤◌, rules, tests}
use Rattle.std.proofs.lemmas.Iterator.{first_from_Range}
use Rattle.frames.specs.Held.{before_frame}
use Rattle.questions.proofs.Numbering.{after_first}
use Rattle.questions.proofs.question.frame_before.Goals as goal

pub returns : goal.returns
returns c =
    let f = c.args.frames.now in
    let k = c.args.clause in
    after_first f k c.last_frame.result c.find.result c.last_frame.ensures
    (first_from_Range _ _ _ c.find.result (λ i. k < (before_frame f (suc (suc i))).clauses) (λ i. (before_frame f (suc (suc i))).clauses ≤ k) c.find.ensures.ran
    (λ x q h. search (rules, tests)) (λ x q h. search (rules, tests)))
