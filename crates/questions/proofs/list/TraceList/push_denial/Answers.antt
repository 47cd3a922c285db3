use Rattle.std.proofs.Common.{◌≡◌, ◌+◌, ◌*◌, [], ◌∷◌, get_or, take, ap, ap₂, ◌∙◌, subst}
use Rattle.resolution.specs.Clauses.{denial}
use Rattle.stack.specs.Pushes.{PushedAs}
use Rattle.questions.specs.Closing.{denying}
use Rattle.questions.proofs.Readings.{read_or}
use Rattle.questions.proofs.Selectors.{selector_denied}
use Rattle.questions.proofs.list.TraceList.push_denial.Goals as goal

pub returns : goal.returns
unfolding denying
returns g c =
    let f = c.args.self.now.frames.now in
    let v = (g.M.Machine.meaning c.args.self.now.machine.now).variables in
    let ls = c.args.literals.now in
    let q = c.args.literal in
    let found : c.unwrap_or-found.result ≡ get_or (take f.ended ls) q 0 =
    c.unwrap_or-found.ensures ∙ read_or c.ended.result ls q 0 c.read.result c.read.ensures ∙ ap (λ n. get_or (take n ls) q 0) c.ended.ensures in
    subst (λ xs. PushedAs xs c.args.stack.now.used c.push_all.new.self.used ls c.push_all.new.area c.push_all.result)
    (ap₂ (λ x y. x ∷ y ∷ []) (c.deny.ensures ∙ ap denial found) (c.deny-2.ensures ∙ ap denial c.selector.ensures ∙ selector_denied (v + c.find_span-span.result) ∙ ap (λ k. 2 * (v + k) + 1) c.find_span-span.ensures.span))
    c.push_all.ensures
