use Rattle.std.proofs.Common.{min, [], ◌∷◌, map, ap, ◌∙◌, Ok, arith}
use Rattle.std.proofs.lemmas.List.{length-map, get_or_read}
use Rattle.resolution.specs.Clauses.{denial}
use Rattle.resolution.proofs.Parts.{length_part}
use Rattle.stack.specs.Runs.{part}
use Rattle.question_theory.specs.Unrolling.{moved}
use Rattle.questions.specs.Lists.{denied_next}
use Rattle.questions.proofs.RowSections.{copied_denied}
use Rattle.questions.proofs.Sections.{copied_none}
use Rattle.questions.proofs.list.TraceList.copy_denied.Goals as goal

pub returns-in_err-literal : goal.returns-in_err-literal
returns-in_err-literal g c =
    let m = g.M.Machine.meaning c.args.self.now.machine.now in
    let ls = c.args.literals.now in
    let xs = part ls c.args.next.start c.args.next.end in
    let n = length_part ls c.args.next.start c.args.next.end c.requires.0 c.requires.1 in
    let k = length-map xs (denied_next m) in
    copied_none (map (denied_next m) xs) c.args.number c.args.stack.now.used ls c.from_residual.result (grind arith) (grind arith)

pub returns-in_err-push : goal.returns-in_err-push
unfolding part
returns-in_err-push g c =
    let m = g.M.Machine.meaning c.args.self.now.machine.now in
    let ls = c.args.literals.now in
    let n = c.args.number in
    let xs = part ls c.args.next.start c.args.next.end in
    let k = length_part ls c.args.next.start c.args.next.end c.requires.0 c.requires.1 in
    copied_denied m xs n c.args.stack.now.used c.push.new.self.used ls c.push.new.area c.push.result c.from_residual-in_err-push.result c.deny_next.result (grind arith)
    (ap (λ x. x ∷ []) (c.deny_next.ensures ∙ ap (λ l. denial (min (moved m 1 l) 4294967295)) (grind (arith, get_or_read))))
    c.push.ensures (grind arith)

pub returns : goal.returns
unfolding part
returns g c =
    let m = g.M.Machine.meaning c.args.self.now.machine.now in
    let ls = c.args.literals.now in
    let n = c.args.number in
    let xs = part ls c.args.next.start c.args.next.end in
    let k = length_part ls c.args.next.start c.args.next.end c.requires.0 c.requires.1 in
    copied_denied m xs n c.args.stack.now.used c.push.new.self.used ls c.push.new.area c.push.result (Ok tt) c.deny_next.result (grind arith)
    (ap (λ x. x ∷ []) (c.deny_next.ensures ∙ ap (λ l. denial (min (moved m 1 l) 4294967295)) (grind (arith, get_or_read))))
    c.push.ensures (grind arith)
