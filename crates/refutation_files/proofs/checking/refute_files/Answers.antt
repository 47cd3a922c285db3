use Rattle.std.proofs.Common.{◌≡◌, length, refl, ◌∙◌}
use Rattle.std.proofs.lemmas.Option.{MatchOption-at_some}
use Rattle.stack.specs.Runs.{runs}
use Rattle.refutation_files.proofs.Judging.{comes}
use Rattle.refutation_files.proofs.checking.refute_files.Goals as goal

pub returns-clause-verdict : goal.returns-clause-verdict
returns-clause-verdict c =
    let list = c.in_ok-list.list in
    let file = c.in_ok-file.file in
    let held = c.in_ok-list.ensures in
    let t = MatchOption-at_some _ _ c.in_ok-table.table c.in_ok-table.ensures.ok_part c.new.ensures in
    let ls : c.in_ok-table.table.literals.now ≡ list.literals.items = t.0 ∙ c.as_slice.ensures.value in
    let ss : c.in_ok-table.table.spans.now ≡ list.spans.items = t.1 ∙ c.as_slice-2.ensures.value in
    let steps : c.as_slice-3.result.now ≡ file.steps.items = c.as_slice-3.ensures.value in
    let answer = rw (ls, ss, steps) at (c.refute-outcome.ensures.answer refl refl) in
    let refuted = rw (ls, ss) at (c.refute-outcome.ensures.refuted refl refl) in
    comes c.args.clauses.now c.args.proof.now (length c.args.literals.now) (length c.args.spans.now) (runs list.literals.items list.spans.items) file.steps.items
    held.0.0 file.ending c.refute-outcome.result c.len.result c.judge.result c.in_ok-file.ensures answer refuted (c.len.ensures ∙ file.steps.ok.0) c.judge.ensures
