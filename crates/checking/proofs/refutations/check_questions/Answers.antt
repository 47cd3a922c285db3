use Rattle.std.proofs.Common.{Err, refl, ap, ◌∙◌, arith}
use Rattle.std.proofs.lemmas.Result.{err_from_is_err_and}
use Rattle.checking.proofs.Loop.{questions_end, question_stops, question_goes}
use Rattle.checking.proofs.refutations.check_questions.Goals as goal

pub returns-in_err-records : goal.returns-in_err-records
returns-in_err-records g c qs puts =
    let l = c.loop-number in
    let p = err_from_is_err_and c.from_residual.result c.from_residual.ensures.1 in
    p.1 ∙ ap Err p.2 ∙ question_stops _ g.L.ClauseList.clauses g.L.ClauseList.literal_mark g.L.ClauseList.span_mark g.L.ClauseList.stands
    c.args.opening.now c.args.cursor.now.offset c.args.literals.now c.args.spans.now c.requires.begun c.args.total qs puts
    (record { literals = c.literals.result; spans = c.spans.result }) c.literals.ensures c.spans.ensures
    _ c.args.cursor.now.rest.now c.args.opening.now.records l.number l.cursor.rest.now l.cursor.offset l.records l.literals l.spans (l.invariant.1 qs puts)
    c.loop-number-test.true c.question-list.result c.question-list.ensures
    c.refute_from.new.cursor.rest.now c.refute_from.new.literals c.refute_from.new.spans _ c.in_err-records.ensures.checked c.in_err-records.field-0.0 refl

pub loop-number-preserved : goal.loop-number-preserved
loop-number-preserved g c =
    let l = c.loop-number in
    let e = c.in_ok-records.ensures in (
      (let n = l.invariant.0 in let m = e.counted in omega arith),
      λ qs puts. question_goes _ g.L.ClauseList.clauses g.L.ClauseList.literal_mark g.L.ClauseList.span_mark g.L.ClauseList.stands
          c.args.opening.now c.args.cursor.now.offset c.args.literals.now c.args.spans.now c.requires.begun c.args.total qs puts
          (record { literals = c.literals.result; spans = c.spans.result }) c.literals.ensures c.spans.ensures
          _ c.args.cursor.now.rest.now c.args.opening.now.records l.number l.cursor.rest.now l.cursor.offset l.records l.literals l.spans (l.invariant.1 qs puts)
          c.loop-number-test.true c.question-list.result c.question-list.ensures
          c.refute_from.new.cursor.rest.now c.refute_from.new.literals c.refute_from.new.spans _ e.checked
          c.in_ok-records.field-0 c.refute_from.new.cursor.offset refl e.offset e.lengths.0 e.lengths.1,
    )

pub returns : goal.returns
returns g c qs puts =
    let l = c.loop-number in
    c.finish.ensures
    ∙ questions_end c.args.opening.now.frames c.args.literals.now c.args.spans.now qs _ c.args.cursor.now.rest.now c.args.opening.now.records
    l.number l.cursor.rest.now l.cursor.offset l.records l.literals l.spans (l.invariant.1 qs puts) c.args.total puts.all c.loop-number-test.false l.auto.number-end
