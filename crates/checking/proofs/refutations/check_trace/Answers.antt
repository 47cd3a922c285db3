use Rattle.std.proofs.Common.{◌≡◌, rules, of_calls, Option, Some}
use Rattle.opening.specs.Views.{held}
use Rattle.checking.specs.Asked.{questions}
use Rattle.questions.specs.declared.question.TraceQuestion.{TraceQuestion}
use Rattle.questions.specs.Laws.{Found}
use Rattle.checking.proofs.TraceQuestions.{trace_count, trace_asks}
use Rattle.checking.proofs.refutations.check_trace.Goals as goal

pub returns : goal.returns
returns g c =
    let m = g.M.Machine.meaning c.args.machine.now in
    let o = c.args.opening.now in
    let qs = questions m c.args.rule o.claim o.size (held o.frames c.args.literals.now c.args.spans.now) in
    c.check_questions.ensures qs (record {
      all = trace_count m (g.M.Machine.lawful c.args.machine.now) c.args.rule o c.args.literals.now c.args.spans.now c.args.cursor.now.offset c.requires _ c.trace_questions.ensures.trace;
      each = λ number x inside given.
          let h : (r : Option TraceQuestion) × Found o.frames number r × (r ≡ Some x.question) = search (rules, of_calls) in
          let i : x.machine.now ≡ c.args.machine.now = search (rules, of_calls) in
          let j : x.rule ≡ c.args.rule = search (rules, of_calls) in
          let k : x.frames.now ≡ o.frames = search (rules, of_calls) in
          rw (i, j, k) (trace_asks m (g.M.Machine.lawful c.args.machine.now) c.args.rule o c.args.literals.now c.args.spans.now c.args.cursor.now.offset c.requires number h.0 h.1 x.question h.2);
      literals = λ number x inside given. search (rules, of_calls);
      spans = λ number x inside given. search (rules, of_calls);
    })
