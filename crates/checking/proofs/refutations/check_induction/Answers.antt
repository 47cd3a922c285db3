use Rattle.std.proofs.Common.{◌≡◌, min, Some, Option, rules, of_calls, arith}
use Rattle.std.specs.Option.{option_map}
use Rattle.machine.specs.Lists.{entry}
use Rattle.question_theory.specs.Inductions.{questions_of_induction}
use Rattle.opening.specs.Views.{held}
use Rattle.unrolling.specs.declared.question.InductionQuestion.{InductionQuestion}
use Rattle.unrolling.specs.Asked.{asked}
use Rattle.checking.specs.Asked.{questions}
use Rattle.checking.proofs.InductionQuestions.{induction_count, induction_asks}
use Rattle.checking.proofs.refutations.check_induction.Goals as goal

pub returns : goal.returns
returns g c =
    let m = g.M.Machine.meaning c.args.machine.now in
    let o = c.args.opening.now in
    let frames = held o.frames c.args.literals.now c.args.spans.now in
    let all = induction_count m c.args.rule o.claim o.size frames c.requires.claims c.requires.few _ (c.induction_questions.ensures.questions m c.args.rule) in
    c.check_questions.ensures (questions m c.args.rule o.claim o.size frames) (record {
      all = all;
      each = λ number x inside given.
          let h : (r : Option InductionQuestion) × (option_map (asked m c.args.rule) r ≡ entry (questions_of_induction m c.args.rule (min o.size 64)) number) × (r ≡ Some x.question) = search (rules, of_calls) in
          let i : x.machine.now ≡ c.args.machine.now = search (rules, of_calls) in
          let j : x.rule ≡ c.args.rule = search (rules, of_calls) in
          rw (i, j) (induction_asks m c.args.rule o.claim o.size frames c.requires.claims c.requires.few number h.0 h.1 x.question h.2 (omega (arith, all)));
      literals = λ number x inside given. search (rules, of_calls);
      spans = λ number x inside given. search (rules, of_calls);
    })
