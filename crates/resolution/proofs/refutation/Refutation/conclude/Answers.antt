use Rattle.std.proofs.Common.{◌≡◌, ◌-◌, ◌+◌, ◌<◌, ◌≤◌, length, Ok, Err, ap, ◌∙◌, arith, rules}
use Rattle.std.proofs.lemmas.Option.{MatchOption-at_some}
use Rattle.refusal.specs.declared.faults.RefutationFault.TheVariants.{NotRefuted}
use Rattle.resolution.specs.Lists.{numbered_clause}
use Rattle.resolution.specs.States.{own}
use Rattle.resolution.proofs.Owned.{length_own}
use Rattle.resolution.proofs.Parts.{length_part}
use Rattle.resolution.proofs.Ways.{ended_none, ended_not, ended_yes, refutes}
use Rattle.resolution.proofs.refutation.Refutation.conclude.Goals as goal

pub returns-in_err-last-clause-answer : goal.returns-in_err-last-clause-answer
returns-in_err-last-clause-answer c =
    let t = c.args.self.now in
    let l = length_own t.literals.used t.first t.spans.used c.args.literals.now c.args.spans.now in
    let m = c.min.ensures in
    let s = c.saturating_sub-made.ensures in
    let e : c.from_residual.result ≡ Err NotRefuted = search rules in
    let z : c.saturating_sub-made.result ≡ 0 = search rules in
    rw e (ended_none (own t c.args.literals.now c.args.spans.now) (omega arith))

pub returns-in_err-latest-clause-answer : goal.returns-in_err-latest-clause-answer
returns-in_err-latest-clause-answer c =
    let t = c.args.self.now in
    let l = length_own t.literals.used t.first t.spans.used c.args.literals.now c.args.spans.now in
    let m = c.min.ensures in
    let s = c.saturating_sub-made.ensures in
    let z : c.saturating_sub-made.result ≡ c.in_ok-last.last + 1 = search rules in
    let h : length (own c.args.self.now c.args.literals.now c.args.spans.now) ≤ c.in_ok-last.last = search rules in
    absurd (omega arith)

pub returns-then-latest-clause-answer : goal.returns-then-latest-clause-answer
returns-then-latest-clause-answer c =
    let t = c.args.self.now in
    let ds = own t c.args.literals.now c.args.spans.now in
    let l = length_own t.literals.used t.first t.spans.used c.args.literals.now c.args.spans.now in
    let m = c.min.ensures in
    let s = c.saturating_sub-made.ensures in
    let z : c.saturating_sub-made.result ≡ c.in_ok-last.last + 1 = search rules in
    let h = MatchOption-at_some _ _ c.in_ok-latest.latest c.in_ok-latest.ensures.ok_part c.clause.ensures in
    let n = length_part c.args.literals.now c.in_ok-latest.latest.start c.in_ok-latest.latest.end h.1 h.3 in
    let e : c.in_ok-last.last ≡ length (own c.args.self.now c.args.literals.now c.args.spans.now) - 1 = omega arith in
    let k = ap length h.4 ∙ ap (λ z. length (numbered_clause ds z)) e in
    ended_not ds (omega arith)

pub returns : goal.returns
returns c =
    let t = c.args.self.now in
    let ds = own t c.args.literals.now c.args.spans.now in
    let l = length_own t.literals.used t.first t.spans.used c.args.literals.now c.args.spans.now in
    let m = c.min.ensures in
    let s = c.saturating_sub-made.ensures in
    let z : c.saturating_sub-made.result ≡ c.in_ok-last.last + 1 = search rules in
    let h = MatchOption-at_some _ _ c.in_ok-latest.latest c.in_ok-latest.ensures.ok_part c.clause.ensures in
    let n = length_part c.args.literals.now c.in_ok-latest.latest.start c.in_ok-latest.latest.end h.1 h.3 in
    let e : c.saturating_sub-made.result ≡ length (own c.args.self.now c.args.literals.now c.args.spans.now) = omega arith in
    let e' : c.in_ok-last.last ≡ length (own c.args.self.now c.args.literals.now c.args.spans.now) - 1 = omega arith in
    let k = ap length h.4 ∙ ap (λ z. length (numbered_clause ds z)) e' in
    let some : 0 < length (own c.args.self.now c.args.literals.now c.args.spans.now) = omega arith in
    let none : length (numbered_clause (own c.args.self.now c.args.literals.now c.args.spans.now) (length (own c.args.self.now c.args.literals.now c.args.spans.now) - 1)) ≡ 0 = omega arith in
    record {
      answer = ap (λ z. Ok (record { clauses = z })) e ∙ ended_yes ds some none;
      refutation = c.abandon.ensures;
      refuted = λ list f. refutes ds list some none f;
    }
