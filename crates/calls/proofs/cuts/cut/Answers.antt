use Rattle.std.proofs.Common.{◌≡◌, ℕ, suc, ◌+◌, sym, ap, ◌∙◌, drop, arith, rules, tests}
use Rattle.std.proofs.lemmas.Iterator.{IsFirst-from_position, YieldsList-from_slice}
use Rattle.std.proofs.lemmas.List.{take_rest}
use Rattle.calls.proofs.CutAt.{cut_at, uncut}
use Rattle.calls.proofs.cuts.cut.Goals as goal

pub returns-in-Some : goal.returns-in-Some
returns-in-Some c =
    let text = c.args.text.now in
    let s = c.args.separator in
    let end = c.in-Some.end in
    let found = rw c.in-Some.is at (IsFirst-from_position _ _ _ (λ b. b ≡ s) (λ b. b ≡ s → ⊥) c.position.ensures.ran (YieldsList-from_slice text cc) (λ x q k. search (rules, tests)) (λ x q k. search (rules, tests))) in
    let parts = cut_at s text end found.0 (λ k h. found.2 k 0 (omega arith) h) (found.1 0) in
    record {
      front = parts.0;
      back = take_rest text (end + 1) ∙ ap (λ (k : ℕ). drop k text) (let e : end + 1 ≡ suc end = omega arith in e) ∙ parts.1;
    }

pub returns-in-None : goal.returns-in-None
returns-in-None c =
    let text = c.args.text.now in
    let s = c.args.separator in
    let none = rw c.in-None.is at (IsFirst-from_position _ _ _ (λ b. b ≡ s) (λ b. b ≡ s → ⊥) c.position.ensures.ran (YieldsList-from_slice text cc) (λ x q k. search (rules, tests)) (λ x q k. search (rules, tests))) in
    let parts = uncut s text (λ k h. none k 0 (omega arith) h) in
    record { front = sym parts.0; back = sym parts.1 }
