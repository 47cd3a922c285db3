use Rattle.std.proofs.Common.{◌≡◌, ℕ, ◌<◌, min, List, ◌∷◌, ◌++◌, [], length, get_or, take, codes, decimal, sym, refl, ap, ◌∙◌, add-one, arith}
use Rattle.std.specs.List.{enumerate_from}
use Rattle.std.proofs.Output.{has_written_append, has_written_of_eq}
use Rattle.std.proofs.lemmas.List.{get_or-take, length-take, length_push, get_or_default}
use Rattle.std.proofs.lemmas.List.FromFn.{length-enumerate_from, get_or-enumerate_from}
use Rattle.std.proofs.lemmas.Iterator.{YieldsList-from_slice, YieldsList-from_take}
use Rattle.std.proofs.lemmas.Iterator.Consumers.{YieldsList-from_enumerate, YieldsList-turn}
use Rattle.docket.specs.declared.book.Standing.{Standing}
use Rattle.docket.specs.declared.book.Standing.TheVariants.{Open}
use Rattle.docket.specs.Texts.{standing_text, rule_text, rules_text}
use Rattle.docket.proofs.texts.AccountDisplay.fmt.Goals as goal

-- how many of the rules have a standing
counted : (n : ℕ) (ss : List Standing) → length (enumerate_from 0 (take n ss)) ≡ min n (length ss)
counted n ss = length-enumerate_from 0 (take n ss) ∙ length-take n ss

-- a rule with its standing is one of those below the number of rules
told : (n : ℕ) (ss : List Standing) (k : ℕ) (p : ℕ × Standing) → (k < length (enumerate_from 0 (take n ss))) × (p ≡ get_or (enumerate_from 0 (take n ss)) k p) → (p.0 ≡ k) × (p.1 ≡ get_or ss k Open)
told n ss k p (inside, e) =
    let few = counted n ss in
    let h : k < length (take n ss) = omega (arith, length-take n ss) in
    let q = e ∙ get_or-enumerate_from 0 (take n ss) k p h in (
      ap (λ (x : ℕ × Standing). x.0) q ∙ omega arith,
      ap (λ (x : ℕ × Standing). x.1) q ∙ get_or-take n ss k p.1 (omega arith) ∙ get_or_default ss k p.1 Open (omega arith),
    )

pub loop-rule-preserved : goal.loop-rule-preserved
loop-rule-preserved g c = λ plain.
    let took = g.W.Write.write_str_gives in
    let ss = c.args.self.now.standings in
    let n = c.args.self.now.rules in
    let k = length c.loop-rule.yielded in
    let so_far = c.loop-rule.invariant plain in
    let new = c.in_ok-write.ensures.writes so_far.plain refl in
    let turn = YieldsList-turn (YieldsList-from_enumerate (YieldsList-from_take n (YieldsList-from_slice ss cc) cc) cc) c.loop-rule.yielded _ c.loop-rule.yielded_by _ _ (c.in-Some.rule, c.in-Some.standing) c.in-Some.is c.next.ensures.steps in
    let here = told n ss k (c.in-Some.rule, c.in-Some.standing.now) turn in
    let written : List ℕ = decimal c.in-Some.rule ++ (codes " " ++ (standing_text c.in-Some.standing.now ++ codes "; ")) in
    let named : written ≡ rule_text ss k = ap (λ (p : ℕ × Standing). decimal p.0 ++ (codes " " ++ (standing_text p.1 ++ codes "; "))) (cc (here.0, here.1)) in
    let more : rules_text ss k ++ written ≡ rules_text ss (length (c.loop-rule.yielded ++ (c.in-Some.rule, c.in-Some.standing) ∷ [])) =
    ap (λ (text : List ℕ). rules_text ss k ++ text) named ∙ ap (rules_text ss) (sym (length_push c.loop-rule.yielded (c.in-Some.rule, c.in-Some.standing) ∙ add-one k)) in
    has_written_of_eq took c.args.f.now (rules_text ss k ++ written) _ c.write.new.self more
    (has_written_append took c.args.f.now (rules_text ss k) c.loop-rule.f written c.write.new.self so_far new)
