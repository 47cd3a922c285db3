use Rattle.std.specs.Bool.{then_some}
use Rattle.std.proofs.Common.{◌≡◌, ◌<◌, ℕ, length, MatchOption, Bool, true, false, List, MatchBool, refl, arith, rules}
use Rattle.std.specs.List.{AllByRecursion, AllWithin, HoldsAt}
use Rattle.std.proofs.ByRecursion.{All-get_or, All-from_get_or}
use Rattle.std.proofs.lemmas.Iterator.{cases_from_all, YieldsList-from_slice}
use Rattle.stack.specs.Runs.{runs}
use Rattle.resolution.specs.Clauses.{Rising}
use Rattle.resolution.specs.declared.table.ClauseTable.{ClauseTable}
use Rattle.stack.specs.declared.spans.Span.{Span}
use Rattle.resolution.specs.Lists.{Proper, Tells}
use Rattle.resolution.proofs.Copies.{proper_rising}
use Rattle.resolution.proofs.table.ClauseTable.new.Goals as goal

all_or_not : (P : Span → Type 0) (ps : List Span) (b : Bool) → MatchBool b (AllWithin P ps 0 (length ps)) ((k : ℕ) × (k < length ps) × HoldsAt (λ p. P p → ⊥) ps k) → Tells b (AllByRecursion P ps)
all_or_not P ps true h = All-from_get_or P ps (record { start = 0; length = 0 }) (λ k l. h k (record { start = 0; length = 0 }) (omega arith) l)
all_or_not P ps false h = λ all. h.2 (record { start = 0; length = 0 }) (All-get_or P ps h.0 (record { start = 0; length = 0 }) h.1 all)

chosen : (b : Bool) (t : ClauseTable) → Tells b (AllByRecursion (Proper t.literals.now) t.spans.now)
    → MatchOption (then_some b t) (AllByRecursion (Proper t.literals.now) t.spans.now → ⊥) (λ u. (u.literals.now ≡ t.literals.now) × (u.spans.now ≡ t.spans.now) × AllByRecursion Rising (runs t.literals.now t.spans.now))
chosen true t h = (refl, refl, proper_rising t.literals.now t.spans.now h)
chosen false t h = h

pub returns : goal.returns
returns c =
    let ps = c.args.spans.now in
    let P = Proper c.args.literals.now in
    let h = all_or_not P ps _ (cases_from_all _ _ _ P (λ p. P p → ⊥) c.all.ensures.ran (YieldsList-from_slice ps cc) (λ x q k. search rules) (λ x q k. search rules)) in
    rw c.then_some.ensures (chosen c.all.result _ h)
