use Rattle.std.proofs.Common.{◌≡◌, ℕ, ◌<◌, List, ◌++◌, Some, None, Option, Err, vec_items, sym, ap, ◌∙◌, subst, arith, rules}
use Rattle.std.specs.List.{AllByRecursion}
use Rattle.certificate.specs.declared.record.Record.{Record}
use Rattle.certificate.specs.Records.{encode, Taken}
use Rattle.certificate.proofs.Codes.{longer}
use Rattle.resolution.specs.Clauses.{Rising}
use Rattle.refutation_files.specs.declared.unproved.Unproved.TheVariants.{NotAClauseList}
use Rattle.refutation_files.proofs.OneClause.{begun_none, begun_more, clause_slice, read_fallen, read_ended, read_none, read_other}
use Rattle.refutation_files.proofs.Ordering.{above_all, not_above}
use Rattle.refutation_files.proofs.clauses.read_clause.Goals as goal

pub loop-record-init : goal.loop-record-init
loop-record-init c = (search rules, begun_none c.args.cursor.now.rest.now (vec_items c.args.literals.now))

-- the record that is taken stands at the front
front : {r : Record} {o : Option Record} (before after : List ℕ) → o ≡ Some r → Taken before after o → before ≡ encode r ++ after
front before after e t = (subst (Taken before after) e t).0

pub returns-in_err-record : goal.returns-in_err-record
returns-in_err-record c =
    let e : c.from_residual.result ≡ Err NotAClauseList = search rules in
    let n : c.next.result ≡ None = search rules in
    rw e (read_none _ _ _ _ c.loop-record.invariant.1 _ (subst (Taken c.loop-record.cursor.rest.now c.next.new.self.rest.now) n c.next.ensures.exact))

pub returns-then-not-is_above : goal.returns-then-not-is_above
returns-then-not-is_above c =
    let l = c.in-Literal.literal in
    let is = front _ _ c.in_ok-record.ensures.ok_part c.next.ensures.exact ∙ ap (λ (r : Record). encode r ++ c.next.new.self.rest.now) c.in-Literal.is in
    let same = clause_slice _ _ _ _ c.loop-record.invariant.1 c.as_slice.result.now c.len-start.result c.as_slice.ensures.value (search rules) in
    read_fallen _ _ _ _ c.loop-record.invariant.1 l _ is (subst (λ (x : List ℕ). AllByRecursion (λ y. y < l) x → ⊥) same (not_above _ l (sym c.if-not-is_above.ensures)))

pub returns-in-ClauseEnd : goal.returns-in-ClauseEnd
returns-in-ClauseEnd c =
    read_ended _ _ _ _ c.loop-record.invariant.1 _ (front _ _ c.in_ok-record.ensures.ok_part c.next.ensures.exact ∙ ap (λ (r : Record). encode r ++ c.next.new.self.rest.now) c.in-ClauseEnd.is)

pub returns-in_default : goal.returns-in_default
returns-in_default c =
    read_other _ _ _ _ c.loop-record.invariant.1 c.in_ok-record.record _ (front _ _ c.in_ok-record.ensures.ok_part c.next.ensures.exact) c.in_default.not-Literal c.in_default.not-ClauseEnd

pub loop-record-preserved : goal.loop-record-preserved
loop-record-preserved c =
    let l = c.in-Literal.literal in
    let is = front _ _ c.in_ok-record.ensures.ok_part c.next.ensures.exact ∙ ap (λ (r : Record). encode r ++ c.next.new.self.rest.now) c.in-Literal.is in
    let same = clause_slice _ _ _ _ c.loop-record.invariant.1 c.as_slice.result.now c.len-start.result c.as_slice.ensures.value (search rules) in (
      omega (arith, c.push.ensures.lower_bound, c.loop-record.invariant.0),
      begun_more _ _ _ _ c.loop-record.invariant.1 l _ is (vec_items c.push.new.self) (search rules)
          (subst (AllByRecursion (λ y. y < l)) same (above_all _ l (subst Rising (sym same) c.loop-record.invariant.1.rising) (sym c.if-not-is_above.ensures))),
    )

pub loop-record-smaller : goal.loop-record-smaller
loop-record-smaller c = longer c.in_ok-record.record _ _ (front _ _ c.in_ok-record.ensures.ok_part c.next.ensures.exact)
