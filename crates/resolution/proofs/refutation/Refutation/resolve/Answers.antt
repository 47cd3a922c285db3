use Rattle.std.proofs.Common.{◌≡◌, ℕ, ◌+◌, ◌-◌, ◌≤◌, leb, Bool, true, false, List, [], ◌∷◌, length, Ok, Err, sym, refl, ap, ◌∙◌, arith, rules}
use Rattle.std.proofs.lemmas.Option.{MatchOption-at_some}
use Rattle.std.proofs.ByRecursion.{All-get_or}
use Rattle.std.proofs.lemmas.Bool.{leb-true}
use Rattle.refusal.specs.declared.faults.RefutationFault.TheVariants.{NoClause, NoPivot, Full}
use Rattle.stack.specs.Pushes.{placed}
use Rattle.stack.specs.Runs.{part}
use Rattle.resolution.specs.Clauses.{denial, Rising}
use Rattle.resolution.specs.Lists.{numbered_clause}
use Rattle.resolution.specs.Resolvents.{resolvent, merge, without, ResolventsLaw}
use Rattle.stack.specs.declared.spans.Bounds.{Bounds}
use Rattle.resolution.specs.declared.merging.Merge.{Merge}
use Rattle.resolution.specs.Merging.{clash, rest, merged}
use Rattle.resolution.specs.States.{own, Implied}
use Rattle.resolution.proofs.Laws.{implied_resolvent, resolvent_has}
use Rattle.resolution.proofs.Rises.{rising_resolvent}
use Rattle.resolution.proofs.Owned.{length_own}
use Rattle.resolution.proofs.Ways.{resolves_left, resolves_right, resolves_no_pivot, resolves_place, resolves_room, resolves_done, place_free, refused, same, made, carried}
use Rattle.resolution.proofs.refutation.Refutation.resolve.Goals as goal

law : ResolventsLaw
law a b p = (resolvent_has a b p, rising_resolvent a b p)

-- what a merge writes is the resolvent
merged_is : (m : Merge) (ls x y : List ℕ) (a b : Bounds) (p : ℕ) → m ≡ record { left = a; right = b; pivot = p; against = denial p } → part ls a.start a.end ≡ x → part ls b.start b.end ≡ y → merged m ls ≡ resolvent x y p
unfolding rest
merged_is m ls x y a b p w h k = ap (λ n. merged n ls) w ∙ ap (λ z. merge (without p z) (without (denial p) (part ls b.start b.end))) h ∙ ap (λ z. merge (without p x) (without (denial p) z)) k

-- the pivot is where it has to be, or it is not
pivots : (ls x y : List ℕ) (a b : Bounds) (p : ℕ) (r : Bool) → part ls a.start a.end ≡ x → part ls b.start b.end ≡ y → clash (part ls a.start a.end) (part ls b.start b.end) p ≡ r → clash x y p ≡ r
pivots ls x y a b p r h k w = ap (λ z. clash x z p) (sym k) ∙ ap (λ z. clash z (part ls b.start b.end) p) (sym h) ∙ w

pub returns-in_err-a : goal.returns-in_err-a
returns-in_err-a c =
    let t = c.args.self.now in
    let ls = c.args.literals.now in
    let ps = c.args.spans.now in
    let e : c.from_residual.result ≡ Err NoClause = search rules in
    let m : length (own c.args.self.now c.args.literals.now c.args.spans.now) ≤ c.args.left = search rules in
    rw e (record {
      step = refused t ls ps _ NoClause (resolves_left (own t ls ps) c.args.left c.args.right c.args.pivot t.literals.used (length ls) t.spans.used (length ps) m);
      spent = refl;
      carries = λ list _. same list (own t ls ps);
      law = law;
    })

pub returns-in_err-b : goal.returns-in_err-b
returns-in_err-b c =
    let t = c.args.self.now in
    let ls = c.args.literals.now in
    let ps = c.args.spans.now in
    let e : c.from_residual-in_err-b.result ≡ Err NoClause = search rules in
    let m : length (own c.args.self.now c.args.literals.now c.args.spans.now) ≤ c.args.right = search rules in
    rw e (record {
      step = refused t ls ps _ NoClause (resolves_right (own t ls ps) c.args.left c.args.right c.args.pivot t.literals.used (length ls) t.spans.used (length ps) m);
      spent = refl;
      carries = λ list _. same list (own t ls ps);
      law = law;
    })

pub returns-in_err-merge : goal.returns-in_err-merge
returns-in_err-merge c =
    let t = c.args.self.now in
    let ls = c.args.literals.now in
    let ps = c.args.spans.now in
    let ds = own t ls ps in
    let a = MatchOption-at_some _ _ c.in_ok-a.a c.in_ok-a.ensures.ok_part c.clause.ensures in
    let b = MatchOption-at_some _ _ c.in_ok-b.b c.in_ok-b.ensures.ok_part c.clause-2.ensures in
    let e : c.from_residual-in_err-merge.result ≡ Err NoPivot = search rules in
    let n : clash (part c.args.literals.now c.in_ok-a.a.start c.in_ok-a.a.end) (part c.args.literals.now c.in_ok-b.b.start c.in_ok-b.b.end) c.args.pivot ≡ false = search rules in
    let x = pivots ls _ _ c.in_ok-a.a c.in_ok-b.b c.args.pivot false a.4 b.4 n in
    rw e (record {
      step = refused t ls ps _ NoPivot (resolves_no_pivot ds c.args.left c.args.right c.args.pivot t.literals.used (length ls) t.spans.used (length ps) a.0 b.0 x);
      spent = refl;
      carries = λ list _. same list ds;
      law = law;
    })

pub returns-then-not-has_place : goal.returns-then-not-has_place
returns-then-not-has_place c =
    let t = c.args.self.now in
    let ls = c.args.literals.now in
    let ps = c.args.spans.now in
    let ds = own t ls ps in
    let a = MatchOption-at_some _ _ c.in_ok-a.a c.in_ok-a.ensures.ok_part c.clause.ensures in
    let b = MatchOption-at_some _ _ c.in_ok-b.b c.in_ok-b.ensures.ok_part c.clause-2.ensures in
    let m = MatchOption-at_some _ _ c.in_ok-merge.merge c.in_ok-merge.ensures.ok_part c.new.ensures in
    let x = pivots ls _ _ c.in_ok-a.a c.in_ok-b.b c.args.pivot true a.4 b.4 m.0 in
    record {
      step = refused t ls ps _ Full (resolves_place ds c.args.left c.args.right c.args.pivot t.literals.used (length ls) t.spans.used (length ps) a.0 b.0 x (sym c.if-not-has_place.ensures));
      spent = refl;
      carries = λ list _. same list ds;
      law = law;
    }

pub returns-then-not-fits : goal.returns-then-not-fits
returns-then-not-fits c =
    let t = c.args.self.now in
    let ls = c.args.literals.now in
    let ps = c.args.spans.now in
    let ds = own t ls ps in
    let a = MatchOption-at_some _ _ c.in_ok-a.a c.in_ok-a.ensures.ok_part c.clause.ensures in
    let b = MatchOption-at_some _ _ c.in_ok-b.b c.in_ok-b.ensures.ok_part c.clause-2.ensures in
    let m = MatchOption-at_some _ _ c.in_ok-merge.merge c.in_ok-merge.ensures.ok_part c.new.ensures in
    let x = pivots ls _ _ c.in_ok-a.a c.in_ok-b.b c.args.pivot true a.4 b.4 m.0 in
    let q = merged_is c.in_ok-merge.merge ls _ _ c.in_ok-a.a c.in_ok-b.b c.args.pivot m.1 a.4 b.4 in
    let r = ap (λ z. leb (t.literals.used + length z) (length ls)) (sym q) ∙ sym c.if-not-fits.ensures in
    record {
      step = refused t ls ps _ Full (resolves_room ds c.args.left c.args.right c.args.pivot t.literals.used (length ls) t.spans.used (length ps) a.0 b.0 x r);
      spent = refl;
      carries = λ list _. same list ds;
      law = law;
    }

pub note-requires : goal.note-requires
note-requires c =
    let e = c.write-self.ensures.end in
    let r = leb-true _ _ (sym c.if-not-fits.ensures) in
    let p = place_free (length c.args.literals.now) (length c.args.spans.now) c.args.self.now.spans.used (sym c.if-not-has_place.ensures) in
    record { order = omega arith; small = omega arith; free = p.1 }

pub returns : goal.returns
returns c =
    let t = c.args.self.now in
    let ls = c.args.literals.now in
    let ps = c.args.spans.now in
    let ds = own t ls ps in
    let a = MatchOption-at_some _ _ c.in_ok-a.a c.in_ok-a.ensures.ok_part c.clause.ensures in
    let b = MatchOption-at_some _ _ c.in_ok-b.b c.in_ok-b.ensures.ok_part c.clause-2.ensures in
    let m = MatchOption-at_some _ _ c.in_ok-merge.merge c.in_ok-merge.ensures.ok_part c.new.ensures in
    let x = pivots ls _ _ c.in_ok-a.a c.in_ok-b.b c.args.pivot true a.4 b.4 m.0 in
    let q = merged_is c.in_ok-merge.merge ls _ _ c.in_ok-a.a c.in_ok-b.b c.args.pivot m.1 a.4 b.4 in
    let r = ap (λ z. leb (t.literals.used + length z) (length ls)) (sym q) ∙ sym c.if-not-fits.ensures in
    let cl = resolvent (numbered_clause ds c.args.left) (numbered_clause ds c.args.right) c.args.pivot in
    let f = sym c.if-not-has_place.ensures in
    let p = place_free (length c.args.literals.now) (length c.args.spans.now) c.args.self.now.spans.used f in
    let l = length_own t.literals.used t.first t.spans.used ls ps in
    let h = leb-true (t.literals.used + length cl) (length ls) r in
    let e = c.write-self.ensures.end ∙ ap (λ z. t.literals.used + length z) q in
    let z : c.write-self.result - c.args.self.now.literals.used ≡ length (resolvent (numbered_clause (own c.args.self.now c.args.literals.now c.args.spans.now) c.args.left) (numbered_clause (own c.args.self.now c.args.literals.now c.args.spans.now) c.args.right) c.args.pivot) = omega arith in
    let n : c.note.result ≡ length (own c.args.self.now c.args.literals.now c.args.spans.now) = omega arith in
    let eu = c.note.ensures.refutation ∙ ap (λ k. record { floor = t.floor; first = t.first; literals = record { used = k }; spans = record { used = t.spans.used + 1 }; spent = t.spent }) e in
    let em = c.write-self.ensures.after ∙ ap (λ z. placed t.literals.used z ls) q in
    let eq = c.note.ensures.spans ∙ ap (λ k. placed t.spans.used (record { start = t.literals.used; length = k } ∷ []) ps) z in
    let w = resolves_done ds c.args.left c.args.right c.args.pivot t.literals.used (length ls) t.spans.used (length ps) a.0 b.0 x f r in
    record {
      step = made t c.note.new.self ls c.write-self.new.literals ps c.note.new.spans cl eu em eq h p.1 _ _ w (ap Ok n);
      spent = ap (λ u. u.spent) eu;
      carries = λ list. carried t c.note.new.self ls c.write-self.new.literals ps c.note.new.spans cl eu em eq h p.1 list
          (λ s. implied_resolvent list (numbered_clause ds c.args.left) (numbered_clause ds c.args.right) c.args.pivot (All-get_or (Implied list) ds c.args.left [] a.0 s) (All-get_or (Implied list) ds c.args.right [] b.0 s))
          (λ _ s. rising_resolvent (numbered_clause ds c.args.left) (numbered_clause ds c.args.right) c.args.pivot (All-get_or Rising ds c.args.left [] a.0 s) (All-get_or Rising ds c.args.right [] b.0 s));
      law = law;
    }
