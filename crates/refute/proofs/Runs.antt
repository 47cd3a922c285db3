-- A list of steps under way.
use Rattle.std.proofs.Common.{◌≡◌, ℕ, ◌+◌, ◌<◌, ◌≤◌, true, false, List, [], ◌∷◌, ◌++◌, length, get_or, take, drop, IfOk, Ok, Err, Result, sym, refl, ap, ◌∙◌, subst, arith}
use Rattle.std.proofs.lemmas.List.{at_drop_more, at_drop_all}
use Rattle.std.proofs.lemmas.Bool.{cond-false}
use Rattle.refusal.specs.declared.faults.RefutationFault.{RefutationFault}
use Rattle.refusal.specs.declared.faults.RefutationFault.TheVariants.{NoClause}
use Rattle.stack.specs.declared.spans.Span.{Span}
use Rattle.resolution.specs.declared.refutation.Refutation.{Refutation}
use Rattle.resolution.specs.declared.refutation.Refuted.{Refuted}
use Rattle.resolution.specs.Outcomes.{admitted, takes, resolves, numbered, added, granted}
use Rattle.resolution.specs.States.{own, grown, fresh, closed, ended, entries, Standing, Follows, Steps, Carries}
use Rattle.resolution.proofs.Owned.{length_own, fresh_stands}
use Rattle.refute.specs.declared.steps.Step.{Step}
use Rattle.refute.specs.declared.steps.Step.TheVariants.{Take, Resolve}
use Rattle.refute.specs.Verdicts.{stepped, attempted, next, ran, concluded}

-- i steps are taken, and the others come to what all came to
pub record Running (list : List (List ℕ)) (literals spans : ℕ) (steps : List Step) (i : ℕ) (t : Refutation) (ls : List ℕ) (ps : List Span) : Type 0 where
  pub floor : t.floor ≡ 0
  pub first : t.first ≡ 0
  pub literals_long : length ls ≡ literals
  pub spans_long : length ps ≡ spans
  pub stands : Standing t ls ps
  pub follows : Follows list (own t ls ps)
  pub rest : ran list literals spans (drop i steps) (own t ls ps) ≡ ran list literals spans steps []

-- a list that reads nothing of the areas has the same clauses in all
pub still : {X Y Z : Type 0} (cl : List X → List Y → Z) (m n : ℕ)
    → ((ls ms : List X) (ps qs : List Y) → take m ms ≡ take m ls → take n qs ≡ take n ps → cl ms qs ≡ cl ls ps)
    → m ≡ 0 → n ≡ 0 → (ls ms : List X) (ps qs : List Y) → cl ms qs ≡ cl ls ps
still cl m n h a b ls ms ps qs =
    h ls ms ps qs (ap (λ k. take k ms) a ∙ ap (λ k. take k ls) (sym a)) (ap (λ k. take k qs) b ∙ ap (λ k. take k ps) (sym b))

module _ (t : Refutation) (ls : List ℕ) (ps : List Span) (f : t.floor ≡ 0) (a : t.first ≡ 0) (s : Standing t ls ps) where
  used_is : t.literals.used ≡ entries (own t ls ps)
  used_is = let u = s.used in omega arith

  made_is : t.spans.used ≡ length (own t ls ps)
  made_is = let l = length_own t.literals.used t.first t.spans.used ls ps in let k = s.spans in omega arith

  -- what a step gives, by the clauses alone
  attempt_is : (list : List (List ℕ)) (step : Step) → stepped t list step ls ps ≡ attempted list (length ls) (length ps) (own t ls ps) step
  attempt_is list (Take n) =
      cond-false t.spent (Err NoClause) (takes list n t.literals.used (length ls) t.spans.used (length ps)) s.open_yet
      ∙ ap (λ k. takes list n k (length ls) t.spans.used (length ps)) used_is
      ∙ ap (λ k. takes list n (entries (own t ls ps)) (length ls) k (length ps)) made_is
  attempt_is list (Resolve l r p) =
      ap (λ k. resolves (own t ls ps) l r p k (length ls) t.spans.used (length ps)) used_is
      ∙ ap (λ k. resolves (own t ls ps) l r p (entries (own t ls ps)) (length ls) k (length ps)) made_is

grown_floor : (t : Refutation) (o : Result (List ℕ) RefutationFault) → (grown t o).floor ≡ t.floor
grown_floor t (Ok c) = refl
grown_floor t (Err e) = refl

grown_first : (t : Refutation) (o : Result (List ℕ) RefutationFault) → (grown t o).first ≡ t.first
grown_first t (Ok c) = refl
grown_first t (Err e) = refl

next_ok : {X : Type 0} (own : List (List ℕ)) (o : Result (List ℕ) RefutationFault) (k : ℕ) (K : List (List ℕ) → Result X RefutationFault) → Ok k ≡ numbered own o → next o (λ c. K (own ++ c ∷ [])) ≡ K (added own o)
next_ok own (Ok c) k K h = refl
next_ok own (Err e) k K h = let z : ◌≡◌ {A = ℕ} 0 1 = cc in absurd (omega arith)

next_err : {X : Type 0} (own : List (List ℕ)) (o : Result (List ℕ) RefutationFault) (e : RefutationFault) (K : List ℕ → Result X RefutationFault) → Err e ≡ numbered own o → next o K ≡ Err e
next_err own (Ok c) e K h = let z : ◌≡◌ {A = ℕ} 0 1 = cc in absurd (omega arith)
next_err own (Err d) e K h = let z : d ≡ e = cc in ap Err z

module _ (list now : List (List ℕ)) (literals spans : ℕ) (steps : List Step) (i : ℕ) (d : Step) (t u : Refutation) (ls ms : List ℕ) (ps qs : List Span)
    (same : now ≡ list) (g : Running list literals spans steps i t ls ps) (h : i < length steps) where
  unfold_rest : ran list literals spans steps [] ≡ next (stepped t now (get_or steps i d) ls ps) (λ c. ran list literals spans (drop (i + 1) steps) (own t ls ps ++ c ∷ []))
  unfold_rest =
      sym g.rest ∙ at_drop_more (λ z. ran list literals spans z (own t ls ps)) steps i d h
      ∙ ap (λ o. next o (λ c. ran list literals spans (drop (i + 1) steps) (own t ls ps ++ c ∷ [])))
      (ap (λ k. attempted list k spans (own t ls ps) (get_or steps i d)) (sym g.literals_long)
      ∙ ap (λ k. attempted list (length ls) k (own t ls ps) (get_or steps i d)) (sym g.spans_long)
      ∙ sym (attempt_is t ls ps g.floor g.first g.stands list (get_or steps i d))
      ∙ ap (λ z. stepped t z (get_or steps i d) ls ps) (sym same))

  pub goes : (k : ℕ) → Steps t u ls ms ps qs (stepped t now (get_or steps i d) ls ps) (Ok k) → (Standing t ls ps → Carries now (own t ls ps) (own u ms qs)) → length ms ≡ length ls → length qs ≡ length ps → Running list literals spans steps (i + 1) u ms qs
  goes k s c lm lq =
      let o = stepped t now (get_or steps i d) ls ps in
      let n = s.goes_on g.stands in
      record {
        floor = ap (λ z. z.floor) s.refutation ∙ grown_floor t o ∙ g.floor;
        first = ap (λ z. z.first) s.refutation ∙ grown_first t o ∙ g.first;
        literals_long = lm ∙ g.literals_long;
        spans_long = lq ∙ g.spans_long;
        stands = n.stands;
        follows = subst (λ z. Follows z (own u ms qs)) same ((c g.stands).follows (subst (λ z. Follows z (own t ls ps)) (sym same) g.follows));
        rest = ap (ran list literals spans (drop (i + 1) steps)) n.clauses
            ∙ sym (next_ok (own t ls ps) o k (ran list literals spans (drop (i + 1) steps)) s.answer) ∙ sym unfold_rest;
      }

  pub stops : (e : RefutationFault) → Steps t u ls ms ps qs (stepped t now (get_or steps i d) ls ps) (Err e) → Err e ≡ concluded (ran list literals spans steps [])
  stops e s = sym (ap concluded (unfold_rest ∙ next_err (own t ls ps) (stepped t now (get_or steps i d) ls ps) e _ s.answer))

-- all steps are taken
pub all_taken : (list : List (List ℕ)) (literals spans : ℕ) (steps : List Step) (i : ℕ) (t : Refutation) (ls : List ℕ) (ps : List Span) → Running list literals spans steps i t ls ps → length steps ≤ i → Ok (own t ls ps) ≡ ran list literals spans steps []
all_taken list literals spans steps i t ls ps g h = sym (at_drop_all (λ z. ran list literals spans z (own t ls ps)) steps i h) ∙ g.rest

-- before the first step
pub begins : (list : List (List ℕ)) (steps : List Step) (t : Refutation) (ls : List ℕ) (ps : List Span) → t ≡ fresh 0 0 → admitted (length ls) (length ps) ≡ true → Running list (length ls) (length ps) steps 0 t ls ps
begins list steps t ls ps e h =
    let f = fresh_stands 0 0 ls ps (omega arith) (omega arith) h in
    subst (λ z. Running list (length ls) (length ps) steps 0 z ls ps) (sym e)
    (record {
      floor = refl;
      first = refl;
      literals_long = refl;
      spans_long = refl;
      stands = f.0;
      follows = subst (Follows list) (sym f.1) tt;
      rest = ap (ran list (length ls) (length ps) steps) f.1;
    })

-- what the finish leaves
pub spent_is : {X E : Type 0} (r : Result X E) (t u : Refutation) → t.spent ≡ false → u ≡ granted r (closed t) t → u.spent ≡ granted r true false
spent_is (Ok x) t u h e = ap (λ z. z.spent) e
spent_is (Err d) t u h e = ap (λ z. z.spent) e ∙ h

pub zero_is : {X E Y Z : Type 0} (r : Result X E) (ms zs zs' ls : Y) (qs ws ws' ps : Z) → ms ≡ granted r zs ls → qs ≡ granted r ws ps → zs ≡ zs' → ws ≡ ws' → IfOk r (λ _. (ms ≡ zs') × (qs ≡ ws'))
zero_is (Ok x) ms zs zs' ls qs ws ws' ps a b c d = (a ∙ c, b ∙ d)
zero_is (Err e) ms zs zs' ls qs ws ws' ps a b c d = tt

pub answer_is : (r : Result Refuted RefutationFault) (ds : List (List ℕ)) (o : Result (List (List ℕ)) RefutationFault) → r ≡ ended ds → Ok ds ≡ o → r ≡ concluded o
answer_is r ds o h e = h ∙ ap concluded e
