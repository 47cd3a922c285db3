-- Which way a step goes, and what comes of it.
use Rattle.std.proofs.Common.{◌≡◌, ℕ, ◌+◌, ◌-◌, ◌<◌, ◌≤◌, true, false, cond, ◌&&◌, ltb, leb, List, [], ◌∷◌, ◌++◌, length, Ok, Err, Result, sym, refl, ap, ◌∙◌, subst, arith}
use Rattle.std.specs.List.{AllByRecursion}
use Rattle.std.proofs.ByRecursion.{All-push, All-get_or}
use Rattle.std.proofs.lemmas.Bool.{lt-ltb, le-ltb, le-leb, lt-leb, leb-true, ltb-true, cond-true, cond-false, and_from, and_left, and_right, and_parts, eq-eqb, ne_eqb}
use Rattle.std.proofs.lemmas.List.{nil_from_length}
use Rattle.refusal.specs.declared.faults.RefutationFault.{RefutationFault}
use Rattle.refusal.specs.declared.faults.RefutationFault.TheVariants.{NoClause, NoPivot, Full, NotRefuted}
use Rattle.stack.specs.declared.spans.Span.{Span}
use Rattle.resolution.specs.declared.refutation.Refutation.{Refutation}
use Rattle.resolution.specs.Clauses.{denial, Rising, Unsat}
use Rattle.resolution.specs.Lists.{numbered_clause}
use Rattle.resolution.specs.Resolvents.{resolvent, contains}
use Rattle.resolution.specs.Outcomes.{admitted, fits, takes, resolves, numbered, added, ends}
use Rattle.resolution.specs.States.{own, ended, grown, written, noted, Standing, Implied, Follows, GoesOn, Steps, Carries}
use Rattle.resolution.proofs.Laws.{empty_unsat}
use Rattle.resolution.proofs.Owned.{grows}

-- lengths of admitted areas
pub admits_literals : (literals spans : ℕ) → admitted literals spans ≡ true → literals ≤ 1048576
unfolding admitted
admits_literals literals spans h = leb-true literals 1048576 (and_parts (leb literals 1048576) (leb spans 65536) h).0

pub place_free : (literals spans made : ℕ) → (admitted literals spans && ltb made spans) ≡ true → (literals ≤ 1048576) × (made < spans)
place_free literals spans made h =
    let p = and_parts (admitted literals spans) (ltb made spans) h in
    (admits_literals literals spans p.0, ltb-true made spans p.1)

module _ (c : List ℕ) (used literals made spans : ℕ) where
  fits_yes : (admitted literals spans && ltb made spans) ≡ true → leb (used + length c) literals ≡ true → fits c used literals made spans ≡ Ok c
  unfolding fits
  fits_yes h k = cond-true _ (Ok c) (Err Full) (and_from _ _ h k)

  fits_place : (admitted literals spans && ltb made spans) ≡ false → fits c used literals made spans ≡ Err Full
  unfolding fits
  fits_place h = cond-false _ (Ok c) (Err Full) (and_left _ _ h)

  fits_room : leb (used + length c) literals ≡ false → fits c used literals made spans ≡ Err Full
  unfolding fits
  fits_room h = cond-false _ (Ok c) (Err Full) (and_right _ _ h)

module _ (list : List (List ℕ)) (n used literals made spans : ℕ) where
  pub takes_missing : length list ≤ n → takes list n used literals made spans ≡ Err NoClause
  unfolding takes
  takes_missing h = cond-false (ltb n (length list)) (fits (numbered_clause list n) used literals made spans) (Err NoClause) (le-ltb n (length list) h)

  module _ (h : n < length list) where
    takes_is : takes list n used literals made spans ≡ fits (numbered_clause list n) used literals made spans
    unfolding takes
    takes_is = cond-true (ltb n (length list)) (fits (numbered_clause list n) used literals made spans) (Err NoClause) (lt-ltb n (length list) h)

    pub takes_place : (admitted literals spans && ltb made spans) ≡ false → takes list n used literals made spans ≡ Err Full
    takes_place k = takes_is ∙ fits_place (numbered_clause list n) used literals made spans k

    pub takes_room : literals < used + length (numbered_clause list n) → takes list n used literals made spans ≡ Err Full
    takes_room k = takes_is ∙ fits_room (numbered_clause list n) used literals made spans (lt-leb _ _ k)

    pub takes_done : (admitted literals spans && ltb made spans) ≡ true → used + length (numbered_clause list n) ≤ literals → takes list n used literals made spans ≡ Ok (numbered_clause list n)
    takes_done k l = takes_is ∙ fits_yes (numbered_clause list n) used literals made spans k (le-leb _ _ l)

module _ (ds : List (List ℕ)) (i j p used literals made spans : ℕ) where
  pub resolves_left : length ds ≤ i → resolves ds i j p used literals made spans ≡ Err NoClause
  unfolding resolves
  resolves_left h = cond-false (ltb i (length ds) && ltb j (length ds)) _ _ (and_left _ _ (le-ltb i (length ds) h))

  pub resolves_right : length ds ≤ j → resolves ds i j p used literals made spans ≡ Err NoClause
  unfolding resolves
  resolves_right h = cond-false (ltb i (length ds) && ltb j (length ds)) _ _ (and_right _ _ (le-ltb j (length ds) h))

  module _ (h : i < length ds) (k : j < length ds) where
    resolves_in : resolves ds i j p used literals made spans ≡ cond (contains p (numbered_clause ds i) && contains (denial p) (numbered_clause ds j)) (fits (resolvent (numbered_clause ds i) (numbered_clause ds j) p) used literals made spans) (Err NoPivot)
    unfolding resolves
    resolves_in = cond-true (ltb i (length ds) && ltb j (length ds)) _ _ (and_from _ _ (lt-ltb i (length ds) h) (lt-ltb j (length ds) k))

    pub resolves_no_pivot : (contains p (numbered_clause ds i) && contains (denial p) (numbered_clause ds j)) ≡ false → resolves ds i j p used literals made spans ≡ Err NoPivot
    resolves_no_pivot x = resolves_in ∙ cond-false (contains p (numbered_clause ds i) && contains (denial p) (numbered_clause ds j)) _ _ x

    module _ (x : (contains p (numbered_clause ds i) && contains (denial p) (numbered_clause ds j)) ≡ true) where
      resolves_is : resolves ds i j p used literals made spans ≡ fits (resolvent (numbered_clause ds i) (numbered_clause ds j) p) used literals made spans
      resolves_is = resolves_in ∙ cond-true (contains p (numbered_clause ds i) && contains (denial p) (numbered_clause ds j)) _ _ x

      pub resolves_place : (admitted literals spans && ltb made spans) ≡ false → resolves ds i j p used literals made spans ≡ Err Full
      resolves_place z = resolves_is ∙ fits_place (resolvent (numbered_clause ds i) (numbered_clause ds j) p) used literals made spans z

      pub resolves_room : leb (used + length (resolvent (numbered_clause ds i) (numbered_clause ds j) p)) literals ≡ false → resolves ds i j p used literals made spans ≡ Err Full
      resolves_room z = resolves_is ∙ fits_room (resolvent (numbered_clause ds i) (numbered_clause ds j) p) used literals made spans z

      pub resolves_done : (admitted literals spans && ltb made spans) ≡ true → leb (used + length (resolvent (numbered_clause ds i) (numbered_clause ds j) p)) literals ≡ true → resolves ds i j p used literals made spans ≡ Ok (resolvent (numbered_clause ds i) (numbered_clause ds j) p)
      resolves_done z w = resolves_is ∙ fits_yes (resolvent (numbered_clause ds i) (numbered_clause ds j) p) used literals made spans z w

-- a step that is refused
module _ (t : Refutation) (ls : List ℕ) (ps : List Span) (o : Result (List ℕ) RefutationFault) (e : RefutationFault) (w : o ≡ Err e) where
  pub refused : Steps t t ls ls ps ps o (Err e)
  refused =
      record {
        answer = ap (numbered (own t ls ps)) (sym w);
        refutation = ap (grown t) (sym w);
        literals = ap (written t ls) (sym w);
        spans = ap (noted t ps) (sym w);
        goes_on = λ s. record { stands = s; clauses = ap (added (own t ls ps)) (sym w); kept = record { literals = refl; spans = refl } };
      }

  -- as it was
  pub refused_as : (u : Refutation) (ms : List ℕ) → u ≡ t → ms ≡ ls → Steps t u ls ms ps ps o (Err e)
  refused_as u ms eu em = subst (λ z. Steps t u ls z ps ps o (Err e)) (sym em) (subst (λ z. Steps t z ls ls ps ps o (Err e)) (sym eu) refused)

pub same : (list ds : List (List ℕ)) → Carries list ds ds
same list ds = record { follows = λ h. h; rises = λ _ h. h }

pub same_as : (list : List (List ℕ)) (t u : Refutation) (ls ms : List ℕ) (ps : List Span) → u ≡ t → ms ≡ ls → Carries list (own t ls ps) (own u ms ps)
same_as list t u ls ms ps eu em = subst (λ z. Carries list (own t ls ps) (own u z ps)) (sym em) (subst (λ z. Carries list (own t ls ps) (own z ls ps)) (sym eu) (same list (own t ls ps)))

-- a step that makes the clause c
module _ (t u : Refutation) (ls ms : List ℕ) (ps qs : List Span) (c : List ℕ)
    (eu : u ≡ grown t (Ok c)) (em : ms ≡ written t ls (Ok c)) (eq : qs ≡ noted t ps (Ok c))
    (h : t.literals.used + length c ≤ length ls) (k : t.spans.used < length ps) where
  makes : Standing t ls ps → GoesOn t u ls ms ps qs (own t ls ps ++ c ∷ [])
  makes s =
      subst (λ z. GoesOn t u ls ms ps z (own t ls ps ++ c ∷ [])) (sym eq)
      (subst (λ z. GoesOn t u ls z ps (noted t ps (Ok c)) (own t ls ps ++ c ∷ [])) (sym em)
      (subst (λ z. GoesOn t z ls (written t ls (Ok c)) ps (noted t ps (Ok c)) (own t ls ps ++ c ∷ [])) (sym eu) (grows t ls ps c s h k)))

  pub made : (o : Result (List ℕ) RefutationFault) (r : Result ℕ RefutationFault) → o ≡ Ok c → r ≡ Ok (length (own t ls ps)) → Steps t u ls ms ps qs o r
  made o r w er =
      record {
        answer = er ∙ ap (numbered (own t ls ps)) (sym w);
        refutation = eu ∙ ap (grown t) (sym w);
        literals = em ∙ ap (written t ls) (sym w);
        spans = eq ∙ ap (noted t ps) (sym w);
        goes_on = λ s. subst (GoesOn t u ls ms ps qs) (ap (added (own t ls ps)) (sym w)) (makes s);
      }

  pub carried : (list : List (List ℕ)) → (Follows list (own t ls ps) → Implied list c) → (AllByRecursion Rising list → AllByRecursion Rising (own t ls ps) → Rising c) → Standing t ls ps → Carries list (own t ls ps) (own u ms qs)
  carried list f g s =
      record {
        follows = λ a. subst (Follows list) (sym (makes s).clauses) (All-push (Implied list) (own t ls ps) c a (f a));
        rises = λ a b. subst (AllByRecursion Rising) (sym (makes s).clauses) (All-push Rising (own t ls ps) c b (g a b));
      }

-- the end of a refutation
module _ (ds : List (List ℕ)) where
  pub ended_none : length ds ≡ 0 → Err NotRefuted ≡ ended ds
  unfolding ends
  ended_none h = sym (cond-false (ends ds) (Ok (record { clauses = length ds })) (Err NotRefuted) (and_left _ _ (le-ltb 0 (length ds) (omega arith))))

  pub ended_not : 0 < length (numbered_clause ds (length ds - 1)) → Err NotRefuted ≡ ended ds
  unfolding ends
  ended_not h = sym (cond-false (ends ds) (Ok (record { clauses = length ds })) (Err NotRefuted) (and_right _ _ (ne_eqb (length (numbered_clause ds (length ds - 1))) 0 (λ e. omega arith))))

  pub ended_yes : 0 < length ds → length (numbered_clause ds (length ds - 1)) ≡ 0 → Ok (record { clauses = length ds }) ≡ ended ds
  unfolding ends
  ended_yes h k = sym (cond-true (ends ds) (Ok (record { clauses = length ds })) (Err NotRefuted) (and_from _ _ (lt-ltb 0 (length ds) h) (eq-eqb (length (numbered_clause ds (length ds - 1))) 0 k)))

  pub refutes : (list : List (List ℕ)) → 0 < length ds → length (numbered_clause ds (length ds - 1)) ≡ 0 → Follows list ds → Unsat list
  refutes list h k f = empty_unsat list (subst (Implied list) (nil_from_length _ k) (All-get_or (Implied list) ds (length ds - 1) [] (omega arith) f))
