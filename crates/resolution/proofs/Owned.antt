-- The clauses of a refutation, by the spans of the areas.
use Rattle.std.proofs.Common.{◌≡◌, ℕ, ◌+◌, ◌-◌, ◌<◌, ◌≤◌, min, true, List, [], ◌∷◌, ◌++◌, length, get_or, take, drop, set, Ok, sym, refl, ap, ◌∙◌, subst, arith}
use Rattle.std.specs.List.{AllByRecursion}
use Rattle.std.proofs.ByRecursion.{All-weaker, All-push}
use Rattle.std.proofs.lemmas.List.{length-drop, length-take, length-map, get_or-map, get_or-take, get_or-drop, take_all, take-take, take_at, drop_at, drop-take, drop-set-add, take_more_set, map_push}
use Rattle.stack.specs.declared.spans.Span.{Span}
use Rattle.stack.specs.Pushes.{placed}
use Rattle.stack.specs.Runs.{run, runs}
use Rattle.stack.proofs.Places.{placed_one, length_placed, take_placed, below_placed}
use Rattle.resolution.specs.Lists.{numbered_clause}
use Rattle.resolution.specs.declared.refutation.Refutation.{Refutation}
use Rattle.resolution.specs.Outcomes.{admitted}
use Rattle.resolution.specs.States.{own_of, own, grown, written, noted, fresh, entries, Standing, GoesOn}

module _ (n a m : ℕ) (ls : List ℕ) (ps : List Span) where
  pub length_own : length (own_of n a m ls ps) ≡ min (m - a) (length ps - a)
  unfolding own_of
  length_own = simp (length-map, length-take, length-drop)

  pub own_at : (i : ℕ) (d : Span) → i < m - a → i < length ps - a → numbered_clause (own_of n a m ls ps) i ≡ run (take n ls) (get_or ps (a + i) d)
  unfolding own_of
  own_at i d h k =
      let l : i < length (take (m - a) (drop a ps)) = simp (length-take, length-drop) (omega arith) in
      get_or-map (run (take n ls)) (take (m - a) (drop a ps)) i d [] l ∙ ap (run (take n ls)) (get_or-take (m - a) (drop a ps) i d h ∙ get_or-drop a ps i d)

-- one span more
part_push : (ps : List Span) (a m : ℕ) (x : Span) → a ≤ m → m < length ps → take (m + 1 - a) (drop a (placed m (x ∷ []) ps)) ≡ take (m - a) (drop a ps) ++ x ∷ []
part_push ps a m x h k =
    let q : m + 1 - a ≡ (m - a) + 1 = omega arith in
    let r : m ≡ a + (m - a) = omega arith in
    let l : m - a < length (drop a ps) = simp length-drop (omega arith) in
    ap (λ z. take (m + 1 - a) (drop a z)) (sym (placed_one ps m x k))
    ∙ ap (λ n. take n (drop a (set ps m x))) q
    ∙ ap (λ i. take (m - a + 1) (drop a (set ps i x))) r
    ∙ ap (take (m - a + 1)) (drop-set-add a ps (m - a) x)
    ∙ take_more_set (drop a ps) (m - a) x l

run_kept : (n : ℕ) (ls ms : List ℕ) (p : Span) → take n ms ≡ take n ls → p.start + p.length ≤ n → run ms p ≡ run ls p
run_kept n ls ms p e h =
    sym (drop-take p.start p.length ms)
    ∙ ap (drop p.start) (sym (take-take (p.start + p.length) n ms h) ∙ ap (take (p.start + p.length)) e ∙ take-take (p.start + p.length) n ls h)
    ∙ drop-take p.start p.length ls

runs_kept : (n : ℕ) (ls ms : List ℕ) → take n ms ≡ take n ls → (ps : List Span) → AllByRecursion (λ p. p.start + p.length ≤ n) ps → runs ms ps ≡ runs ls ps
runs_kept n ls ms e [] h = refl
runs_kept n ls ms e (p ∷ ps) h = ap (λ c. c ∷ runs ms ps) (run_kept n ls ms p e h.0) ∙ ap (λ cs. run ls p ∷ cs) (runs_kept n ls ms e ps h.1)

run_new : (n : ℕ) (ls c : List ℕ) → n ≤ length ls → run (take n ls ++ c) (record { start = n; length = length c }) ≡ c
run_new n ls c h = ap (take (length c)) (drop_at (take n ls) c n (simp length-take (omega arith))) ∙ take_all (length c) c (omega arith)

own_push : (n a m : ℕ) (ls c : List ℕ) (ps : List Span) → n + length c ≤ length ls → a ≤ m → m < length ps → AllByRecursion (λ p. p.start + p.length ≤ n) (take (m - a) (drop a ps))
    → own_of (n + length c) a (m + 1) (placed n c ls) (placed m (record { start = n; length = length c } ∷ []) ps) ≡ own_of n a m ls ps ++ c ∷ []
unfolding own_of
own_push n a m ls c ps h k l e =
    let below : take n (take n ls ++ c) ≡ take n (take n ls) = take_at (take n ls) c n (simp length-take (omega arith)) ∙ sym (take-take n n ls (omega arith)) in
    ap (λ z. runs z (take (m + 1 - a) (drop a (placed m (record { start = n; length = length c } ∷ []) ps)))) (take_placed ls n c h)
    ∙ ap (runs (take n ls ++ c)) (part_push ps a m (record { start = n; length = length c }) k l)
    ∙ map_push (run (take n ls ++ c)) (take (m - a) (drop a ps)) (record { start = n; length = length c })
    ∙ ap (λ z. runs (take n ls ++ c) (take (m - a) (drop a ps)) ++ z ∷ []) (run_new n ls c (omega arith))
    ∙ ap (λ zs. zs ++ c ∷ []) (runs_kept n (take n ls) (take n ls ++ c) below (take (m - a) (drop a ps)) e)

entries_push : (ds : List (List ℕ)) (c : List ℕ) → entries (ds ++ c ∷ []) ≡ entries ds + length c
entries_push [] c = omega arith
entries_push (d ∷ ds) c = let e = entries_push ds c in omega arith

own_none : (n a : ℕ) (ls : List ℕ) (ps : List Span) → own_of n a a ls ps ≡ []
unfolding own_of
own_none n a ls ps = let z : a - a ≡ 0 = omega arith in ap (λ k. runs (take n ls) (take k (drop a ps))) z

-- a clause more stands like those before
module _ (t : Refutation) (ls : List ℕ) (ps : List Span) (c : List ℕ) (s : Standing t ls ps)
    (h : t.literals.used + length c ≤ length ls) (k : t.spans.used < length ps) where
  grown_clauses : own (grown t (Ok c)) (written t ls (Ok c)) (noted t ps (Ok c)) ≡ own t ls ps ++ c ∷ []
  grown_clauses = own_push t.literals.used t.first t.spans.used ls c ps h s.first k s.each

  grown_stands : Standing (grown t (Ok c)) (written t ls (Ok c)) (noted t ps (Ok c))
  grown_stands =
      let a = length_placed ls t.literals.used c h in
      let b = length_placed ps t.spans.used (record { start = t.literals.used; length = length c } ∷ []) (omega arith) in
      let e = entries_push (own t ls ps) c in
      record {
        open_yet = s.open_yet;
        admits = ap (λ z. admitted z (length (noted t ps (Ok c)))) a ∙ ap (admitted (length ls)) b ∙ s.admits;
        literals = omega arith;
        first = omega (arith, s.first);
        spans = omega arith;
        each = subst (AllByRecursion (λ p. p.start + p.length ≤ t.literals.used + length c)) (sym (part_push ps t.first t.spans.used (record { start = t.literals.used; length = length c }) s.first k))
            (All-push (λ p. p.start + p.length ≤ t.literals.used + length c) (take (t.spans.used - t.first) (drop t.first ps)) (record { start = t.literals.used; length = length c })
            (All-weaker (λ p. p.start + p.length ≤ t.literals.used) (λ p. p.start + p.length ≤ t.literals.used + length c) (λ p w. omega arith) (take (t.spans.used - t.first) (drop t.first ps)) s.each) (omega arith));
        used = let u = s.used in let v = ap entries grown_clauses in omega arith;
      }

  pub grows : GoesOn t (grown t (Ok c)) ls (written t ls (Ok c)) ps (noted t ps (Ok c)) (own t ls ps ++ c ∷ [])
  grows =
      let u = s.used in
      record {
        stands = grown_stands;
        clauses = grown_clauses;
        kept = record {
          literals = below_placed ls t.literals.used c h t.floor (omega arith);
          spans = below_placed ps t.spans.used (record { start = t.literals.used; length = length c } ∷ []) (omega arith) t.first s.first;
        };
      }

-- a refutation with no clause yet
pub fresh_stands : (f a : ℕ) (ls : List ℕ) (ps : List Span) → f ≤ length ls → a ≤ length ps → admitted (length ls) (length ps) ≡ true → Standing (fresh f a) ls ps × (own (fresh f a) ls ps ≡ [])
fresh_stands f a ls ps h k w =
    let z : a - a ≡ 0 = omega arith in
    let n : own (fresh f a) ls ps ≡ [] = own_none f a ls ps in (
      record {
        open_yet = refl;
        admits = w;
        literals = h;
        first = omega arith;
        spans = k;
        each = subst (λ m. AllByRecursion (λ p. p.start + p.length ≤ f) (take m (drop a ps))) (sym z) tt;
        used = let e : entries (own (fresh f a) ls ps) ≡ 0 = ap entries n in omega arith;
      },
      n,
    )
