-- Reading clauses one after another.
use Rattle.std.proofs.Common.{◌≡◌, ℕ, ◌+◌, ◌-◌, ◌<◌, ◌≤◌, Ok, Err, List, [], ◌∷◌, ◌++◌, length, take, drop, sym, refl, ap, ◌∙◌, subst, arith}
use Rattle.std.proofs.ByRecursion.{All-push, All-weaker}
use Rattle.std.proofs.lemmas.List.{append-nil, length-append, length-drop, take_all, take-append-le, drop_at, drop-append-le, flat_map_more, map_push, nil_from_length}
use Rattle.std.specs.List.{flat_map, AllByRecursion}
use Rattle.certificate.specs.declared.record.Record.{Record}
use Rattle.certificate.specs.Records.{encodes}
use Rattle.resolution.specs.Clauses.{Rising}
use Rattle.resolution.specs.Lists.{Proper}
use Rattle.stack.specs.declared.spans.Span.{Span}
use Rattle.stack.specs.Runs.{run, runs}
use Rattle.refutation_files.specs.declared.unproved.Unproved.{Unproved}
use Rattle.refutation_files.specs.declared.unproved.Unproved.TheVariants.{NotAClauseList, NotARefutation, Refused, NoMemory}
use Rattle.refutation_files.specs.ClauseFiles.{clause_records, clause_bytes, ClausesOf, Holds, ClauseRead, Unlisted}
use Rattle.refutation_files.proofs.Fronts.{encodes_append, more_records}

-- the span lies within so many literals
abbrev Within : ℕ → Span → Type 0
Within n s = s.start + s.length ≤ n

-- literals that are added are not in the spans before
run_kept : (xs ys : List ℕ) (s : Span) → Within (length xs) s → run (xs ++ ys) s ≡ run xs s
run_kept xs ys s h =
    ap (take s.length) (drop-append-le s.start xs ys (omega arith))
    ∙ take-append-le s.length (drop s.start xs) ys (omega (arith, length-drop s.start xs))

runs_kept : (xs ys : List ℕ) (ss : List Span) → AllByRecursion (Within (length xs)) ss → runs (xs ++ ys) ss ≡ runs xs ss
runs_kept xs ys [] h = refl
runs_kept xs ys (s ∷ ss) h =
    ap (λ (x : List ℕ). x ∷ runs (xs ++ ys) ss) (run_kept xs ys s h.0) ∙ ap (λ (x : List (List ℕ)). run xs s ∷ x) (runs_kept xs ys ss h.1)

run_last : (xs ys : List ℕ) (s : Span) → s.start ≡ length xs → s.length ≡ length ys → run (xs ++ ys) s ≡ ys
run_last xs ys s a b = ap (take s.length) (drop_at xs ys s.start (sym a)) ∙ take_all s.length ys (omega arith)

-- the clauses that have been read, in literals and spans; the clauses of the bytes begin with them
pub record Filed (bytes rest literals : List ℕ) (spans : List Span) : Type 0 where
  pub rising : AllByRecursion Rising (runs literals spans)
  pub within : AllByRecursion (Within (length literals)) spans
  pub joint : literals ≡ flat_map (λ c. c) (runs literals spans)
  pub taken : bytes ≡ encodes (flat_map clause_records (runs literals spans)) ++ rest
  pub ahead : (cs : List (List ℕ)) → ClausesOf bytes cs → (more : List (List ℕ)) × ClausesOf rest more

pub filed_none : (bytes rest literals : List ℕ) (spans : List Span) → rest ≡ bytes → literals ≡ [] → spans ≡ [] → Filed bytes rest literals spans
filed_none bytes rest literals spans e l s =
    let n : runs literals spans ≡ [] = ap (runs literals) s in
    record {
      rising = subst (AllByRecursion Rising) (sym n) tt;
      within = subst (AllByRecursion (Within (length literals))) (sym s) tt;
      joint = l ∙ sym (ap (flat_map (λ c. c)) n);
      taken = sym (ap (λ (x : List (List ℕ)). encodes (flat_map clause_records x) ++ rest) n ∙ e);
      ahead = λ cs h. (cs, (h.0, e ∙ h.1));
    }

joined_push : {X : Type 0} (f : List ℕ → List X) (cs : List (List ℕ)) (c : List ℕ) → flat_map f cs ++ f c ≡ flat_map f (cs ++ c ∷ [])
joined_push f cs c = flat_map_more f [] cs c

module _ (bytes rest literals : List ℕ) (spans : List Span) (g : Filed bytes rest literals spans) (some : 1 ≤ length rest) where
  -- the next clause, where the bytes are those of clauses
  next_clause : (cs : List (List ℕ)) → ClausesOf bytes cs → (d : List ℕ) × (more : List (List ℕ)) × Rising d × AllByRecursion Rising more × (rest ≡ clause_bytes d ++ encodes (flat_map clause_records more))
  next_clause cs h = let p = g.ahead cs h in by p.0 p.1
    where
      by : (more : List (List ℕ)) → ClausesOf rest more → (d : List ℕ) × (more : List (List ℕ)) × Rising d × AllByRecursion Rising more × (rest ≡ clause_bytes d ++ encodes (flat_map clause_records more))
      by [] q = absurd (omega (arith, ap length q.1))
      by (d ∷ ds) q = (d, ds, q.0.0, q.0.1, q.1 ∙ encodes_append (clause_records d) (flat_map clause_records ds))

  -- why a clause was not read is why none were
  pub unlisted : (after all : List ℕ) (e : Unproved) → ClauseRead rest after literals all (Err e) → Unlisted bytes e
  unlisted after all NotAClauseList r = λ cs h. let p = next_clause cs h in r p.0 (encodes (flat_map clause_records p.1)) p.2 p.4
  unlisted after all NotARefutation r = r
  unlisted after all (Refused f) r = r
  unlisted after all (NoMemory f) r = tt

  module _ (after all : List ℕ) (r : ClauseRead rest after literals all (Ok tt)) (s : Span) (start : s.start ≡ length literals) (size : s.length ≡ length all - length literals) where
    all_length : length all ≡ length literals + length r.0
    all_length = ap length r.2 ∙ length-append literals r.0

    runs_more : runs all (spans ++ s ∷ []) ≡ runs literals spans ++ r.0 ∷ []
    runs_more =
        let l = all_length in
        ap (λ (x : List ℕ). runs x (spans ++ s ∷ [])) r.2
        ∙ map_push (run (literals ++ r.0)) spans s
        ∙ ap (λ (x : List (List ℕ)). x ++ run (literals ++ r.0) s ∷ []) (runs_kept literals r.0 spans g.within)
        ∙ ap (λ (x : List ℕ). runs literals spans ++ x ∷ []) (run_last literals r.0 s start (omega arith))

    pub filed_more : (longer : List Span) → longer ≡ spans ++ s ∷ [] → Filed bytes after all longer
    filed_more longer e =
        let cs = runs literals spans in
        let n : runs all longer ≡ cs ++ r.0 ∷ [] = ap (runs all) e ∙ runs_more in
        let l = all_length in
        record {
          rising = subst (AllByRecursion Rising) (sym n) (All-push Rising cs r.0 g.rising r.1);
          within = subst (AllByRecursion (Within (length all))) (sym e)
              (All-push (Within (length all)) spans s (All-weaker (Within (length literals)) (Within (length all)) (λ t h. omega arith) spans g.within) (omega arith));
          joint = r.2 ∙ ap (λ (x : List ℕ). x ++ r.0) g.joint ∙ joined_push (λ c. c) cs r.0 ∙ sym (ap (flat_map (λ c. c)) n);
          taken = more_records (flat_map clause_records cs) (clause_records r.0) bytes rest after g.taken r.3
              ∙ ap (λ (x : List Record). encodes x ++ after) (joined_push clause_records cs r.0 ∙ sym (ap (flat_map clause_records) n));
          ahead = λ ds h.
              let p = next_clause ds h in
              (p.1, (p.3, sym (r.4 p.0 (encodes (flat_map clause_records p.1)) p.4).1));
        }

-- a clause takes at least one byte
clause_some : (c : List ℕ) → 1 ≤ length (clause_bytes c)
clause_some [] = omega arith
clause_some (x ∷ xs) = omega arith

pub clause_shorter : (bytes after literals all : List ℕ) → ClauseRead bytes after literals all (Ok tt) → length after < length bytes
clause_shorter bytes after literals all r = omega (arith, ap length r.3, length-append (clause_bytes r.0) after, clause_some r.0)

pub clause_longer : (bytes after literals all : List ℕ) → ClauseRead bytes after literals all (Ok tt) → length literals ≤ length all
clause_longer bytes after literals all r = omega (arith, ap length r.2, length-append literals r.0)

-- spans within the literals of rising clauses are those of a table
proper_all : (literals : List ℕ) (spans : List Span) → AllByRecursion Rising (runs literals spans) → AllByRecursion (Within (length literals)) spans → AllByRecursion (Proper literals) spans
proper_all literals [] h w = tt
proper_all literals (s ∷ ss) h w = ((w.0, h.0), proper_all literals ss h.1 w.1)

-- nothing is left
pub filed_whole : (bytes rest literals : List ℕ) (spans : List Span) → Filed bytes rest literals spans → length rest ≡ 0 → Holds bytes literals (runs literals spans) × AllByRecursion (Proper literals) spans
filed_whole bytes rest literals spans g e =
    let cs = runs literals spans in (
      ((g.rising, g.taken ∙ ap (λ (x : List ℕ). encodes (flat_map clause_records cs) ++ x) (nil_from_length rest e) ∙ append-nil (encodes (flat_map clause_records cs))), g.joint),
      proper_all literals spans g.rising g.within,
    )
