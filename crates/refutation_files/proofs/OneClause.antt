-- Reading one clause, record by record.
use Rattle.std.proofs.Common.{◌≡◌, ℕ, ◌-◌, ◌<◌, Ok, Err, List, [], ◌∷◌, ◌++◌, map, length, take, drop, None, sym, refl, ap, ◌∙◌, subst, arith}
use Rattle.std.proofs.lemmas.List.{append_assoc, append-nil, map-append, take_rest, drop_at}
use Rattle.std.specs.List.{AllByRecursion}
use Rattle.certificate.specs.declared.record.Record.{Record}
use Rattle.certificate.specs.declared.record.Record.TheVariants.{Literal, ClauseEnd}
use Rattle.certificate.specs.Records.{encode, encodes, Taken}
use Rattle.resolution.specs.Clauses.{Rising}
use Rattle.refutation_files.specs.declared.unproved.Unproved.TheVariants.{NotAClauseList}
use Rattle.refutation_files.specs.ClauseFiles.{clause_bytes, ClauseRead}
use Rattle.refutation_files.proofs.Fronts.{same_front, more_records}
use Rattle.refutation_files.proofs.Ordering.{rising_push, rising_below}

-- what has been read of a clause: its first literals; a clause at the front of the bytes begins with them
pub record Begun (bytes rest literals all : List ℕ) : Type 0 where
  pub clause : List ℕ
  pub put : all ≡ literals ++ clause
  pub rising : Rising clause
  pub taken : bytes ≡ encodes (map Literal clause) ++ rest
  pub ahead : (d more : List ℕ) → bytes ≡ clause_bytes d ++ more → (e : List ℕ) × (d ≡ clause ++ e) × (rest ≡ clause_bytes e ++ more)

pub begun_none : (bytes literals : List ℕ) → Begun bytes bytes literals literals
begun_none bytes literals = record {
  clause = [];
  put = sym (append-nil literals);
  rising = tt;
  taken = refl;
  ahead = λ d more w. (d, refl, w);
}

module _ (bytes rest literals all : List ℕ) (g : Begun bytes rest literals all) where
  -- the literals from the start of the clause on, as a slice
  pub clause_slice : (slice : List ℕ) (start : ℕ) → slice ≡ all → length literals ≡ start → take (length slice - start) (drop start slice) ≡ g.clause
  clause_slice slice start e s = take_rest slice start ∙ ap (drop start) (e ∙ g.put) ∙ drop_at literals g.clause start s

  -- one literal more
  module _ (l : ℕ) (after : List ℕ) (is : rest ≡ encode (Literal l) ++ after) where
    literal_next : (e more : List ℕ) → rest ≡ clause_bytes e ++ more → (f : List ℕ) × (e ≡ l ∷ f) × (after ≡ clause_bytes f ++ more)
    literal_next [] more w = let z : ClauseEnd ≡ Literal l = (same_front ClauseEnd (Literal l) more after (sym w ∙ is)).0 in let n : ◌≡◌ {A = ℕ} 0 1 = cc in absurd (omega arith)
    literal_next (x ∷ f) more w =
        let p = same_front (Literal x) (Literal l) (clause_bytes f ++ more) after (sym w ∙ is) in
        let s : x ≡ l = let z = p.0 in cc in
        (f, ap (λ (y : ℕ). y ∷ f) s, sym p.1)

    pub begun_more : (longer : List ℕ) → longer ≡ all ++ l ∷ [] → AllByRecursion (λ y. y < l) g.clause → Begun bytes after literals longer
    begun_more longer e a = record {
      clause = g.clause ++ l ∷ [];
      put = e ∙ ap (λ (x : List ℕ). x ++ l ∷ []) g.put ∙ append_assoc literals g.clause (l ∷ []);
      rising = rising_push g.clause l g.rising a;
      taken = more_records (map Literal g.clause) (Literal l ∷ []) bytes rest after g.taken is
          ∙ sym (ap (λ (x : List Record). encodes x ++ after) (map-append Literal g.clause (l ∷ [])));
      ahead = λ d more w.
          let p = g.ahead d more w in
          let q = literal_next p.0 more p.2 in
          (q.0, p.1 ∙ ap (λ (x : List ℕ). g.clause ++ x) q.1 ∙ sym (append_assoc g.clause (l ∷ []) q.0), q.2);
    }

    pub read_fallen : (AllByRecursion (λ y. y < l) g.clause → ⊥) → ClauseRead bytes after literals all (Err NotAClauseList)
    read_fallen n d more r w =
        let p = g.ahead d more w in
        let q = literal_next p.0 more p.2 in
        n (rising_below g.clause q.0 l (subst Rising (p.1 ∙ ap (λ (x : List ℕ). g.clause ++ x) q.1) r))

  -- the end of the clause
  pub read_ended : (after : List ℕ) → rest ≡ encode ClauseEnd ++ after → ClauseRead bytes after literals all (Ok tt)
  read_ended after is = (
    g.clause,
    g.rising,
    g.put,
    more_records (map Literal g.clause) (ClauseEnd ∷ []) bytes rest after g.taken is,
    λ d more w. let p = g.ahead d more w in let q = end_next p.0 more p.2 in (p.1 ∙ ap (λ (x : List ℕ). g.clause ++ x) q.0 ∙ append-nil g.clause, q.1),
  )
    where
      end_next : (e more : List ℕ) → rest ≡ clause_bytes e ++ more → (e ≡ []) × (more ≡ after)
      end_next [] more w = (refl, (same_front ClauseEnd ClauseEnd more after (sym w ∙ is)).1)
      end_next (x ∷ f) more w = let z : Literal x ≡ ClauseEnd = (same_front (Literal x) ClauseEnd (clause_bytes f ++ more) after (sym w ∙ is)).0 in let n : ◌≡◌ {A = ℕ} 0 1 = cc in absurd (omega arith)

  -- no record, or one that is neither
  stopped : (after : List ℕ) → ((l : ℕ) (more : List ℕ) → rest ≡ encode (Literal l) ++ more → ⊥) → ((more : List ℕ) → rest ≡ encode ClauseEnd ++ more → ⊥) → ClauseRead bytes after literals all (Err NotAClauseList)
  stopped after n m d more r w = let p = g.ahead d more w in by p.0 p.2
    where
      by : (e : List ℕ) → rest ≡ clause_bytes e ++ more → ⊥
      by [] v = m more v
      by (x ∷ f) v = n x (clause_bytes f ++ more) v

  pub read_none : (after : List ℕ) → Taken rest after None → ClauseRead bytes after literals all (Err NotAClauseList)
  read_none after t = stopped after (λ l more. t.1 (Literal l) more) (t.1 ClauseEnd)

  pub read_other : (r : Record) (after : List ℕ) → rest ≡ encode r ++ after → ((l : ℕ) → r ≡ Literal l → ⊥) → (r ≡ ClauseEnd → ⊥) → ClauseRead bytes after literals all (Err NotAClauseList)
  read_other r after is n m = stopped after
      (λ l more v. n l (same_front r (Literal l) after more (sym is ∙ v)).0)
      (λ more v. m (same_front r ClauseEnd after more (sym is ∙ v)).0)
