-- What the steps of a refutation do, as moves.
use Rattle.std.proofs.Common.{◌≡◌, ℕ, ◌+◌, List, length, Ok, Err, Result, sym, refl, ap, ◌∙◌, subst, arith}
use Rattle.std.proofs.lemmas.Bool.{cond-false}
use Rattle.refusal.specs.declared.faults.CertificateFault.{CertificateFault}
use Rattle.refusal.specs.declared.faults.CertificateFault.TheVariants.{Refutation as OfRefutation}
use Rattle.refusal.specs.declared.faults.RefutationFault.{RefutationFault}
use Rattle.refusal.specs.declared.faults.RefutationFault.TheVariants.{NoClause}
use Rattle.stack.specs.declared.spans.Span.{Span}
use Rattle.resolution.specs.declared.refutation.Refutation.{Refutation}
use Rattle.resolution.specs.Outcomes.{takes, resolves}
use Rattle.resolution.specs.Clauses.{Unsat}
use Rattle.resolution.specs.States.{own, taken, resolved, entries, Standing, Follows, Steps, Carries}
use Rattle.resolution.proofs.Owned.{length_own}
use Rattle.certificate.specs.declared.record.Record.{Record}
use Rattle.certificate.specs.declared.record.Record.TheVariants.{Take, Resolve}
use Rattle.certificate.proofs.Accepting.{err_ok}
use Rattle.refuting.specs.Rooms.{room_of}
use Rattle.refuting.specs.Reading.{Move, made, ended, making, move}
use Rattle.refuting.specs.Moves.{Made, Moved}

module _ (t : Refutation) (ls : List ℕ) (ps : List Span) (s : Standing t ls ps) where
  spans_used : t.spans.used ≡ t.first + length (own t ls ps)
  spans_used = let l = length_own t.literals.used t.first t.spans.used ls ps in let k = s.spans in let f = s.first in omega arith

  -- what a step gives, by the clauses made so far
  take_is : (list : List (List ℕ)) (n : ℕ) → taken t list n ls ps ≡ takes list n (t.floor + entries (own t ls ps)) (length ls) (t.first + length (own t ls ps)) (length ps)
  take_is list n =
      cond-false t.spent (Err NoClause) (takes list n t.literals.used (length ls) t.spans.used (length ps)) s.open_yet
      ∙ ap (λ k. takes list n k (length ls) t.spans.used (length ps)) s.used
      ∙ ap (λ k. takes list n (t.floor + entries (own t ls ps)) (length ls) k (length ps)) spans_used

  resolve_is : (l r p : ℕ) → resolved t l r p ls ps ≡ resolves (own t ls ps) l r p (t.floor + entries (own t ls ps)) (length ls) (t.first + length (own t ls ps)) (length ps)
  resolve_is l r p =
      ap (λ k. resolves (own t ls ps) l r p k (length ls) t.spans.used (length ps)) s.used
      ∙ ap (λ k. resolves (own t ls ps) l r p (t.floor + entries (own t ls ps)) (length ls) k (length ps)) spans_used

module _ (list : List (List ℕ)) (t u : Refutation) (ls ms : List ℕ) (ps qs : List Span) (s : Standing t ls ps) where
  went : (o : Result (List ℕ) RefutationFault) (k : ℕ) → Steps t u ls ms ps qs o (Ok k) → Carries list (own t ls ps) (own u ms qs) → Moved list t u ls ms ps qs (making o) (Ok tt)
  went (Ok c) k h w = record {
    answer = refl;
    floor = ap (λ z. z.floor) h.refutation;
    first = ap (λ z. z.first) h.refutation;
    goes_on = h.goes_on s;
    follows = w.follows;
  }
  went (Err e) k h w = let a = h.answer in let z : ◌≡◌ {A = ℕ} 0 1 = cc in absurd (omega arith)

  stopped : (o : Result (List ℕ) RefutationFault) (e : RefutationFault) → Steps t u ls ms ps qs o (Err e) → Moved list t u ls ms ps qs (making o) (Err (OfRefutation e))
  stopped (Ok c) e h = let a = h.answer in let z : ◌≡◌ {A = ℕ} 0 1 = cc in absurd (omega arith)
  stopped (Err d) e h = let a = h.answer in let z : e ≡ d = cc in record { answer = ap (λ x. Err (OfRefutation x)) z; literals = h.literals; spans = h.spans }

  module _ (r : Record) (n : ℕ) (is : r ≡ Take n) where
    take_move : making (taken t list n ls ps) ≡ move list (room_of t ls ps) (own t ls ps) r
    take_move = ap making (take_is t ls ps s list n) ∙ ap (move list (room_of t ls ps) (own t ls ps)) (sym is)

    pub take_went : (k : ℕ) → Steps t u ls ms ps qs (taken t list n ls ps) (Ok k) → Carries list (own t ls ps) (own u ms qs) → Moved list t u ls ms ps qs (move list (room_of t ls ps) (own t ls ps) r) (Ok tt)
    take_went k h w = subst (λ m. Moved list t u ls ms ps qs m (Ok tt)) take_move (went (taken t list n ls ps) k h w)

    pub take_stopped : (e : RefutationFault) → Steps t u ls ms ps qs (taken t list n ls ps) (Err e) → Moved list t u ls ms ps qs (move list (room_of t ls ps) (own t ls ps) r) (Err (OfRefutation e))
    take_stopped e h = subst (λ m. Moved list t u ls ms ps qs m (Err (OfRefutation e))) take_move (stopped (taken t list n ls ps) e h)

  module _ (r : Record) (left right pivot : ℕ) (is : r ≡ Resolve left right pivot) where
    resolve_move : making (resolved t left right pivot ls ps) ≡ move list (room_of t ls ps) (own t ls ps) r
    resolve_move = ap making (resolve_is t ls ps s left right pivot) ∙ ap (move list (room_of t ls ps) (own t ls ps)) (sym is)

    pub resolve_went : (k : ℕ) → Steps t u ls ms ps qs (resolved t left right pivot ls ps) (Ok k) → Carries list (own t ls ps) (own u ms qs) → Moved list t u ls ms ps qs (move list (room_of t ls ps) (own t ls ps) r) (Ok tt)
    resolve_went k h w = subst (λ m. Moved list t u ls ms ps qs m (Ok tt)) resolve_move (went (resolved t left right pivot ls ps) k h w)

    pub resolve_stopped : (e : RefutationFault) → Steps t u ls ms ps qs (resolved t left right pivot ls ps) (Err e) → Moved list t u ls ms ps qs (move list (room_of t ls ps) (own t ls ps) r) (Err (OfRefutation e))
    resolve_stopped e h = subst (λ m. Moved list t u ls ms ps qs m (Err (OfRefutation e))) resolve_move (stopped (resolved t left right pivot ls ps) e h)

-- which move an answer came from
module _ (list : List (List ℕ)) (t u : Refutation) (ls ms : List ℕ) (ps qs : List Span) where
  pub from_fault : (m : Result Move CertificateFault) (f : CertificateFault) → Moved list t u ls ms ps qs m (Err f) → (m ≡ Err f) × (ms ≡ ls) × (qs ≡ ps)
  from_fault (Ok (made c)) f h = absurd (err_ok h.answer)
  from_fault (Ok ended) f h = absurd (err_ok h.answer)
  from_fault (Err e) f h = let a = h.answer in let z : e ≡ f = cc in (ap Err z, h.literals, h.spans)

  pub from_end : (m : Result Move CertificateFault) → ((c : List ℕ) → m ≡ Ok (made c) → ⊥) → Moved list t u ls ms ps qs m (Ok tt) →
      (m ≡ Ok ended) × (ms ≡ ls) × (qs ≡ ps) × (Follows list (own t ls ps) → Unsat list)
  from_end (Ok (made c)) n h = absurd (n c refl)
  from_end (Ok ended) n h = (refl, h.literals, h.spans, h.refutes)
  from_end (Err e) n h = absurd (err_ok (sym h.answer))

  pub from_next : (m : Result Move CertificateFault) → (m ≡ Ok ended → ⊥) → Moved list t u ls ms ps qs m (Ok tt) → (c : List ℕ) × (m ≡ Ok (made c)) × Made list t u ls ms ps qs c (Ok tt)
  from_next (Ok (made c)) n h = (c, refl, h)
  from_next (Ok ended) n h = absurd (n refl)
  from_next (Err e) n h = absurd (err_ok (sym h.answer))
