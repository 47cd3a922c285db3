use Rattle.std.proofs.Common.{◌≡◌, ℕ, ◌+◌, ◌-◌, ◌<◌, false, List, [], ◌∷◌, length, Ok, Err, Result, sym, refl, ap, ◌∙◌, arith}
use Rattle.std.proofs.ByRecursion.{All-get_or}
use Rattle.std.proofs.lemmas.Bool.{cond-false}
use Rattle.std.proofs.lemmas.Result.{err_from_is_err_and}
use Rattle.refusal.specs.declared.faults.RefutationFault.{RefutationFault}
use Rattle.refusal.specs.declared.faults.RefutationFault.TheVariants.{NoClause, NoPivot, Full, NotRefuted}
use Rattle.stack.specs.declared.spans.Span.{Span}
use Rattle.stack.specs.Pushes.{placed}
use Rattle.resolution.specs.declared.refutation.Refutation.{Refutation}
use Rattle.resolution.specs.Clauses.{Rising}
use Rattle.resolution.specs.Lists.{numbered_clause, CopiedAs}
use Rattle.resolution.specs.Outcomes.{takes}
use Rattle.resolution.specs.States.{own, taken}
use Rattle.resolution.proofs.Laws.{implied_member}
use Rattle.resolution.proofs.Owned.{length_own}
use Rattle.resolution.proofs.Ways.{takes_missing, takes_place, takes_room, takes_done, place_free, refused, refused_as, same, same_as, made, carried}
use Rattle.resolution.proofs.refutation.Refutation.take.Goals as goal

open_takes : (t : Refutation) (list : List (List ℕ)) (n : ℕ) (ls : List ℕ) (ps : List Span) (o : Result (List ℕ) RefutationFault) → t.spent ≡ false → takes list n t.literals.used (length ls) t.spans.used (length ps) ≡ o → taken t list n ls ps ≡ o
open_takes t list n ls ps o h w = cond-false t.spent (Err NoClause) _ h ∙ w

pub returns-then-number-count : goal.returns-then-number-count
returns-then-number-count g c =
    let t = c.args.self.now in
    let ls = c.args.literals.now in
    let ps = c.args.spans.now in
    let cs = g.L.ClauseList.clauses c.args.list.now ls ps in
    let h = c.count.ensures in
    record {
      step = refused t ls ps _ NoClause (open_takes t cs c.args.number ls ps _ c.if-self.false (takes_missing cs c.args.number t.literals.used (length ls) t.spans.used (length ps) (omega arith)));
      spent = refl;
      carries = λ _. same cs (own t ls ps);
    }

pub returns-then-not-has_place : goal.returns-then-not-has_place
returns-then-not-has_place g c =
    let t = c.args.self.now in
    let ls = c.args.literals.now in
    let ps = c.args.spans.now in
    let cs = g.L.ClauseList.clauses c.args.list.now ls ps in
    let h = c.count.ensures in
    record {
      step = refused t ls ps _ Full (open_takes t cs c.args.number ls ps _ c.if-self.false (takes_place cs c.args.number t.literals.used (length ls) t.spans.used (length ps) (omega arith) (sym c.if-not-has_place.ensures)));
      spent = refl;
      carries = λ _. same cs (own t ls ps);
    }

-- the refutation with another top of its literals
abbrev topped : Refutation → ℕ → Refutation
topped t n = record { floor = t.floor; first = t.first; literals = record { used = n }; spans = t.spans; spent = t.spent }

-- a copy that is refused is refused as the take is, and leaves all as it was
refused_copy : (t : Refutation) (list : List (List ℕ)) (n end : ℕ) (ls ms : List ℕ) (ps : List Span) (e : RefutationFault) → t.spent ≡ false → n < length list → CopiedAs list n t.literals.used end ls ms (Err e)
    → (taken t list n ls ps ≡ Err e) × (topped t end ≡ t) × (ms ≡ ls)
refused_copy t list n end ls ms ps NoClause o h k = absurd (omega arith)
refused_copy t list n end ls ms ps Full o h k =
    (open_takes t list n ls ps _ o (takes_room list n t.literals.used (length ls) t.spans.used (length ps) h k.1), ap (topped t) k.2, k.3)
refused_copy t list n end ls ms ps NoPivot o h k = absurd k
refused_copy t list n end ls ms ps NotRefuted o h k = absurd k

pub returns-in_err-copy : goal.returns-in_err-copy
returns-in_err-copy g c =
    let t = c.args.self.now in
    let ls = c.args.literals.now in
    let ps = c.args.spans.now in
    let cs = g.L.ClauseList.clauses c.args.list.now ls ps in
    let n = c.count.ensures in
    let h = refused_copy t cs c.args.number c.copy.new.stack.used ls c.copy.new.literals ps c.in_err-copy.field-0.0 c.if-self.false (omega arith) c.in_err-copy.ensures in
    let p = err_from_is_err_and c.from_residual.result c.from_residual.ensures.1 in
    rw (p.1, p.2) (record {
      step = refused_as t ls ps _ c.in_err-copy.field-0.0 h.0 (topped t c.copy.new.stack.used) c.copy.new.literals h.1 h.2;
      spent = refl;
      carries = λ _. same_as cs t (topped t c.copy.new.stack.used) ls c.copy.new.literals ps h.1 h.2;
    })

pub note-requires : goal.note-requires
note-requires g c =
    let h = c.in_ok-copy.ensures in
    let p = place_free (length c.args.literals.now) (length c.args.spans.now) c.args.self.now.spans.used (sym c.if-not-has_place.ensures) in
    record { order = omega arith; small = omega arith; free = p.1 }

pub returns : goal.returns
returns g c =
    let t = c.args.self.now in
    let ls = c.args.literals.now in
    let ps = c.args.spans.now in
    let cs = g.L.ClauseList.clauses c.args.list.now ls ps in
    let cl = numbered_clause cs c.args.number in
    let h = c.in_ok-copy.ensures in
    let b = sym c.if-not-has_place.ensures in
    let p = place_free (length c.args.literals.now) (length c.args.spans.now) c.args.self.now.spans.used (sym c.if-not-has_place.ensures) in
    let l = length_own t.literals.used t.first t.spans.used ls ps in
    let z : c.copy.new.stack.used - c.args.self.now.literals.used ≡ length (numbered_clause (g.L.ClauseList.clauses c.args.list.now c.args.literals.now c.args.spans.now) c.args.number) = omega arith in
    let n : c.note.result ≡ length (own c.args.self.now c.args.literals.now c.args.spans.now) = omega arith in
    let eu = c.note.ensures.refutation ∙ ap (λ k. record { floor = t.floor; first = t.first; literals = record { used = k }; spans = record { used = t.spans.used + 1 }; spent = t.spent }) h.1.1 in
    let eq = c.note.ensures.spans ∙ ap (λ k. placed t.spans.used (record { start = t.literals.used; length = k } ∷ []) ps) z in
    let w = open_takes t cs c.args.number ls ps _ c.if-self.false (takes_done cs c.args.number t.literals.used (length ls) t.spans.used (length ps) h.0 b h.1.0) in
    record {
      step = made t c.note.new.self ls c.copy.new.literals ps c.note.new.spans cl eu h.1.2 eq h.1.0 p.1 _ _ w (ap Ok n);
      spent = ap (λ u. u.spent) eu;
      carries = carried t c.note.new.self ls c.copy.new.literals ps c.note.new.spans cl eu h.1.2 eq h.1.0 p.1 cs
          (λ _. implied_member cs c.args.number h.0) (λ a _. All-get_or Rising cs c.args.number [] h.0 a);
    }
