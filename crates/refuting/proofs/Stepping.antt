-- A record makes a clause exactly where it is that of a step which makes it, and ends a refutation whose last clause is empty.
use Rattle.std.proofs.Common.{◌≡◌, ℕ, ◌+◌, ◌-◌, ◌≤◌, Bool, true, false, cond, ◌&&◌, eqb, ltb, leb, List, [], ◌∷◌, ◌++◌, length, take, Ok, Err, Result, sym, refl, ap, ◌∙◌, subst, arith}
use Rattle.std.proofs.lemmas.List.{nil_from_length, take_all, take_more, get_or_push, length_push}
use Rattle.std.proofs.lemmas.Bool.{ltb-true, leb-true, eqb-true, lt-ltb, le-leb, eq-eqb, and_from, and_parts}
use Rattle.refusal.specs.declared.faults.CertificateFault.TheVariants.{Refutation as OfRefutation}
use Rattle.refusal.specs.declared.faults.RefutationFault.{RefutationFault}
use Rattle.refusal.specs.declared.faults.RefutationFault.TheVariants.{NoClause, NoPivot, Full, NotRefuted}
use Rattle.resolution.specs.Clauses.{denial}
use Rattle.resolution.specs.Lists.{numbered_clause}
use Rattle.resolution.specs.Resolvents.{contains, resolvent}
use Rattle.resolution.specs.Outcomes.{admitted, fits, takes, resolves, ends}
use Rattle.resolution.specs.States.{entries}
use Rattle.resolution.proofs.Ways.{takes_done, resolves_done}
use Rattle.certificate.specs.declared.record.Record.{Record}
use Rattle.certificate.specs.declared.record.Record.TheVariants.{Claim, Literal, ClauseEnd, FrameEnd, Take, Resolve, RefutationEnd, Bit, RowEnd, End}
use Rattle.certificate.proofs.Accepting.{err_ok}
use Rattle.refuting.specs.Rooms.{Room}
use Rattle.refuting.specs.Reading.{made, ended, making, move}
use Rattle.refuting.specs.Refutations.{Step, taking, resolving, Makes, taken, resolved, Fitting, record_of}

-- a test that let an answer through
when_ok : {X E : Type 0} (b : Bool) (m : Result X E) (e : E) (x : X) → cond b m (Err e) ≡ Ok x → (b ≡ true) × (m ≡ Ok x)
when_ok true m e x h = (refl, h)
when_ok false m e x h = absurd (err_ok h)

making_made : (o : Result (List ℕ) RefutationFault) (c : List ℕ) → making o ≡ Ok (made c) → o ≡ Ok c
making_made (Ok d) c e = let z : d ≡ c = cc in ap Ok z
making_made (Err x) c e = absurd (err_ok e)

making_on : (o : Result (List ℕ) RefutationFault) → making o ≡ Ok ended → ⊥
making_on (Ok d) e = let z : ◌≡◌ {A = ℕ} 0 1 = cc in omega arith
making_on (Err x) e = err_ok e

-- a record is that of a step which makes the clause, and the clause has room
pub record Stepped (list : List (List ℕ)) (room : Room) (own : List (List ℕ)) (r : Record) (c : List ℕ) : Type 0 where
  pub step : Step
  pub is : r ≡ record_of step
  pub makes : Makes list own step c
  pub fitting : Fitting room own c

module _ (list : List (List ℕ)) (room : Room) (own : List (List ℕ)) where
  fitted : (c d : List ℕ) → fits c (room.literals_below + entries own) room.literals (room.spans_below + length own) room.spans ≡ Ok d → (c ≡ d) × Fitting room own c
  unfolding fits
  fitted c d e =
      let w = when_ok ((admitted room.literals room.spans && ltb (room.spans_below + length own) room.spans) && leb (room.literals_below + entries own + length c) room.literals) (Ok c) Full d e in
      let p = and_parts (admitted room.literals room.spans && ltb (room.spans_below + length own) room.spans) _ w.0 in
      let same = w.1 in
      let s : c ≡ d = cc in (
        s,
        record {
          literals = leb-true (room.literals_below + entries own + length c) room.literals p.1;
          place = ltb-true (room.spans_below + length own) room.spans (and_parts (admitted room.literals room.spans) _ p.0).1;
        },
      )

  took : (n : ℕ) (c : List ℕ) → takes list n (room.literals_below + entries own) room.literals (room.spans_below + length own) room.spans ≡ Ok c → Stepped list room own (Take n) c
  unfolding takes
  took n c e =
      let w = when_ok (ltb n (length list)) _ NoClause c e in
      let f = fitted (numbered_clause list n) c w.1 in
      subst (Stepped list room own (Take n)) f.0 (record { step = taking n; is = refl; makes = taken (ltb-true n (length list) w.0); fitting = f.1 })

  joined : (l r p : ℕ) (c : List ℕ) → resolves own l r p (room.literals_below + entries own) room.literals (room.spans_below + length own) room.spans ≡ Ok c → Stepped list room own (Resolve l r p) c
  unfolding resolves
  joined l r p c e =
      let w = when_ok (ltb l (length own) && ltb r (length own)) _ NoClause c e in
      let v = when_ok (contains p (numbered_clause own l) && contains (denial p) (numbered_clause own r)) _ NoPivot c w.1 in
      let f = fitted (resolvent (numbered_clause own l) (numbered_clause own r) p) c v.1 in
      let a = and_parts (ltb l (length own)) (ltb r (length own)) w.0 in
      let b = and_parts (contains p (numbered_clause own l)) (contains (denial p) (numbered_clause own r)) v.0 in
      subst (Stepped list room own (Resolve l r p)) f.0
      (record { step = resolving l r p; is = refl; makes = resolved (ltb-true l (length own) a.0) (ltb-true r (length own) a.1) b.0 b.1; fitting = f.1 })

  -- the record at the end makes no clause
  pub end_makes_none : (r : Record) → r ≡ RefutationEnd → (c : List ℕ) → move list room own r ≡ Ok (made c) → ⊥
  end_makes_none r is c e = let w = (when_ok (ends own) (Ok ended) (OfRefutation NotRefuted) (made c) (sym (ap (move list room own) is) ∙ e)).1 in let z : ◌≡◌ {A = ℕ} 0 1 = cc in omega arith

  pub move_steps : (r : Record) (c : List ℕ) → move list room own r ≡ Ok (made c) → Stepped list room own r c
  move_steps (Take n) c e = took n c (making_made _ c e)
  move_steps (Resolve l r p) c e = joined l r p c (making_made _ c e)
  move_steps RefutationEnd c e = absurd (end_makes_none RefutationEnd refl c e)
  move_steps (Claim k n) c e = absurd (err_ok e)
  move_steps (Literal l) c e = absurd (err_ok e)
  move_steps ClauseEnd c e = absurd (err_ok e)
  move_steps FrameEnd c e = absurd (err_ok e)
  move_steps (Bit b) c e = absurd (err_ok e)
  move_steps RowEnd c e = absurd (err_ok e)
  move_steps End c e = absurd (err_ok e)

  pub move_ends : (r : Record) → move list room own r ≡ Ok ended → (r ≡ RefutationEnd) × (ends own ≡ true)
  move_ends (Take n) e = absurd (making_on _ e)
  move_ends (Resolve l r p) e = absurd (making_on _ e)
  move_ends RefutationEnd e = (refl, (when_ok (ends own) (Ok ended) (OfRefutation NotRefuted) ended e).0)
  move_ends (Claim k n) e = absurd (err_ok e)
  move_ends (Literal l) e = absurd (err_ok e)
  move_ends ClauseEnd e = absurd (err_ok e)
  move_ends FrameEnd e = absurd (err_ok e)
  move_ends (Bit b) e = absurd (err_ok e)
  move_ends RowEnd e = absurd (err_ok e)
  move_ends End e = absurd (err_ok e)

  -- the other way round
  pub steps_move : {s : Step} {c : List ℕ} → admitted room.literals room.spans ≡ true → Makes list own s c → Fitting room own c → move list room own (record_of s) ≡ Ok (made c)
  steps_move a (taken {n = n} h) f =
      ap making (takes_done list n (room.literals_below + entries own) room.literals (room.spans_below + length own) room.spans h
      (and_from _ _ a (lt-ltb (room.spans_below + length own) room.spans f.place)) f.literals)
  steps_move a (resolved {left = l} {right = r} {pivot = p} h k x y) f =
      ap making (resolves_done own l r p (room.literals_below + entries own) room.literals (room.spans_below + length own) room.spans h k (and_from _ _ x y)
      (and_from _ _ a (lt-ltb (room.spans_below + length own) room.spans f.place)) (le-leb _ _ f.literals))

-- there is a clause and the latest is empty exactly where an empty clause comes last
pub ends_empty : (own : List (List ℕ)) → ends own ≡ true → own ≡ take (length own - 1) own ++ [] ∷ []
unfolding ends
ends_empty own e =
    let p = and_parts (ltb 0 (length own)) (eqb (length (numbered_clause own (length own - 1))) 0) e in
    let l = ltb-true 0 (length own) p.0 in
    let n : length own ≤ (length own - 1) + 1 = omega arith in
    sym (take_all ((length own - 1) + 1) own n) ∙ take_more own (length own - 1) [] (omega arith)
    ∙ ap (λ c. take (length own - 1) own ++ c ∷ []) (nil_from_length (numbered_clause own (length own - 1)) (eqb-true _ 0 p.1))

pub empty_ends : (own before : List (List ℕ)) → own ≡ before ++ [] ∷ [] → ends own ≡ true
unfolding ends
empty_ends own before e =
    let l : length own ≡ length before + 1 = ap length e ∙ length_push before [] in
    let k : length before ≡ length own - 1 = omega arith in
    let c : numbered_clause own (length own - 1) ≡ [] = ap (λ z. numbered_clause z (length own - 1)) e ∙ get_or_push before [] [] (length own - 1) k in
    and_from _ _ (lt-ltb 0 (length own) (omega arith)) (eq-eqb (length (numbered_clause own (length own - 1))) 0 (ap length c))
