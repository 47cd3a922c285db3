-- Each count of a book is the number of calls of its kind.
use Rattle.std.proofs.Common.{◌≡◌, ℕ, ◌<◌, Bool, true, false, cond, ltb, List, [], ◌∷◌, Ok, Err, Result, sym, refl, subst, arith}
use Rattle.std.proofs.lemmas.Bool.{ltb-true, ltb-false}
use Rattle.refusal.specs.declared.faults.Refusal.{Refusal}
use Rattle.machine.specs.Meaning.{Meaning, Lawful}
use Rattle.checking.specs.declared.Accepted.{Accepted}
use Rattle.checking.specs.Verdicts.{Areas, verdict}
use Rattle.docket.specs.declared.book.Book.{Book}
use Rattle.docket.specs.declared.book.Standing.{Standing}
use Rattle.docket.specs.declared.book.Standing.TheVariants.{Open, Kept, Broken}
use Rattle.docket.specs.Books.{most, noted, struck, if_entered}
use Rattle.docket.specs.Calls.{Call, hand_in, look_up, tally, strike}
use Rattle.docket.specs.Histories.{hand_ins, IsCounted, IsAccepted, IsRefused, IsGranted, Number, none, one_more, no_more}
use Rattle.docket.specs.Law.{Tallied}
use Rattle.docket.proofs.Playing.{played, sound, room}
use Rattle.docket.proofs.Standings.{entry, certified, certifies_accepted, entered_granted, granted_known, granted_entered}

-- ---- hand ins

-- the counts of hand ins, after one that is counted or not
record HandIns (m : Meaning) (h : List Call) (b : Book) : Type 0 where
  handed_in : Number IsCounted h b.tally.handed_in
  accepted : Number (IsAccepted m) h b.tally.accepted
  refused : Number (IsRefused m) h b.tally.refused

uncertified : (m : Meaning) (q : ℕ) (bytes : List ℕ) (areas : Areas) (h : List Call) (e : Refusal) → verdict m q bytes areas ≡ Err e → IsAccepted m (hand_in q bytes areas) h → ⊥
uncertified m q bytes areas h e v (rule, c, enters) =
    let a = certifies_accepted m rule q c bytes areas enters.1 in
    let f = a.2 in
    let z : ◌≡◌ {A = ℕ} 0 1 = cc in omega arith

by_hand_in : (m : Meaning) (q : ℕ) (bytes : List ℕ) (areas : Areas) (h : List Call) (b : Book) (v : Bool) (r : Result Accepted Refusal) → ltb (hand_ins h) most ≡ v → verdict m q bytes areas ≡ r → HandIns m h b → HandIns m (hand_in q bytes areas ∷ h) (cond v (noted q r b) b)
by_hand_in m q bytes areas h b true (Ok x) w e n =
    let counted = ltb-true (hand_ins h) most w in
    let a : IsAccepted m (hand_in q bytes areas) h = (q, x.claim, (counted, certified m q bytes areas x e)) in
    record { handed_in = one_more counted n.handed_in; accepted = one_more a n.accepted; refused = no_more (λ k. k.1 a) n.refused }
by_hand_in m q bytes areas h b true (Err f) w e n =
    let counted = ltb-true (hand_ins h) most w in
    let a = uncertified m q bytes areas h f e in
    record { handed_in = one_more counted n.handed_in; accepted = no_more a n.accepted; refused = one_more (counted, a) n.refused }
by_hand_in m q bytes areas h b false r w e n =
    let over = ltb-false (hand_ins h) most w in
    let uncounted : hand_ins h < most → ⊥ = λ l. omega arith in
    record { handed_in = no_more uncounted n.handed_in; accepted = no_more (λ k. uncounted k.2.0) n.accepted; refused = no_more (λ k. uncounted k.0) n.refused }

-- a call that is no hand in
by_other : (m : Meaning) (call : Call) (h : List Call) (b : Book) → (IsCounted call h → ⊥) → HandIns m h b → HandIns m (call ∷ h) b
by_other m call h b uncounted n = record { handed_in = no_more uncounted n.handed_in; accepted = no_more (λ k. uncounted k.2.0) n.accepted; refused = no_more (λ k. uncounted k.0) n.refused }

by_strike : (m : Meaning) (q : ℕ) (h : List Call) (b : Book) (v : Bool) (s : Standing) → HandIns m h b → HandIns m h (cond v (if_entered s (struck q b) b) b)
by_strike m q h b true Open n = n
by_strike m q h b true Kept n = record { handed_in = n.handed_in; accepted = n.accepted; refused = n.refused }
by_strike m q h b true Broken n = record { handed_in = n.handed_in; accepted = n.accepted; refused = n.refused }
by_strike m q h b false s n = n

hand_ins_counted : (m : Meaning) (h : List Call) → HandIns m h (played m h)
hand_ins_counted m [] = record { handed_in = none; accepted = none; refused = none }
hand_ins_counted m (hand_in q bytes areas ∷ h) =
    by_hand_in m q bytes areas h (played m h) (ltb (played m h).tally.handed_in most) (verdict m q bytes areas) (sym (room m h)) refl (hand_ins_counted m h)
hand_ins_counted m (look_up q ∷ h) = by_other m (look_up q) h (played m h) (λ x. x) (hand_ins_counted m h)
hand_ins_counted m (tally ∷ h) = by_other m tally h (played m h) (λ x. x) (hand_ins_counted m h)
hand_ins_counted m (strike q ∷ h) =
    let b = played m h in
    by_other m (strike q) h (played m (strike q ∷ h)) (λ x. x) (by_strike m q h b (ltb q m.rules) (entry m h q) (hand_ins_counted m h))

-- ---- strikes

noted_struck : (b : Book) (q : ℕ) (v : Bool) (r : Result Accepted Refusal) → (cond v (noted q r b) b).tally.struck ≡ b.tally.struck
noted_struck b q true (Ok x) = refl
noted_struck b q true (Err e) = refl
noted_struck b q false r = refl

module _ (m : Meaning) (law : Lawful m) where
  granted_one : (q : ℕ) (h : List Call) (b : Book) (v : Bool) (s : Standing) → ltb q m.rules ≡ v → entry m h q ≡ s → Number (IsGranted m) h b.tally.struck → Number (IsGranted m) (strike q ∷ h) (cond v (if_entered s (struck q b) b) b).tally.struck
  granted_one q h b true Open w e n = no_more (λ g. granted_entered m law h q g e) n
  granted_one q h b true Kept w e n = one_more (entered_granted m law h q Kept (ltb-true q m.rules w) (λ x. let z : ◌≡◌ {A = ℕ} 0 1 = cc in omega arith) e) n
  granted_one q h b true Broken w e n = one_more (entered_granted m law h q Broken (ltb-true q m.rules w) (λ x. let z : ◌≡◌ {A = ℕ} 0 1 = cc in omega arith) e) n
  granted_one q h b false s w e n = no_more (λ g. let k = granted_known m law h q g in let l = ltb-false q m.rules w in omega arith) n

  strikes_granted : (h : List Call) → Number (IsGranted m) h (played m h).tally.struck
  strikes_granted [] = none
  strikes_granted (hand_in q bytes areas ∷ h) =
      let b = played m h in
      no_more (λ x. x) (subst (Number (IsGranted m) h) (sym (noted_struck b q (ltb b.tally.handed_in most) (verdict m q bytes areas))) (strikes_granted h))
  strikes_granted (look_up q ∷ h) = no_more (λ x. x) (strikes_granted h)
  strikes_granted (tally ∷ h) = no_more (λ x. x) (strikes_granted h)
  strikes_granted (strike q ∷ h) = granted_one q h (played m h) (ltb q m.rules) (entry m h q) refl refl (strikes_granted h)

  -- the tally after any calls
  pub tallied : (h : List Call) → Tallied m h (played m h).tally
  tallied h =
      let n = hand_ins_counted m h in
      let s = sound m law h in
      let whole = s.2 in
      let fewer = s.3 in
      record { handed_in = n.handed_in; accepted = n.accepted; refused = n.refused; struck = strikes_granted h; whole = sym whole; fewer = omega arith }
