-- A rule's standing is what the last lawful certificate counted for it since its last granted strike claims.
use Rattle.std.proofs.Common.{◌≡◌, ℕ, ◌<◌, ◌≤◌, Bool, true, false, cond, ltb, ◌⊎◌, ◌↔◌, List, [], ◌∷◌, ◌++◌, length, get_or, set, replicate, Ok, Err, Result, sym, refl, ap, ◌∙◌, subst, inl, inr, ⊎_elim, arith, get_or-set_other, get_or-set_same}
use lib.ListN.{get_or-replicate}
use Rattle.std.proofs.lemmas.List.{get_or_past}
use Rattle.std.proofs.lemmas.Bool.{ltb-true, lt-ltb, le-ltb, cases_eq, cases_lt}
use Rattle.refusal.specs.declared.faults.Refusal.{Refusal}
use Rattle.machine.specs.Meaning.{Meaning, Lawful}
use Rattle.checking.specs.declared.Accepted.{Accepted}
use Rattle.checking.specs.declared.Claim.{Claim}
use Rattle.checking.specs.declared.Claim.TheVariants.{Trace, Induction, Counterexample}
use Rattle.checking.specs.Verdicts.{Areas, verdict}
use Rattle.checking.proofs.Certified.{accepted_exactly, lawful_known}
use Rattle.docket.specs.declared.book.Book.{Book}
use Rattle.docket.specs.declared.book.Standing.{Standing}
use Rattle.docket.specs.declared.book.Standing.TheVariants.{Open, Kept, Broken}
use Rattle.docket.specs.Books.{most, claimed, noted, struck, if_entered}
use Rattle.docket.specs.Calls.{Call, hand_in, look_up, tally, strike}
use Rattle.docket.specs.Histories.{hand_ins, Certifies, Strikes, Enters, Still, LastSince, IsGranted, Stood, Claimed}
use Rattle.docket.proofs.Playing.{played, sound, room}

-- the last lawful certificate counted for the rule since its last strike, granted or not
abbrev Last : Meaning → List Call → ℕ → Claim → Type 0
Last m h rule c = LastSince m rule (λ call _. Strikes rule call) h c

-- what the book has for a rule
abbrev pub entry : Meaning → List Call → ℕ → Standing
entry m h rule = get_or (played m h).standings rule Open

pub open_not_claimed : (c : Claim) → Open ≡ claimed c → ⊥
open_not_claimed Trace e = let z : ◌≡◌ {A = ℕ} 0 1 = cc in omega arith
open_not_claimed Induction e = let z : ◌≡◌ {A = ℕ} 0 1 = cc in omega arith
open_not_claimed Counterexample e = let z : ◌≡◌ {A = ℕ} 0 1 = cc in omega arith

-- ---- lawful certificates and verdicts

pub certified : (m : Meaning) (q : ℕ) (bytes : List ℕ) (areas : Areas) (x : Accepted) → verdict m q bytes areas ≡ Ok x → Certifies m q x.claim (hand_in q bytes areas)
certified m q bytes areas x e = (refl, x.records, (accepted_exactly m q bytes areas x).0 e)

pub certifies_accepted : (m : Meaning) (rule q : ℕ) (c : Claim) (bytes : List ℕ) (areas : Areas) → Certifies m rule c (hand_in q bytes areas) → (x : Accepted) × (x.claim ≡ c) × (verdict m q bytes areas ≡ Ok x)
certifies_accepted m rule q c bytes areas (same, records, lawful) =
    let x : Accepted = record { claim = c; records = records } in
    (x, refl, subst (λ k. verdict m k bytes areas ≡ Ok x) (sym same) ((accepted_exactly m rule bytes areas x).1 lawful))

pub certifies_known : (m : Meaning) (rule : ℕ) (c : Claim) (call : Call) → Certifies m rule c call → rule < m.rules
certifies_known m rule c (hand_in q bytes areas) (same, records, lawful) = lawful_known m rule bytes areas c records lawful
certifies_known m rule c (look_up q) e = absurd e
certifies_known m rule c tally e = absurd e
certifies_known m rule c (strike q) e = absurd e

-- ---- calls that leave a rule's standing

kept_by_hand_in : (b : Book) (q rule : ℕ) (v : Bool) (r : Result Accepted Refusal) → (v ≡ true → (x : Accepted) → r ≡ Ok x → q ≡ rule → ⊥) → get_or (cond v (noted q r b) b).standings rule Open ≡ get_or b.standings rule Open
kept_by_hand_in b q rule false r no_entry = refl
kept_by_hand_in b q rule true (Err e) no_entry = refl
kept_by_hand_in b q rule true (Ok x) no_entry = get_or-set_other b.standings q rule (claimed x.claim) Open (λ e. no_entry refl x refl (sym e))

kept_by_strike : (b : Book) (q rule : ℕ) (v : Bool) (s : Standing) → (q ≡ rule → ⊥) → get_or (cond v (if_entered s (struck q b) b) b).standings rule Open ≡ get_or b.standings rule Open
kept_by_strike b q rule false s apart = refl
kept_by_strike b q rule true Open apart = refl
kept_by_strike b q rule true Kept apart = get_or-set_other b.standings q rule Open Open (λ e. apart (sym e))
kept_by_strike b q rule true Broken apart = get_or-set_other b.standings q rule Open Open (λ e. apart (sym e))

kept_by_call : (m : Meaning) (rule : ℕ) (call : Call) (h : List Call) → ((c : Claim) → Enters m rule c call h → ⊥) → (Strikes rule call → ⊥) → entry m (call ∷ h) rule ≡ entry m h rule
kept_by_call m rule (hand_in q bytes areas) h no_entry no-strike =
    kept_by_hand_in (played m h) q rule (ltb (played m h).tally.handed_in most) (verdict m q bytes areas)
    (λ v x e same. no_entry x.claim (ltb-true (hand_ins h) most (sym (room m h) ∙ v), subst (λ k. Certifies m k x.claim (hand_in q bytes areas)) same (certified m q bytes areas x e)))
kept_by_call m rule (look_up q) h no_entry no-strike = refl
kept_by_call m rule tally h no_entry no-strike = refl
kept_by_call m rule (strike q) h no_entry no-strike = kept_by_strike (played m h) q rule (ltb q m.rules) (entry m h q) no-strike

kept_by_calls : (m : Meaning) (rule : ℕ) (late past : List Call) → Still m rule (λ call _. Strikes rule call) late past → entry m (late ++ past) rule ≡ entry m past rule
kept_by_calls m rule [] past still = refl
kept_by_calls m rule (call ∷ late) past (no_entry, no-strike, still) = kept_by_call m rule call (late ++ past) no_entry no-strike ∙ kept_by_calls m rule late past still

-- ---- a lawful certificate enters its claim

entered_hand_in : (b : Book) (q : ℕ) (v : Bool) (r : Result Accepted Refusal) (x : Accepted) → q < length b.standings → v ≡ true → r ≡ Ok x → get_or (cond v (noted q r b) b).standings q Open ≡ claimed x.claim
entered_hand_in b q true (Ok y) x l e f = let g : y ≡ x = cc in get_or-set_same b.standings q (claimed y.claim) Open l ∙ ap (λ z. claimed z.claim) g
entered_hand_in b q true (Err d) x l e f = let z : ◌≡◌ {A = ℕ} 0 1 = cc in absurd (omega arith)
entered_hand_in b q false r x l e f = let z : ◌≡◌ {A = ℕ} 0 1 = cc in absurd (omega arith)

module _ (m : Meaning) (law : Lawful m) where
  -- the book has a place for each rule
  place : (h : List Call) (rule : ℕ) → rule < m.rules → rule < length (played m h).standings
  place h rule known = let size = (sound m law h).0 in omega (arith, law.rules_few)

  entered_by_call : (rule : ℕ) (c : Claim) (call : Call) (h : List Call) → Enters m rule c call h → entry m (call ∷ h) rule ≡ claimed c
  entered_by_call rule c (hand_in q bytes areas) h (counted, certifies) =
      let a = certifies_accepted m rule q c bytes areas certifies in
      let known : rule < m.rules = certifies_known m rule c (hand_in q bytes areas) certifies in
      let same = certifies.0 in
      let inside = place h q (subst (λ k. k < m.rules) (sym same) known) in
      subst (λ k. entry m (hand_in q bytes areas ∷ h) k ≡ claimed c) same
      (entered_hand_in (played m h) q (ltb (played m h).tally.handed_in most) (verdict m q bytes areas) a.0 inside (room m h ∙ lt-ltb (hand_ins h) most counted) a.2 ∙ ap claimed a.1)
  entered_by_call rule c (look_up q) h (counted, certifies) = absurd counted
  entered_by_call rule c tally h (counted, certifies) = absurd counted
  entered_by_call rule c (strike q) h (counted, certifies) = absurd counted

  -- what the calls say is what the book has
  pub last_told : (h : List Call) (rule : ℕ) (c : Claim) → Last m h rule c → entry m h rule ≡ claimed c
  last_told h rule c k =
      ap (λ x. entry m x rule) k.whole ∙ kept_by_calls m rule k.late (k.call ∷ k.past) k.still ∙ entered_by_call rule c k.call k.past k.enters

-- ---- and what the book has is what the calls say

-- where the standing comes from
abbrev Source : Meaning → List Call → ℕ → Standing → Type 0
Source m h rule s = (c : Claim) × (claimed c ≡ s) × Last m h rule c

later : (m : Meaning) (h : List Call) (rule : ℕ) (s : Standing) (call : Call) → ((d : Claim) → Enters m rule d call h → ⊥) → (Strikes rule call → ⊥) → Source m h rule s → Source m (call ∷ h) rule s
later m h rule s call no_entry no-strike (c, claims, k) = (
  c,
  claims,
  record {
    late = call ∷ k.late;
    call = k.call;
    past = k.past;
    whole = ap (λ x. call ∷ x) k.whole;
    enters = k.enters;
    still = (λ d x. no_entry d (subst (Enters m rule d call) (sym k.whole) x), no-strike, k.still);
  },
)

by_hand_in : (b : Book) (q rule : ℕ) (v : Bool) (r : Result Accepted Refusal) (s : Standing) → (v ≡ true → (x : Accepted) → r ≡ Ok x → q < length b.standings) → get_or (cond v (noted q r b) b).standings rule Open ≡ s
    → ((q ≡ rule) × (v ≡ true) × (x : Accepted) × (r ≡ Ok x) × (claimed x.claim ≡ s)) ⊎ ((get_or b.standings rule Open ≡ s) × (v ≡ true → (x : Accepted) → r ≡ Ok x → q ≡ rule → ⊥))
by_hand_in b q rule false r s inside e = inr (e, λ w x f same. let z : ◌≡◌ {A = ℕ} 0 1 = cc in omega arith)
by_hand_in b q rule true (Err d) s inside e = inr (e, λ w x f same. let z : ◌≡◌ {A = ℕ} 0 1 = cc in omega arith)
by_hand_in b q rule true (Ok x) s inside e =
    ⊎_elim
    (λ (same : q ≡ rule).
    let f = subst (λ k. get_or (set b.standings q (claimed x.claim)) k Open ≡ claimed x.claim) same (get_or-set_same b.standings q (claimed x.claim) Open (inside refl x refl)) in
    inl (same, refl, x, refl, sym f ∙ e))
    (λ apart. inr (sym (get_or-set_other b.standings q rule (claimed x.claim) Open (λ k. apart (sym k))) ∙ e, λ w y f same. apart same))
    (cases_eq q rule)

open_by_strike : (b : Book) (q : ℕ) (v : Bool) (s : Standing) → q < length b.standings → get_or b.standings q Open ≡ s → v ≡ true → get_or (cond v (if_entered s (struck q b) b) b).standings q Open ≡ Open
open_by_strike b q true Open inside e w = e
open_by_strike b q true Kept inside e w = get_or-set_same b.standings q Open Open inside
open_by_strike b q true Broken inside e w = get_or-set_same b.standings q Open Open inside
open_by_strike b q false s inside e w = let z : ◌≡◌ {A = ℕ} 0 1 = cc in absurd (omega arith)

idle_strike : (b : Book) (q : ℕ) (v : Bool) (s : Standing) → s ≡ Open → cond v (if_entered s (struck q b) b) b ≡ b
idle_strike b q true Open e = refl
idle_strike b q true Kept e = let z : ◌≡◌ {A = ℕ} 0 1 = cc in absurd (omega arith)
idle_strike b q true Broken e = let z : ◌≡◌ {A = ℕ} 0 1 = cc in absurd (omega arith)
idle_strike b q false s e = refl

still_granted : (m : Meaning) (rule : ℕ) (late past : List Call) → Still m rule (λ call _. Strikes rule call) late past → Still m rule (λ call before. Strikes rule call × IsGranted m call before) late past
still_granted m rule [] past still = tt
still_granted m rule (call ∷ late) past (no_entry, no-strike, still) = (no_entry, (λ g. no-strike g.0), still_granted m rule late past still)

pub last_stood : (m : Meaning) (h : List Call) (rule : ℕ) (c : Claim) → Last m h rule c → Stood m h rule c
last_stood m h rule c k =
    record { late = k.late; call = k.call; past = k.past; whole = k.whole; enters = k.enters; still = still_granted m rule k.late (k.call ∷ k.past) k.still }

module _ (m : Meaning) (law : Lawful m) where
  shown : (h : List Call) (rule : ℕ) (s : Standing) → rule < m.rules → (s ≡ Open → ⊥) → entry m h rule ≡ s → Source m h rule s
  shown [] rule s known entered e = absurd (entered (sym e ∙ get_or-replicate 32 rule Open Open (omega (arith, law.rules_few))))
  shown (hand_in q bytes areas ∷ h) rule s known entered e =
      ⊎_elim
      (λ w. (
        w.2.claim,
        w.4,
        record {
          late = [];
          call = hand_in q bytes areas;
          past = h;
          whole = refl;
          enters = (ltb-true (hand_ins h) most (sym (room m h) ∙ w.1), subst (λ k. Certifies m k w.2.claim (hand_in q bytes areas)) w.0 (certified m q bytes areas w.2 w.3));
          still = tt;
        },
      ))
      (λ w. later m h rule s (hand_in q bytes areas)
      (λ d x. let a = certifies_accepted m rule q d bytes areas x.1 in w.1 (room m h ∙ lt-ltb (hand_ins h) most x.0) a.0 a.2 x.1.0)
      (λ x. x)
      (shown h rule s known entered w.0))
      (by_hand_in (played m h) q rule (ltb (played m h).tally.handed_in most) (verdict m q bytes areas) s
      (λ _ x f. place m law h q (certifies_known m q x.claim (hand_in q bytes areas) (certified m q bytes areas x f))) e)
  shown (look_up q ∷ h) rule s known entered e = later m h rule s (look_up q) (λ d x. x.0) (λ x. x) (shown h rule s known entered e)
  shown (tally ∷ h) rule s known entered e = later m h rule s tally (λ d x. x.0) (λ x. x) (shown h rule s known entered e)
  shown (strike q ∷ h) rule s known entered e =
      ⊎_elim
      (λ (same : q ≡ rule).
      let known' = subst (λ k. k < m.rules) (sym same) known in
      let o = open_by_strike (played m h) q (ltb q m.rules) (entry m h q) (place m law h q known') refl (lt-ltb q m.rules known') in
      absurd (entered (sym (subst (λ k. entry m (strike q ∷ h) k ≡ s) (sym same) e) ∙ o)))
      (λ apart. later m h rule s (strike q) (λ d x. x.0) apart (shown h rule s known entered (sym (kept_by_strike (played m h) q rule (ltb q m.rules) (entry m h q) apart) ∙ e)))
      (cases_eq q rule)

  -- no certificate, no entry
  last_none : (h : List Call) (rule : ℕ) → rule < m.rules → ((c : Claim) → Last m h rule c → ⊥) → entry m h rule ≡ Open
  last_none h rule known none = by (entry m h rule) refl
    where
      by : (s : Standing) → entry m h rule ≡ s → entry m h rule ≡ Open
      by Open e = e
      by Kept e = let k = shown h rule Kept known (λ x. let z : ◌≡◌ {A = ℕ} 0 1 = cc in omega arith) e in absurd (none k.0 k.2)
      by Broken e = let k = shown h rule Broken known (λ x. let z : ◌≡◌ {A = ℕ} 0 1 = cc in omega arith) e in absurd (none k.0 k.2)

  -- a strike that is not granted leaves the standing too
  still_by_call : (rule : ℕ) → rule < m.rules → (call : Call) (h : List Call) → ((c : Claim) → Enters m rule c call h → ⊥) → (Strikes rule call × IsGranted m call h → ⊥) → entry m (call ∷ h) rule ≡ entry m h rule
  still_by_call rule known (hand_in q bytes areas) h no_entry none = kept_by_call m rule (hand_in q bytes areas) h no_entry (λ x. x)
  still_by_call rule known (look_up q) h no_entry none = refl
  still_by_call rule known tally h no_entry none = refl
  still_by_call rule known (strike q) h no_entry none =
      ⊎_elim
      (λ (same : q ≡ rule).
      let known' = subst (λ k. k < m.rules) (sym same) known in
      ap (λ (b : Book). get_or b.standings rule Open) (idle_strike (played m h) q (ltb q m.rules) (entry m h q) (last_none h q known' (λ c k. none (same, (c, k))))))
      (λ apart. kept_by_call m rule (strike q) h no_entry apart)
      (cases_eq q rule)

  still_by_calls : (rule : ℕ) → rule < m.rules → (late past : List Call) → Still m rule (λ call before. Strikes rule call × IsGranted m call before) late past → entry m (late ++ past) rule ≡ entry m past rule
  still_by_calls rule known [] past still = refl
  still_by_calls rule known (call ∷ late) past (no_entry, none, still) = still_by_call rule known call (late ++ past) no_entry none ∙ still_by_calls rule known late past still

  pub stood_known : (h : List Call) (rule : ℕ) (c : Claim) → Stood m h rule c → rule < m.rules
  stood_known h rule c k = certifies_known m rule c k.call k.enters.1

  pub stood_told : (h : List Call) (rule : ℕ) (c : Claim) → Stood m h rule c → entry m h rule ≡ claimed c
  stood_told h rule c k =
      ap (λ x. entry m x rule) k.whole ∙ still_by_calls rule (stood_known h rule c k) k.late (k.call ∷ k.past) k.still ∙ entered_by_call m law rule c k.call k.past k.enters

  pub stood_shown : (h : List Call) (rule : ℕ) (s : Standing) → rule < m.rules → (s ≡ Open → ⊥) → entry m h rule ≡ s → Claimed m h rule s
  stood_shown h rule s known entered e = let k = shown h rule s known entered e in (k.0, k.1, last_stood m h rule k.0 k.2)

  pub stood_none : (h : List Call) (rule : ℕ) → rule < m.rules → ((c : Claim) → Stood m h rule c → ⊥) → entry m h rule ≡ Open
  stood_none h rule known none = last_none h rule known (λ c k. none c (last_stood m h rule c k))

  -- which strikes are granted
  pub entered_granted : (h : List Call) (rule : ℕ) (s : Standing) → rule < m.rules → (s ≡ Open → ⊥) → entry m h rule ≡ s → IsGranted m (strike rule) h
  entered_granted h rule s known entered e = let k = shown h rule s known entered e in (k.0, k.2)

  pub granted_known : (h : List Call) (rule : ℕ) → IsGranted m (strike rule) h → rule < m.rules
  granted_known h rule (c, k) = certifies_known m rule c k.call k.enters.1

  pub granted_entered : (h : List Call) (rule : ℕ) → IsGranted m (strike rule) h → entry m h rule ≡ Open → ⊥
  granted_entered h rule (c, k) e = open_not_claimed c (sym e ∙ last_told m law h rule c k)

  pub granted_due : (h : List Call) (rule : ℕ) → (IsGranted m (strike rule) h) ↔ ((c : Claim) × Stood m h rule c)
  granted_due h rule = (
    (λ g. (g.0, last_stood m h rule g.0 g.1)),
    (λ s. let c = s.0 in let k = s.1 in entered_granted h rule (claimed c) (stood_known h rule c k) (λ e. open_not_claimed c (sym e)) (stood_told h rule c k)),
  )

-- ---- a rule that the machine does not have stays open

idle_unknown : (b : Book) (q : ℕ) (v : Bool) (s : Standing) → v ≡ false → cond v (if_entered s (struck q b) b) b ≡ b
idle_unknown b q v s e = ap (λ k. cond k (if_entered s (struck q b) b) b) e

pub unknown_open : (m : Meaning) (h : List Call) (rule : ℕ) → m.rules ≤ rule → entry m h rule ≡ Open
unknown_open m [] rule beyond = ⊎_elim (λ l. get_or-replicate 32 rule Open Open l) (λ l. get_or_past (replicate 32 Open) rule Open l) (cases_lt rule 32)
unknown_open m (hand_in q bytes areas ∷ h) rule beyond =
    kept_by_call m rule (hand_in q bytes areas) h (λ c x. let k = certifies_known m rule c (hand_in q bytes areas) x.1 in omega arith) (λ x. x) ∙ unknown_open m h rule beyond
unknown_open m (look_up q ∷ h) rule beyond = unknown_open m h rule beyond
unknown_open m (tally ∷ h) rule beyond = unknown_open m h rule beyond
unknown_open m (strike q ∷ h) rule beyond =
    ⊎_elim
    (λ (same : q ≡ rule).
    let l : m.rules ≤ q = omega arith in
    ap (λ (b : Book). get_or b.standings rule Open) (idle_unknown (played m h) q (ltb q m.rules) (entry m h q) (le-ltb q m.rules l)))
    (λ apart. kept_by_strike (played m h) q rule (ltb q m.rules) (entry m h q) apart)
    (cases_eq q rule)
    ∙ unknown_open m h rule beyond
