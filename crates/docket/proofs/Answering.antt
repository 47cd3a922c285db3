-- Each answer given is the one due, and the law.
use Rattle.std.proofs.Common.{◌≡◌, ℕ, ◌<◌, ◌≤◌, Bool, true, false, cond, ltb, List, [], ◌∷◌, ◌++◌, get_or, Ok, Err, Result, sym, refl, ap, ◌∙◌, subst, ⊎_elim, arith}
use Rattle.std.proofs.lemmas.Bool.{ltb-true, lt-ltb, le-ltb, cases_lt, cond-true, cond-false}
use Rattle.refusal.specs.declared.faults.DocketFault.{DocketFault}
use Rattle.refusal.specs.declared.faults.DocketFault.TheVariants.{NoRule, TooMany, NotEntered}
use Rattle.refusal.specs.declared.faults.Refusal.TheVariants.{Docket}
use Rattle.machine.specs.Meaning.{Meaning, Lawful}
use Rattle.machine.specs.Runs as runs
use Rattle.checking.specs.declared.Claim.{Claim}
use Rattle.checking.specs.declared.Claim.TheVariants.{Trace, Induction, Counterexample}
use Rattle.checking.specs.Verdicts.{Areas, verdict, LawfulCertificate}
use Rattle.checking.proofs.Certified.{accepted_exactly, kept_from_trace, kept_from_induction, broken_from}
use Rattle.docket.specs.declared.book.Book.{Book}
use Rattle.docket.specs.declared.book.Standing.{Standing}
use Rattle.docket.specs.declared.book.Standing.TheVariants.{Open, Kept, Broken}
use Rattle.docket.specs.Books.{most, if_entered, answer, accounted}
use Rattle.docket.specs.Calls.{Call, hand_in, look_up, tally, strike, Made, calls}
use Rattle.docket.specs.Histories.{hand_ins, Certifies, Stood, Claimed}
use Rattle.docket.specs.Law.{Stands, Tallied, Judged, Found, Struck, Due, Law}
use Rattle.docket.specs.Reached.{Reached}
use Rattle.docket.proofs.Counting.{tallied}
use Rattle.docket.proofs.Playing.{played, reached_played, room}
use Rattle.docket.proofs.Standings.{entry, unknown_open, open_not_claimed, stood_told, stood_shown, stood_none, entered_granted, granted_known, granted_entered, granted_due}

-- ---- what the claims show

certificate_of : (m : Meaning) (rule : ℕ) (c : Claim) (call : Call) → Certifies m rule c call → (bytes : List ℕ) × (areas : Areas) × (records : ℕ) × LawfulCertificate m rule bytes areas c records
certificate_of m rule c (hand_in q bytes areas) (same, records, lawful) = (bytes, areas, records, lawful)
certificate_of m rule c (look_up q) e = absurd e
certificate_of m rule c tally e = absurd e
certificate_of m rule c (strike q) e = absurd e

kept_shown : (m : Meaning) → Lawful m → (h : List Call) (rule : ℕ) → Claimed m h rule Kept → runs.Kept m rule
kept_shown m law h rule (Trace, e, k) = let (bytes, areas, records, lawful) = certificate_of m rule Trace k.call k.enters.1 in kept_from_trace m law rule bytes areas records lawful
kept_shown m law h rule (Induction, e, k) = let (bytes, areas, records, lawful) = certificate_of m rule Induction k.call k.enters.1 in kept_from_induction m law rule bytes areas records lawful
kept_shown m law h rule (Counterexample, e, k) = let z : ◌≡◌ {A = ℕ} 0 1 = cc in absurd (omega arith)

broken_shown : (m : Meaning) (h : List Call) (rule : ℕ) → Claimed m h rule Broken → Stood m h rule Counterexample × ((rows : List (List Bool)) × runs.Run m rows × runs.Breaks m rule rows)
broken_shown m h rule (Trace, e, k) = let z : ◌≡◌ {A = ℕ} 0 1 = cc in absurd (omega arith)
broken_shown m h rule (Induction, e, k) = let z : ◌≡◌ {A = ℕ} 0 1 = cc in absurd (omega arith)
broken_shown m h rule (Counterexample, e, k) = let (bytes, areas, records, lawful) = certificate_of m rule Counterexample k.call k.enters.1 in (k, broken_from m rule bytes areas records lawful)

-- ---- each answer is due

struck_ok : (s : Standing) → (s ≡ Open → ⊥) → ◌≡◌ {A = Result (Unit {0}) DocketFault} (if_entered s (Ok tt) (Err NotEntered)) (Ok tt)
struck_ok Open e = absurd (e refl)
struck_ok Kept e = refl
struck_ok Broken e = refl

struck_err : (s : Standing) → s ≡ Open → ◌≡◌ {A = Result (Unit {0}) DocketFault} (if_entered s (Ok tt) (Err NotEntered)) (Err NotEntered)
struck_err s e = ap (λ k. if_entered k (Ok tt) (Err NotEntered)) e

ok_struck : (v : Bool) (s : Standing) → ◌≡◌ {A = Result (Unit {0}) DocketFault} (cond v (if_entered s (Ok tt) (Err NotEntered)) (Err NoRule)) (Ok tt) → (v ≡ true) × (s ≡ Open → ⊥)
ok_struck true Open e = let z : ◌≡◌ {A = ℕ} 0 1 = cc in absurd (omega arith)
ok_struck true Kept e = (refl, λ x. let z : ◌≡◌ {A = ℕ} 0 1 = cc in omega arith)
ok_struck true Broken e = (refl, λ x. let z : ◌≡◌ {A = ℕ} 0 1 = cc in omega arith)
ok_struck false s e = let z : ◌≡◌ {A = ℕ} 0 1 = cc in absurd (omega arith)

module _ (m : Meaning) (law : Lawful m) where
  pub stands : (h : List Call) (rule : ℕ) → rule < m.rules → Stands m h rule (entry m h rule)
  stands h rule known =
      let to-kept = stood_shown m law h rule Kept known (λ x. let z : ◌≡◌ {A = ℕ} 0 1 = cc in omega arith) in
      let to-broken = stood_shown m law h rule Broken known (λ x. let z : ◌≡◌ {A = ℕ} 0 1 = cc in omega arith) in
      record {
        kept = (to-kept, (λ k. stood_told m law h rule k.0 k.2 ∙ k.1));
        broken = (to-broken, (λ k. stood_told m law h rule k.0 k.2 ∙ k.1));
        vacant = ((λ e c k. open_not_claimed c (sym e ∙ stood_told m law h rule c k)), stood_none m law h rule known);
        no_run = λ e. kept_shown m law h rule (to-kept e);
        a_run = λ e. broken_shown m h rule (to-broken e);
      }

  judged : (h : List Call) (rule : ℕ) (bytes : List ℕ) (areas : Areas) → Judged m h rule bytes areas (answer m (hand_in rule bytes areas) (played m h))
  judged h rule bytes areas =
      let n = (played m h).tally.handed_in in
      let v = verdict m rule bytes areas in
      let counted : hand_ins h < most → cond (ltb n most) v (Err (Docket TooMany)) ≡ v = λ l. cond-true (ltb n most) v (Err (Docket TooMany)) (room m h ∙ lt-ltb (hand_ins h) most l) in
      let full : most ≤ hand_ins h → cond (ltb n most) v (Err (Docket TooMany)) ≡ Err (Docket TooMany) = λ l. cond-false (ltb n most) v (Err (Docket TooMany)) (room m h ∙ le-ltb (hand_ins h) most l) in
      record {
        counted = counted;
        accepted = λ x. (
          (λ e.
              ⊎_elim
              (λ l. (l, (accepted_exactly m rule bytes areas x).0 (sym (counted l) ∙ e)))
              (λ l. let f = full l in let z : ◌≡◌ {A = ℕ} 0 1 = cc in absurd (omega arith))
              (cases_lt (hand_ins h) most)),
          (λ k. counted k.0 ∙ (accepted_exactly m rule bytes areas x).1 k.1),
        );
        full = full;
      }

  found : (h : List Call) (rule : ℕ) → Found m h rule (answer m (look_up rule) (played m h))
  found h rule =
      record {
        known = λ l. (entry m h rule, cond-true (ltb rule m.rules) (Ok (entry m h rule)) (Err NoRule) (lt-ltb rule m.rules l), stands h rule l);
        unknown = λ l. cond-false (ltb rule m.rules) (Ok (entry m h rule)) (Err NoRule) (le-ltb rule m.rules l);
      }

  struck : (h : List Call) (rule : ℕ) → Struck m h rule (answer m (strike rule) (played m h))
  struck h rule =
      let s = entry m h rule in
      let r : Result (Unit {0}) DocketFault = if_entered s (Ok tt) (Err NotEntered) in
      record {
        granted = (
          (λ e. let k = ok_struck (ltb rule m.rules) s e in entered_granted m law h rule s (ltb-true rule m.rules k.0) k.1 refl),
          (λ g. cond-true (ltb rule m.rules) r (Err NoRule) (lt-ltb rule m.rules (granted_known m law h rule g)) ∙ struck_ok s (granted_entered m law h rule g)),
        );
        due = granted_due m law h rule;
        idle = λ l none. cond-true (ltb rule m.rules) r (Err NoRule) (lt-ltb rule m.rules l) ∙ struck_err s (stood_none m law h rule l none);
        unknown = λ l. cond-false (ltb rule m.rules) r (Err NoRule) (le-ltb rule m.rules l);
      }

  due : (h : List Call) (call : Call) → Due m h call (answer m call (played m h))
  due h (hand_in rule bytes areas) = judged h rule bytes areas
  due h (look_up rule) = found h rule
  due h tally = tallied m law h
  due h (strike rule) = struck h rule

  -- each answer of the calls that reached a book
  answered : (late : List Made) (x : Made) (past : List Made) (b : Book) → Reached m (late ++ x ∷ past) b → Due m (calls past) x.call x.answer
  answered [] x past b (before, reached, said, e) =
      subst (Due m (calls past) x.call) (sym (said ∙ ap (answer m x.call) (reached_played m past before reached))) (due (calls past) x.call)
  answered (y ∷ late) x past b (before, reached, said, e) = answered late x past before reached

  pub law_kept : (h : List Made) (b : Book) → Reached m h b → Law m h (accounted m b)
  law_kept h b reached =
      let e = reached_played m h b reached in
      record {
        answers = λ late x past whole. answered late x past b (subst (λ k. Reached m k b) whole reached);
        rules = refl;
        standings = λ rule known. subst (λ k. Stands m (calls h) rule (get_or k.standings rule Open)) (sym e) (stands (calls h) rule known);
        beyond = λ rule over. ap (λ k. get_or k.standings rule Open) e ∙ unknown_open m (calls h) rule over;
        counts = subst (λ k. Tallied m (calls h) k.tally) (sym e) (tallied m law (calls h));
      }
