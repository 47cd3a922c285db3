-- Bytes are accepted exactly where they are records that lead to the end.
use Rattle.std.proofs.Common.{◌≡◌, ℕ, zero, suc, ◌+◌, ◌≤◌, Bool, true, false, eqb, ◌≢◌, List, [], ◌∷◌, ◌++◌, length, Some, None, Ok, Err, Option, Result, sym, refl, ap, ◌∙◌, ⊎_elim, arith}
use Rattle.std.proofs.lemmas.Bool.{cond-true, cond-false, eq-eqb, ne_eqb, cases_eq}
use Rattle.refusal.specs.declared.faults.CertificateFault.{CertificateFault}
use Rattle.refusal.specs.declared.faults.CertificateRefusal.{CertificateRefusal}
use Rattle.machine.specs.Meaning.{Meaning}
use Rattle.certificate.specs.declared.record.Record.{Record}
use Rattle.certificate.specs.Records.{encode, encodes, read, Bytes}
use Rattle.certificate.specs.Steps.{View, opening, in_row, closing, closed, step}
use Rattle.certificate.specs.Verdict.{is_closed, verdict, judged}
use Rattle.certificate.specs.Counterexamples.{Goes, claims, sets, turns, breaks, ends, Leads}
use Rattle.certificate.proofs.Codes.{reads, was_written, longer, bytes_after}
use Rattle.certificate.proofs.Loop.{verdict_end, verdict_none, verdict_stop, verdict_goes}
use Rattle.certificate.proofs.Answering.{step_goes, goes_step}

pub err_ok : {X Y : Type 0} {x : X} {y : Y} → ◌≡◌ {A = Result X Y} (Err y) (Ok x) → ⊥
err_ok e = let z : ◌≡◌ {A = ℕ} 0 1 = cc in omega arith

ok_same : {X Y : Type 0} {x y : X} → ◌≡◌ {A = Result X Y} (Ok x) (Ok y) → x ≡ y
ok_same e = cc

pub empty : (bs : List ℕ) → length bs ≡ 0 → bs ≡ []
empty [] e = refl
empty (x ∷ xs) e = absurd (omega arith)

false_true : false ≡ true → ⊥
false_true e = let z : ◌≡◌ {A = ℕ} 0 1 = cc in omega arith

pub closed_is : (v : View) → is_closed v ≡ true → v ≡ closed
closed_is opening c = absurd (false_true c)
closed_is (in_row left bits state) c = absurd (false_true c)
closed_is closing c = absurd (false_true c)
closed_is closed c = refl

-- bytes that are records which lead from v to the end
pub record Ran (m : Meaning) (o : ℕ) (v : View) (bs : List ℕ) (k n : ℕ) : Type 0 where
  pub records : List Record
  pub wrote : bs ≡ encodes records
  pub led : Leads m o v records closed
  pub says : n ≡ k + length records

module _ (m : Meaning) (o size f : ℕ) (bs : List ℕ) (k : ℕ) (v : View) (n : ℕ) (bytes : Bytes bs)
    (ih : (bs : List ℕ) (k : ℕ) (v : View) → Bytes bs → verdict m o size f bs k v ≡ Ok n → Ran m o v bs k n) (e : verdict m o size (suc f) bs k v ≡ Ok n) where
  more : (r : Record) (after : List ℕ) (w : View) → read bs ≡ Some (r, after) → step m o v r ≡ Ok w → Ran m o w after (k + 1) n → Ran m o v bs k n
  more r after w h s q = record {
    records = r ∷ q.records;
    wrote = was_written bs r after bytes h ∙ ap (λ (x : List ℕ). encode r ++ x) q.wrote;
    led = (w, step_goes m o v w r s, q.led);
    says = q.says ∙ omega arith;
  }

  by_step : (r : Record) (after : List ℕ) (x : Result View CertificateFault) → is_closed v ≡ false → read bs ≡ Some (r, after) → step m o v r ≡ x → Ran m o v bs k n
  by_step r after (Err x) c h s = absurd (err_ok (sym (verdict_stop m o size f bs k v r after x c h s) ∙ e))
  by_step r after (Ok w) c h s = more r after w h s (ih after (k + 1) w (bytes_after r bs after (was_written bs r after bytes h) bytes) (sym (verdict_goes m o size f bs k v r after w c h s) ∙ e))

  by_read : (x : Option (Record × List ℕ)) → is_closed v ≡ false → read bs ≡ x → Ran m o v bs k n
  by_read None c h = absurd (err_ok (sym (verdict_none m o size f bs k v c h) ∙ e))
  by_read (Some p) c h = by_step p.0 p.1 (step m o v p.0) c h refl

  at_end : is_closed v ≡ true → Ran m o v bs k n
  at_end c =
      ⊎_elim
      (λ (z : length bs ≡ 0). record {
        records = [];
        wrote = empty bs z;
        led = closed_is v c;
        says = sym (ok_same {Y = CertificateRefusal} (sym (verdict_end m o size f bs k v c ∙ cond-true (eqb (length bs) 0) _ _ (eq-eqb (length bs) 0 z)) ∙ e)) ∙ omega arith;
      })
      (λ (z : length bs ≢ 0). absurd (err_ok (sym (verdict_end m o size f bs k v c ∙ cond-false (eqb (length bs) 0) _ _ (ne_eqb (length bs) 0 z)) ∙ e)))
      (cases_eq (length bs) 0)

  by_closed : (b : Bool) → is_closed v ≡ b → Ran m o v bs k n
  by_closed true c = at_end c
  by_closed false c = by_read (read bs) c refl

-- accepted bytes are such records
pub accepted : (m : Meaning) (o size f : ℕ) (bs : List ℕ) (k : ℕ) (v : View) (n : ℕ) → Bytes bs → verdict m o size f bs k v ≡ Ok n → Ran m o v bs k n
unfolding verdict
accepted m o size zero bs k v n h e = absurd (err_ok e)
accepted m o size (suc f) bs k v n h e = by_closed m o size f bs k v n h (λ bs k v. accepted m o size f bs k v n) e (is_closed v) refl

-- and such records are accepted
open_yet : {m : Meaning} {o : ℕ} {v u : View} {r : Record} → Goes m o v r u → is_closed v ≡ false
open_yet (claims a b) = refl
open_yet (sets h k) = refl
open_yet (turns h k) = refl
open_yet (breaks h k e) = refl
open_yet ends = refl

enough : (rs : List Record) → length rs ≤ length (encodes rs)
enough [] = omega arith
enough (r ∷ rs) = omega (arith, enough rs, longer r (encodes (r ∷ rs)) (encodes rs) refl)

took : (m : Meaning) (o size f : ℕ) (rs : List Record) (k : ℕ) (v : View) → length rs ≤ f → Leads m o v rs closed → verdict m o size (suc f) (encodes rs) k v ≡ Ok (k + length rs)
took m o size f [] k v l e = verdict_end m o size f [] k v (ap is_closed e) ∙ ap Ok (omega arith)
took m o size zero (r ∷ rs) k v l p = absurd (omega arith)
took m o size (suc f) (r ∷ rs) k v l p =
    verdict_goes m o size (suc f) (encode r ++ encodes rs) k v r (encodes rs) p.0 (open_yet p.1) (reads r (encodes rs)) (goes_step m o p.1)
    ∙ took m o size f rs (k + 1) p.0 (omega arith) p.2 ∙ ap Ok (omega arith)

pub accepts : (m : Meaning) (o : ℕ) (rs : List Record) → Leads m o opening rs closed → judged m o (encodes rs) ≡ Ok (length rs)
accepts m o rs p = took m o (length (encodes rs)) (length (encodes rs)) rs 0 opening (enough rs) p ∙ ap Ok (omega arith)
