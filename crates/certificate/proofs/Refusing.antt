-- A refusal says where and why.
use Rattle.std.proofs.Common.{◌≡◌, ℕ, zero, suc, ◌+◌, ◌-◌, ◌<◌, ◌≤◌, Bool, true, false, eqb, ◌≢◌, List, [], ◌∷◌, ◌++◌, length, Some, None, Ok, Err, Option, Result, sym, refl, ap, ◌∙◌, subst, ⊎_elim, append_assoc, arith}
use Rattle.std.proofs.lemmas.List.{length-append}
use Rattle.std.proofs.lemmas.Bool.{cond-true, cond-false, eq-eqb, ne_eqb, cases_eq}
use Rattle.refusal.specs.declared.faults.CertificateFault.{CertificateFault}
use Rattle.refusal.specs.declared.faults.CertificateFault.TheVariants.{NoRecord, OutOfPlace}
use Rattle.refusal.specs.declared.faults.CertificateRefusal.{CertificateRefusal}
use Rattle.machine.specs.Meaning.{Meaning}
use Rattle.certificate.specs.declared.record.Record.{Record}
use Rattle.certificate.specs.Records.{encode, encodes, read, Bytes}
use Rattle.certificate.specs.Steps.{View, opening, closed, step}
use Rattle.certificate.specs.Verdict.{is_closed, at_offset, verdict, judged}
use Rattle.certificate.specs.Counterexamples.{Leads, Why, after_end, no_record, at_record, Stopped}
use Rattle.certificate.proofs.Codes.{was_written, none_written, longer, bytes_after}
use Rattle.certificate.proofs.Loop.{verdict_end, verdict_none, verdict_stop, verdict_goes}
use Rattle.certificate.proofs.Answering.{step_goes, step_stops}
use Rattle.certificate.proofs.Accepting.{err_ok, closed_is}

err_same : {X Y : Type 0} {x y : Y} → ◌≡◌ {A = Result X Y} (Err x) (Err y) → x ≡ y
err_same e = cc

-- a refusal from a view on
record Stops (m : Meaning) (o size : ℕ) (v : View) (bs : List ℕ) (ref : CertificateRefusal) : Type 0 where
  done : List Record
  rest : List ℕ
  place : View
  written : bs ≡ encodes done ++ rest
  led : Leads m o v done place
  offset : ref.offset ≡ size - length rest
  question : ref.question ≡ 0
  why : Why m o place rest ref.fault

module _ (m : Meaning) (o size f : ℕ) (bs : List ℕ) (k : ℕ) (v : View) (ref : CertificateRefusal) (bytes : Bytes bs) (fuel : length bs ≤ f)
    (ih : (bs : List ℕ) (k : ℕ) (v : View) → Bytes bs → length bs < f → verdict m o size f bs k v ≡ Err ref → Stops m o size v bs ref) (e : verdict m o size (suc f) bs k v ≡ Err ref) where
  here : (x : CertificateFault) → verdict m o size (suc f) bs k v ≡ Err (at_offset x (size - length bs)) → Why m o v bs x → Stops m o size v bs ref
  here x q w =
      let s : at_offset x (size - length bs) ≡ ref = err_same {X = ℕ} (sym q ∙ e) in
      record {
        done = [];
        rest = bs;
        place = v;
        written = refl;
        led = refl;
        offset = sym (ap (λ (y : CertificateRefusal). y.offset) s);
        question = sym (ap (λ (y : CertificateRefusal). y.question) s);
        why = subst (Why m o v bs) (ap (λ (y : CertificateRefusal). y.fault) s) w;
      }

  more : (r : Record) (after : List ℕ) (w : View) → read bs ≡ Some (r, after) → step m o v r ≡ Ok w → Stops m o size w after ref → Stops m o size v bs ref
  more r after w h s q = record {
    done = r ∷ q.done;
    rest = q.rest;
    place = q.place;
    written = was_written bs r after bytes h ∙ ap (λ (x : List ℕ). encode r ++ x) q.written ∙ sym (append_assoc (encode r) (encodes q.done) q.rest);
    led = (w, step_goes m o v w r s, q.led);
    offset = q.offset;
    question = q.question;
    why = q.why;
  }

  by_step : (r : Record) (after : List ℕ) (x : Result View CertificateFault) → is_closed v ≡ false → read bs ≡ Some (r, after) → step m o v r ≡ x → Stops m o size v bs ref
  by_step r after (Err x) c h s = here x (verdict_stop m o size f bs k v r after x c h s) (at_record r after (was_written bs r after bytes h) (step_stops m o v x r s))
  by_step r after (Ok w) c h s =
      let wr = was_written bs r after bytes h in
      more r after w h s (ih after (k + 1) w (bytes_after r bs after wr bytes) (omega (arith, longer r bs after wr)) (sym (verdict_goes m o size f bs k v r after w c h s) ∙ e))

  not_closed : is_closed v ≡ false → v ≡ closed → ⊥
  not_closed c q = let z : false ≡ true = sym c ∙ ap is_closed q in let n : ◌≡◌ {A = ℕ} 0 1 = cc in omega arith

  by_read : (x : Option (Record × List ℕ)) → is_closed v ≡ false → read bs ≡ x → Stops m o size v bs ref
  by_read None c h = here NoRecord (verdict_none m o size f bs k v c h) (no_record (not_closed c) (none_written bs h))
  by_read (Some p) c h = by_step p.0 p.1 (step m o v p.0) c h refl

  by_closed : (b : Bool) → is_closed v ≡ b → Stops m o size v bs ref
  by_closed true c =
      ⊎_elim
      (λ (z : length bs ≡ 0). absurd (err_ok (sym (sym (verdict_end m o size f bs k v c ∙ cond-true (eqb (length bs) 0) _ _ (eq-eqb (length bs) 0 z)) ∙ e))))
      (λ (z : length bs ≢ 0). here OutOfPlace (verdict_end m o size f bs k v c ∙ cond-false (eqb (length bs) 0) _ _ (ne_eqb (length bs) 0 z))
      (subst (λ (u : View). Why m o u bs OutOfPlace) (sym (closed_is v c)) (after_end (λ q. z (ap length q)))))
      (cases_eq (length bs) 0)
  by_closed false c = by_read (read bs) c refl

stops : (m : Meaning) (o size f : ℕ) (bs : List ℕ) (k : ℕ) (v : View) (ref : CertificateRefusal) → Bytes bs → length bs < f → verdict m o size f bs k v ≡ Err ref → Stops m o size v bs ref
stops m o size zero bs k v ref h l e = absurd (omega arith)
stops m o size (suc f) bs k v ref h l e = by_closed m o size f bs k v ref h (omega arith) (λ bs k v. stops m o size f bs k v ref) e (is_closed v) refl

pub stopped : (m : Meaning) (o : ℕ) (bytes : List ℕ) (ref : CertificateRefusal) → Bytes bytes → judged m o bytes ≡ Err ref → Stopped m o bytes ref
stopped m o bytes ref h e =
    let q = stops m o (length bytes) (suc (length bytes)) bytes 0 opening ref h (omega arith) e in
    let offset = q.offset in
    record {
      done = q.done;
      rest = q.rest;
      place = q.place;
      written = q.written;
      led = q.led;
      offset = omega (arith, ap length q.written, length-append (encodes q.done) q.rest);
      question = q.question;
      why = q.why;
    }
