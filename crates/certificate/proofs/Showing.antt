-- What the answer of the whole check shows.
use Rattle.std.proofs.Common.{◌≡◌, ℕ, suc, ◌<◌, ◌≤◌, List, length, Ok, Err, Result, sym, refl, ap, ◌∙◌, subst, ⊎_elim, zero-add, arith}
use Rattle.std.proofs.lemmas.Bool.{cases_lt}
use Rattle.std.proofs.lemmas.Bool.Decides.{nat_tests}
use Rattle.refusal.specs.declared.faults.CertificateRefusal.{CertificateRefusal}
use Rattle.refusal.specs.declared.faults.DocketFault.{DocketFault}
use Rattle.refusal.specs.declared.faults.DocketFault.TheVariants.{NoRule, UnfitArea}
use Rattle.refusal.specs.declared.faults.Refusal.{Refusal}
use Rattle.refusal.specs.declared.faults.Refusal.TheVariants.{Docket, Certificate}
use Rattle.machine.specs.Meaning.{Meaning}
use Rattle.certificate.specs.Records.{encodes, Bytes}
use Rattle.certificate.specs.Steps.{opening}
use Rattle.certificate.specs.Verdict.{judged, admitted, carried, replayed}
use Rattle.certificate.specs.Counterexamples.{certificate, Counterexample, Shows}
use Rattle.certificate.proofs.Accepting.{accepted, accepts}
use Rattle.certificate.proofs.Replaying.{certified, leads}
use Rattle.certificate.proofs.Refusing.{stopped}

module _ (m : Meaning) (o : ℕ) (bytes : List ℕ) (area : ℕ) where
  -- the answer by the questions on the call
  after_call : Result (Unit {0}) DocketFault → Result ℕ Refusal
  after_call r = carried Docket r (λ _. carried Certificate (judged m o bytes) Ok)

  admits : o < m.rules → m.variables ≤ area → admitted m o area ≡ Ok tt
  admits a b = grind (arith, nat_tests)

  replay_by : (r : Result (Unit {0}) DocketFault) → admitted m o area ≡ r → replayed m o bytes area ≡ after_call r
  unfolding after_call
  replay_by r e = ap after_call e

  replay_goes : o < m.rules → m.variables ≤ area → replayed m o bytes area ≡ carried Certificate (judged m o bytes) Ok
  unfolding after_call
  replay_goes a b = replay_by (Ok tt) (admits a b)

  pub taken : (k : ℕ) → Counterexample m o bytes area k → replayed m o bytes area ≡ Ok k
  taken k c =
      let judged-is : judged m o bytes ≡ Ok (length (certificate c.rows)) = ap (judged m o) c.written ∙ accepts m o (certificate c.rows) (leads m o c.rows c.run c.few c.breaks) in
      replay_goes c.known c.room ∙ ap (λ (r : Result ℕ CertificateRefusal). carried Certificate r Ok) (judged-is ∙ ap Ok (sym c.counted))

  by_judged : (r : Result ℕ CertificateRefusal) → Bytes bytes → o < m.rules → m.variables ≤ area → judged m o bytes ≡ r → Shows m o bytes area (carried Certificate r Ok)
  by_judged (Err ref) h a b e = (a, b, stopped m o bytes ref h e)
  by_judged (Ok k) h a b e =
      let ran = accepted m o (length bytes) (suc (length bytes)) bytes 0 opening k h e in
      let c = certified m o ran.records ran.led in
      record {
        known = a;
        room = b;
        rows = c.rows;
        run = c.run;
        few = c.few;
        breaks = c.breaks;
        written = ran.wrote ∙ ap encodes c.is;
        counted = ran.says ∙ zero-add (length ran.records) ∙ ap length c.is;
      }

  pub shows : Bytes bytes → Shows m o bytes area (replayed m o bytes area)
  unfolding after_call
  shows h =
      ⊎_elim
      (λ (a : o < m.rules). ⊎_elim
      (λ (b : area < m.variables). subst (Shows m o bytes area) (sym (replay_by (Err UnfitArea) (grind (arith, nat_tests)))) (a, b))
      (λ (b : m.variables ≤ area). subst (Shows m o bytes area) (sym (replay_goes a b)) (by_judged (judged m o bytes) h a b refl))
      (cases_lt area m.variables))
      (λ (a : m.rules ≤ o). subst (Shows m o bytes area) (sym (replay_by (Err NoRule) (grind (arith, nat_tests)))) a)
      (cases_lt o m.rules)
