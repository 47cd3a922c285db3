-- The verdict accepts exactly the lawful certificates.
use Rattle.std.proofs.Common.{◌≡◌, ℕ, ◌+◌, ◌<◌, ◌≤◌, true, ◌&&◌, ltb, leb, List, [], ◌∷◌, ◌++◌, length, Ok, Err, Result, sym, refl, ap, ◌∙◌, subst, arith}
use Rattle.std.specs.List.{flat_map}
use Rattle.std.proofs.lemmas.List.{length-append}
use Rattle.std.proofs.lemmas.Bool.{ltb-true, leb-true, lt-ltb, le-leb, and_from, and_parts, cond-true}
use Rattle.refusal.specs.declared.faults.CertificateRefusal.{CertificateRefusal}
use Rattle.refusal.specs.declared.faults.DocketFault.{DocketFault}
use Rattle.refusal.specs.declared.faults.DocketFault.TheVariants.{NoRule, UnfitArea}
use Rattle.refusal.specs.declared.faults.Refusal.{Refusal}
use Rattle.refusal.specs.declared.faults.Refusal.TheVariants.{Docket, Certificate}
use Rattle.resolution.specs.Outcomes as outcomes
use Rattle.machine.specs.Meaning.{Meaning}
use Rattle.certificate.specs.declared.record.Record.TheVariants.{End}
use Rattle.certificate.specs.Records.{encodes, Bytes}
use Rattle.certificate.specs.Verdict.{carried, replayed}
use Rattle.certificate.specs.Counterexamples.{Counterexample, Shows, rows_records}
use Rattle.certificate.proofs.Accepting.{err_ok}
use Rattle.certificate.proofs.Showing.{shows, taken}
use Rattle.certificate.specs.declared.claim.Claim.{Claim}
use Rattle.certificate.specs.declared.claim.Claim.TheVariants.{Trace, Induction, Counterexample as Broken}
use Rattle.opening.specs.Steps.{room_in}
use Rattle.opening.specs.Reading.{Contents, Answer, reading}
use Rattle.opening.specs.Openings.{opening_records, Opens}
use Rattle.opening.proofs.Accepting.{accepts}
use Rattle.refuting.specs.Refutations.{records}
use Rattle.checking.specs.declared.Accepted.{Accepted}
use Rattle.checking.specs.Asked.{Areas, questions, room_above}
use Rattle.checking.specs.Lawful.{proof_records, Proof, LawfulCertificate}
use Rattle.checking.specs.Lawful as lawful
use Rattle.checking.specs.Verdicts.{admitted, refuted, by_claim, proved, accepting, checked, are_bytes, verdict}
use Rattle.checking.proofs.Written.{encodes_append, bytes_behind, bytes_tested, tested_all, all_bytes}
use Rattle.checking.proofs.Endings.{when_ok, refuted_proved, proved_refuted}
use Rattle.checking.proofs.OpeningsRead.{opens}

carried_ok : {X Y E : Type 0} (up : E → Refusal) (r : Result X E) (next : X → Result Y Refusal) (y : Y) → carried up r next ≡ Ok y → (x : X) × (r ≡ Ok x) × (next x ≡ Ok y)
carried_ok up (Ok x) next y e = (x, refl, e)
carried_ok up (Err f) next y e = absurd (err_ok e)

accepting_ok : (claim : Claim) (r : Result ℕ Refusal) (x : Accepted) → accepting claim r ≡ Ok x → (r ≡ Ok x.records) × (claim ≡ x.claim)
accepting_ok claim (Ok n) x e =
    let s : record { claim = claim; records = n } ≡ x = cc in
    (ap (λ (a : Accepted). Ok a.records) s, ap (λ (a : Accepted). a.claim) s)
accepting_ok claim (Err f) x e = absurd (err_ok e)

module _ (m : Meaning) (rule : ℕ) (areas : Areas) where
  -- the call is admitted
  pub record Fits : Type 0 where
    pub known : rule < m.rules
    pub row : m.variables ≤ areas.row
    pub literals : areas.literals ≤ 1048576
    pub spans : areas.spans ≤ 65536

  pub fits_from : admitted m rule areas ≡ Ok tt → Fits
  fits_from e =
      let u = when_ok (ltb rule m.rules) _ NoRule tt e in
      let v = when_ok (leb m.variables areas.row && (leb areas.literals 1048576 && leb areas.spans 65536)) (Ok tt) UnfitArea tt u.1 in
      let p = and_parts (leb m.variables areas.row) (leb areas.literals 1048576 && leb areas.spans 65536) v.0 in
      let q = and_parts (leb areas.literals 1048576) (leb areas.spans 65536) p.1 in
      record { known = ltb-true _ _ u.0; row = leb-true _ _ p.0; literals = leb-true _ _ q.0; spans = leb-true _ _ q.1 }

  from_fits : Fits → admitted m rule areas ≡ Ok tt
  from_fits f =
      cond-true (ltb rule m.rules) _ _ (lt-ltb _ _ f.known)
      ∙ cond-true (leb m.variables areas.row && (leb areas.literals 1048576 && leb areas.spans 65536)) _ _
      (and_from _ _ (le-leb _ _ f.row) (and_from _ _ (le-leb _ _ f.literals) (le-leb _ _ f.spans)))

  pub fits_admitted : Fits → outcomes.admitted areas.literals areas.spans ≡ true
  unfolding outcomes.admitted
  fits_admitted f = and_from _ _ (le-leb _ _ f.literals) (le-leb _ _ f.spans)

module _ (m : Meaning) (rule : ℕ) (bytes : List ℕ) (areas : Areas) where
  module _ (of_bytes : Bytes bytes) where
    proof_from : (k : Contents) (left : List ℕ) (n : ℕ) → Opens m (room_in areas.literals areas.spans) bytes left k →
        refuted (questions m rule k.claim k.size k.frames) (room_above areas.literals areas.spans k.frames) 0 (length bytes) left k.records ≡ Ok n → Proof m rule bytes areas k.claim n
    proof_from k left n o e =
        let rs = opening_records k.claim k.size k.frames in
        let qs = questions m rule k.claim k.size k.frames in
        let p = refuted_proved (room_above areas.literals areas.spans k.frames) qs 0 (length bytes) left k.records n (bytes_behind (encodes rs) left (subst Bytes o.written of_bytes)) e in
        let rest = flat_map records p.refutations ++ End ∷ [] in
        record {
          size = k.size;
          frames = k.frames;
          proper = o.proper;
          refutations = p.refutations;
          refutes = p.refutes;
          written = o.written ∙ ap (λ (x : List ℕ). encodes rs ++ x) p.written ∙ sym (encodes_append rs rest);
          counted = p.counted ∙ omega (arith, o.counted, length-append rs rest);
        }

    counterexample_from : (n : ℕ) → replayed m rule bytes areas.row ≡ Ok n → Counterexample m rule bytes areas.row n
    counterexample_from n e = subst (Shows m rule bytes areas.row) e (shows m rule bytes areas.row of_bytes)

    certificate_from : (claim : Claim) (kept broken : Result ℕ Refusal) (n : ℕ) → by_claim claim kept broken ≡ Ok n →
        (kept ≡ Ok n → Proof m rule bytes areas claim n) → (broken ≡ Ok n → Counterexample m rule bytes areas.row n) → lawful.Certificate m rule bytes areas claim n
    certificate_from Trace kept broken n e f g = f e
    certificate_from Induction kept broken n e f g = f e
    certificate_from Broken kept broken n e f g = g e

    same_ok : (x n : ℕ) (r : Result ℕ CertificateRefusal) → r ≡ Ok x → ◌≡◌ {A = Result ℕ Refusal} (Ok x) (Ok n) → r ≡ Ok n
    same_ok x n r e f = let s : x ≡ n = cc in e ∙ ap Ok s

    checked_lawful : (x : Accepted) → checked m rule bytes areas ≡ Ok x → are_bytes bytes ≡ true → LawfulCertificate m rule bytes areas x.claim x.records
    checked_lawful x e tested =
        let o = reading m (room_in areas.literals areas.spans) 0 bytes in
        let after = λ (k : Contents). accepting k.claim (proved m rule bytes areas k o.1) in
        let u = carried_ok Docket (admitted m rule areas) (λ _. carried Certificate o.0 after) x e in
        let v = carried_ok Certificate o.0 after x u.2 in
        let k = v.0 in
        let w = accepting_ok k.claim (proved m rule bytes areas k o.1) x v.2 in
        let q = opens m (room_in areas.literals areas.spans) 0 bytes o.1 k (ap (λ (a : Result Contents CertificateRefusal). (a, o.1)) v.1) of_bytes in
        let f = fits_from m rule areas u.1 in
        let c = certificate_from k.claim _ (replayed m rule bytes areas.row) x.records w.0
        (λ a. let r = carried_ok Certificate _ Ok x.records a in proof_from k o.1 x.records q (same_ok r.0 x.records _ r.1 r.2))
        (counterexample_from x.records) in
        record {
          known = f.known;
          row = f.row;
          literals = f.literals;
          spans = f.spans;
          of_bytes = tested_all bytes tested;
          certificate = subst (λ (d : Claim). lawful.Certificate m rule bytes areas d x.records) w.1 c;
        }

  pub verdict_lawful : (x : Accepted) → verdict m rule bytes areas ≡ Ok x → LawfulCertificate m rule bytes areas x.claim x.records
  unfolding verdict
  verdict_lawful x e =
      let w = when_ok (are_bytes bytes) (checked m rule bytes areas) _ x e in
      checked_lawful (all_bytes bytes (tested_all bytes w.0)) x w.1 w.0

  -- the other way round
  module _ (f : Fits m rule areas) where
    opened_checked : (k : Contents) (left : List ℕ) (n : ℕ) → Opens m (room_in areas.literals areas.spans) bytes left k → proved m rule bytes areas k left ≡ Ok n →
        checked m rule bytes areas ≡ Ok (record { claim = k.claim; records = n })
    opened_checked k left n o e =
        let r = reading m (room_in areas.literals areas.spans) 0 bytes in
        ap (λ (a : Result (Unit {0}) DocketFault). carried Docket a (λ _. carried Certificate r.0 (λ j. accepting j.claim (proved m rule bytes areas j r.1)))) (from_fits m rule areas f)
        ∙ ap (λ (a : Answer). carried Certificate a.0 (λ j. accepting j.claim (proved m rule bytes areas j a.1))) (accepts m (room_in areas.literals areas.spans) 0 bytes left k o)
        ∙ ap (accepting k.claim) e

    module _ (claim : Claim) (n : ℕ) (p : Proof m rule bytes areas claim n) where
      abbrev proof_contents : Contents
      proof_contents = record { claim = claim; size = p.size; frames = p.frames; records = length (opening_records claim p.size p.frames) }

      abbrev proof_left : List ℕ
      proof_left = encodes (flat_map records p.refutations ++ End ∷ [])

      proof_opens : Opens m (room_in areas.literals areas.spans) bytes proof_left proof_contents
      proof_opens = record {
        proper = p.proper;
        written = p.written ∙ encodes_append (opening_records claim p.size p.frames) (flat_map records p.refutations ++ End ∷ []);
        counted = refl;
      }

      proof_refuted : refuted (questions m rule claim p.size p.frames) (room_above areas.literals areas.spans p.frames) 0 (length bytes) proof_left proof_contents.records ≡ Ok n
      proof_refuted =
          let rest = flat_map records p.refutations ++ End ∷ [] in
          let rs = opening_records claim p.size p.frames in
          let count : length rs + length rest ≡ n = omega (arith, p.counted, length-append rs rest) in
          proved_refuted (room_above areas.literals areas.spans p.frames) (fits_admitted m rule areas f) (questions m rule claim p.size p.frames) p.refutations 0 (length bytes) (length rs) p.refutes ∙ ap Ok count

    counterexample_checked : (n : ℕ) → Counterexample m rule bytes areas.row n → checked m rule bytes areas ≡ Ok (record { claim = Broken; records = n })
    counterexample_checked n c =
        opened_checked (record { claim = Broken; size = length c.rows; frames = []; records = 1 }) (encodes (rows_records c.rows (End ∷ []))) n
        (record {
          proper = record { some = c.run.some; few = c.few; framed = refl; rising = tt; of_state = tt; starts = refl; literals_fit = omega arith; clauses_fit = omega arith };
          written = c.written;
          counted = refl;
        })
        (taken m rule bytes areas.row n c)

    certificate_checked : (claim : Claim) (n : ℕ) → lawful.Certificate m rule bytes areas claim n → checked m rule bytes areas ≡ Ok (record { claim = claim; records = n })
    certificate_checked Trace n p =
        opened_checked (proof_contents Trace n p) (proof_left Trace n p) n (proof_opens Trace n p) (ap (λ (r : Result ℕ CertificateRefusal). carried Certificate r Ok) (proof_refuted Trace n p))
    certificate_checked Induction n p =
        opened_checked (proof_contents Induction n p) (proof_left Induction n p) n (proof_opens Induction n p) (ap (λ (r : Result ℕ CertificateRefusal). carried Certificate r Ok) (proof_refuted Induction n p))
    certificate_checked Broken n c = counterexample_checked n c

  pub lawful_verdict : (claim : Claim) (n : ℕ) → LawfulCertificate m rule bytes areas claim n → verdict m rule bytes areas ≡ Ok (record { claim = claim; records = n })
  unfolding verdict
  lawful_verdict claim n c =
      cond-true (are_bytes bytes) _ _ (bytes_tested bytes (all_bytes bytes c.of_bytes))
      ∙ certificate_checked (record { known = c.known; row = c.row; literals = c.literals; spans = c.spans }) claim n c.certificate
