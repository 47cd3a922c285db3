-- What each way out of the check says.
use Rattle.std.proofs.Common.{◌≡◌, ℕ, ◌+◌, List, length, Ok, Err, Result, sym, refl, ap, ◌∙◌, ap₂, arith}
use Rattle.std.proofs.lemmas.List.{length-append}
use Rattle.std.proofs.lemmas.Bool.{cond-true}
use Rattle.refusal.specs.declared.faults.CertificateRefusal.{CertificateRefusal}
use Rattle.refusal.specs.declared.faults.DocketFault.{DocketFault}
use Rattle.refusal.specs.declared.faults.Refusal.{Refusal}
use Rattle.refusal.specs.declared.faults.Refusal.TheVariants.{Docket, Certificate}
use Rattle.stack.specs.declared.spans.Span.{Span}
use Rattle.resolution.specs.Outcomes as refutation
use Rattle.machine.specs.Meaning.{Meaning}
use Rattle.certificate.specs.declared.cursor.Cursor.{Cursor}
use Rattle.certificate.specs.Records.{encodes, Bytes}
use Rattle.certificate.specs.Verdict.{carried}
use Rattle.opening.specs.declared.opening.Opening.{Opening}
use Rattle.opening.specs.Steps.{room_in}
use Rattle.opening.specs.Reading.{Contents, Answer, reading}
use Rattle.opening.specs.Views.{contents, shown}
use Rattle.opening.specs.Openings.{opening_records, Reads}
use Rattle.checking.specs.Asked.{Areas}
use Rattle.checking.specs.Begun.{Opened}
use Rattle.checking.specs.Verdicts.{admitted, proved, accepting, are_bytes, verdict}
use Rattle.checking.specs.declared.Accepted.{Accepted}
use Rattle.checking.proofs.Written.{bytes_tested}
use Rattle.checking.proofs.Exactly.{fits_from, fits_admitted}
use Rattle.checking.proofs.Loop.{enough}

module _ (m : Meaning) (rule : ℕ) (bytes : List ℕ) (areas : Areas) (of_bytes : Bytes bytes) where
  abbrev after_opening : Answer → Result Accepted Refusal
  after_opening a = carried Certificate a.0 (λ k. accepting k.claim (proved m rule bytes areas k a.1))

  verdict_by : (call : Result (Unit {0}) DocketFault) → call ≡ admitted m rule areas → carried Docket call (λ _. after_opening (reading m (room_in areas.literals areas.spans) 0 bytes)) ≡ verdict m rule bytes areas
  unfolding verdict
  verdict_by call e =
      ap (λ (r : Result (Unit {0}) DocketFault). carried Docket r (λ _. after_opening (reading m (room_in areas.literals areas.spans) 0 bytes))) e
      ∙ sym (cond-true (are_bytes bytes) _ _ (bytes_tested bytes of_bytes))

  -- the call is refused
  pub call_refused : (f : DocketFault) → Err f ≡ admitted m rule areas → Err (Docket f) ≡ verdict m rule bytes areas
  call_refused f e = verdict_by (Err f) e

  module _ (admits : Ok tt ≡ admitted m rule areas) (before after : Cursor) (rest-is : before.rest.now ≡ bytes) (offset_is : before.offset ≡ 0) (ls : List ℕ) (ps : List Span) where
    read_is : reading m (room_in areas.literals areas.spans) before.offset before.rest.now ≡ reading m (room_in areas.literals areas.spans) 0 bytes
    read_is =
        ap (λ (i : ℕ). reading m (room_in areas.literals areas.spans) i before.rest.now) offset_is
        ∙ ap (reading m (room_in areas.literals areas.spans) 0) rest-is

    opened_by : (r : Result Opening CertificateRefusal) → Reads m (room_in areas.literals areas.spans) before after ls ps r →
        after_opening (shown r ls ps, after.rest.now) ≡ verdict m rule bytes areas
    opened_by r w =
        ap₂ (λ (a : Result Contents CertificateRefusal) (x : List ℕ). after_opening (a, x)) (w.is ∙ ap (λ (a : Answer). a.0) read_is) (w.rest ∙ ap (λ (a : Answer). a.1) read_is)
        ∙ verdict_by (Ok tt) admits

    -- the opening is refused
    pub opening_refused : (e : CertificateRefusal) → Reads m (room_in areas.literals areas.spans) before after ls ps (Err e) → Err (Certificate e) ≡ verdict m rule bytes areas
    opening_refused e w = opened_by (Err e) w

    module _ (o : Opening) (w : Reads m (room_in areas.literals areas.spans) before after ls ps (Ok o)) (literals_long : length ls ≡ areas.literals) (spans_long : length ps ≡ areas.spans) where
      -- the refutations begin
      pub begins : Opened m o.claim o after.offset ls ps
      begins =
          let rs = opening_records o.claim o.size (contents o ls ps).frames in
          let n = w.opens.counted in
          let t = w.offset in
          record {
            claims = refl;
            few = w.opens.proper.few;
            framed = w.frames;
            admits = ap₂ refutation.admitted literals_long spans_long ∙ fits_admitted m rule areas (fits_from m rule areas (sym admits));
            counted = omega (arith, enough rs, ap length w.opens.written, length-append (encodes rs) after.rest.now);
          }

      pub whole : after.offset + length after.rest.now ≡ length bytes
      whole = let t = w.offset in omega (arith, ap length rest-is)

      -- what the claim asks for is refused, or granted
      module _ (r : Result ℕ Refusal) (e : r ≡ proved m rule bytes (record { row = areas.row; literals = length ls; spans = length ps }) (contents o ls ps) after.rest.now) where
        pub claim_said : accepting o.claim r ≡ verdict m rule bytes areas
        claim_said =
            ap (accepting o.claim)
            (e ∙ ap₂ (λ (x y : ℕ). proved m rule bytes (record { row = areas.row; literals = x; spans = y }) (contents o ls ps) after.rest.now) literals_long spans_long)
            ∙ opened_by (Ok o) w
