-- The loop over the records, turn by turn.
use Rattle.std.proofs.Common.{◌≡◌, ℕ, zero, suc, ◌+◌, ◌-◌, ◌<◌, ◌≤◌, Bool, true, false, cond, List, length, Some, None, Ok, Err, Option, Result, sym, refl, ap, ◌∙◌, ◌≢◌, arith}
use Rattle.refusal.specs.declared.faults.CertificateFault.{CertificateFault}
use Rattle.refusal.specs.declared.faults.CertificateFault.TheVariants.{NoRecord}
use Rattle.refusal.specs.declared.faults.CertificateRefusal.{CertificateRefusal}
use Rattle.machine.specs.Meaning.{Meaning}
use Rattle.certificate.specs.declared.record.Record.{Record}
use Rattle.certificate.specs.declared.phase.Phase.{Phase}
use Rattle.certificate.specs.declared.phase.Phase.TheVariants.{Opening, Row, Closing, Closed}
use Rattle.certificate.specs.Records.{read}
use Rattle.certificate.specs.Views.{view}
use Rattle.certificate.specs.Steps.{View, opening, step}
use Rattle.certificate.specs.Verdict.{is_closed, at_offset, finished, onward, by_record, verdict, judged}

-- one turn of the verdict
module _ (m : Meaning) (o size f : ℕ) (rest : List ℕ) (k : ℕ) (v : View) where
  abbrev turned : Bool → Option (Record × List ℕ) → Result ℕ CertificateRefusal
  turned b r = cond b (finished (length rest) (size - length rest) k)
      (by_record r (Err (at_offset NoRecord (size - length rest))) (λ r after. onward (step m o v r) (size - length rest) (λ w. verdict m o size f after (k + 1) w)))

  turn : (b : Bool) (r : Option (Record × List ℕ)) → is_closed v ≡ b → read rest ≡ r → verdict m o size (suc f) rest k v ≡ turned b r
  unfolding verdict
  turn b r e h = ap (λ (x : Bool). turned x (read rest)) e ∙ ap (turned b) h

  pub verdict_end : is_closed v ≡ true → verdict m o size (suc f) rest k v ≡ finished (length rest) (size - length rest) k
  verdict_end e = turn true (read rest) e refl

  pub verdict_none : is_closed v ≡ false → read rest ≡ None → verdict m o size (suc f) rest k v ≡ Err (at_offset NoRecord (size - length rest))
  verdict_none e h = turn false None e h

  pub verdict_stop : (r : Record) (after : List ℕ) (x : CertificateFault) → is_closed v ≡ false → read rest ≡ Some (r, after) → step m o v r ≡ Err x →
      verdict m o size (suc f) rest k v ≡ Err (at_offset x (size - length rest))
  verdict_stop r after x e h s = turn false (Some (r, after)) e h
      ∙ ap (λ (y : Result View CertificateFault). onward y (size - length rest) (λ w. verdict m o size f after (k + 1) w)) s

  pub verdict_goes : (r : Record) (after : List ℕ) (w : View) → is_closed v ≡ false → read rest ≡ Some (r, after) → step m o v r ≡ Ok w →
      verdict m o size (suc f) rest k v ≡ verdict m o size f after (k + 1) w
  verdict_goes r after w e h s = turn false (Some (r, after)) e h
      ∙ ap (λ (y : Result View CertificateFault). onward y (size - length rest) (λ w. verdict m o size f after (k + 1) w)) s

-- only the phase after the end is a closed one
pub not_closed : (m : Meaning) (p : Phase) (area : List ℕ) → p ≢ Closed → is_closed (view m p area) ≡ false
not_closed m Opening area n = refl
not_closed m (Row left bits) area n = refl
not_closed m Closing area n = refl
not_closed m Closed area n = absurd (n refl)

pub now_closed : (m : Meaning) (p : Phase) (area : List ℕ) → p ≡ Closed → is_closed (view m p area) ≡ true
now_closed m p area e = ap (λ (x : Phase). is_closed (view m x area)) e

-- the verdict from here is the verdict from the start
pub record Going (m : Meaning) (o : ℕ) (bytes rest : List ℕ) (at k : ℕ) (v : View) : Type 0 where
  pub taken : at + length rest ≡ length bytes
  pub counted : k ≤ at
  pub fuel : ℕ
  pub enough : length rest ≤ fuel
  pub same : judged m o bytes ≡ verdict m o (length bytes) (suc fuel) rest k v

pub going_none : (m : Meaning) (o : ℕ) (bytes rest : List ℕ) (at : ℕ) → rest ≡ bytes → at ≡ 0 → Going m o bytes rest at 0 opening
going_none m o bytes rest at e z = record {
  taken = omega (arith, ap length e);
  counted = omega arith;
  fuel = length bytes;
  enough = omega (arith, ap length e);
  same = ap (λ (x : List ℕ). verdict m o (length bytes) (suc (length bytes)) x 0 opening) (sym e);
}

module _ (m : Meaning) (o : ℕ) (bytes rest : List ℕ) (at k : ℕ) (v : View) (q : Going m o bytes rest at k v) where
  offset_is : length bytes - length rest ≡ at
  offset_is = let t = q.taken in omega arith

  -- one record more
  on : (r : Record) (after : List ℕ) (w : View) (at' fuel : ℕ) → is_closed v ≡ false → read rest ≡ Some (r, after) → length after < length rest →
      at' + length after ≡ at + length rest → step m o v r ≡ Ok w → length rest ≤ fuel →
      judged m o bytes ≡ verdict m o (length bytes) (suc fuel) rest k v → Going m o bytes after at' (k + 1) w
  on r after w at' zero c h l a s e z = absurd (omega arith)
  on r after w at' (suc fuel) c h l a s e z = let t = q.taken in let u = q.counted in record {
    taken = omega arith;
    counted = omega arith;
    fuel = fuel;
    enough = omega arith;
    same = z ∙ verdict_goes m o (length bytes) (suc fuel) rest k v r after w c h s;
  }

  pub going_more : (r : Record) (after : List ℕ) (w : View) (at' : ℕ) → is_closed v ≡ false → read rest ≡ Some (r, after) → length after < length rest →
      at' + length after ≡ at + length rest → step m o v r ≡ Ok w → Going m o bytes after at' (k + 1) w
  going_more r after w at' c h l a s = on r after w at' q.fuel c h l a s q.enough q.same

  -- what the exits of the loop say
  pub out_none : is_closed v ≡ false → read rest ≡ None → Err (at_offset NoRecord at) ≡ judged m o bytes
  out_none c h = sym (q.same ∙ verdict_none m o (length bytes) q.fuel rest k v c h ∙ ap (λ (i : ℕ). Err (at_offset NoRecord i)) offset_is)

  pub out_stop : (r : Record) (after : List ℕ) (x : CertificateFault) → is_closed v ≡ false → read rest ≡ Some (r, after) → step m o v r ≡ Err x → Err (at_offset x at) ≡ judged m o bytes
  out_stop r after x c h s = sym (q.same ∙ verdict_stop m o (length bytes) q.fuel rest k v r after x c h s ∙ ap (λ (i : ℕ). Err (at_offset x i)) offset_is)

  pub out_end : is_closed v ≡ true → finished (length rest) at k ≡ judged m o bytes
  out_end c = sym (q.same ∙ verdict_end m o (length bytes) q.fuel rest k v c ∙ ap (λ (i : ℕ). finished (length rest) i k) offset_is)
