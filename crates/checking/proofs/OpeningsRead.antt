-- What is read as an opening is one.
use Rattle.std.proofs.Common.{◌≡◌, ℕ, zero, suc, ◌+◌, ◌-◌, ◌<◌, List, length, Some, None, Ok, Err, Option, Result, sym, refl, ap, ◌∙◌, subst, arith}
use Rattle.refusal.specs.declared.faults.CertificateFault.{CertificateFault}
use Rattle.refusal.specs.declared.faults.CertificateRefusal.{CertificateRefusal}
use Rattle.machine.specs.Meaning.{Meaning}
use Rattle.certificate.specs.declared.record.Record.{Record}
use Rattle.certificate.specs.Records.{read, Bytes}
use Rattle.certificate.proofs.Codes.{was_written, longer, bytes_after}
use Rattle.certificate.proofs.Accepting.{err_ok}
use Rattle.opening.specs.Steps.{Room, View, opening, framing, opened, step}
use Rattle.opening.specs.Reading.{Contents, Answer, reading}
use Rattle.opening.specs.Openings.{Opens}
use Rattle.opening.proofs.Loop.{Unopened, Going, going_none, going_more, out_none, out_stops, out_over}

module _ (m : Meaning) (room : Room) (first : ℕ) (bytes left : List ℕ) (k : Contents) (e : reading m room first bytes ≡ (Ok k, left)) where
  not_refused : (x : CertificateRefusal) (rest : List ℕ) → reading m room first bytes ≡ (Err x, rest) → ⊥
  not_refused x rest h = err_ok (ap (λ (a : Answer). a.0) (sym h ∙ e))

  same : (j : Contents) (rest : List ℕ) → reading m room first bytes ≡ (Ok j, rest) → Opens m room bytes rest j → Opens m room bytes left k
  same j rest h o =
      let f = sym h ∙ e in
      let answers = ap (λ (a : Answer). a.0) f in
      let contents : j ≡ k = cc in
      subst (λ (x : List ℕ). Opens m room bytes x k) (ap (λ (a : Answer). a.1) f) (subst (Opens m room bytes rest) contents o)

  module _ (n : ℕ) (more : (rest : List ℕ) (at c : ℕ) (v : View) → length rest < n → Bytes rest → Going m room first bytes rest at c v → Opens m room bytes left k)
      (rest : List ℕ) (at c : ℕ) (v : View) (few : length rest < suc n) (of_bytes : Bytes rest) (q : Going m room first bytes rest at c v) (u : Unopened v) where
    by_step : (r : Record) (after : List ℕ) (x : Result View CertificateFault) → read rest ≡ Some (r, after) → step m room v r ≡ x → Opens m room bytes left k
    by_step r after (Err f) h s = absurd (not_refused _ after (out_stops m room first bytes rest at c v q r after f u h s))
    by_step r after (Ok w) h s =
        let wrote = was_written rest r after of_bytes h in
        let shorter = longer r rest after wrote in
        let at' = at + (length rest - length after) in
        more after at' (c + 1) w (omega arith) (bytes_after r rest after wrote of_bytes)
        (going_more m room first bytes rest at c v q r after w at' u h wrote shorter (omega arith) s)

    by_read : (x : Option (Record × List ℕ)) → read rest ≡ x → Opens m room bytes left k
    by_read None h = absurd (not_refused _ rest (out_none m room first bytes rest at c v q u h))
    by_read (Some p) h = by_step p.0 p.1 (step m room v p.0) h refl

  from_view : (n : ℕ) (rest : List ℕ) (at c : ℕ) (v : View) → length rest < n → Bytes rest → Going m room first bytes rest at c v → Opens m room bytes left k
  from_view zero rest at c v few b q = absurd (omega arith)
  from_view (suc n) rest at c opening few b q = by_read n (from_view n) rest at c opening few b q tt (read rest) refl
  from_view (suc n) rest at c (framing s Fs F d) few b q = by_read n (from_view n) rest at c (framing s Fs F d) few b q tt (read rest) refl
  from_view (suc n) rest at c (opened claim s Fs) few b q =
      let o = out_over m room first bytes rest at c (opened claim s Fs) q claim s Fs refl in
      same (record { claim = claim; size = s; frames = Fs; records = c }) rest o.0 o.1

  pub opens : Bytes bytes → Opens m room bytes left k
  opens b = from_view (suc (length bytes)) bytes first 0 opening (omega arith) b (going_none m room first bytes)
