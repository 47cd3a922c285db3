-- The reading, record by record.
use Rattle.std.proofs.Common.{◌≡◌, ℕ, zero, suc, ◌+◌, ◌-◌, ◌<◌, ◌≤◌, List, [], ◌∷◌, ◌++◌, length, Some, None, Ok, Err, Option, Result, sym, refl, ap, ◌∙◌, subst, append_assoc, append-nil, arith}
use Rattle.std.proofs.lemmas.List.{length-append}
use Rattle.refusal.specs.declared.faults.CertificateFault.{CertificateFault}
use Rattle.refusal.specs.declared.faults.CertificateFault.TheVariants.{NoRecord}
use Rattle.machine.specs.Meaning.{Meaning}
use Rattle.stack.specs.declared.spans.Span.{Span}
use Rattle.frames.specs.declared.frames.Frames.{Frames}
use Rattle.certificate.specs.declared.record.Record.{Record}
use Rattle.certificate.specs.Records.{encode, encodes, read}
use Rattle.certificate.specs.Verdict.{at_offset}
use Rattle.certificate.specs.declared.claim.Claim.{Claim}
use Rattle.opening.specs.declared.phase.Phase.{Phase}
use Rattle.opening.specs.declared.phase.Phase.TheVariants.{Opening, Framing, Opened}
use Rattle.opening.specs.Steps.{Room, View, opening, framing, opened, step}
use Rattle.opening.specs.Reading.{Answer, by_record, by_step, from_here, reading}
use Rattle.opening.specs.Views.{view}
use Rattle.opening.specs.Openings.{Opens}
use Rattle.opening.proofs.Prefixes.{Prefix, prefix_more}

-- the opening is not over
abbrev pub Unopened : View → Type 0
Unopened opening = Unit {0}
Unopened (framing n Fs F c) = Unit {0}
Unopened (opened claim n Fs) = ⊥

pub unopened : (p : Phase) (f : Frames) (ls : List ℕ) (ps : List Span) → ((claim : Claim) (n : ℕ) → p ≡ Opened claim n → ⊥) → Unopened (view p f ls ps)
unopened Opening f ls ps h = tt
unopened (Framing n) f ls ps h = tt
unopened (Opened claim n) f ls ps h = h claim n refl

-- one turn
module _ (m : Meaning) (room : Room) (end fuel : ℕ) (rest : List ℕ) (k : ℕ) where
  pub here_over : (claim : Claim) (n : ℕ) (Fs : List (List (List ℕ))) →
      from_here m room end (suc fuel) rest k (opened claim n Fs) ≡ (Ok (record { claim = claim; size = n; frames = Fs; records = k }), rest)
  unfolding from_here
  here_over claim n Fs = refl

  abbrev turned : View → Option (Record × List ℕ) → Answer
  turned v x = by_record x (Err (at_offset NoRecord (end - length rest)), rest)
      (λ r after. by_step (step m room v r) (λ w. from_here m room end fuel after (k + 1) w) (λ f. (Err (at_offset f (end - length rest)), after)))

  turn : (v : View) (x : Option (Record × List ℕ)) → Unopened v → read rest ≡ x → from_here m room end (suc fuel) rest k v ≡ turned v x
  unfolding from_here
  turn opening x u h = ap (turned opening) h
  turn (framing n Fs F c) x u h = ap (turned (framing n Fs F c)) h
  turn (opened claim n Fs) x u h = absurd u

  here_none : (v : View) → Unopened v → read rest ≡ None → from_here m room end (suc fuel) rest k v ≡ (Err (at_offset NoRecord (end - length rest)), rest)
  here_none v u h = turn v None u h

  here_stops : (v : View) (r : Record) (after : List ℕ) (x : CertificateFault) → Unopened v → read rest ≡ Some (r, after) → step m room v r ≡ Err x →
      from_here m room end (suc fuel) rest k v ≡ (Err (at_offset x (end - length rest)), after)
  here_stops v r after x u h s =
      turn v (Some (r, after)) u h
      ∙ ap (λ (y : Result View CertificateFault). by_step y (λ w. from_here m room end fuel after (k + 1) w) (λ f. (Err (at_offset f (end - length rest)), after))) s

  pub here_goes : (v : View) (r : Record) (after : List ℕ) (w : View) → Unopened v → read rest ≡ Some (r, after) → step m room v r ≡ Ok w →
      from_here m room end (suc fuel) rest k v ≡ from_here m room end fuel after (k + 1) w
  here_goes v r after w u h s =
      turn v (Some (r, after)) u h
      ∙ ap (λ (y : Result View CertificateFault). by_step y (λ w. from_here m room end fuel after (k + 1) w) (λ f. (Err (at_offset f (end - length rest)), after))) s

encodes_push : (rs : List Record) (r : Record) (after : List ℕ) → encodes rs ++ (encode r ++ after) ≡ encodes (rs ++ r ∷ []) ++ after
encodes_push [] r after = ap (λ (x : List ℕ). x ++ after) (sym (append-nil (encode r)))
encodes_push (q ∷ rs) r after =
    append_assoc (encode q) (encodes rs) (encode r ++ after)
    ∙ ap (λ (x : List ℕ). encode q ++ x) (encodes_push rs r after)
    ∙ sym (append_assoc (encode q) (encodes (rs ++ r ∷ [])) after)

-- the answer from here is the answer from the start, and the records so far are this much of an opening
pub record Going (m : Meaning) (room : Room) (first : ℕ) (bytes rest : List ℕ) (at k : ℕ) (v : View) : Type 0 where
  pub taken : at + length rest ≡ first + length bytes
  pub counted : k + first ≤ at
  pub fuel : ℕ
  pub enough : length rest ≤ fuel
  pub same : reading m room first bytes ≡ from_here m room (first + length bytes) (suc fuel) rest k v
  pub done : List Record
  pub number : k ≡ length done
  pub written : bytes ≡ encodes done ++ rest
  pub is : Prefix m room done v

pub going_none : (m : Meaning) (room : Room) (first : ℕ) (bytes : List ℕ) → Going m room first bytes bytes first 0 opening
going_none m room first bytes = record {
  taken = refl;
  counted = omega arith;
  fuel = length bytes;
  enough = omega arith;
  same = refl;
  done = [];
  number = refl;
  written = refl;
  is = refl;
}

module _ (m : Meaning) (room : Room) (first : ℕ) (bytes rest : List ℕ) (at k : ℕ) (v : View) (q : Going m room first bytes rest at k v) where
  offset_is : first + length bytes - length rest ≡ at
  offset_is = let t = q.taken in omega arith

  -- one record more
  on : (r : Record) (after : List ℕ) (w : View) (at' fuel : ℕ) → Unopened v → read rest ≡ Some (r, after) → rest ≡ encode r ++ after → length after < length rest →
      at' + length after ≡ at + length rest → step m room v r ≡ Ok w → length rest ≤ fuel →
      reading m room first bytes ≡ from_here m room (first + length bytes) (suc fuel) rest k v → Going m room first bytes after at' (k + 1) w
  on r after w at' zero u h x l a s e z = absurd (omega arith)
  on r after w at' (suc fuel) u h x l a s e z = let t = q.taken in let c = q.counted in record {
    taken = omega arith;
    counted = omega arith;
    fuel = fuel;
    enough = omega arith;
    same = z ∙ here_goes m room (first + length bytes) (suc fuel) rest k v r after w u h s;
    done = q.done ++ r ∷ [];
    number = omega (arith, q.number, length-append q.done (r ∷ []));
    written = q.written ∙ ap (λ (y : List ℕ). encodes q.done ++ y) x ∙ encodes_push q.done r after;
    is = prefix_more m room q.done v w r q.is s;
  }

  pub going_more : (r : Record) (after : List ℕ) (w : View) (at' : ℕ) → Unopened v → read rest ≡ Some (r, after) → rest ≡ encode r ++ after → length after < length rest →
      at' + length after ≡ at + length rest → step m room v r ≡ Ok w → Going m room first bytes after at' (k + 1) w
  going_more r after w at' u h x l a s = on r after w at' q.fuel u h x l a s q.enough q.same

  -- what the exits of the loop say
  pub out_none : Unopened v → read rest ≡ None → reading m room first bytes ≡ (Err (at_offset NoRecord at), rest)
  out_none u h = q.same ∙ here_none m room (first + length bytes) q.fuel rest k v u h ∙ ap (λ (i : ℕ). (Err (at_offset NoRecord i), rest)) offset_is

  pub out_stops : (r : Record) (after : List ℕ) (x : CertificateFault) → Unopened v → read rest ≡ Some (r, after) → step m room v r ≡ Err x → reading m room first bytes ≡ (Err (at_offset x at), after)
  out_stops r after x u h s = q.same ∙ here_stops m room (first + length bytes) q.fuel rest k v r after x u h s ∙ ap (λ (i : ℕ). (Err (at_offset x i), after)) offset_is

  pub out_over : (claim : Claim) (n : ℕ) (Fs : List (List (List ℕ))) → v ≡ opened claim n Fs →
      (reading m room first bytes ≡ (Ok (record { claim = claim; size = n; frames = Fs; records = k }), rest))
      × Opens m room bytes rest (record { claim = claim; size = n; frames = Fs; records = k })
  out_over claim n Fs e =
      let p = subst (Prefix m room q.done) e q.is in (
        q.same ∙ ap (from_here m room (first + length bytes) (suc q.fuel) rest k) e ∙ here_over m room (first + length bytes) q.fuel rest k claim n Fs,
        record {
          proper = p.0;
          written = q.written ∙ ap (λ (rs : List Record). encodes rs ++ rest) p.1;
          counted = q.number ∙ ap length p.1;
        },
      )
