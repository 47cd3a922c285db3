-- What is read as a refutation is one.
use Rattle.std.proofs.Common.{◌≡◌, ℕ, zero, suc, ◌+◌, ◌-◌, List, [], ◌∷◌, ◌++◌, length, take, Some, None, Ok, Err, Option, Result, sym, refl, ap, ◌∙◌, append_assoc, arith}
use Rattle.std.proofs.lemmas.List.{length_push}
use Rattle.refusal.specs.declared.faults.CertificateFault.{CertificateFault}
use Rattle.refusal.specs.declared.faults.CertificateRefusal.{CertificateRefusal}
use Rattle.certificate.specs.declared.record.Record.{Record}
use Rattle.certificate.specs.Records.{encode, encodes, read, Bytes}
use Rattle.certificate.proofs.Codes.{was_written, bytes_after}
use Rattle.certificate.proofs.Accepting.{err_ok}
use Rattle.refuting.specs.Rooms.{Room}
use Rattle.refuting.specs.Reading.{Move, made, ended, move, Outcome, reading, refutation_read}
use Rattle.refuting.specs.Refutations.{record_of, records, RefutationIn}
use Rattle.refuting.proofs.Turns.{reading_none, reading_stops, reading_ends, reading_goes}
use Rattle.refuting.proofs.Stepping.{move_steps, move_ends, ends_empty}
use Rattle.refuting.proofs.Loop.{RestIn}

-- so many records more than clauses were made, and these are the rest of a refutation
abbrev RestOf : List (List ℕ) → Room → List (List ℕ) → List ℕ → List ℕ → ℕ → Type 0
RestOf list room own bytes left k = (j : ℕ) × (k ≡ length own + j) × RestIn list room own bytes left j

module _ (list : List (List ℕ)) (room : Room) (question size k : ℕ) (left : List ℕ) where
  module _ (f : ℕ) (more : (bytes : List ℕ) (own : List (List ℕ)) → Bytes bytes → reading list room question size f bytes own ≡ record { answer = Ok k; left = left } → RestOf list room own bytes left k)
      (bytes : List ℕ) (own : List (List ℕ)) (of_bytes : Bytes bytes) (e : reading list room question size (suc f) bytes own ≡ record { answer = Ok k; left = left }) where
    not_refused : (x : CertificateRefusal) (rest : List ℕ) → reading list room question size (suc f) bytes own ≡ record { answer = Err x; left = rest } → ⊥
    not_refused x rest h = err_ok (ap (λ (o : Outcome). o.answer) (sym h ∙ e))

    -- the end
    at_end : (r : Record) (after : List ℕ) → read bytes ≡ Some (r, after) → move list room own r ≡ Ok ended → RestOf list room own bytes left k
    at_end r after h s =
        let p = sym (reading_ends list room question size f bytes own r after h s) ∙ e in
        let answers = ap (λ (o : Outcome). o.answer) p in
        let counts : length own + 1 ≡ k = cc in
        let after_is = ap (λ (o : Outcome). o.left) p in
        let w = move_ends list room own r s in (
          1,
          sym counts,
          record {
            steps = [];
            before = take (length own - 1) own;
            written = was_written bytes r after of_bytes h ∙ ap (λ (x : Record). encode x ++ after) w.0 ∙ ap (λ (x : List ℕ). 7 ∷ x) after_is;
            leads = ends_empty own w.1;
            counted = refl;
          },
        )

    -- one clause more
    on : (r : Record) (after : List ℕ) (c : List ℕ) → bytes ≡ encode r ++ after → move list room own r ≡ Ok (made c) → RestOf list room (own ++ c ∷ []) after left k → RestOf list room own bytes left k
    on r after c wrote s (j, counts, q) =
        let w = move_steps list room own r c s in (
          suc j,
          counts ∙ omega (arith, length_push own c),
          record {
            steps = w.step ∷ q.steps;
            before = q.before;
            written = wrote ∙ ap (λ (x : Record). encode x ++ after) w.is ∙ ap (λ (x : List ℕ). encode (record_of w.step) ++ x) q.written
                ∙ sym (append_assoc (encode (record_of w.step)) (encodes (records q.steps)) left);
            leads = (c, w.makes, w.fitting, q.leads);
            counted = ap suc q.counted;
          },
        )

    by_move : (r : Record) (after : List ℕ) (x : Result Move CertificateFault) → read bytes ≡ Some (r, after) → move list room own r ≡ x → RestOf list room own bytes left k
    by_move r after (Err fault) h s = absurd (not_refused _ after (reading_stops list room question size f bytes own r after h fault s))
    by_move r after (Ok ended) h s = at_end r after h s
    by_move r after (Ok (made c)) h s =
        let wrote = was_written bytes r after of_bytes h in
        on r after c wrote s (more after (own ++ c ∷ []) (bytes_after r bytes after wrote of_bytes) (sym (reading_goes list room question size f bytes own r after h c s) ∙ e))

    by_read : (x : Option (Record × List ℕ)) → read bytes ≡ x → RestOf list room own bytes left k
    by_read None h = absurd (not_refused _ bytes (reading_none list room question size f bytes own h))
    by_read (Some p) h = by_move p.0 p.1 (move list room own p.0) h refl

  rest_read : (f : ℕ) (bytes : List ℕ) (own : List (List ℕ)) → Bytes bytes → reading list room question size f bytes own ≡ record { answer = Ok k; left = left } → RestOf list room own bytes left k
  unfolding reading
  rest_read zero bytes own b e = absurd (err_ok (ap (λ (o : Outcome). o.answer) e))
  rest_read (suc f) bytes own b e = by_read f (rest_read f) bytes own b e (read bytes) refl

pub refutation_in : (list : List (List ℕ)) (room : Room) (question offset : ℕ) (bytes left : List ℕ) (count : ℕ) → Bytes bytes →
    refutation_read list room question offset bytes ≡ record { answer = Ok count; left = left } → RefutationIn list room bytes left count
refutation_in list room question offset bytes left count b e =
    let q = rest_read list room question (offset + length bytes) count left (suc (length bytes)) bytes [] b e in
    let r = q.2 in
    record {
      steps = r.steps;
      written = r.written;
      refutes = record { before = r.before; leads = r.leads };
      counted = q.1 ∙ omega (arith, r.counted);
    }
