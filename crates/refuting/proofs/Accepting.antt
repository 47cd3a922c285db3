-- The records of a refutation are accepted.
use Rattle.std.proofs.Common.{◌≡◌, ℕ, zero, suc, ◌+◌, ◌≤◌, true, List, [], ◌∷◌, ◌++◌, length, Ok, Err, refl, ap, ◌∙◌, append_assoc, arith}
use Rattle.std.proofs.lemmas.List.{length_push}
use Rattle.std.proofs.lemmas.Bool.{cond-true}
use Rattle.refusal.specs.declared.faults.CertificateFault.TheVariants.{Refutation as OfRefutation}
use Rattle.refusal.specs.declared.faults.RefutationFault.TheVariants.{NotRefuted}
use Rattle.resolution.specs.Outcomes.{admitted, ends}
use Rattle.certificate.specs.declared.record.Record.TheVariants.{RefutationEnd}
use Rattle.certificate.specs.Records.{encode, encodes, read}
use Rattle.certificate.proofs.Codes.{reads, longer}
use Rattle.refuting.specs.Rooms.{Room}
use Rattle.refuting.specs.Reading.{ended, reading, refutation_read}
use Rattle.refuting.specs.Refutations.{Step, Leads, record_of, records, RefutationIn}
use Rattle.refuting.proofs.Turns.{reading_ends, reading_goes}
use Rattle.refuting.proofs.Stepping.{steps_move, empty_ends}

module _ (list : List (List ℕ)) (room : Room) (question size : ℕ) (after : List ℕ) (admits : admitted room.literals room.spans ≡ true) where
  took : (steps : List Step) (own all : List (List ℕ)) (f : ℕ) → length (encodes (records steps) ++ after) ≤ f → Leads list room own steps all → ends all ≡ true →
      reading list room question size (suc f) (encodes (records steps) ++ after) own ≡ record { answer = Ok (length own + length (records steps)); left = after }
  took [] own all f l p e =
      reading_ends list room question size f (encode RefutationEnd ++ after) own RefutationEnd after (reads RefutationEnd after)
      (cond-true (ends own) (Ok ended) (Err (OfRefutation NotRefuted)) (ap ends p ∙ e))
  took (s ∷ steps) own all zero l p e =
      absurd (omega (arith, longer (record_of s) ((encode (record_of s) ++ encodes (records steps)) ++ after) (encodes (records steps) ++ after) (append_assoc (encode (record_of s)) (encodes (records steps)) after)))
  took (s ∷ steps) own all (suc f) l p e =
      let rest = encodes (records steps) ++ after in
      let bs = (encode (record_of s) ++ encodes (records steps)) ++ after in
      let w : bs ≡ encode (record_of s) ++ rest = append_assoc (encode (record_of s)) (encodes (records steps)) after in
      let n : length (own ++ p.0 ∷ []) + length (records steps) ≡ length own + length (records (s ∷ steps)) = omega (arith, length_push own p.0) in
      reading_goes list room question size (suc f) bs own (record_of s) rest (ap read w ∙ reads (record_of s) rest) p.0 (steps_move list room own admits p.1 p.2)
      ∙ took steps (own ++ p.0 ∷ []) all f (omega (arith, longer (record_of s) bs rest w)) p.3 e
      ∙ ap (λ (k : ℕ). record { answer = Ok k; left = after }) n

pub accepts : (list : List (List ℕ)) (room : Room) (question offset : ℕ) (bytes left : List ℕ) (count : ℕ) → admitted room.literals room.spans ≡ true → RefutationIn list room bytes left count →
    refutation_read list room question offset bytes ≡ record { answer = Ok count; left = left }
accepts list room question offset bytes left count admits h =
    let bs = encodes (records h.steps) ++ left in
    let n : 0 + length (records h.steps) ≡ count = omega (arith, h.counted) in
    ap (refutation_read list room question offset) h.written
    ∙ took list room question (offset + length bs) left admits h.steps [] (h.refutes.before ++ [] ∷ []) (length bs) (omega arith) h.refutes.leads (empty_ends _ h.refutes.before refl)
    ∙ ap (λ (k : ℕ). record { answer = Ok k; left = left }) n
