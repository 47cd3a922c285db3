-- What the check of a certificate says of bytes: a refusal names the first record at which, and the first question to which, the answer is no.
use Rattle.std.specs.Prelude.{ℕ, ◌+◌, ◌-◌, Bool, true, false, cond, ◌&&◌, List, [], ◌∷◌, length, Some, None, Ok, Err, Option, Result, ◌==◌, nat_le, nat_lt}
use Rattle.refusal.specs.declared.faults.CertificateFault.{CertificateFault}
use Rattle.refusal.specs.declared.faults.CertificateFault.TheVariants.{NoRecord, OutOfPlace}
use Rattle.refusal.specs.declared.faults.CertificateRefusal.{CertificateRefusal}
use Rattle.refusal.specs.declared.faults.DocketFault.{DocketFault}
use Rattle.refusal.specs.declared.faults.DocketFault.TheVariants.{NoRule, UnfitArea}
use Rattle.refusal.specs.declared.faults.Refusal.{Refusal}
use Rattle.refusal.specs.declared.faults.Refusal.TheVariants.{Docket, Certificate}
use Rattle.machine.specs.Meaning.{Meaning}
use Rattle.certificate.specs.declared.record.Record.{Record}
use Rattle.certificate.specs.declared.record.Record.TheVariants.{Claim as Claim-record, Literal, ClauseEnd, FrameEnd, Take, Resolve, RefutationEnd, Bit, RowEnd, End}
use Rattle.certificate.specs.Records.{read}
use Rattle.certificate.specs.Verdict.{at_offset, carried, replayed}
use Rattle.certificate.specs.declared.claim.Claim.{Claim}
use Rattle.certificate.specs.declared.claim.Claim.TheVariants.{Trace, Induction, Counterexample}
use Rattle.opening.specs.Steps.{room_in}
use Rattle.opening.specs.Reading.{Contents, reading}
use Rattle.refuting.specs.Rooms.{Room}
use Rattle.refuting.specs.Reading.{refutation_read}
use Rattle.checking.specs.declared.Accepted.{Accepted}
use Rattle.checking.specs.Asked.{questions, room_above}
pub use Rattle.checking.specs.Asked.{Areas}
pub use Rattle.checking.specs.Lawful.{LawfulCertificate}

-- the questions on the call itself: is there such a rule, do the areas fit?
abbrev pub admitted : Meaning → ℕ → Areas → Result (Unit {0}) DocketFault
admitted m rule areas =
    cond (nat_lt rule m.rules)
    (cond (nat_le m.variables areas.row && (nat_le areas.literals 1048576 && nat_le areas.spans 65536)) (Ok tt) (Err UnfitArea))
    (Err NoRule)

-- refused at the record that begins with these bytes, the last of `size`, when so many questions were put
abbrev pub refused : {X : Type 0} → ℕ → ℕ → List ℕ → CertificateFault → Result X CertificateRefusal
refused number size bytes fault = Err (record { fault = fault; offset = size - length bytes; question = number })

abbrev pub is_ending : Record → Bool
is_ending (Claim-record c n) = false
is_ending (Literal l) = false
is_ending ClauseEnd = false
is_ending FrameEnd = false
is_ending (Take n) = false
is_ending (Resolve l r p) = false
is_ending RefutationEnd = false
is_ending (Bit b) = false
is_ending RowEnd = false
is_ending End = true

abbrev pub by_record : {X : Type 0} → Option (Record × List ℕ) → X → (Record → List ℕ → X) → X
by_record None none some = none
by_record (Some p) none some = some p.0 p.1

-- the end: its record, and no byte after it; the answer is how many records there were
unfoldable pub ending : ℕ → ℕ → List ℕ → ℕ → Result ℕ CertificateRefusal
ending number size bytes records =
    by_record (read bytes) (refused number size bytes NoRecord)
    (λ r after. cond (is_ending r)
    (cond (length after == 0) (Ok (records + 1)) (refused number size after OutOfPlace))
    (refused number size bytes OutOfPlace))

abbrev pub onward : Result ℕ CertificateRefusal → (ℕ → Result ℕ CertificateRefusal) → Result ℕ CertificateRefusal
onward (Ok count) next = next count
onward (Err e) next = Err e

-- the refutations of these questions in turn, then the end, from what is left of `size` bytes, after so many questions and records
unfoldable pub refuted : List (List (List ℕ)) → Room → ℕ → ℕ → List ℕ → ℕ → Result ℕ CertificateRefusal
refuted [] room number size bytes records = ending number size bytes records
refuted (q ∷ qs) room number size bytes records =
    let o = refutation_read q room (number + 1) (size - length bytes) bytes in
    onward o.answer (λ count. refuted qs room (number + 1) size o.left (records + count))

-- the refutations of a claim's questions and the end, after the opening, in areas of so many literals and spans
abbrev pub refutations : Meaning → ℕ → ℕ → ℕ → Contents → ℕ → List ℕ → Result ℕ CertificateRefusal
refutations m rule literals spans k size left = refuted (questions m rule k.claim k.size k.frames) (room_above literals spans k.frames) 0 size left k.records

-- by the claim: the questions refuted, or a run replayed
abbrev pub by_claim : {X : Type 0} → Claim → X → X → X
by_claim Trace kept broken = kept
by_claim Induction kept broken = kept
by_claim Counterexample kept broken = broken

-- after the opening, with what is left of the bytes
abbrev pub proved : Meaning → ℕ → List ℕ → Areas → Contents → List ℕ → Result ℕ Refusal
proved m rule bytes areas k left =
    by_claim k.claim (carried Certificate (refutations m rule areas.literals areas.spans k (length bytes) left) Ok) (replayed m rule bytes areas.row)

abbrev pub accepting : Claim → Result ℕ Refusal → Result Accepted Refusal
accepting claim (Ok records) = Ok (record { claim = claim; records = records })
accepting claim (Err e) = Err e

-- the check of a call: the call itself, the opening, and what the claim asks for
abbrev pub checked : Meaning → ℕ → List ℕ → Areas → Result Accepted Refusal
checked m rule bytes areas =
    let o = reading m (room_in areas.literals areas.spans) 0 bytes in
    carried Docket (admitted m rule areas) (λ _. carried Certificate o.0 (λ k. accepting k.claim (proved m rule bytes areas k o.1)))

abbrev pub are_bytes : List ℕ → Bool
are_bytes [] = true
are_bytes (b ∷ bs) = nat_lt b 256 && are_bytes bs

-- the verdict on the bytes of a certificate for a rule; numbers that are no bytes are no record
unfoldable pub verdict : Meaning → ℕ → List ℕ → Areas → Result Accepted Refusal
verdict m rule bytes areas = cond (are_bytes bytes) (checked m rule bytes areas) (Err (Certificate (at_offset NoRecord 0)))
