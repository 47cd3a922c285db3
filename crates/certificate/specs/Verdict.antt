-- What the check of a counterexample says of bytes.
use Rattle.std.specs.Prelude.{ℕ, zero, suc, ◌+◌, ◌-◌, Bool, true, false, cond, List, length, Some, None, Ok, Err, Option, Result, ◌==◌, nat_le, nat_lt}
use Rattle.refusal.specs.declared.faults.CertificateFault.{CertificateFault}
use Rattle.refusal.specs.declared.faults.CertificateFault.TheVariants.{NoRecord, OutOfPlace}
use Rattle.refusal.specs.declared.faults.CertificateRefusal.{CertificateRefusal}
use Rattle.refusal.specs.declared.faults.DocketFault.{DocketFault}
use Rattle.refusal.specs.declared.faults.DocketFault.TheVariants.{NoRule, UnfitArea}
use Rattle.refusal.specs.declared.faults.Refusal.{Refusal}
use Rattle.refusal.specs.declared.faults.Refusal.TheVariants.{Docket, Certificate}
use Rattle.machine.specs.Meaning.{Meaning}
use Rattle.certificate.specs.declared.record.Record.{Record}
use Rattle.certificate.specs.Records.{read}
use Rattle.certificate.specs.Steps.{View, opening, in_row, closing, closed, step}

-- is the end read?
abbrev pub is_closed : View → Bool
is_closed opening = false
is_closed (in_row left bits state) = false
is_closed closing = false
is_closed closed = true

-- a refusal before the first refutation
abbrev pub at_offset : CertificateFault → ℕ → CertificateRefusal
at_offset f at = record { fault = f; offset = at; question = 0 }

-- after the end: no byte may follow; the answer is the number of records
abbrev pub finished : ℕ → ℕ → ℕ → Result ℕ CertificateRefusal
finished left at records = cond (left == 0) (Ok records) (Err (at_offset OutOfPlace at))

-- on from a step that is granted; else its fault at the record
abbrev pub onward : Result View CertificateFault → ℕ → (View → Result ℕ CertificateRefusal) → Result ℕ CertificateRefusal
onward (Ok w) at next = next w
onward (Err f) at next = Err (at_offset f at)

-- is there a record?
abbrev pub by_record : Option (Record × List ℕ) → Result ℕ CertificateRefusal → (Record → List ℕ → Result ℕ CertificateRefusal) → Result ℕ CertificateRefusal
by_record None none some = none
by_record (Some p) none some = some p.0 p.1

-- from what is left of `size` bytes, after so many records; `fuel` is more than the bytes that are left
unfoldable pub verdict : Meaning → ℕ → ℕ → ℕ → List ℕ → ℕ → View → Result ℕ CertificateRefusal
verdict m rule size zero rest records v = Err (at_offset NoRecord (size - length rest))
verdict m rule size (suc fuel) rest records v =
    cond (is_closed v) (finished (length rest) (size - length rest) records)
    (by_record (read rest) (Err (at_offset NoRecord (size - length rest)))
    (λ r after. onward (step m rule v r) (size - length rest) (λ w. verdict m rule size fuel after (records + 1) w)))

-- the verdict on whole bytes
abbrev pub judged : Meaning → ℕ → List ℕ → Result ℕ CertificateRefusal
judged m rule bytes = verdict m rule (length bytes) (suc (length bytes)) bytes 0 opening

-- the questions on the call itself: is there such a rule, has the area a byte for each variable?
abbrev pub admitted : Meaning → ℕ → ℕ → Result (Unit {0}) DocketFault
admitted m rule area = cond (nat_lt rule m.rules) (cond (nat_le m.variables area) (Ok tt) (Err UnfitArea)) (Err NoRule)

-- a result carried up, with what follows an Ok
abbrev pub carried : {X Y E : Type 0} → (E → Refusal) → Result X E → (X → Result Y Refusal) → Result Y Refusal
carried up (Ok x) next = next x
carried up (Err e) next = Err (up e)

-- the whole check: the call, then the records in turn
abbrev pub replayed : Meaning → ℕ → List ℕ → ℕ → Result ℕ Refusal
replayed m rule bytes area = carried Docket (admitted m rule area) (λ _. carried Certificate (judged m rule bytes) Ok)
