-- What the reading of an opening answers to bytes: the records are taken one by one, and a refusal names the first one at which,
-- and the first question to which, the answer is no.
use Rattle.std.specs.Prelude.{ℕ, zero, suc, ◌+◌, ◌-◌, List, length, Some, None, Ok, Err, Option, Result}
use Rattle.refusal.specs.declared.faults.CertificateFault.{CertificateFault}
use Rattle.refusal.specs.declared.faults.CertificateFault.TheVariants.{NoRecord}
use Rattle.refusal.specs.declared.faults.CertificateRefusal.{CertificateRefusal}
use Rattle.machine.specs.Meaning.{Meaning}
use Rattle.certificate.specs.declared.record.Record.{Record}
use Rattle.certificate.specs.Records.{read}
use Rattle.certificate.specs.Verdict.{at_offset}
use Rattle.certificate.specs.declared.claim.Claim.{Claim}
use Rattle.opening.specs.Steps.{Room, View, opening, framing, opened, step}

-- what an opening says: the claim, its size, the frames of a trace, and of how many records it is
pub record Contents : Type 0 where
  pub claim : Claim
  pub size : ℕ
  pub frames : List (List (List ℕ))
  pub records : ℕ

-- the answer, and the bytes that are left
abbrev pub Answer : Type 0
Answer = Result Contents CertificateRefusal × List ℕ

-- is the opening over?
abbrev pub by_view : View → (Claim → ℕ → List (List (List ℕ)) → Answer) → Answer → Answer
by_view opening over on = on
by_view (framing size frames frame clause) over on = on
by_view (opened claim size frames) over on = over claim size frames

-- is there a record?
abbrev pub by_record : Option (Record × List ℕ) → Answer → (Record → List ℕ → Answer) → Answer
by_record None none some = none
by_record (Some p) none some = some p.0 p.1

-- is every question at it answered yes?
abbrev pub by_step : Result View CertificateFault → (View → Answer) → (CertificateFault → Answer) → Answer
by_step (Ok w) next stop = next w
by_step (Err f) next stop = stop f

-- from what is left of bytes that end at `end`, after so many records; `fuel` is more than the bytes that are left
unfoldable pub from_here : Meaning → Room → ℕ → ℕ → List ℕ → ℕ → View → Answer
from_here m room end zero rest records v = (Err (at_offset NoRecord (end - length rest)), rest)
from_here m room end (suc fuel) rest records v =
    by_view v (λ claim size frames. (Ok (record { claim = claim; size = size; frames = frames; records = records }), rest))
    (by_record (read rest) (Err (at_offset NoRecord (end - length rest)), rest)
    (λ r after. by_step (step m room v r) (λ w. from_here m room end fuel after (records + 1) w) (λ f. (Err (at_offset f (end - length rest)), after))))

-- from bytes of which the first stands at an offset
abbrev pub reading : Meaning → Room → ℕ → List ℕ → Answer
reading m room at bytes = from_here m room (at + length bytes) (suc (length bytes)) bytes 0 opening
