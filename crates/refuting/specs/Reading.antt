-- What the records of a refutation come to.
use Rattle.std.specs.Prelude.{ℕ, zero, suc, ◌+◌, ◌-◌, cond, List, [], ◌∷◌, ◌++◌, length, Some, None, Ok, Err, Option, Result}
use Rattle.refusal.specs.declared.faults.RefutationFault.{RefutationFault}
use Rattle.refusal.specs.declared.faults.RefutationFault.TheVariants.{NotRefuted}
use Rattle.refusal.specs.declared.faults.CertificateFault.{CertificateFault}
use Rattle.refusal.specs.declared.faults.CertificateFault.TheVariants.{NoRecord, OutOfPlace, Refutation}
use Rattle.refusal.specs.declared.faults.CertificateRefusal.{CertificateRefusal}
use Rattle.resolution.specs.Outcomes.{takes, resolves, ends}
use Rattle.resolution.specs.States.{entries}
use Rattle.certificate.specs.declared.record.Record.{Record}
use Rattle.certificate.specs.declared.record.Record.TheVariants.{Claim, Literal, ClauseEnd, FrameEnd, Take, Resolve, RefutationEnd, Bit, RowEnd, End}
use Rattle.certificate.specs.Records.{read}
use Rattle.refuting.specs.Rooms.{Room}

-- what a record does: it makes one clause more, or ends the refutation
pub data Move : Type 0 where
  made : (clause : List ℕ) → Move
  ended : Move

-- a fault of the refutation is held whole
abbrev pub making : Result (List ℕ) RefutationFault → Result Move CertificateFault
making (Ok c) = Ok (made c)
making (Err e) = Err (Refutation e)

-- what a record gives after the clauses made so far
abbrev pub move : List (List ℕ) → Room → List (List ℕ) → Record → Result Move CertificateFault
move list room own (Take n) = making (takes list n (room.literals_below + entries own) room.literals (room.spans_below + length own) room.spans)
move list room own (Resolve l r p) = making (resolves own l r p (room.literals_below + entries own) room.literals (room.spans_below + length own) room.spans)
move list room own RefutationEnd = cond (ends own) (Ok ended) (Err (Refutation NotRefuted))
move list room own (Claim c n) = Err OutOfPlace
move list room own (Literal l) = Err OutOfPlace
move list room own ClauseEnd = Err OutOfPlace
move list room own FrameEnd = Err OutOfPlace
move list room own (Bit b) = Err OutOfPlace
move list room own RowEnd = Err OutOfPlace
move list room own End = Err OutOfPlace

-- the answer, and the bytes that are left then
pub record Outcome : Type 0 where
  pub answer : Result ℕ CertificateRefusal
  pub left : List ℕ

-- refused at the record that begins with these bytes, the last of `size`
abbrev pub refused : ℕ → ℕ → List ℕ → CertificateFault → Result ℕ CertificateRefusal
refused question size bytes fault = Err (record { fault = fault; offset = size - length bytes; question = question })

abbrev pub by_record : Option (Record × List ℕ) → Outcome → (Record → List ℕ → Outcome) → Outcome
by_record None none some = none
by_record (Some p) none some = some p.0 p.1

abbrev pub by_move : Result Move CertificateFault → (CertificateFault → Outcome) → Outcome → (List ℕ → Outcome) → Outcome
by_move (Ok (made c)) stop end next = next c
by_move (Ok ended) stop end next = end
by_move (Err fault) stop end next = stop fault

-- from what is left of `size` bytes, after the clauses made so far; `fuel` is more than the bytes that are left
unfoldable pub reading : List (List ℕ) → Room → ℕ → ℕ → ℕ → List ℕ → List (List ℕ) → Outcome
reading list room question size zero bytes own = record { answer = refused question size bytes NoRecord; left = bytes }
reading list room question size (suc fuel) bytes own =
    by_record (read bytes) (record { answer = refused question size bytes NoRecord; left = bytes })
    (λ r after. by_move (move list room own r)
    (λ fault. record { answer = refused question size bytes fault; left = after })
    (record { answer = Ok (length own + 1); left = after })
    (λ c. reading list room question size fuel after (own ++ c ∷ [])))

-- a whole refutation from the bytes at an offset: the answer is the number of its records
abbrev pub refutation_read : List (List ℕ) → Room → ℕ → ℕ → List ℕ → Outcome
refutation_read list room question offset bytes = reading list room question (offset + length bytes) (suc (length bytes)) bytes []
