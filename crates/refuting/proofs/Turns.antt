-- What the records come to, turn by turn.
use Rattle.std.proofs.Common.{◌≡◌, ℕ, suc, ◌+◌, List, [], ◌∷◌, ◌++◌, length, Some, None, Ok, Err, Option, Result, ap, ◌∙◌}
use Rattle.refusal.specs.declared.faults.CertificateFault.{CertificateFault}
use Rattle.refusal.specs.declared.faults.CertificateFault.TheVariants.{NoRecord}
use Rattle.certificate.specs.declared.record.Record.{Record}
use Rattle.certificate.specs.Records.{read}
use Rattle.refuting.specs.Rooms.{Room}
use Rattle.refuting.specs.Reading.{Move, made, ended, move, Outcome, refused, by_record, by_move, reading}

module _ (list : List (List ℕ)) (room : Room) (question size f : ℕ) (bytes : List ℕ) (own : List (List ℕ)) where
  abbrev moved : List ℕ → Result Move CertificateFault → Outcome
  moved after m =
      by_move m (λ fault. record { answer = refused question size bytes fault; left = after })
      (record { answer = Ok (length own + 1); left = after })
      (λ c. reading list room question size f after (own ++ c ∷ []))

  abbrev turned : Option (Record × List ℕ) → Outcome
  turned o = by_record o (record { answer = refused question size bytes NoRecord; left = bytes }) (λ r after. moved after (move list room own r))

  turn : (o : Option (Record × List ℕ)) → read bytes ≡ o → reading list room question size (suc f) bytes own ≡ turned o
  unfolding reading
  turn o h = ap turned h

  pub reading_none : read bytes ≡ None → reading list room question size (suc f) bytes own ≡ record { answer = refused question size bytes NoRecord; left = bytes }
  reading_none h = turn None h

  module _ (r : Record) (after : List ℕ) (h : read bytes ≡ Some (r, after)) where
    pub reading_stops : (fault : CertificateFault) → move list room own r ≡ Err fault → reading list room question size (suc f) bytes own ≡ record { answer = refused question size bytes fault; left = after }
    reading_stops fault e = turn (Some (r, after)) h ∙ ap (moved after) e

    pub reading_ends : move list room own r ≡ Ok ended → reading list room question size (suc f) bytes own ≡ record { answer = Ok (length own + 1); left = after }
    reading_ends e = turn (Some (r, after)) h ∙ ap (moved after) e

    pub reading_goes : (c : List ℕ) → move list room own r ≡ Ok (made c) → reading list room question size (suc f) bytes own ≡ reading list room question size f after (own ++ c ∷ [])
    reading_goes c e = turn (Some (r, after)) h ∙ ap (moved after) e
