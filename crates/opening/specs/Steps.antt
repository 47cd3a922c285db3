-- What one record does where the reading of an opening stands: the questions at it, in their order.
use Rattle.std.specs.Prelude.{ℕ, ◌+◌, ◌/◌, min, Bool, true, cond, ◌&&◌, List, [], ◌∷◌, ◌++◌, length, Ok, Err, Result, ◌==◌, nat_le, nat_lt}
use Rattle.std.specs.List.{flat_map}
use Rattle.refusal.specs.declared.faults.CertificateFault.{CertificateFault}
use Rattle.refusal.specs.declared.faults.CertificateFault.TheVariants.{OutOfPlace, WrongNumber, Full, NotAtStart}
use Rattle.resolution.specs.Clauses.{holds}
use Rattle.resolution.specs.Lists.{above}
use Rattle.machine.specs.Meaning.{Meaning}
use Rattle.question_theory.specs.Traces.{state_setting}
use Rattle.frames.specs.Held.{flat}
use Rattle.certificate.specs.declared.record.Record.{Record}
use Rattle.certificate.specs.declared.record.Record.TheVariants.{Claim as Claim-record, Literal, ClauseEnd, FrameEnd, Take, Resolve, RefutationEnd, Bit, RowEnd, End}
use Rattle.certificate.specs.declared.claim.Claim.{Claim}
use Rattle.certificate.specs.declared.claim.Claim.TheVariants.{Trace, Induction, Counterexample}

-- how many literals, and how many clauses, there is room for
pub record Room : Type 0 where
  pub literals : ℕ
  pub clauses : ℕ

-- the room in areas of so many literals and spans
abbrev pub room_in : ℕ → ℕ → Room
room_in literals spans = record { literals = min literals 1048576; clauses = min spans 65536 }

pub data View : Type 0 where
  -- before the claim
  opening : View
  -- in the frames of a trace: those that are ended, the clauses of the open one, the literals of the open clause
  framing : (size : ℕ) (frames : List (List (List ℕ))) (frame : List (List ℕ)) (clause : List ℕ) → View
  -- after the opening
  opened : (claim : Claim) (size : ℕ) (frames : List (List (List ℕ))) → View

-- the clauses of frames, one after another
abbrev pub clauses_in : List (List (List ℕ)) → List (List ℕ)
clauses_in frames = flat_map (λ (F : List (List ℕ)). F) frames

-- how many clauses, and how many literals, stand so far
abbrev pub clause_count : List (List (List ℕ)) → List (List ℕ) → ℕ
clause_count frames frame = length (clauses_in frames ++ frame)

abbrev pub literal_count : List (List (List ℕ)) → List (List ℕ) → List ℕ → ℕ
literal_count frames frame clause = length (flat (clauses_in frames ++ frame)) + length clause

-- is it one of a state bit, and above the last one of the clause?
unfoldable pub is_next_literal : Meaning → List ℕ → ℕ → Bool
is_next_literal m clause l = nat_le (1 + m.inputs) (l / 2) && (nat_lt (l / 2) (1 + m.inputs + m.state_bits) && above clause l)

-- does a clause hold in the start? It is asked in the first frame only
unfoldable pub stands : Meaning → List (List (List ℕ)) → List ℕ → Bool
stands m [] clause = holds (state_setting m m.start) clause
stands m (F ∷ Fs) clause = true

-- the claim: a trace or an induction of 1 to 64, a counterexample of 1 to 4,096 rows
unfoldable pub claimed : ℕ → ℕ → Result View CertificateFault
claimed claim n =
    cond (claim == 1 && (nat_le 1 n && nat_le n 64)) (Ok (framing n [] [] []))
    (cond (claim == 2 && (nat_le 1 n && nat_le n 64)) (Ok (opened Induction n []))
    (cond (claim == 3 && (nat_le 1 n && nat_le n 4096)) (Ok (opened Counterexample n [])) (Err WrongNumber)))

-- a literal: is it the right one, is there room for it?
unfoldable pub literal_added : Meaning → Room → ℕ → ℕ → List (List (List ℕ)) → List (List ℕ) → List ℕ → Result View CertificateFault
literal_added m room l size frames frame clause =
    cond (is_next_literal m clause l)
    (cond (nat_lt (literal_count frames frame clause) room.literals) (Ok (framing size frames frame (clause ++ l ∷ []))) (Err Full))
    (Err WrongNumber)

-- the end of a clause: is there room for it, does it hold in the start?
unfoldable pub clause_ended : Meaning → Room → ℕ → List (List (List ℕ)) → List (List ℕ) → List ℕ → Result View CertificateFault
clause_ended m room size frames frame clause =
    cond (nat_lt (clause_count frames frame) room.clauses)
    (cond (stands m frames clause) (Ok (framing size frames (frame ++ clause ∷ []) [])) (Err NotAtStart))
    (Err Full)

-- the end of a frame: no clause may be open; after the last frame the opening is over
unfoldable pub frame_ended : ℕ → List (List (List ℕ)) → List (List ℕ) → List ℕ → Result View CertificateFault
frame_ended size frames frame clause =
    cond (length clause == 0)
    (cond (nat_lt (length frames) size) (Ok (framing size (frames ++ frame ∷ []) [] [])) (Ok (opened Trace size (frames ++ frame ∷ []))))
    (Err OutOfPlace)

-- what may come at one place only: anywhere else it is out of place
abbrev pub at_opening : View → Result View CertificateFault → Result View CertificateFault
at_opening opening there = there
at_opening (framing size frames frame clause) there = Err OutOfPlace
at_opening (opened claim size frames) there = Err OutOfPlace

abbrev pub at_framing : View → (ℕ → List (List (List ℕ)) → List (List ℕ) → List ℕ → Result View CertificateFault) → Result View CertificateFault
at_framing opening there = Err OutOfPlace
at_framing (framing size frames frame clause) there = there size frames frame clause
at_framing (opened claim size frames) there = Err OutOfPlace

abbrev pub step : Meaning → Room → View → Record → Result View CertificateFault
step m room v (Claim-record claim n) = at_opening v (claimed claim n)
step m room v (Literal l) = at_framing v (literal_added m room l)
step m room v ClauseEnd = at_framing v (clause_ended m room)
step m room v FrameEnd = at_framing v frame_ended
step m room v (Take n) = Err OutOfPlace
step m room v (Resolve l r p) = Err OutOfPlace
step m room v RefutationEnd = Err OutOfPlace
step m room v (Bit b) = Err OutOfPlace
step m room v RowEnd = Err OutOfPlace
step m room v End = Err OutOfPlace
