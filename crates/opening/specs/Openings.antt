-- Openings in the words of the subject: what they are as bytes, and what their frames are.
use Rattle.std.specs.Prelude.{◌≡◌, ℕ, ◌+◌, ◌<◌, ◌≤◌, List, [], ◌∷◌, ◌++◌, map, length, IfOk, Ok, Result, slice_index_or}
use Rattle.std.specs.List.{flat_map, AllByRecursion}
use Rattle.refusal.specs.declared.faults.CertificateRefusal.{CertificateRefusal}
use Rattle.resolution.specs.Clauses.{Rising}
use Rattle.machine.specs.Meaning.{Meaning}
use Rattle.question_theory.specs.Traces.{StateClauses, In}
use Rattle.stack.specs.declared.spans.Span.{Span}
use Rattle.frames.specs.Held.{flat, ended_frames, frame}
use Rattle.certificate.specs.declared.cursor.Cursor.{Cursor}
use Rattle.certificate.specs.declared.record.Record.{Record}
use Rattle.certificate.specs.declared.record.Record.TheVariants.{Claim as Claim-record, Literal, ClauseEnd, FrameEnd}
use Rattle.certificate.specs.Records.{encodes}
use Rattle.certificate.specs.Claims.{kind, most}
use Rattle.certificate.specs.declared.claim.Claim.{Claim}
use Rattle.certificate.specs.declared.claim.Claim.TheVariants.{Trace, Induction, Counterexample}
use Rattle.opening.specs.declared.opening.Opening.{Opening}
use Rattle.opening.specs.Steps.{Room, clauses_in}
use Rattle.opening.specs.Reading.{Contents, reading}
use Rattle.opening.specs.Views.{Settled, contents, shown}

-- a clause as records: its literals, then its end
abbrev pub clause_records : List ℕ → List Record
clause_records c = map Literal c ++ ClauseEnd ∷ []

-- a frame: its clauses, then its end
abbrev pub frame_records : List (List ℕ) → List Record
frame_records F = flat_map clause_records F ++ FrameEnd ∷ []

-- an opening: the claim, then the frames
abbrev pub opening_records : Claim → ℕ → List (List (List ℕ)) → List Record
opening_records claim size frames = Claim-record (kind claim) size ∷ flat_map frame_records frames

-- how many frames there are with a claim of a size
abbrev pub frames_with : Claim → ℕ → ℕ
frames_with Trace n = n + 1
frames_with Induction n = 0
frames_with Counterexample n = 0

-- a claim with frames that may stand in an opening, and for which there is room
pub record Proper (m : Meaning) (room : Room) (claim : Claim) (size : ℕ) (frames : List (List (List ℕ))) : Type 0 where
  pub some : 1 ≤ size
  pub few : size ≤ most claim
  pub framed : length frames ≡ frames_with claim size
  -- every clause rises, and is of state literals
  pub rising : AllByRecursion (AllByRecursion Rising) frames
  pub of_state : AllByRecursion (StateClauses m) frames
  -- the start is in the first frame
  pub starts : In m (slice_index_or frames 0 []) m.start
  pub literals_fit : length (flat (clauses_in frames)) ≤ room.literals
  pub clauses_fit : length (clauses_in frames) ≤ room.clauses

-- the bytes are the encoding of such an opening, and then the rest
pub record Opens (m : Meaning) (room : Room) (bytes rest : List ℕ) (k : Contents) : Type 0 where
  pub proper : Proper m room k.claim k.size k.frames
  pub written : bytes ≡ encodes (opening_records k.claim k.size k.frames) ++ rest
  pub counted : k.records ≡ length (opening_records k.claim k.size k.frames)

-- the frames of an opening, by number
pub record Framed (m : Meaning) (o : Opening) (ls : List ℕ) (ps : List Span) : Type 0 where
  pub settled : Settled o.frames ls ps
  pub count : ended_frames o.frames ≡ frames_with o.claim o.size
  pub rising : (i : ℕ) → i < ended_frames o.frames → AllByRecursion Rising (frame o.frames ls ps i)
  pub of_state : (i : ℕ) → i < ended_frames o.frames → StateClauses m (frame o.frames ls ps i)
  pub starts : 0 < ended_frames o.frames → In m (frame o.frames ls ps 0) m.start

-- what the reading of an opening answers and leaves, in areas that then hold ls and ps
pub record Reads (m : Meaning) (room : Room) (before after : Cursor) (ls : List ℕ) (ps : List Span) (r : Result Opening CertificateRefusal) : Type 0 where
  -- answer and rest are those of the definition, and the cursor counts what was taken
  pub is : shown r ls ps ≡ (reading m room before.offset before.rest.now).0
  pub rest : after.rest.now ≡ (reading m room before.offset before.rest.now).1
  pub offset : after.offset + length after.rest.now ≡ before.offset + length before.rest.now
  -- what is granted is an opening that the bytes begin with, and its frames stand on the stacks
  pub opens : IfOk r (λ o. Opens m room before.rest.now after.rest.now (contents o ls ps))
  pub frames : IfOk r (λ o. Framed m o ls ps)
  -- where the bytes begin with an opening, it is granted
  pub taken : (k : Contents) (rest : List ℕ) → Opens m room before.rest.now rest k → (shown r ls ps ≡ Ok k) × (after.rest.now ≡ rest)
