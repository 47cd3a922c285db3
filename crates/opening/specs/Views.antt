-- What phase, frames and areas stand for.
use Rattle.std.specs.Prelude.{◌≡◌, ℕ, ◌≤◌, List, [], map, length, Ok, Err, Result}
use Rattle.std.specs.List.{range_with_len}
use Rattle.refusal.specs.declared.faults.CertificateFault.{CertificateFault}
use Rattle.refusal.specs.declared.faults.CertificateRefusal.{CertificateRefusal}
use Rattle.machine.specs.Meaning.{Meaning}
use Rattle.stack.specs.declared.spans.Span.{Span}
use Rattle.frames.specs.declared.frames.Frames.{Frames}
use Rattle.frames.specs.Held.{ended_frames, frame, open_frame, open_clause, Stacked}
use Rattle.frames.specs.Writes.{Empty}
use Rattle.certificate.specs.declared.record.Record.{Record}
use Rattle.certificate.specs.declared.record.Record.TheVariants.{Claim}
use Rattle.opening.specs.declared.opening.Opening.{Opening as Read}
use Rattle.opening.specs.declared.phase.Phase.{Phase}
use Rattle.opening.specs.declared.phase.Phase.TheVariants.{Opening, Framing, Opened}
use Rattle.opening.specs.Steps.{View, opening, framing, opened, room_in, step}
use Rattle.opening.specs.Reading.{Contents}

-- the frames that are ended
unfoldable pub held : Frames → List ℕ → List Span → List (List (List ℕ))
held f ls ps = map (frame f ls ps) (range_with_len 0 (ended_frames f))

-- where the reading stands, with the lists that the frames hold
abbrev pub view : Phase → Frames → List ℕ → List Span → View
view Opening f ls ps = opening
view (Framing size) f ls ps = framing size (held f ls ps) (open_frame f ls ps) (open_clause f ls)
view (Opened claim size) f ls ps = opened claim size (held f ls ps)

-- the answer of a step as one value
abbrev pub seen : Result Phase CertificateFault → Frames → List ℕ → List Span → Result View CertificateFault
seen (Ok p) f ls ps = Ok (view p f ls ps)
seen (Err e) f ls ps = Err e

-- the frames stand on the stacks, and nothing is open
pub record Settled (f : Frames) (ls : List ℕ) (ps : List Span) : Type 0 where
  pub stacked : Stacked f ls ps
  pub frame : open_frame f ls ps ≡ []
  pub clause : open_clause f ls ≡ []

-- before the claim there is no frame; in the frames of a trace there are no more than it may have; after the opening nothing is open
abbrev pub Steady : Phase → Frames → List ℕ → List Span → Type 0
Steady Opening f ls ps = Empty f
Steady (Framing size) f ls ps = Stacked f ls ps × (ended_frames f ≤ size) × (size ≤ 64)
Steady (Opened claim size) f ls ps = Settled f ls ps

-- the same after a step that goes on
abbrev pub Steadily : Result Phase CertificateFault → Frames → List ℕ → List Span → Type 0
Steadily (Ok p) f ls ps = Steady p f ls ps
Steadily (Err e) f ls ps = Unit {0}

-- this is the answer, and the frames are left in order
pub record Comes (r : Result Phase CertificateFault) (f : Frames) (ls : List ℕ) (ps : List Span) (said : Result View CertificateFault) : Type 0 where
  pub is : seen r f ls ps ≡ said
  pub steady : Steadily r f ls ps

-- what a record does at a phase: frames and areas f, ls, ps become g, ms, qs
abbrev pub Does : Meaning → Phase → Record → Frames → List ℕ → List Span → Result Phase CertificateFault → Frames → List ℕ → List Span → Type 0
Does m p r f ls ps answer g ms qs = Steady p f ls ps → Comes answer g ms qs (step m (room_in (length ls) (length ps)) (view p f ls ps) r)

-- the answer of a step that goes on in the frames of a trace, or is refused
abbrev pub framing_on : ℕ → Result (Unit {0}) CertificateFault → Result Phase CertificateFault
framing_on size (Ok _) = Ok (Framing size)
framing_on size (Err f) = Err f

-- the claim leaves them as they are
abbrev pub Claimed : ℕ → ℕ → Result Phase CertificateFault → Type 0
Claimed claim n answer = (m : Meaning) (f : Frames) (ls : List ℕ) (ps : List Span) → Does m Opening (Claim claim n) f ls ps answer f ls ps

-- what an opening says
abbrev pub contents : Read → List ℕ → List Span → Contents
contents o ls ps = record { claim = o.claim; size = o.size; frames = held o.frames ls ps; records = o.records }

-- the answer of the reading as one value
abbrev pub shown : Result Read CertificateRefusal → List ℕ → List Span → Result Contents CertificateRefusal
shown (Ok o) ls ps = Ok (contents o ls ps)
shown (Err e) ls ps = Err e
