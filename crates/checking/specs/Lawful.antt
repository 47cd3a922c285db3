-- Lawful certificates in the words of the subject: what they are as bytes, and what they show.
use Rattle.std.specs.Prelude.{◌≡◌, ℕ, ◌<◌, ◌≤◌, List, [], ◌∷◌, ◌++◌, length, Ok, Err, Result}
use Rattle.std.specs.List.{flat_map, AllByRecursion}
use Rattle.refusal.specs.declared.faults.Refusal.{Refusal}
use Rattle.machine.specs.Meaning.{Meaning}
use Rattle.machine.specs.Runs.{Run, Breaks, Kept}
use Rattle.question_theory.specs.Traces.{SafeTrace}
use Rattle.question_theory.specs.Inductions.{Inductive}
use Rattle.certificate.specs.declared.record.Record.{Record}
use Rattle.certificate.specs.declared.record.Record.TheVariants.{End}
use Rattle.certificate.specs.Records.{encodes}
use Rattle.certificate.specs.Counterexamples.{Counterexample}
use Rattle.certificate.specs.declared.claim.Claim.{Claim}
use Rattle.certificate.specs.declared.claim.Claim.TheVariants as claim
use Rattle.opening.specs.Steps.{room_in}
use Rattle.opening.specs.Openings.{opening_records, Proper}
use Rattle.refuting.specs.Rooms.{Room}
use Rattle.refuting.specs.Refutations.{Step, Refutes, records}
use Rattle.checking.specs.declared.Accepted.{Accepted}
use Rattle.checking.specs.Asked.{Areas, frame_of, questions, room_above}

-- the records of a certificate with refutations: the claim and its frames, a refutation of each question, the end
abbrev pub proof_records : Claim → ℕ → List (List (List ℕ)) → List (List Step) → List Record
proof_records claim size frames refutations = opening_records claim size frames ++ (flat_map records refutations ++ End ∷ [])

-- each question is refuted by the steps at its place
abbrev pub RefuteEach : Room → List (List (List ℕ)) → List (List Step) → Type 0
RefuteEach room [] [] = Unit {0}
RefuteEach room [] (steps ∷ more) = ⊥
RefuteEach room (q ∷ qs) [] = ⊥
RefuteEach room (q ∷ qs) (steps ∷ more) = Refutes q room steps × RefuteEach room qs more

-- bytes that are a certificate of refutations, with this claim, in so many records
pub record Proof (m : Meaning) (rule : ℕ) (bytes : List ℕ) (areas : Areas) (claim : Claim) (count : ℕ) : Type 0 where
  -- how many frames come after the first one of a trace, or how many rows an induction looks back
  pub size : ℕ
  -- those of a trace, over state literals, the first of which holds in the start; an induction has none
  pub frames : List (List (List ℕ))
  pub proper : Proper m (room_in areas.literals areas.spans) claim size frames
  -- each question in turn is refuted, in the room above the frames
  pub refutations : List (List Step)
  pub refutes : RefuteEach (room_above areas.literals areas.spans frames) (questions m rule claim size frames) refutations
  pub written : bytes ≡ encodes (proof_records claim size frames refutations)
  pub counted : count ≡ length (proof_records claim size frames refutations)

-- the certificate by its claim
abbrev pub Certificate : Meaning → ℕ → List ℕ → Areas → Claim → ℕ → Type 0
Certificate m rule bytes areas claim.Trace count = Proof m rule bytes areas claim.Trace count
Certificate m rule bytes areas claim.Induction count = Proof m rule bytes areas claim.Induction count
Certificate m rule bytes areas claim.Counterexample count = Counterexample m rule bytes areas.row count

-- the bytes are a lawful certificate for the rule, with this claim, in so many records
pub record LawfulCertificate (m : Meaning) (rule : ℕ) (bytes : List ℕ) (areas : Areas) (claim : Claim) (count : ℕ) : Type 0 where
  pub known : rule < m.rules
  -- the row has a byte for each variable, and the other areas are not too long
  pub row : m.variables ≤ areas.row
  pub literals : areas.literals ≤ 1048576
  pub spans : areas.spans ≤ 65536
  pub of_bytes : AllByRecursion (λ b. b < 256) bytes
  pub certificate : Certificate m rule bytes areas claim count

-- what a certificate tells of its rule
abbrev pub Tells : (m : Meaning) (rule : ℕ) (bytes : List ℕ) (areas : Areas) (claim : Claim) (count : ℕ) → Certificate m rule bytes areas claim count → Type 0
-- its frames are a safe trace, and no run breaks the rule
Tells m rule bytes areas claim.Trace count c = SafeTrace m rule (frame_of c.frames) c.size × Kept m rule
-- the induction holds, and no run breaks the rule
Tells m rule bytes areas claim.Induction count c = Inductive m rule c.size × Kept m rule
-- its run breaks the rule
Tells m rule bytes areas claim.Counterexample count c = Run m c.rows × Breaks m rule c.rows

-- what an answer shows: an accepted certificate is lawful, and tells the truth
abbrev pub Shows : Meaning → ℕ → List ℕ → Areas → Result Accepted Refusal → Type 0
Shows m rule bytes areas (Ok x) =
    (c : LawfulCertificate m rule bytes areas x.claim x.records) × Tells m rule bytes areas x.claim x.records c.certificate
Shows m rule bytes areas (Err e) = Unit {0}
