-- What a lawful certificate shows.
use Rattle.std.proofs.Common.{◌≡◌, ℕ, ◌<◌, Bool, ◌↔◌, List, [], Ok, Err, Result, sym, ◌∙◌, arith}
use Rattle.std.proofs.ByRecursion.{All-get_or}
use Rattle.refusal.specs.declared.faults.Refusal.{Refusal}
use Rattle.machine.specs.Meaning.{Meaning, Lawful}
use Rattle.machine.specs.Runs.{Run, Breaks, Kept}
use Rattle.question_theory.specs.Traces.{StateClauses, questions_of_trace}
use Rattle.question_theory.specs.Inductions.{questions_of_induction}
use Rattle.question_theory.proofs.TraceLaw.{trace_law}
use Rattle.question_theory.proofs.InductionLaw.{induction_law}
use Rattle.certificate.specs.declared.claim.Claim.{Claim}
use Rattle.certificate.specs.declared.claim.Claim.TheVariants.{Trace, Induction, Counterexample}
use Rattle.checking.specs.declared.Accepted.{Accepted}
use Rattle.checking.specs.Asked.{Areas, frame_of, room_above}
use Rattle.checking.specs.Lawful.{Proof, Certificate, LawfulCertificate, Tells, Shows}
use Rattle.checking.specs.Verdicts.{verdict}
use Rattle.checking.proofs.Refuting.{each_unsat}
use Rattle.checking.proofs.Exactly.{verdict_lawful, lawful_verdict}

module _ (m : Meaning) (law : Lawful m) (rule : ℕ) (known : rule < m.rules) (bytes : List ℕ) (areas : Areas) (count : ℕ) where
  trace_tells : (c : Proof m rule bytes areas Trace count) → Tells m rule bytes areas Trace count c
  trace_tells c =
      let p = c.proper in
      let l = p.framed in
      trace_law m law rule known (frame_of c.frames) c.size (omega (arith, p.some))
      (λ i h. All-get_or (StateClauses m) c.frames i [] (omega arith) p.of_state) p.starts
      (each_unsat (room_above areas.literals areas.spans c.frames) (questions_of_trace m rule (frame_of c.frames) c.size) c.refutations c.refutes)

  induction_tells : (c : Proof m rule bytes areas Induction count) → Tells m rule bytes areas Induction count c
  induction_tells c =
      induction_law m law rule known c.size (each_unsat (room_above areas.literals areas.spans c.frames) (questions_of_induction m rule c.size) c.refutations c.refutes)

  pub tells : (claim : Claim) (c : Certificate m rule bytes areas claim count) → Tells m rule bytes areas claim count c
  tells Trace c = trace_tells c
  tells Induction c = induction_tells c
  tells Counterexample c = (c.run, c.breaks)

-- the check accepts exactly the lawful certificates
pub accepted_exactly : (m : Meaning) (rule : ℕ) (bytes : List ℕ) (areas : Areas) (x : Accepted) → (verdict m rule bytes areas ≡ Ok x) ↔ LawfulCertificate m rule bytes areas x.claim x.records
accepted_exactly m rule bytes areas x = (verdict_lawful m rule bytes areas x, lawful_verdict m rule bytes areas x.claim x.records)

-- only a rule of the machine has one
pub lawful_known : (m : Meaning) (rule : ℕ) (bytes : List ℕ) (areas : Areas) (claim : Claim) (count : ℕ) → LawfulCertificate m rule bytes areas claim count → rule < m.rules
lawful_known m rule bytes areas claim count c = c.known

-- a rule with a trace or an induction is kept
pub kept_from_trace : (m : Meaning) → Lawful m → (rule : ℕ) (bytes : List ℕ) (areas : Areas) (count : ℕ) → LawfulCertificate m rule bytes areas Trace count → Kept m rule
kept_from_trace m law rule bytes areas count c = (tells m law rule c.known bytes areas count Trace c.certificate).1

pub kept_from_induction : (m : Meaning) → Lawful m → (rule : ℕ) (bytes : List ℕ) (areas : Areas) (count : ℕ) → LawfulCertificate m rule bytes areas Induction count → Kept m rule
kept_from_induction m law rule bytes areas count c = (tells m law rule c.known bytes areas count Induction c.certificate).1

-- a counterexample has a run that breaks the rule
pub broken_from : (m : Meaning) (rule : ℕ) (bytes : List ℕ) (areas : Areas) (count : ℕ) → LawfulCertificate m rule bytes areas Counterexample count → (rows : List (List Bool)) × Run m rows × Breaks m rule rows
broken_from m rule bytes areas count c = (c.certificate.rows, c.certificate.run, c.certificate.breaks)

-- what the verdict shows
pub shows : (m : Meaning) → Lawful m → (rule : ℕ) (bytes : List ℕ) (areas : Areas) (r : Result Accepted Refusal) → r ≡ verdict m rule bytes areas → Shows m rule bytes areas r
shows m law rule bytes areas (Ok x) e = let c = verdict_lawful m rule bytes areas x (sym e) in (c, tells m law rule c.known bytes areas x.records x.claim c.certificate)
shows m law rule bytes areas (Err x) e = tt

pub taken : (m : Meaning) (rule : ℕ) (bytes : List ℕ) (areas : Areas) (r : Result Accepted Refusal) → r ≡ verdict m rule bytes areas →
    (claim : Claim) (count : ℕ) → LawfulCertificate m rule bytes areas claim count → r ≡ Ok (record { claim = claim; records = count })
taken m rule bytes areas r e claim count c = e ∙ lawful_verdict m rule bytes areas claim count c
