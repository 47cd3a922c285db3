-- The number and the name of each claim.
use Rattle.std.specs.Prelude.{ℕ, cond, List, Ok, Err, Result, ◌==◌, codes}
use Rattle.refusal.specs.declared.faults.CertificateFault.{CertificateFault}
use Rattle.refusal.specs.declared.faults.CertificateFault.TheVariants.{WrongNumber}
use Rattle.certificate.specs.declared.claim.Claim.{Claim}
use Rattle.certificate.specs.declared.claim.Claim.TheVariants.{Trace, Induction, Counterexample}

-- the kind of a claim as a number
abbrev pub kind : Claim → ℕ
kind Trace = 1
kind Induction = 2
kind Counterexample = 3

-- the claim of a number, where there is one
abbrev pub claim_of : ℕ → Result Claim CertificateFault
claim_of number =
    cond (number == kind Trace) (Ok Trace)
    (cond (number == kind Induction) (Ok Induction)
    (cond (number == kind Counterexample) (Ok Counterexample) (Err WrongNumber)))

-- the greatest size of a claim
abbrev pub most : Claim → ℕ
most Trace = 64
most Induction = 64
most Counterexample = 4096

-- a claim by its name
abbrev pub claim_text : Claim → List ℕ
claim_text Trace = codes "trace"
claim_text Induction = codes "induction"
claim_text Counterexample = codes "counterexample"
