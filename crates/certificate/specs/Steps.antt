-- What one record does where the check of a counterexample stands.
use Rattle.std.specs.Prelude.{ℕ, ◌-◌, Bool, cond, ◌&&◌, List, [], ◌∷◌, ◌++◌, length, Ok, Err, Result, ◌==◌, nat_le, nat_lt}
use Rattle.refusal.specs.declared.faults.CertificateFault.{CertificateFault}
use Rattle.refusal.specs.declared.faults.CertificateFault.TheVariants.{OutOfPlace, WrongNumber, Unbroken}
use Rattle.machine.specs.Meaning.{Meaning}
use Rattle.machine.specs.Rows.{bit}
use Rattle.certificate.specs.declared.record.Record.{Record}
use Rattle.certificate.specs.declared.record.Record.TheVariants.{Claim, Literal, ClauseEnd, FrameEnd, Take, Resolve, RefutationEnd, Bit, RowEnd, End}

-- where the check of a counterexample stands
pub data View : Type 0 where
  -- before the claim
  opening : View
  -- in a row: the rows yet to end, this one counted, its bits so far, and its state
  in_row : (left : ℕ) (bits state : List Bool) → View
  -- after the last row
  closing : View
  -- after the end
  closed : View

-- what may come before the claim only: anywhere else it is out of place
abbrev pub at_opening : View → Result View CertificateFault → Result View CertificateFault
at_opening opening there = there
at_opening (in_row left bits state) there = Err OutOfPlace
at_opening closing there = Err OutOfPlace
at_opening closed there = Err OutOfPlace

-- what may come in a row only
abbrev pub at_row : View → (ℕ → List Bool → List Bool → Result View CertificateFault) → Result View CertificateFault
at_row opening there = Err OutOfPlace
at_row (in_row left bits state) there = there left bits state
at_row closing there = Err OutOfPlace
at_row closed there = Err OutOfPlace

-- what may come after the last row only
abbrev pub at_closing : View → Result View CertificateFault → Result View CertificateFault
at_closing opening there = Err OutOfPlace
at_closing (in_row left bits state) there = Err OutOfPlace
at_closing closing there = there
at_closing closed there = Err OutOfPlace

-- claim 3 of 1 to 4,096 rows: the first state is the start
abbrev pub claimed : Meaning → ℕ → ℕ → Result View CertificateFault
claimed m claim n = cond (claim == 3 && (nat_le 1 n && nat_le n 4096)) (Ok (in_row n [] m.start)) (Err WrongNumber)

-- a bit, while inputs are left: 0 or 1
abbrev pub bit_set : Meaning → ℕ → ℕ → List Bool → List Bool → Result View CertificateFault
bit_set m b left bits state =
    cond (nat_lt (length bits) m.inputs)
    (cond (nat_lt b 2) (Ok (in_row left (bits ++ bit b ∷ []) state)) (Err WrongNumber))
    (Err OutOfPlace)

-- the end of a row with all its bits: the step is the next state; in the last row the rule must be broken
abbrev pub row_ended : Meaning → ℕ → ℕ → List Bool → List Bool → Result View CertificateFault
row_ended m rule left bits state =
    cond (length bits == m.inputs)
    (cond (nat_lt 1 left) (Ok (in_row (left - 1) [] (m.step state bits)))
    (cond (m.broken rule state bits) (Ok closing) (Err Unbroken)))
    (Err OutOfPlace)

-- what a record does, or the fault of the first question that is answered no
abbrev pub step : Meaning → ℕ → View → Record → Result View CertificateFault
step m rule v (Claim claim n) = at_opening v (claimed m claim n)
step m rule v (Literal l) = Err OutOfPlace
step m rule v ClauseEnd = Err OutOfPlace
step m rule v FrameEnd = Err OutOfPlace
step m rule v (Take n) = Err OutOfPlace
step m rule v (Resolve l r p) = Err OutOfPlace
step m rule v RefutationEnd = Err OutOfPlace
step m rule v (Bit b) = at_row v (bit_set m b)
step m rule v RowEnd = at_row v (row_ended m rule)
step m rule v End = at_closing v (Ok closed)
