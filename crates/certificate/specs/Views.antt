-- What phase and byte area stand for.
use Rattle.std.specs.Prelude.{ℕ, ◌≤◌, List, Ok, Err, Result}
use Rattle.refusal.specs.declared.faults.CertificateFault.{CertificateFault}
use Rattle.machine.specs.Meaning.{Meaning}
use Rattle.machine.specs.Rows.{row_state}
use Rattle.certificate.specs.declared.phase.Phase.{Phase}
use Rattle.certificate.specs.declared.phase.Phase.TheVariants.{Opening, Row, Closing, Closed}
use Rattle.certificate.specs.Area.{part, SmallInputs, SmallState}
use Rattle.certificate.specs.Steps.{View, opening, in_row, closing, closed}

-- where the check stands, with the bits that the area holds
abbrev pub view : Meaning → Phase → List ℕ → View
view m Opening area = opening
view m (Row left bits) area = in_row left (part 1 bits area) (row_state m area)
view m Closing area = closing
view m Closed area = closed

-- the answer of a step as one value
abbrev pub seen : Meaning → Result Phase CertificateFault → List ℕ → Result View CertificateFault
seen m (Ok p) area = Ok (view m p area)
seen m (Err f) area = Err f

-- within a row the bytes of its bits and state are 0 or 1
abbrev pub Steady : Meaning → Phase → List ℕ → Type 0
Steady m Opening area = Unit {0}
Steady m (Row left bits) area = (bits ≤ m.inputs) × SmallInputs bits area × SmallState m area
Steady m Closing area = Unit {0}
Steady m Closed area = Unit {0}

-- the same after a step that goes on
abbrev pub Steadily : Meaning → Result Phase CertificateFault → List ℕ → Type 0
Steadily m (Ok p) area = Steady m p area
Steadily m (Err f) area = Unit {0}
