-- The number of each fault, and what a refusal tells: one definition for each enum.
use Rattle.std.specs.Prelude.{cond, ℕ, eqb}
use Rattle.refusal.specs.declared.faults.Layer.TheVariants as layer
use Rattle.refusal.specs.declared.faults.TextFault.{TextFault}
use Rattle.refusal.specs.declared.faults.TextFault.TheVariants.{Header, Sum, Bounds, ShortArea, Form, FirstNumber, Literal}
use Rattle.refusal.specs.declared.faults.TableFault.{TableFault}
use Rattle.refusal.specs.declared.faults.TableFault.TheVariants.{NoSizes, Sizes, NoRow, RowNumbers, Ending}
use Rattle.refusal.specs.declared.faults.DocketFault.{DocketFault}
use Rattle.refusal.specs.declared.faults.DocketFault.TheVariants.{NoRule, UnfitArea, TooMany, NotEntered}
use Rattle.refusal.specs.declared.faults.CertificateFault.{CertificateFault}
use Rattle.refusal.specs.declared.faults.CertificateFault.TheVariants as fault
use Rattle.refusal.specs.declared.faults.RefutationFault.{RefutationFault}
use Rattle.refusal.specs.declared.faults.RefutationFault.TheVariants.{NoClause, NoPivot, Full, NotRefuted}
use Rattle.refusal.specs.declared.faults.Refusal.{Refusal}
use Rattle.refusal.specs.declared.faults.Refusal.TheVariants.{Text, Table, Docket, Certificate, Refutation}
use Rattle.refusal.specs.declared.faults.Told.{Told}

-- faults of circuit text
abbrev pub number_of_text : TextFault → ℕ
number_of_text Header = 11
number_of_text Sum = 12
number_of_text Bounds = 13
number_of_text ShortArea = 14
number_of_text Form = 15
number_of_text FirstNumber = 16
number_of_text Literal = 17

-- faults of a step table
abbrev pub number_of_table : TableFault → ℕ
number_of_table NoSizes = 41
number_of_table Sizes = 42
number_of_table NoRow = 43
number_of_table RowNumbers = 44
number_of_table Ending = 45

-- faults of a call itself
abbrev pub number_of_docket : DocketFault → ℕ
number_of_docket NoRule = 21
number_of_docket UnfitArea = 22
number_of_docket TooMany = 31
number_of_docket NotEntered = 32

-- faults of a step of a refutation
abbrev pub number_of_refutation : RefutationFault → ℕ
number_of_refutation NoClause = 25
number_of_refutation NoPivot = 26
number_of_refutation Full = 27
number_of_refutation NotRefuted = 29

-- faults of a record of a certificate; one of a refutation is held whole
abbrev pub number_of_certificate : CertificateFault → ℕ
number_of_certificate fault.NoRecord = 23
number_of_certificate fault.OutOfPlace = 24
number_of_certificate fault.WrongNumber = 25
number_of_certificate fault.Full = 27
number_of_certificate fault.NotAtStart = 28
number_of_certificate fault.Unbroken = 30
number_of_certificate (fault.Refutation f) = number_of_refutation f

-- number, layer, offset and question number of each refusal
abbrev pub told : Refusal → Told
told (Text r) = record { number = number_of_text r.fault; layer = layer.Text; offset = r.offset; question = 0 }
told (Table r) = record { number = number_of_table r.fault; layer = layer.Table; offset = r.offset; question = 0 }
told (Docket f) = record { number = number_of_docket f; layer = layer.Docket; offset = 0; question = 0 }
told (Certificate r) = record { number = number_of_certificate r.fault; layer = cond (eqb r.question 0) layer.Certificate layer.Refutation; offset = r.offset; question = r.question }
told (Refutation f) = record { number = number_of_refutation f; layer = layer.Refutation; offset = 0; question = 1 }
