-- Counterexamples in the words of the subject: what they are as bytes, and why bytes are refused.
use Rattle.std.specs.Prelude.{◌≡◌, ℕ, ◌-◌, ◌<◌, ◌≤◌, Bool, true, false, List, [], ◌∷◌, ◌++◌, length, Ok, Err, Result, ◌≢◌}
use Rattle.refusal.specs.declared.faults.CertificateFault.{CertificateFault}
use Rattle.refusal.specs.declared.faults.CertificateFault.TheVariants.{NoRecord, OutOfPlace, WrongNumber, Unbroken}
use Rattle.refusal.specs.declared.faults.CertificateRefusal.{CertificateRefusal}
use Rattle.refusal.specs.declared.faults.DocketFault.TheVariants.{NoRule, UnfitArea, TooMany, NotEntered}
use Rattle.refusal.specs.declared.faults.Refusal.{Refusal}
use Rattle.refusal.specs.declared.faults.Refusal.TheVariants.{Text, Table, Docket, Certificate, Refutation}
use Rattle.machine.specs.Meaning.{Meaning}
use Rattle.machine.specs.Rows.{bit, byte}
use Rattle.machine.specs.Runs.{Run, Breaks}
use Rattle.certificate.specs.declared.record.Record.{Record}
use Rattle.certificate.specs.declared.record.Record.TheVariants.{Claim, Literal, ClauseEnd, FrameEnd, Take, Resolve, RefutationEnd, Bit, RowEnd, End}
use Rattle.certificate.specs.Records.{encode, encodes}
use Rattle.certificate.specs.Steps.{View, opening, in_row, closing, closed}

-- the records of a row, a bit for each input and then its end, before what follows
abbrev pub row_records : List Bool → List Record → List Record
row_records [] after = RowEnd ∷ after
row_records (b ∷ bits) after = Bit (byte b) ∷ row_records bits after

-- the records of several rows, before what follows
abbrev pub rows_records : List (List Bool) → List Record → List Record
rows_records [] after = after
rows_records (row ∷ rows) after = row_records row (rows_records rows after)

-- the certificate of these rows: the claim, the rows, the end
abbrev pub certificate : List (List Bool) → List Record
certificate rows = Claim 3 (length rows) ∷ rows_records rows (End ∷ [])

-- bytes that are the certificate of a run which breaks the rule, in so many records, with a large enough area
pub record Counterexample (m : Meaning) (rule : ℕ) (bytes : List ℕ) (area records : ℕ) : Type 0 where
  pub known : rule < m.rules
  pub room : m.variables ≤ area
  pub rows : List (List Bool)
  pub run : Run m rows
  pub few : length rows ≤ 4096
  pub breaks : Breaks m rule rows
  pub written : bytes ≡ encodes (certificate rows)
  pub counted : records ≡ length (certificate rows)

-- a record to which every question is answered yes, and where it leads
pub data Goes (m : Meaning) (rule : ℕ) : View → Record → View → Type 0 where
  claims : {n : ℕ} → 1 ≤ n → n ≤ 4096 → Goes m rule opening (Claim 3 n) (in_row n [] m.start)
  sets : {left b : ℕ} {bits state : List Bool} → length bits < m.inputs → b < 2 → Goes m rule (in_row left bits state) (Bit b) (in_row left (bits ++ bit b ∷ []) state)
  turns : {left : ℕ} {bits state : List Bool} → length bits ≡ m.inputs → 1 < left → Goes m rule (in_row left bits state) RowEnd (in_row (left - 1) [] (m.step state bits))
  breaks : {left : ℕ} {bits state : List Bool} → length bits ≡ m.inputs → left ≤ 1 → m.broken rule state bits ≡ true → Goes m rule (in_row left bits state) RowEnd closing
  ends : Goes m rule closing End closed

-- records one after another
abbrev pub Leads : Meaning → ℕ → View → List Record → View → Type 0
Leads m rule v [] w = v ≡ w
Leads m rule v (r ∷ rs) w = (u : View) × Goes m rule v r u × Leads m rule u rs w

-- may the record come here?
pub data MayCome (m : Meaning) : View → Record → Type 0 where
  claim_first : {claim n : ℕ} → MayCome m opening (Claim claim n)
  bit_missing : {left b : ℕ} {bits state : List Bool} → length bits < m.inputs → MayCome m (in_row left bits state) (Bit b)
  row_full : {left : ℕ} {bits state : List Bool} → length bits ≡ m.inputs → MayCome m (in_row left bits state) RowEnd
  end_last : MayCome m closing End

-- are its numbers right?
abbrev pub Right : Record → Type 0
Right (Claim claim n) = (claim ≡ 3) × (1 ≤ n) × (n ≤ 4096)
Right (Literal l) = Unit {0}
Right ClauseEnd = Unit {0}
Right FrameEnd = Unit {0}
Right (Take n) = Unit {0}
Right (Resolve l r p) = Unit {0}
Right RefutationEnd = Unit {0}
Right (Bit b) = b < 2
Right RowEnd = Unit {0}
Right End = Unit {0}

-- the first question to which the answer is no at a record
pub data No (m : Meaning) (rule : ℕ) : View → Record → CertificateFault → Type 0 where
  misplaced : {v : View} {r : Record} → (MayCome m v r → ⊥) → No m rule v r OutOfPlace
  misnumbered : {v : View} {r : Record} → MayCome m v r → (Right r → ⊥) → No m rule v r WrongNumber
  unbroken : {left : ℕ} {bits state : List Bool} → MayCome m (in_row left bits state) RowEnd → left ≤ 1 → m.broken rule state bits ≡ false → No m rule (in_row left bits state) RowEnd Unbroken

-- why the bytes that are left are refused: a byte after the end, no record, or a record
pub data Why (m : Meaning) (rule : ℕ) : View → List ℕ → CertificateFault → Type 0 where
  after_end : {rest : List ℕ} → (rest ≢ []) → Why m rule closed rest OutOfPlace
  no_record : {v : View} {rest : List ℕ} → (v ≢ closed) → ((r : Record) (after : List ℕ) → rest ≢ encode r ++ after) → Why m rule v rest NoRecord
  at_record : {v : View} {rest : List ℕ} {fault : CertificateFault} (r : Record) (after : List ℕ) → rest ≡ encode r ++ after → No m rule v r fault → Why m rule v rest fault

-- the records before the offset are all answered yes, and what follows them is not
pub record Stopped (m : Meaning) (rule : ℕ) (bytes : List ℕ) (refusal : CertificateRefusal) : Type 0 where
  pub done : List Record
  pub rest : List ℕ
  pub place : View
  pub written : bytes ≡ encodes done ++ rest
  pub led : Leads m rule opening done place
  pub offset : refusal.offset ≡ length (encodes done)
  pub question : refusal.question ≡ 0
  pub why : Why m rule place rest refusal.fault

-- a refusal names the first question to which the answer is no
abbrev pub Refused : Meaning → ℕ → List ℕ → ℕ → Refusal → Type 0
Refused m rule bytes area (Text r) = ⊥
Refused m rule bytes area (Table r) = ⊥
Refused m rule bytes area (Refutation f) = ⊥
Refused m rule bytes area (Docket NoRule) = m.rules ≤ rule
Refused m rule bytes area (Docket UnfitArea) = (rule < m.rules) × (area < m.variables)
Refused m rule bytes area (Docket TooMany) = ⊥
Refused m rule bytes area (Docket NotEntered) = ⊥
Refused m rule bytes area (Certificate r) = (rule < m.rules) × (m.variables ≤ area) × Stopped m rule bytes r

-- what an answer shows
abbrev pub Shows : Meaning → ℕ → List ℕ → ℕ → Result ℕ Refusal → Type 0
Shows m rule bytes area (Ok records) = Counterexample m rule bytes area records
Shows m rule bytes area (Err refusal) = Refused m rule bytes area refusal
