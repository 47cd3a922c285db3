-- The law of dockets: what every list of calls with their answers, and the account after it, keep.
use Rattle.std.specs.Prelude.{◌≡◌, ℕ, ◌+◌, ◌<◌, ◌≤◌, Bool, ◌↔◌, List, ◌∷◌, ◌++◌, Ok, Err, Result, slice_index_or}
use Rattle.refusal.specs.declared.faults.DocketFault.{DocketFault}
use Rattle.refusal.specs.declared.faults.DocketFault.TheVariants.{NoRule, TooMany, NotEntered}
use Rattle.refusal.specs.declared.faults.Refusal.{Refusal}
use Rattle.refusal.specs.declared.faults.Refusal.TheVariants.{Docket}
use Rattle.machine.specs.Meaning.{Meaning}
use Rattle.machine.specs.Runs as runs
use Rattle.checking.specs.declared.Accepted.{Accepted}
use Rattle.checking.specs.declared.Claim.{Claim}
use Rattle.checking.specs.declared.Claim.TheVariants.{Counterexample}
use Rattle.checking.specs.Verdicts.{Areas, verdict, LawfulCertificate}
use Rattle.docket.specs.declared.book.Account.{Account}
use Rattle.docket.specs.declared.book.Standing.{Standing}
use Rattle.docket.specs.declared.book.Standing.TheVariants.{Open, Kept, Broken}
use Rattle.docket.specs.declared.book.Tally.{Tally}
use Rattle.docket.specs.Books.{most}
use Rattle.docket.specs.Calls.{Call, hand_in, look_up, tally, strike, Answer, Made, calls}
use Rattle.docket.specs.Histories.{hand_ins, IsCounted, IsAccepted, IsRefused, IsGranted, Stood, Claimed, Number}

-- what a rule's standing after these calls says
pub record Stands (m : Meaning) (h : List Call) (rule : ℕ) (s : Standing) : Type 0 where
  -- it is kept exactly when the last lawful certificate counted for the rule since its last granted strike claims kept
  pub kept : (s ≡ Kept) ↔ Claimed m h rule Kept
  -- it is broken exactly when that one claims broken
  pub broken : (s ≡ Broken) ↔ Claimed m h rule Broken
  -- it is open exactly when there is none
  pub vacant : (s ≡ Open) ↔ ((c : Claim) → Stood m h rule c → ⊥)
  -- a rule found kept is broken by no run of any length
  pub no_run : s ≡ Kept → runs.Kept m rule
  -- a rule found broken has a lawful counterexample, counted since its last granted strike, and a run that breaks it
  pub a_run : s ≡ Broken → Stood m h rule Counterexample × ((rows : List (List Bool)) × runs.Run m rows × runs.Breaks m rule rows)

-- what the counts after these calls are
pub record Tallied (m : Meaning) (h : List Call) (t : Tally) : Type 0 where
  -- so many hand ins were counted
  pub handed_in : Number IsCounted h t.handed_in
  -- so many of these were lawful certificates, and so many were not
  pub accepted : Number (IsAccepted m) h t.accepted
  pub refused : Number (IsRefused m) h t.refused
  -- so many strikes were granted
  pub struck : Number (IsGranted m) h t.struck
  -- each counted hand in is accepted or refused, and no more is struck than was accepted
  pub whole : t.handed_in ≡ t.accepted + t.refused
  pub fewer : t.struck ≤ t.accepted

-- the answer to a hand in
pub record Judged (m : Meaning) (past : List Call) (rule : ℕ) (bytes : List ℕ) (areas : Areas) (r : Result Accepted Refusal) : Type 0 where
  -- counted, it is the verdict on the certificate
  pub counted : hand_ins past < most → r ≡ verdict m rule bytes areas
  -- it is accepted exactly when it is counted and the certificate is lawful
  pub accepted : (x : Accepted) → (r ≡ Ok x) ↔ ((hand_ins past < most) × LawfulCertificate m rule bytes areas x.claim x.records)
  -- after 1,000,000 it is refused
  pub full : most ≤ hand_ins past → r ≡ Err (Docket TooMany)

-- the answer to a look up
pub record Found (m : Meaning) (past : List Call) (rule : ℕ) (r : Result Standing DocketFault) : Type 0 where
  pub known : rule < m.rules → (s : Standing) × (r ≡ Ok s) × Stands m past rule s
  pub unknown : m.rules ≤ rule → r ≡ Err NoRule

-- the answer to a strike
pub record Struck (m : Meaning) (past : List Call) (rule : ℕ) (r : Result (Unit {0}) DocketFault) : Type 0 where
  pub granted : (r ≡ Ok tt) ↔ IsGranted m (strike rule) past
  -- it is granted exactly when a lawful certificate was counted for the rule since the rule's last granted strike
  pub due : IsGranted m (strike rule) past ↔ ((c : Claim) × Stood m past rule c)
  pub idle : rule < m.rules → ((c : Claim) → Stood m past rule c → ⊥) → r ≡ Err NotEntered
  pub unknown : m.rules ≤ rule → r ≡ Err NoRule

-- the answer that the rules fix for a call, from the machine, the call and the calls before it
abbrev pub Due : Meaning → List Call → (call : Call) → Answer call → Type 0
Due m past (hand_in rule bytes areas) r = Judged m past rule bytes areas r
Due m past (look_up rule) r = Found m past rule r
Due m past tally r = Tallied m past r
Due m past (strike rule) r = Struck m past rule r

-- the law, of a machine, the calls on a docket since it was opened fresh, with the answers given, and the account after them
pub record Law (m : Meaning) (h : List Made) (a : Account) : Type 0 where
  -- each answer given was the one due
  pub answers : (late : List Made) (made : Made) (past : List Made) → h ≡ late ++ made ∷ past → Due m (calls past) made.call made.answer
  -- the account has every rule of the machine, with the standing that it has after all calls
  pub rules : a.rules ≡ m.rules
  pub standings : (rule : ℕ) → rule < m.rules → Stands m (calls h) rule (slice_index_or a.standings rule Open)
  pub beyond : (rule : ℕ) → m.rules ≤ rule → slice_index_or a.standings rule Open ≡ Open
  -- and the counts of all calls
  pub counts : Tallied m (calls h) a.tally
