-- The calls on a docket, and what each answers.
use Rattle.std.specs.Prelude.{ℕ, List, map, length, Result}
use Rattle.refusal.specs.declared.faults.DocketFault.{DocketFault}
use Rattle.refusal.specs.declared.faults.Refusal.{Refusal}
use Rattle.stack.specs.declared.spans.Span.{Span}
use Rattle.checking.specs.declared.Accepted.{Accepted}
use Rattle.checking.specs.Verdicts.{Areas}
use Rattle.docket.specs.declared.book.Standing.{Standing}
use Rattle.docket.specs.declared.book.Tally.{Tally}

-- a call: a certificate's bytes handed in for a rule with work areas of such lengths, a rule looked up, the tally, a rule struck
pub data Call : Type 0 where
  hand_in : ℕ → List ℕ → Areas → Call
  look_up : ℕ → Call
  tally : Call
  strike : ℕ → Call

-- a hand in with these work areas
abbrev pub handing : ℕ → List ℕ → List ℕ → List ℕ → List Span → Call
handing rule bytes row literals spans = hand_in rule bytes (record { row = length row; literals = length literals; spans = length spans })

-- what each call answers
abbrev pub Answer : Call → Type 0
Answer (hand_in rule bytes areas) = Result Accepted Refusal
Answer (look_up rule) = Result Standing DocketFault
Answer tally = Tally
Answer (strike rule) = Result (Unit {0}) DocketFault

-- a call that was made, with the answer given
pub record Made : Type 0 where
  pub call : Call
  pub answer : Answer call

-- the calls alone
abbrev pub calls : List Made → List Call
calls = map (λ made. made.call)
