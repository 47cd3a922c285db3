-- What each call answers, and what it makes of the book.
use Rattle.std.specs.Prelude.{◌≡◌, ℕ, ◌+◌, ◌≤◌, cond, List, [], ◌∷◌, length, replicate, Ok, Err, Result, nat_lt, slice_index_or, slice_set}
use Rattle.refusal.specs.declared.faults.DocketFault.TheVariants.{NoRule, TooMany, NotEntered}
use Rattle.refusal.specs.declared.faults.Refusal.{Refusal}
use Rattle.refusal.specs.declared.faults.Refusal.TheVariants.{Docket}
use Rattle.machine.specs.Meaning.{Meaning}
use Rattle.checking.specs.declared.Accepted.{Accepted}
use Rattle.checking.specs.declared.Claim.{Claim}
use Rattle.checking.specs.declared.Claim.TheVariants.{Trace, Induction, Counterexample}
use Rattle.checking.specs.Verdicts.{verdict}
use Rattle.docket.specs.declared.book.Account.{Account}
use Rattle.docket.specs.declared.book.Book.{Book}
use Rattle.docket.specs.declared.book.Standing.{Standing}
use Rattle.docket.specs.declared.book.Standing.TheVariants.{Open, Kept, Broken}
use Rattle.docket.specs.Calls.{Call, hand_in, look_up, tally, strike, Answer}

-- how many hand ins a docket counts at most
abbrev pub most : ℕ
most = 1000000

-- what a claim says of its rule
abbrev pub claimed : Claim → Standing
claimed Trace = Kept
claimed Induction = Kept
claimed Counterexample = Broken

-- every rule open, all counts 0
abbrev pub fresh : Book
fresh = record { standings = replicate 32 Open; tally = record { handed_in = 0; accepted = 0; refused = 0; struck = 0 } }

-- one hand in more: accepted, and its claim entered for the rule; or refused
abbrev pub noted : ℕ → Result Accepted Refusal → Book → Book
noted rule (Ok x) b = record { standings = slice_set b.standings rule (claimed x.claim); tally = record { handed_in = b.tally.handed_in + 1; accepted = b.tally.accepted + 1; refused = b.tally.refused; struck = b.tally.struck } }
noted rule (Err e) b = record { standings = b.standings; tally = record { handed_in = b.tally.handed_in + 1; accepted = b.tally.accepted; refused = b.tally.refused + 1; struck = b.tally.struck } }

-- a rule made open
abbrev pub struck : ℕ → Book → Book
struck rule b = record { standings = slice_set b.standings rule Open; tally = record { handed_in = b.tally.handed_in; accepted = b.tally.accepted; refused = b.tally.refused; struck = b.tally.struck + 1 } }

-- one thing where a rule is not open, another where it is
abbrev pub if_entered : {X : Type 0} → Standing → X → X → X
if_entered Open x y = y
if_entered Kept x y = x
if_entered Broken x y = x

-- what each call answers
abbrev pub answer : Meaning → (call : Call) → Book → Answer call
answer m (hand_in rule bytes areas) b = cond (nat_lt b.tally.handed_in most) (verdict m rule bytes areas) (Err (Docket TooMany))
answer m (look_up rule) b = cond (nat_lt rule m.rules) (Ok (slice_index_or b.standings rule Open)) (Err NoRule)
answer m tally b = b.tally
answer m (strike rule) b = cond (nat_lt rule m.rules) (if_entered (slice_index_or b.standings rule Open) (Ok tt) (Err NotEntered)) (Err NoRule)

-- the book after each call
abbrev pub after : Meaning → Call → Book → Book
after m (hand_in rule bytes areas) b = cond (nat_lt b.tally.handed_in most) (noted rule (verdict m rule bytes areas) b) b
after m (look_up rule) b = b
after m tally b = b
after m (strike rule) b = cond (nat_lt rule m.rules) (if_entered (slice_index_or b.standings rule Open) (struck rule b) b) b

-- the account of a book
abbrev pub accounted : Meaning → Book → Account
accounted m b = record { rules = m.rules; standings = b.standings; tally = b.tally }

-- how many rules are not open
abbrev pub entries : List Standing → ℕ
entries [] = 0
entries (s ∷ ss) = if_entered s 1 0 + entries ss

-- what every book of a docket keeps, so that no count can overflow
abbrev pub Sound : Book → Type 0
Sound b =
    (length b.standings ≡ 32)
    × (b.tally.handed_in ≤ most)
    × (b.tally.accepted + b.tally.refused ≡ b.tally.handed_in)
    × (entries b.standings + b.tally.struck ≤ b.tally.accepted)
