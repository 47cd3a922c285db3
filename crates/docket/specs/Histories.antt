-- What the rules fix about a list of calls, from the machine and the calls alone. The newest call stands first.
use Rattle.std.specs.Prelude.{◌≡◌, ℕ, ◌+◌, ◌<◌, List, [], ◌∷◌, ◌++◌}
use Rattle.machine.specs.Meaning.{Meaning}
use Rattle.checking.specs.declared.Claim.{Claim}
use Rattle.checking.specs.Verdicts.{LawfulCertificate}
use Rattle.docket.specs.declared.book.Standing.{Standing}
use Rattle.docket.specs.Books.{most, claimed}
use Rattle.docket.specs.Calls.{Call, hand_in, look_up, tally, strike}

-- how many hand ins there are
abbrev pub hand_ins : List Call → ℕ
hand_ins [] = 0
hand_ins (hand_in rule bytes areas ∷ past) = hand_ins past + 1
hand_ins (look_up rule ∷ past) = hand_ins past
hand_ins (tally ∷ past) = hand_ins past
hand_ins (strike rule ∷ past) = hand_ins past

-- a hand in is counted if fewer than 1,000,000 came before it
abbrev pub IsCounted : Call → List Call → Type 0
IsCounted (hand_in rule bytes areas) past = hand_ins past < most
IsCounted (look_up rule) past = ⊥
IsCounted tally past = ⊥
IsCounted (strike rule) past = ⊥

-- the call hands in a lawful certificate for the rule, with this claim
abbrev pub Certifies : Meaning → ℕ → Claim → Call → Type 0
Certifies m rule c (hand_in q bytes areas) = (q ≡ rule) × (records : ℕ) × LawfulCertificate m rule bytes areas c records
Certifies m rule c (look_up q) = ⊥
Certifies m rule c tally = ⊥
Certifies m rule c (strike q) = ⊥

-- the call is a strike of the rule
abbrev pub Strikes : ℕ → Call → Type 0
Strikes rule (hand_in q bytes areas) = ⊥
Strikes rule (look_up q) = ⊥
Strikes rule tally = ⊥
Strikes rule (strike q) = q ≡ rule

-- the call, made after `past`, is a lawful certificate counted for the rule, with this claim
abbrev pub Enters : Meaning → ℕ → Claim → Call → List Call → Type 0
Enters m rule c call past = IsCounted call past × Certifies m rule c call

-- of the calls `late`, made after `past`, none is a lawful certificate counted for the rule, and none ends what was entered
abbrev pub Still : Meaning → ℕ → (Call → List Call → Type 0) → List Call → List Call → Type 0
Still m rule Ends [] past = Unit {0}
Still m rule Ends (call ∷ late) past = ((c : Claim) → Enters m rule c call (late ++ past) → ⊥) × (Ends call (late ++ past) → ⊥) × Still m rule Ends late past

-- the last lawful certificate counted for the rule since the last call that ends what was entered: its claim is c
pub record LastSince (m : Meaning) (rule : ℕ) (Ends : Call → List Call → Type 0) (h : List Call) (c : Claim) : Type 0 where
  pub late : List Call
  pub call : Call
  pub past : List Call
  pub whole : h ≡ late ++ call ∷ past
  pub enters : Enters m rule c call past
  pub still : Still m rule Ends late (call ∷ past)

-- a strike is granted if a lawful certificate was counted for its rule since the rule's last strike, granted or not
abbrev pub IsGranted : Meaning → Call → List Call → Type 0
IsGranted m (hand_in rule bytes areas) past = ⊥
IsGranted m (look_up rule) past = ⊥
IsGranted m tally past = ⊥
IsGranted m (strike rule) past = (c : Claim) × LastSince m rule (λ call _. Strikes rule call) past c

-- the last lawful certificate counted for the rule since its last granted strike: its claim is c
abbrev pub Stood : Meaning → List Call → ℕ → Claim → Type 0
Stood m h rule c = LastSince m rule (λ call past. Strikes rule call × IsGranted m call past) h c

-- there is such a certificate, and it claims this of the rule
abbrev pub Claimed : Meaning → List Call → ℕ → Standing → Type 0
Claimed m h rule s = (c : Claim) × (claimed c ≡ s) × Stood m h rule c

-- a counted hand in is accepted if its certificate is lawful, and refused if it is not
abbrev pub IsAccepted : Meaning → Call → List Call → Type 0
IsAccepted m call past = (rule : ℕ) × (c : Claim) × Enters m rule c call past

abbrev pub IsRefused : Meaning → Call → List Call → Type 0
IsRefused m call past = IsCounted call past × (IsAccepted m call past → ⊥)

-- so many of the calls are of a kind, which is told of a call and of those before it
pub data Number (Is : Call → List Call → Type 0) : List Call → ℕ → Type 0 where
  none : Number Is [] 0
  one_more : {call : Call} {past : List Call} {n : ℕ} → Is call past → Number Is past n → Number Is (call ∷ past) (n + 1)
  no_more : {call : Call} {past : List Call} {n : ℕ} → (Is call past → ⊥) → Number Is past n → Number Is (call ∷ past) n
