-- How each call is written.
use Rattle.std.specs.Prelude.{◌≡◌, ℕ, ◌^◌, ◌<◌, ◌≤◌, List, ◌++◌, length, Some, None, codes, decimal, Option, ◌≢◌, slice_index}
use Rattle.calls.specs.declared.answer.Lengths.{Lengths}
use Rattle.calls.specs.declared.call.Verb.{Verb}
use Rattle.calls.specs.declared.call.Verb.TheVariants as verb
use Rattle.calls.specs.declared.call.Call.{Call}
use Rattle.calls.specs.declared.call.Call.TheVariants.{Circuit, Table, Areas, Replay, Question, Refute, HandIn, LookUp, Tally, Strike, Account}

-- a file's name is not empty and has no space
abbrev pub Name : List ℕ → Type 0
Name f = (1 ≤ length f) × ((k : ℕ) → k < length f → slice_index f k ≢ 32)

-- areas that the program lends
abbrev pub Lendable : Lengths → Type 0
Lendable l = (l.bytes ≤ 2000000) × (l.literals ≤ 2000000) × (l.places ≤ 2000000)

-- three lengths with one space between
abbrev pub lengths_text : Lengths → List ℕ
lengths_text l = decimal l.bytes ++ (codes " " ++ (decimal l.literals ++ (codes " " ++ decimal l.places)))

-- a rule and a file with one space between
abbrev pub rule_then_file : ℕ → List ℕ → List ℕ
rule_then_file rule file = decimal rule ++ (codes " " ++ file)

-- the word that a call begins with
abbrev pub verb_text : Verb → List ℕ
verb_text verb.Circuit = codes "circuit"
verb_text verb.Table = codes "table"
verb_text verb.Areas = codes "areas"
verb_text verb.Replay = codes "replay"
verb_text verb.Question = codes "question"
verb_text verb.Refute = codes "refute"
verb_text verb.Hand = codes "hand"
verb_text verb.Look = codes "look"
verb_text verb.Tally = codes "tally"
verb_text verb.Strike = codes "strike"
verb_text verb.Account = codes "account"

-- a call as a line
abbrev pub written : Call → List ℕ
written (Circuit file) = codes "circuit " ++ file.now
written (Table file) = codes "table " ++ file.now
written (Areas l) = codes "areas " ++ lengths_text l
written (Replay rule file) = codes "replay " ++ rule_then_file rule file.now
written (Question rule file number) = codes "question " ++ (decimal rule ++ (codes " " ++ (file.now ++ (codes " " ++ decimal number))))
written (Refute clauses proof) = codes "refute " ++ (clauses.now ++ (codes " " ++ proof.now))
written (HandIn rule file) = codes "hand in " ++ rule_then_file rule file.now
written (LookUp rule) = codes "look up " ++ decimal rule
written Tally = codes "tally"
written (Strike rule) = codes "strike " ++ decimal rule
written Account = codes "account"

-- a call that can be made
abbrev pub Proper : Call → Type 0
Proper (Circuit file) = Name file.now
Proper (Table file) = Name file.now
Proper (Areas l) = Lendable l
Proper (Replay rule file) = (rule < 2 ^ 32) × Name file.now
Proper (Question rule file number) = (rule < 2 ^ 32) × Name file.now × (number < 2 ^ 32)
Proper (Refute clauses proof) = Name clauses.now × Name proof.now
Proper (HandIn rule file) = (rule < 2 ^ 32) × Name file.now
Proper (LookUp rule) = rule < 2 ^ 32
Proper Tally = Unit {0}
Proper (Strike rule) = rule < 2 ^ 32
Proper Account = Unit {0}

-- a line is read as the call that it is, or as none where it is none
abbrev pub Read : List ℕ → Option Call → Type 0
Read line (Some call) = Proper call × (line ≡ written call)
Read line None = (call : Call) → Proper call → line ≢ written call
