-- What stands after the verb of a line.
use Rattle.std.specs.Prelude.{◌≡◌, ℕ, ◌^◌, ◌<◌, List, [], ◌++◌, Some, None, codes, decimal, Option}
use Rattle.calls.specs.declared.answer.Lengths.{Lengths}
use Rattle.calls.specs.declared.call.Verb.{Verb}
use Rattle.calls.specs.declared.call.Verb.TheVariants as verb
use Rattle.calls.specs.declared.call.Call.{Call}
use Rattle.calls.specs.declared.call.Call.TheVariants.{Circuit, Table, Areas, Replay, Question, Refute, HandIn, LookUp, Tally, Strike, Account}
use Rattle.calls.specs.Lines.{Name, Lendable, lengths_text, rule_then_file, verb_text, Proper}

-- the verb of a call
abbrev pub verb_of : Call → Verb
verb_of (Circuit file) = verb.Circuit
verb_of (Table file) = verb.Table
verb_of (Areas l) = verb.Areas
verb_of (Replay rule file) = verb.Replay
verb_of (Question rule file number) = verb.Question
verb_of (Refute clauses proof) = verb.Refute
verb_of (HandIn rule file) = verb.Hand
verb_of (LookUp rule) = verb.Look
verb_of Tally = verb.Tally
verb_of (Strike rule) = verb.Strike
verb_of Account = verb.Account

-- what stands after it and a space
abbrev pub argument : Call → List ℕ
argument (Circuit file) = file.now
argument (Table file) = file.now
argument (Areas l) = lengths_text l
argument (Replay rule file) = rule_then_file rule file.now
argument (Question rule file number) = decimal rule ++ (codes " " ++ (file.now ++ (codes " " ++ decimal number)))
argument (Refute clauses proof) = clauses.now ++ (codes " " ++ proof.now)
argument (HandIn rule file) = codes "in " ++ rule_then_file rule file.now
argument (LookUp rule) = codes "up " ++ decimal rule
argument Tally = []
argument (Strike rule) = decimal rule
argument Account = []

-- what may stand after each verb; after a bare one nothing
abbrev pub Argument : Verb → List ℕ → Type 0
Argument verb.Circuit rest = Name rest
Argument verb.Table rest = Name rest
Argument verb.Areas rest = (l : Lengths) × Lendable l × (rest ≡ lengths_text l)
Argument verb.Replay rest = (rule : ℕ) × (file : List ℕ) × (rule < 2 ^ 32) × Name file × (rest ≡ rule_then_file rule file)
Argument verb.Question rest =
    (rule : ℕ) × (file : List ℕ) × (number : ℕ) × (rule < 2 ^ 32) × Name file × (number < 2 ^ 32) × (rest ≡ decimal rule ++ (codes " " ++ (file ++ (codes " " ++ decimal number))))
Argument verb.Refute rest = (clauses : List ℕ) × (proof : List ℕ) × Name clauses × Name proof × (rest ≡ clauses ++ (codes " " ++ proof))
Argument verb.Hand rest = (rule : ℕ) × (file : List ℕ) × (rule < 2 ^ 32) × Name file × (rest ≡ codes "in " ++ rule_then_file rule file)
Argument verb.Look rest = (rule : ℕ) × (rule < 2 ^ 32) × (rest ≡ codes "up " ++ decimal rule)
Argument verb.Tally rest = ⊥
Argument verb.Strike rest = (rule : ℕ) × (rule < 2 ^ 32) × (rest ≡ decimal rule)
Argument verb.Account rest = ⊥

-- the rest of a line is read as the call of a verb with this argument, or as none where it is no argument of it
abbrev pub ReadAs : Verb → List ℕ → Option Call → Type 0
ReadAs v rest (Some call) = Proper call × (verb_of call ≡ v) × (rest ≡ argument call)
ReadAs v rest None = Argument v rest → ⊥

-- a line of a verb, a space and the rest
abbrev pub followed : Verb → List ℕ → List ℕ
followed v rest = verb_text v ++ (codes " " ++ rest)

-- the call of a verb that stands alone on its line
abbrev pub bare_call : Verb → Option Call
bare_call verb.Circuit = None
bare_call verb.Table = None
bare_call verb.Areas = None
bare_call verb.Replay = None
bare_call verb.Question = None
bare_call verb.Refute = None
bare_call verb.Hand = None
bare_call verb.Look = None
bare_call verb.Tally = Some Tally
bare_call verb.Strike = None
bare_call verb.Account = Some Account
