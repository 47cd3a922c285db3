-- The text of each answer.
use Rattle.std.specs.Prelude.{ℕ, Bool, true, false, List, ◌++◌, codes, decimal}
use Rattle.std.specs.List.{flat_map}
use Rattle.refusal.specs.Texts.{told_text}
use Rattle.certificate.specs.Claims.{claim_text}
use Rattle.docket.specs.Texts.{standing_text, tally_text, account_text}
use Rattle.calls.specs.declared.answer.Counts.{Counts}
use Rattle.calls.specs.declared.answer.Lengths.{Lengths}
use Rattle.calls.specs.declared.answer.Answer.{Answer}
use Rattle.calls.specs.declared.answer.Answer.TheVariants.{Opened, Lent, Broken, Question, NoQuestions, NoSuchQuestion, Refuted, NotAClauseList, NotARefutation, Accepted, Found, Counted, Struck, Listed, Refused, NoMachine, CannotRead, NotUnderstood}

-- the counts of a machine
abbrev pub counts_text : Counts → List ℕ
counts_text c =
    decimal c.inputs ++ (codes " inputs, " ++ (decimal c.state_bits ++ (codes " state bits, " ++ (decimal c.rules ++ (codes " rules, "
    ++ (decimal c.variables ++ (codes " variables, " ++ (decimal c.clauses ++ codes " clauses"))))))))

-- the lengths of the areas that are lent
abbrev pub areas_text : Lengths → List ℕ
areas_text l = decimal l.bytes ++ (codes " bytes, " ++ (decimal l.literals ++ (codes " literals, " ++ (decimal l.places ++ codes " places"))))

-- a clause on a line of its own: its number, then its literals
abbrev pub clause_text : ℕ → List ℕ → List ℕ
clause_text number literals = codes "  " ++ (decimal number ++ (codes ":" ++ flat_map (λ l. codes " " ++ decimal l) literals))

-- each answer, with its numbers in decimal
abbrev pub answer_text : Answer → List ℕ
answer_text (Opened c) = codes "opened: " ++ counts_text c
answer_text (Lent l) = areas_text l
answer_text (Broken n) = codes "broken, " ++ (decimal n ++ codes " records")
answer_text (Question n) = decimal n ++ codes " clauses"
answer_text NoQuestions = codes "no questions"
answer_text NoSuchQuestion = codes "no such question"
answer_text (Refuted n) = codes "refuted, " ++ (decimal n ++ codes " records")
answer_text NotAClauseList = codes "not a clause list"
answer_text NotARefutation = codes "not a refutation"
answer_text (Accepted c n) = codes "accepted " ++ (claim_text c ++ (codes ", " ++ (decimal n ++ codes " records")))
answer_text (Found s) = standing_text s
answer_text (Counted t) = tally_text t
answer_text Struck = codes "struck"
answer_text (Listed a) = account_text a
answer_text (Refused t) = codes "refused " ++ told_text t
answer_text NoMachine = codes "no machine"
answer_text (CannotRead file) = codes "cannot read " ++ file.now
answer_text NotUnderstood = codes "not understood"

-- whether the call was carried out: a refusal is an answer, too, and so is what a file is not
abbrev pub is_carried_out : Answer → Bool
is_carried_out (Opened c) = true
is_carried_out (Lent l) = true
is_carried_out (Broken n) = true
is_carried_out (Question n) = true
is_carried_out NoQuestions = true
is_carried_out NoSuchQuestion = true
is_carried_out (Refuted n) = true
is_carried_out NotAClauseList = true
is_carried_out NotARefutation = true
is_carried_out (Accepted c n) = true
is_carried_out (Found s) = true
is_carried_out (Counted t) = true
is_carried_out Struck = true
is_carried_out (Listed a) = true
is_carried_out (Refused t) = true
is_carried_out NoMachine = false
is_carried_out (CannotRead file) = false
is_carried_out NotUnderstood = false
