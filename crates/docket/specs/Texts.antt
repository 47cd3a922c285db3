-- The text of what a docket says.
use Rattle.std.specs.Prelude.{ℕ, zero, suc, min, List, [], ◌++◌, codes, decimal, slice_index_or}
use Rattle.docket.specs.declared.book.Account.{Account}
use Rattle.docket.specs.declared.book.Standing.{Standing}
use Rattle.docket.specs.declared.book.Standing.TheVariants as standing
use Rattle.docket.specs.declared.book.Tally.{Tally}

-- a standing by its name
abbrev pub standing_text : Standing → List ℕ
standing_text standing.Open = codes "open"
standing_text standing.Kept = codes "kept"
standing_text standing.Broken = codes "broken"

-- the counts of a docket
abbrev pub tally_text : Tally → List ℕ
tally_text t =
    codes "handed in " ++ (decimal t.handed_in ++ (codes ", accepted " ++ (decimal t.accepted ++ (codes ", refused " ++ (decimal t.refused ++ (codes ", struck " ++ decimal t.struck))))))

-- a rule with its standing
abbrev pub rule_text : List Standing → ℕ → List ℕ
rule_text standings rule = decimal rule ++ (codes " " ++ (standing_text (slice_index_or standings rule standing.Open) ++ codes "; "))

-- the rules below a number, each with its standing
abbrev pub rules_text : List Standing → ℕ → List ℕ
rules_text standings zero = []
rules_text standings (suc n) = rules_text standings n ++ rule_text standings n

-- every rule that a docket can have, then the counts
abbrev pub account_text : Account → List ℕ
account_text a = rules_text a.standings (min a.rules 32) ++ tally_text a.tally
