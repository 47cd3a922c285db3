-- Literals of the machine, and how far they are moved.
use Rattle.std.proofs.Common.{ℕ, ◌*◌, ◌<◌, ◌≤◌, get_or, ⊎_elim, arith}
use Rattle.std.proofs.lemmas.List.{get_or_past}
use Rattle.std.proofs.lemmas.Bool.{cases_lt}
use Rattle.machine.specs.Meaning.{Meaning, Lawful}

-- of a rule that is not there too
pub rule_low : (m : Meaning) → Lawful m → (o : ℕ) → get_or m.rule o 0 < 2 * m.variables
rule_low m law o =
    ⊎_elim
    (λ (l : o < m.rules). law.rule_low o l)
    (λ (g : m.rules ≤ o). omega (arith, get_or_past m.rule o 0 (omega (arith, law.rule_size)), law.room))
    (cases_lt o m.rules)
