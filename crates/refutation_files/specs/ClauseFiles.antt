-- Clause files: the records of clauses, one after another.
use Rattle.std.specs.Prelude.{◌≡◌, ℕ, List, [], ◌∷◌, ◌++◌, map, Ok, Err, Result, ◌≢◌}
use Rattle.std.specs.List.{flat_map, AllByRecursion}
use Rattle.certificate.specs.declared.record.Record.{Record}
use Rattle.certificate.specs.declared.record.Record.TheVariants.{Literal, ClauseEnd}
use Rattle.certificate.specs.Records.{encodes}
use Rattle.resolution.specs.Clauses.{Rising}
use Rattle.refutation_files.specs.declared.unproved.Unproved.{Unproved}
use Rattle.refutation_files.specs.declared.unproved.Unproved.TheVariants.{NotAClauseList, NotARefutation, Refused, NoMemory}

-- a clause as records: its literals, then its end
abbrev pub clause_records : List ℕ → List Record
clause_records c = map Literal c ++ ClauseEnd ∷ []

-- a clause as bytes
abbrev pub clause_bytes : List ℕ → List ℕ
clause_bytes c = encodes (clause_records c)

-- the bytes are those of these clauses, each of which is rising
abbrev pub ClausesOf : List ℕ → List (List ℕ) → Type 0
ClausesOf bytes cs = AllByRecursion Rising cs × (bytes ≡ encodes (flat_map clause_records cs))

-- the bytes are those of these clauses, and the literals are theirs, one clause after another
abbrev pub Holds : List ℕ → List ℕ → List (List ℕ) → Type 0
Holds bytes literals cs = ClausesOf bytes cs × (literals ≡ flat_map (λ c. c) cs)

-- one rising clause, and no other, stands at the front of the bytes, and its literals were put after those before; or none stands there
abbrev pub ClauseRead : (bytes after literals all : List ℕ) → Result (Unit {0}) Unproved → Type 0
ClauseRead bytes after literals all (Ok u) =
    (c : List ℕ) × Rising c × (all ≡ literals ++ c) × (bytes ≡ clause_bytes c ++ after)
    × ((d more : List ℕ) → bytes ≡ clause_bytes d ++ more → (d ≡ c) × (more ≡ after))
ClauseRead bytes after literals all (Err NotAClauseList) = (d more : List ℕ) → Rising d → bytes ≢ clause_bytes d ++ more
ClauseRead bytes after literals all (Err NotARefutation) = ⊥
ClauseRead bytes after literals all (Err (Refused r)) = ⊥
ClauseRead bytes after literals all (Err (NoMemory e)) = Unit {0}

-- why no clauses were read: the bytes are not those of any, or memory lacked
abbrev pub Unlisted : List ℕ → Unproved → Type 0
Unlisted bytes NotAClauseList = (cs : List (List ℕ)) → ClausesOf bytes cs → ⊥
Unlisted bytes NotARefutation = ⊥
Unlisted bytes (Refused r) = ⊥
Unlisted bytes (NoMemory e) = Unit {0}
