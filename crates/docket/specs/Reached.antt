-- How calls with their answers reach a book, from a docket opened fresh.
use Rattle.std.specs.Prelude.{◌≡◌, List, [], ◌∷◌}
use Rattle.machine.specs.Meaning.{Meaning}
use Rattle.docket.specs.declared.book.Book.{Book}
use Rattle.docket.specs.Books.{fresh, answer, after}
use Rattle.docket.specs.Calls.{Call, Answer, Made}

-- these calls, the newest first, each with the answer given, made the fresh book into this one
abbrev pub Reached : Meaning → List Made → Book → Type 0
Reached m [] b = b ≡ fresh
Reached m (made ∷ past) b = (before : Book) × Reached m past before × (made.answer ≡ answer m made.call before) × (b ≡ after m made.call before)

-- whatever calls reached the one book, they and then this call with this answer reach the other
abbrev pub Reaches : Meaning → Book → (call : Call) → Answer call → Meaning → Book → Type 0
Reaches m b call r m' b' = (h : List Made) → Reached m h b → Reached m' (record { call = call; answer = r } ∷ h) b'
