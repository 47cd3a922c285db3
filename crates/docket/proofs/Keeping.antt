-- What each call keeps of a book.
use Rattle.std.proofs.Common.{◌≡◌, ℕ, zero, suc, ◌+◌, ◌<◌, ◌≤◌, true, false, ltb, List, [], ◌∷◌, length, get_or, set, IfOk, Ok, Err, Result, sym, refl, ◌∙◌, subst, le_of_suc-le-suc, not-suc-le-zero, arith, length-set}
use Rattle.std.proofs.lemmas.Bool.{ltb-true}
use Rattle.refusal.specs.declared.faults.Refusal.{Refusal}
use Rattle.machine.specs.Meaning.{Meaning, Lawful}
use Rattle.checking.specs.declared.Accepted.{Accepted}
use Rattle.checking.specs.Verdicts.{Areas, verdict}
use Rattle.checking.proofs.Certified.{accepted_exactly, lawful_known}
use Rattle.docket.specs.declared.book.Book.{Book}
use Rattle.docket.specs.declared.book.Standing.{Standing}
use Rattle.docket.specs.declared.book.Standing.TheVariants.{Open, Kept, Broken}
use Rattle.docket.specs.Books.{Sound, most, entries, noted, struck, claimed, if_entered}

-- ---- how many rules are not open

entries_set : (ss : List Standing) (i : ℕ) (s : Standing) → i < length ss → entries (set ss i s) + if_entered (get_or ss i Open) 1 0 ≡ entries ss + if_entered s 1 0
entries_set [] i s h = absurd (not-suc-le-zero h)
entries_set (x ∷ ss) zero s h = omega arith
entries_set (x ∷ ss) (suc i) s h = let k = entries_set ss i s (le_of_suc-le-suc h) in omega arith

at_most_one : (s : Standing) → if_entered s 1 0 ≤ 1
at_most_one Open = omega arith
at_most_one Kept = omega arith
at_most_one Broken = omega arith

entered_one : (s : Standing) → if_entered s true false ≡ true → ◌≡◌ {A = ℕ} (if_entered s 1 0) 1
entered_one Open e = let z : ◌≡◌ {A = ℕ} 0 1 = cc in absurd (omega arith)
entered_one Kept e = refl
entered_one Broken e = refl

-- ---- a book stays sound

pub sound_noted : (b : Book) (rule : ℕ) (r : Result Accepted Refusal) → Sound b → b.tally.handed_in < most → IfOk r (λ _. rule < 32) → Sound (noted rule r b)
sound_noted b rule (Ok x) (size, few, whole, fewer) room inside =
    let h : rule < length b.standings = omega arith in
    let k = entries_set b.standings rule (claimed x.claim) h in
    let m = at_most_one (claimed x.claim) in
    (length-set b.standings rule (claimed x.claim) ∙ size, omega arith, omega arith, omega arith)
sound_noted b rule (Err e) (size, few, whole, fewer) room inside = (size, omega arith, omega arith, omega arith)

pub sound_struck : (b : Book) (rule : ℕ) → Sound b → rule < 32 → ◌≡◌ {A = ℕ} (if_entered (get_or b.standings rule Open) 1 0) 1 → Sound (struck rule b)
sound_struck b rule (size, few, whole, fewer) inside entered =
    let h : rule < length b.standings = omega arith in
    let k = entries_set b.standings rule Open h in
    (length-set b.standings rule Open ∙ size, few, whole, omega arith)

-- the same of the book that a method leaves
pub sound_after_note : (b b' : Book) (rule : ℕ) (r : Result Accepted Refusal) → b' ≡ noted rule r b → Sound b → true ≡ ltb b.tally.handed_in most → IfOk r (λ _. rule < 32) → Sound b'
sound_after_note b b' rule r e s room inside = subst Sound (sym e) (sound_noted b rule r s (ltb-true b.tally.handed_in most (sym room)) inside)

pub sound_after_strike : (b b' : Book) (rule : ℕ) → b' ≡ struck rule b → Sound b → rule < 32 → true ≡ if_entered (get_or b.standings rule Open) true false → Sound b'
sound_after_strike b b' rule e s inside entered = subst Sound (sym e) (sound_struck b rule s inside (entered_one (get_or b.standings rule Open) (sym entered)))

-- ---- a lawful certificate is for a rule that the book has a place for

pub accepted_inside : (m : Meaning) → Lawful m → (rule : ℕ) (bytes : List ℕ) (areas : Areas) (r : Result Accepted Refusal) → r ≡ verdict m rule bytes areas → IfOk r (λ _. rule < 32)
accepted_inside m law rule bytes areas (Ok x) e =
    let known = lawful_known m rule bytes areas x.claim x.records ((accepted_exactly m rule bytes areas x).0 (sym e)) in
    omega (arith, law.rules_few)
accepted_inside m law rule bytes areas (Err f) e = tt
