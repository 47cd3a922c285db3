-- The book that calls make of a fresh one, and how many hand ins it has counted.
use Rattle.std.proofs.Common.{◌≡◌, ℕ, ◌+◌, ◌<◌, ◌≤◌, Bool, true, false, cond, ltb, List, [], ◌∷◌, get_or, IfOk, Ok, Err, Result, sym, refl, ap, ◌∙◌, subst, ⊎_elim, arith}
use Rattle.std.proofs.lemmas.Bool.{ltb-true, ltb-false, le-ltb, cases_lt}
use Rattle.refusal.specs.declared.faults.Refusal.{Refusal}
use Rattle.machine.specs.Meaning.{Meaning, Lawful}
use Rattle.checking.specs.declared.Accepted.{Accepted}
use Rattle.checking.specs.Verdicts.{verdict}
use Rattle.docket.specs.declared.book.Book.{Book}
use Rattle.docket.specs.declared.book.Standing.{Standing}
use Rattle.docket.specs.declared.book.Standing.TheVariants.{Open, Kept, Broken}
use Rattle.docket.specs.Books.{most, fresh, noted, struck, if_entered, after, Sound}
use Rattle.docket.specs.Calls.{Call, hand_in, look_up, tally, strike, Made, calls}
use Rattle.docket.specs.Histories.{hand_ins}
use Rattle.docket.specs.Reached.{Reached}
use Rattle.docket.proofs.Keeping.{sound_noted, sound_struck, accepted_inside}

abbrev pub played : Meaning → List Call → Book
played m [] = fresh
played m (call ∷ h) = after m call (played m h)

pub reached_played : (m : Meaning) (h : List Made) (b : Book) → Reached m h b → b ≡ played m (calls h)
reached_played m [] b e = e
reached_played m (x ∷ h) b (before, reached, said, e) = e ∙ ap (after m x.call) (reached_played m h before reached)

-- ---- every book that is reached is sound

sound_hand_in : (b : Book) (q : ℕ) (r : Result Accepted Refusal) (v : Bool) → (v ≡ true → b.tally.handed_in < most) → IfOk r (λ _. q < 32) → Sound b → Sound (cond v (noted q r b) b)
sound_hand_in b q r true h i s = sound_noted b q r s (h refl) i
sound_hand_in b q r false h i s = s

sound_strike : (b : Book) (q : ℕ) (v : Bool) (s : Standing) → get_or b.standings q Open ≡ s → (v ≡ true → q < 32) → Sound b → Sound (cond v (if_entered s (struck q b) b) b)
sound_strike b q true Open e h k = k
sound_strike b q true Kept e h k = sound_struck b q k (h refl) (ap (λ s. if_entered s 1 0) e)
sound_strike b q true Broken e h k = sound_struck b q k (h refl) (ap (λ s. if_entered s 1 0) e)
sound_strike b q false s e h k = k

pub sound : (m : Meaning) → Lawful m → (h : List Call) → Sound (played m h)
sound m law [] = (refl, omega arith, refl, omega arith)
sound m law (hand_in q bytes areas ∷ h) =
    let b = played m h in
    sound_hand_in b q (verdict m q bytes areas) (ltb b.tally.handed_in most) (ltb-true _ _) (accepted_inside m law q bytes areas (verdict m q bytes areas) refl) (sound m law h)
sound m law (look_up q ∷ h) = sound m law h
sound m law (tally ∷ h) = sound m law h
sound m law (strike q ∷ h) =
    let b = played m h in
    sound_strike b q (ltb q m.rules) (get_or b.standings q Open) refl (λ e. omega (arith, ltb-true q m.rules e, law.rules_few)) (sound m law h)

-- ---- the first million hand ins are counted

abbrev UpToMost : ℕ → ℕ → Type 0
UpToMost n k = (n ≤ most → k ≡ n) × (most ≤ n → k ≡ most)

noted_counts : (b : Book) (q : ℕ) (r : Result Accepted Refusal) → (noted q r b).tally.handed_in ≡ b.tally.handed_in + 1
noted_counts b q (Ok x) = refl
noted_counts b q (Err e) = refl

counts_hand_in : (b : Book) (q n : ℕ) (r : Result Accepted Refusal) (v : Bool) → ltb b.tally.handed_in most ≡ v → UpToMost n b.tally.handed_in → UpToMost (n + 1) (cond v (noted q r b) b).tally.handed_in
counts_hand_in b q n r true e h =
    let l = ltb-true b.tally.handed_in most e in
    let k = noted_counts b q r in
    ⊎_elim (λ lt. (let j : b.tally.handed_in ≡ n = h.0 (omega arith) in ((λ le. omega arith), (λ le. omega arith)))) (λ ge. let j : b.tally.handed_in ≡ most = h.1 ge in absurd (omega arith)) (cases_lt n most)
counts_hand_in b q n r false e h =
    let l = ltb-false b.tally.handed_in most e in
    ⊎_elim (λ lt. let j : b.tally.handed_in ≡ n = h.0 (omega arith) in absurd (omega arith)) (λ ge. ((λ le. omega arith), (λ _. h.1 ge))) (cases_lt n most)

strike_counts : (b : Book) (q : ℕ) (v : Bool) (s : Standing) → (cond v (if_entered s (struck q b) b) b).tally.handed_in ≡ b.tally.handed_in
strike_counts b q true Open = refl
strike_counts b q true Kept = refl
strike_counts b q true Broken = refl
strike_counts b q false s = refl

up_to_most : (m : Meaning) (h : List Call) → UpToMost (hand_ins h) (played m h).tally.handed_in
up_to_most m [] = ((λ _. refl), (λ le. omega arith))
up_to_most m (hand_in q bytes areas ∷ h) = counts_hand_in (played m h) q (hand_ins h) (verdict m q bytes areas) (ltb (played m h).tally.handed_in most) refl (up_to_most m h)
up_to_most m (look_up q ∷ h) = up_to_most m h
up_to_most m (tally ∷ h) = up_to_most m h
up_to_most m (strike q ∷ h) =
    let b = played m h in
    subst (UpToMost (hand_ins h)) (sym (strike_counts b q (ltb q m.rules) (get_or b.standings q Open))) (up_to_most m h)

-- whether the next hand in is counted
pub room : (m : Meaning) (h : List Call) → ltb (played m h).tally.handed_in most ≡ ltb (hand_ins h) most
room m h =
    let k = up_to_most m h in
    let n = (played m h).tally.handed_in in
    ⊎_elim
    (λ lt. let j : n ≡ hand_ins h = k.0 (omega arith) in ap (λ x. ltb x most) j)
    (λ ge. let j : n ≡ most = k.1 ge in ap (λ x. ltb x most) j ∙ sym (le-ltb (hand_ins h) most ge))
    (cases_lt (hand_ins h) most)
