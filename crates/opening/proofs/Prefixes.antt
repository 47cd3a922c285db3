-- What the records so far are: an invariant of the reading.
use Rattle.std.proofs.Common.{◌≡◌, ℕ, ◌<◌, ◌≤◌, Bool, true, false, cond, ◌&&◌, eqb, ltb, leb, List, [], ◌∷◌, ◌++◌, map, length, get_or, Ok, Err, Result, sym, refl, ap, ◌∙◌, subst, append_assoc, append-nil, arith}
use Rattle.std.specs.List.{flat_map, AllByRecursion}
use Rattle.std.proofs.ByRecursion.{All-push}
use Rattle.std.proofs.lemmas.List.{length-append, map_push}
use Rattle.std.proofs.lemmas.Bool.{ltb-true, ltb-false, eqb-true, and_from}
use Rattle.std.proofs.lemmas.Bool.Decides.{nat_tests}
use Rattle.refusal.specs.declared.faults.CertificateFault.{CertificateFault}
use Rattle.resolution.specs.Clauses.{Rising, holds}
use Rattle.machine.specs.Meaning.{Meaning}
use Rattle.question_theory.specs.Traces.{OfState, StateClauses, state_setting, In}
use Rattle.question_theory.proofs.Satisfied.{joins}
use Rattle.certificate.specs.declared.record.Record.{Record}
use Rattle.certificate.specs.declared.record.Record.TheVariants.{Claim as Claim-record, Literal, ClauseEnd, FrameEnd, Take, Resolve, RefutationEnd, Bit, RowEnd, End}
use Rattle.certificate.specs.declared.claim.Claim.{Claim}
use Rattle.certificate.specs.declared.claim.Claim.TheVariants.{Trace, Induction, Counterexample}
use Rattle.opening.specs.Steps.{Room, View, opening, framing, opened, clause_count, literal_count, is_next_literal, stands, claimed, literal_added, clause_ended, frame_ended, at_opening, at_framing, step}
use Rattle.certificate.specs.Claims.{kind, most as most-size}
use Rattle.opening.specs.Openings.{clause_records, frame_records, opening_records, frames_with, Proper}
use Rattle.opening.proofs.Counts.{joined_push, literals_push, clauses_push, literals_clause, frame_push}
use Rattle.opening.proofs.Orders.{next_rises}

-- the claim of a trace, its ended frames, the clauses of the open one, the literals of the open clause
pub record Partly (m : Meaning) (room : Room) (pre : List Record) (n : ℕ) (Fs : List (List (List ℕ))) (F : List (List ℕ)) (c : List ℕ) : Type 0 where
  pub wrote : pre ≡ Claim-record 1 n ∷ (flat_map frame_records Fs ++ (flat_map clause_records F ++ map Literal c))
  pub some : 1 ≤ n
  pub most : n ≤ 64
  pub few : length Fs ≤ n
  pub rising_clause : Rising c
  pub rising_frame : AllByRecursion Rising F
  pub rising : AllByRecursion (AllByRecursion Rising) Fs
  pub state_clause : AllByRecursion (OfState m) c
  pub state_frame : StateClauses m F
  pub of_state : AllByRecursion (StateClauses m) Fs
  pub starts : In m (get_or (Fs ++ F ∷ []) 0 []) m.start
  pub literals_fit : literal_count Fs F c ≤ room.literals
  pub clauses_fit : clause_count Fs F ≤ room.clauses

abbrev pub Prefix : Meaning → Room → List Record → View → Type 0
Prefix m room pre opening = pre ≡ []
Prefix m room pre (framing n Fs F c) = Partly m room pre n Fs F c
Prefix m room pre (opened claim n Fs) = Proper m room claim n Fs × (pre ≡ opening_records claim n Fs)

data Fine (m : Meaning) (room : Room) (pre : List Record) : Result View CertificateFault → Type 0 where
  err : {e : CertificateFault} → Fine m room pre (Err e)
  ok : (u : View) → Prefix m room pre u → Fine m room pre (Ok u)

by : (m : Meaning) (room : Room) (pre : List Record) (b : Bool) (x y : Result View CertificateFault) →
    (b ≡ true → Fine m room pre x) → (b ≡ false → Fine m room pre y) → Fine m room pre (cond b x y)
by m room pre true x y p q = p refl
by m room pre false x y p q = q refl

module _ (m : Meaning) (room : Room) (pre : List Record) (n : ℕ) where
  -- the claim
  put_trace : (k : ℕ) → pre ≡ [] → k ≡ 1 → 1 ≤ n → n ≤ 64 → Partly m room (pre ++ Claim-record k n ∷ []) n [] [] []
  put_trace k e q a b = record {
    wrote = ap (λ (z : List Record). z ++ Claim-record k n ∷ []) e ∙ ap (λ (x : ℕ). Claim-record x n ∷ []) q;
    some = a;
    most = b;
    few = omega arith;
    rising_clause = tt;
    rising_frame = tt;
    rising = tt;
    state_clause = tt;
    state_frame = tt;
    of_state = tt;
    starts = refl;
    literals_fit = omega arith;
    clauses_fit = omega arith;
  }

  put_other : (claim : Claim) (k : ℕ) → pre ≡ [] → k ≡ kind claim → Proper m room claim n [] → Prefix m room (pre ++ Claim-record k n ∷ []) (opened claim n [])
  put_other claim k e q p = (p, ap (λ (z : List Record). z ++ Claim-record k n ∷ []) e ∙ ap (λ (x : ℕ). Claim-record x n ∷ []) q)

  module _ (Fs : List (List (List ℕ))) (F : List (List ℕ)) (c : List ℕ) (f : Partly m room pre n Fs F c) where
    -- one record more after the literals
    after : (r : Record) → pre ++ r ∷ [] ≡ Claim-record 1 n ∷ (flat_map frame_records Fs ++ (flat_map clause_records F ++ (map Literal c ++ r ∷ [])))
    after r =
        ap (λ (z : List Record). z ++ r ∷ []) f.wrote
        ∙ ap (λ (z : List Record). Claim-record 1 n ∷ z) (append_assoc (flat_map frame_records Fs) (flat_map clause_records F ++ map Literal c) (r ∷ [])
        ∙ ap (λ (z : List Record). flat_map frame_records Fs ++ z) (append_assoc (flat_map clause_records F) (map Literal c) (r ∷ [])))

    -- a literal
    put_literal : (l : ℕ) → is_next_literal m c l ≡ true → literal_count Fs F c < room.literals → Partly m room (pre ++ Literal l ∷ []) n Fs F (c ++ l ∷ [])
    put_literal l e h =
        let o = next_rises m c l f.rising_clause e in
        record {
          wrote = after (Literal l) ∙ ap (λ (z : List Record). Claim-record 1 n ∷ (flat_map frame_records Fs ++ (flat_map clause_records F ++ z))) (sym (map_push Literal c l));
          some = f.some;
          most = f.most;
          few = f.few;
          rising_clause = o.1;
          rising_frame = f.rising_frame;
          rising = f.rising;
          state_clause = All-push (OfState m) c l f.state_clause o.0;
          state_frame = f.state_frame;
          of_state = f.of_state;
          starts = f.starts;
          literals_fit = omega (arith, literals_push Fs F c l);
          clauses_fit = f.clauses_fit;
        }

    -- the end of a clause
    starts_clause : stands m Fs c ≡ true → In m (get_or (Fs ++ F ∷ []) 0 []) m.start → In m (get_or (Fs ++ (F ++ c ∷ []) ∷ []) 0 []) m.start
    unfolding stands
    starts_clause = by_frames Fs
      where
        by_frames : (Gs : List (List (List ℕ))) → stands m Gs c ≡ true → In m (get_or (Gs ++ F ∷ []) 0 []) m.start → In m (get_or (Gs ++ (F ++ c ∷ []) ∷ []) 0 []) m.start
        by_frames [] h s = joins (state_setting m m.start) F (c ∷ []) s (and_from (holds (state_setting m m.start) c) true h refl)
        by_frames (G ∷ Gs) h s = s

    put_clause : stands m Fs c ≡ true → clause_count Fs F < room.clauses → Partly m room (pre ++ ClauseEnd ∷ []) n Fs (F ++ c ∷ []) []
    put_clause e h = record {
      wrote = after ClauseEnd ∙ ap (λ (z : List Record). Claim-record 1 n ∷ (flat_map frame_records Fs ++ z)) (sym (joined_push clause_records F c) ∙ sym (append-nil (flat_map clause_records (F ++ c ∷ []))));
      some = f.some;
      most = f.most;
      few = f.few;
      rising_clause = tt;
      rising_frame = All-push Rising F c f.rising_frame f.rising_clause;
      rising = f.rising;
      state_clause = tt;
      state_frame = All-push (AllByRecursion (OfState m)) F c f.state_frame f.state_clause;
      of_state = f.of_state;
      starts = starts_clause e f.starts;
      literals_fit = omega (arith, literals_clause Fs F c, f.literals_fit);
      clauses_fit = omega (arith, clauses_push Fs F c);
    }

    -- the end of a frame
    no_literal : (d : List ℕ) → length d ≡ 0 → d ≡ []
    no_literal [] e = refl
    no_literal (x ∷ d) e = absurd (omega arith)

    frame_wrote : length c ≡ 0 → pre ++ FrameEnd ∷ [] ≡ Claim-record 1 n ∷ flat_map frame_records (Fs ++ F ∷ [])
    frame_wrote e =
        after FrameEnd
        ∙ ap (λ (d : List ℕ). Claim-record 1 n ∷ (flat_map frame_records Fs ++ (flat_map clause_records F ++ (map Literal d ++ FrameEnd ∷ [])))) (no_literal c e)
        ∙ ap (λ (z : List Record). Claim-record 1 n ∷ z) (sym (joined_push frame_records Fs F))

    literals_now : length c ≡ 0 → literal_count (Fs ++ F ∷ []) [] [] ≤ room.literals
    literals_now e = omega (arith, f.literals_fit, ap (λ x. length (flat_map (λ (d : List ℕ). d) x)) (append-nil _ ∙ frame_push Fs F))

    clauses_now : clause_count (Fs ++ F ∷ []) [] ≤ room.clauses
    clauses_now = omega (arith, f.clauses_fit, ap length (append-nil _ ∙ frame_push Fs F))

    starts_frame : In m (get_or ((Fs ++ F ∷ []) ++ [] ∷ []) 0 []) m.start
    starts_frame = by_frames Fs f.starts
      where
        by_frames : (Gs : List (List (List ℕ))) → In m (get_or (Gs ++ F ∷ []) 0 []) m.start → In m (get_or ((Gs ++ F ∷ []) ++ [] ∷ []) 0 []) m.start
        by_frames [] s = s
        by_frames (G ∷ Gs) s = s

    put_frame : length c ≡ 0 → length Fs < n → Partly m room (pre ++ FrameEnd ∷ []) n (Fs ++ F ∷ []) [] []
    put_frame e h = record {
      wrote = frame_wrote e ∙ ap (λ (z : List Record). Claim-record 1 n ∷ z) (sym (append-nil (flat_map frame_records (Fs ++ F ∷ []))));
      some = f.some;
      most = f.most;
      few = omega (arith, length-append Fs (F ∷ []));
      rising_clause = tt;
      rising_frame = tt;
      rising = All-push (AllByRecursion Rising) Fs F f.rising f.rising_frame;
      state_clause = tt;
      state_frame = tt;
      of_state = All-push (StateClauses m) Fs F f.of_state f.state_frame;
      starts = starts_frame;
      literals_fit = literals_now e;
      clauses_fit = clauses_now;
    }

    put_last : length c ≡ 0 → n ≤ length Fs → Prefix m room (pre ++ FrameEnd ∷ []) (opened Trace n (Fs ++ F ∷ []))
    put_last e h = (
      record {
        some = f.some;
        few = f.most;
        framed = omega (arith, length-append Fs (F ∷ []), f.few);
        rising = All-push (AllByRecursion Rising) Fs F f.rising f.rising_frame;
        of_state = All-push (StateClauses m) Fs F f.of_state f.state_frame;
        starts = f.starts;
        literals_fit = omega (arith, f.literals_fit, ap (λ x. length (flat_map (λ (d : List ℕ). d) x)) (frame_push Fs F));
        clauses_fit = omega (arith, f.clauses_fit, ap length (frame_push Fs F));
      },
      frame_wrote e,
    )

module _ (m : Meaning) (room : Room) (pre : List Record) where
  no_frames : (claim : Claim) (n : ℕ) → 1 ≤ n → n ≤ most-size claim → 0 ≡ frames_with claim n → Proper m room claim n []
  no_frames claim n a b z = record {
    some = a;
    few = b;
    framed = z;
    rising = tt;
    of_state = tt;
    starts = refl;
    literals_fit = omega arith;
    clauses_fit = omega arith;
  }

  is_claim : (k n x y : ℕ) → eqb k x && (leb 1 n && leb n y) ≡ true → (k ≡ x) × (1 ≤ n) × (n ≤ y)
  is_claim k n x y e = (grind (arith, nat_tests), grind (arith, nat_tests), grind (arith, nat_tests))

  on_claim : (v : View) (k n : ℕ) → Prefix m room pre v → Fine m room (pre ++ Claim-record k n ∷ []) (at_opening v (claimed k n))
  unfolding claimed
  on_claim opening k n f =
      by m room _ (eqb k 1 && (leb 1 n && leb n 64)) _ _
      (λ e. let p = is_claim k n 1 64 e in ok (framing n [] [] []) (put_trace m room pre n k f p.0 p.1 p.2))
      (λ _. by m room _ (eqb k 2 && (leb 1 n && leb n 64)) _ _
      (λ e. let p = is_claim k n 2 64 e in ok (opened Induction n []) (put_other m room pre n Induction k f p.0 (no_frames Induction n p.1 p.2 refl)))
      (λ _. by m room _ (eqb k 3 && (leb 1 n && leb n 4096)) _ _
      (λ e. let p = is_claim k n 3 4096 e in ok (opened Counterexample n []) (put_other m room pre n Counterexample k f p.0 (no_frames Counterexample n p.1 p.2 refl)))
      (λ _. err)))
  on_claim (framing n' Fs F c) k n f = err
  on_claim (opened claim n' Fs) k n f = err

  on_literal : (v : View) (l : ℕ) → Prefix m room pre v → Fine m room (pre ++ Literal l ∷ []) (at_framing v (literal_added m room l))
  unfolding literal_added
  on_literal opening l f = err
  on_literal (framing n Fs F c) l f =
      by m room _ (is_next_literal m c l) _ _
      (λ e. by m room _ (ltb (literal_count Fs F c) room.literals) _ _
      (λ d. ok (framing n Fs F (c ++ l ∷ [])) (put_literal m room pre n Fs F c f l e (ltb-true (literal_count Fs F c) room.literals d)))
      (λ _. err))
      (λ _. err)
  on_literal (opened claim n Fs) l f = err

  on_clause : (v : View) → Prefix m room pre v → Fine m room (pre ++ ClauseEnd ∷ []) (at_framing v (clause_ended m room))
  unfolding clause_ended
  on_clause opening f = err
  on_clause (framing n Fs F c) f =
      by m room _ (ltb (clause_count Fs F) room.clauses) _ _
      (λ d. by m room _ (stands m Fs c) _ _
      (λ e. ok (framing n Fs (F ++ c ∷ []) []) (put_clause m room pre n Fs F c f e (ltb-true (clause_count Fs F) room.clauses d)))
      (λ _. err))
      (λ _. err)
  on_clause (opened claim n Fs) f = err

  on_frame : (v : View) → Prefix m room pre v → Fine m room (pre ++ FrameEnd ∷ []) (at_framing v frame_ended)
  unfolding frame_ended
  on_frame opening f = err
  on_frame (framing n Fs F c) f =
      by m room _ (eqb (length c) 0) _ _
      (λ e. by m room _ (ltb (length Fs) n) _ _
      (λ d. ok (framing n (Fs ++ F ∷ []) [] []) (put_frame m room pre n Fs F c f (eqb-true (length c) 0 e) (ltb-true (length Fs) n d)))
      (λ d. ok (opened Trace n (Fs ++ F ∷ [])) (put_last m room pre n Fs F c f (eqb-true (length c) 0 e) (ltb-false (length Fs) n d))))
      (λ _. err)
  on_frame (opened claim n Fs) f = err

  on-record : (v : View) (r : Record) → Prefix m room pre v → Fine m room (pre ++ r ∷ []) (step m room v r)
  on-record v (Claim-record k n) f = on_claim v k n f
  on-record v (Literal l) f = on_literal v l f
  on-record v ClauseEnd f = on_clause v f
  on-record v FrameEnd f = on_frame v f
  on-record v (Take k) f = err
  on-record v (Resolve l r p) f = err
  on-record v RefutationEnd f = err
  on-record v (Bit b) f = err
  on-record v RowEnd f = err
  on-record v End f = err

fine_ok : {m : Meaning} {room : Room} {pre : List Record} {u : View} → Fine m room pre (Ok u) → Prefix m room pre u
fine_ok (ok u p) = p

-- one record more
pub prefix_more : (m : Meaning) (room : Room) (pre : List Record) (v u : View) (r : Record) → Prefix m room pre v → step m room v r ≡ Ok u → Prefix m room (pre ++ r ∷ []) u
prefix_more m room pre v u r f e = fine_ok (subst (Fine m room (pre ++ r ∷ [])) e (on-record m room pre v r f))
