-- What each record does to the frames.
use Rattle.std.proofs.Common.{◌≡◌, ℕ, ◌<◌, ◌≤◌, min, Bool, true, false, ◌&&◌, ◌||◌, eqb, ltb, ◌⊎◌, inl, inr, List, [], ◌∷◌, ◌++◌, length, Ok, Err, Result, sym, refl, ap, ◌∙◌, subst, ap₂, ◌≢◌, arith}
use Rattle.std.proofs.lemmas.Bool.{cond-true, cond-false, eq-eqb, ne_eqb, lt-ltb, le-ltb, or_left}
use Rattle.std.proofs.lemmas.Bool.Decides.{nat_tests}
use Rattle.refusal.specs.declared.faults.CertificateFault.{CertificateFault}
use Rattle.refusal.specs.declared.faults.CertificateFault.TheVariants.{OutOfPlace, WrongNumber, Full, NotAtStart}
use Rattle.resolution.specs.Clauses.{holds}
use Rattle.machine.specs.Meaning.{Meaning}
use Rattle.question_theory.specs.Traces.{state_setting}
use Rattle.stack.specs.declared.spans.Span.{Span}
use Rattle.frames.specs.declared.frames.Frames.{Frames}
use Rattle.frames.specs.Held.{ended_frames, open_frame, open_clause}
use Rattle.frames.specs.Writes.{Empty, OneLiteralMore, OneClauseMore, OneFrameMore}
use Rattle.certificate.specs.declared.record.Record.{Record}
use Rattle.certificate.specs.declared.record.Record.TheVariants.{FrameEnd}
use Rattle.certificate.specs.Claims.{kind, claim_of, most}
use Rattle.certificate.specs.declared.claim.Claim.{Claim}
use Rattle.certificate.specs.declared.claim.Claim.TheVariants.{Trace, Induction, Counterexample}
use Rattle.opening.specs.declared.phase.Phase.{Phase}
use Rattle.opening.specs.declared.phase.Phase.TheVariants.{Framing, Opened}
use Rattle.opening.specs.Steps.{framing, opened, room_in, is_next_literal, stands, claimed, literal_added, clause_ended, frame_ended, clause_count, literal_count}
use Rattle.opening.specs.Views.{held, Steady, Settled, Comes, Does}
use Rattle.opening.proofs.HeldFrames.{held_count, empty_held, empty_frame, clauses_used, literals_used, same_held, more_held}

-- the claim
pub claim_trace : (n : ℕ) → 1 ≤ n → n ≤ 64 → claimed 1 n ≡ Ok (framing n [] [] [])
unfolding claimed
claim_trace n a b = grind (arith, nat_tests)

pub claim_opened : (c : Claim) (n : ℕ) → c ≢ Trace → 1 ≤ n → n ≤ most c → claimed (kind c) n ≡ Ok (opened c n [])
unfolding claimed
claim_opened Trace n d a b = absurd (d refl)
claim_opened Induction n d a b = grind (arith, nat_tests)
claim_opened Counterexample n d a b = grind (arith, nat_tests)

pub claim_outside : (c : Claim) (n : ℕ) → (n < 1) ⊎ (most c < n) → claimed (kind c) n ≡ Err WrongNumber
unfolding claimed
claim_outside Trace n h = grind (arith, nat_tests)
claim_outside Induction n h = grind (arith, nat_tests)
claim_outside Counterexample n h = grind (arith, nat_tests)

pub claim_unknown : (k n : ℕ) (f : CertificateFault) → Err f ≡ claim_of k → claimed k n ≡ Err f
unfolding claimed
claim_unknown k n f e = grind (arith, nat_tests)

pub claim_known : (k : ℕ) (c : Claim) → Ok c ≡ claim_of k → k ≡ kind c
claim_known k c e = grind (arith, nat_tests)

module _ (f : Frames) (ls : List ℕ) (ps : List Span) (e : Empty f) (claim n : ℕ) where
  pub fresh_trace : (c : Claim) → c ≡ Trace → claim ≡ kind c → 1 ≤ n → n ≤ most c → Comes (Ok (Framing n)) f ls ps (claimed claim n)
  fresh_trace c d q a b =
      let few = subst (λ (x : Claim). n ≤ most x) d b in
      record {
        is = ap (λ x. Ok (framing n x (open_frame f ls ps) (open_clause f ls))) (empty_held f ls ps e)
            ∙ ap₂ (λ x y. Ok (framing n [] x y)) (empty_frame f ls ps e) (e.clause ls) ∙ sym (ap (λ (k : ℕ). claimed k n) (q ∙ ap kind d) ∙ claim_trace n a few);
        steady = (e.stacked ls ps, omega (arith, e.count), few);
      }

  settled : Settled f ls ps
  settled = record { stacked = e.stacked ls ps; frame = empty_frame f ls ps e; clause = e.clause ls }

  pub fresh_unknown : (g : CertificateFault) (r : Result Phase CertificateFault) → Err g ≡ claim_of claim → r ≡ Err g → Comes r f ls ps (claimed claim n)
  fresh_unknown g r q s = subst (λ (x : Result Phase CertificateFault). Comes x f ls ps (claimed claim n)) (sym s) (record { is = sym (claim_unknown claim n g q); steady = tt })

  pub fresh_outside : (c : Claim) → claim ≡ kind c → (n < 1) ⊎ (most c < n) → Comes (Err WrongNumber) f ls ps (claimed claim n)
  fresh_outside c q h = record { is = sym (ap (λ (k : ℕ). claimed k n) q ∙ claim_outside c n h); steady = tt }

  pub fresh_opened : (c : Claim) → (c ≡ Induction) ⊎ (c ≡ Counterexample) → claim ≡ kind c → 1 ≤ n → n ≤ most c → Comes (Ok (Opened c n)) f ls ps (claimed claim n)
  fresh_opened c d q a b = record {
    is = ap (λ x. Ok (opened c n x)) (empty_held f ls ps e) ∙ sym (ap (λ (k : ℕ). claimed k n) q ∙ claim_opened c n (λ t. elim d [ inl i ↦ cc | inr i ↦ cc ]) a b);
    steady = settled;
  }

-- two limits as one
least : (n a b : ℕ) → ltb n (min a b) ≡ (ltb n a && ltb n b)
least n a b = grind (arith, nat_tests)

module _ (m : Meaning) (f : Frames) (ls : List ℕ) (ps : List Span) (size : ℕ) (st : Steady (Framing size) f ls ps) where
  literal_room : (r : Bool) → r ≡ (ltb f.literals.used (length ls) && ltb f.literals.used 1048576) →
      ltb (literal_count (held f ls ps) (open_frame f ls ps) (open_clause f ls)) (min (length ls) 1048576) ≡ r
  literal_room r e = ap (λ (n : ℕ). ltb n (min (length ls) 1048576)) (literals_used f ls ps st.0) ∙ least f.literals.used (length ls) 1048576 ∙ sym e

  clause_room : (r : Bool) → r ≡ (ltb f.spans.used (length ps) && ltb f.spans.used 65536) →
      ltb (clause_count (held f ls ps) (open_frame f ls ps)) (min (length ps) 65536) ≡ r
  clause_room r e = ap (λ (n : ℕ). ltb n (min (length ps) 65536)) (clauses_used f ls ps st.0) ∙ least f.spans.used (length ps) 65536 ∙ sym e

  -- a literal
  pub literal_wrong : (g : Frames) (ms : List ℕ) (l : ℕ) → false ≡ is_next_literal m (open_clause f ls) l →
      Comes (Err WrongNumber) g ms ps (literal_added m (room_in (length ls) (length ps)) l size (held f ls ps) (open_frame f ls ps) (open_clause f ls))
  unfolding literal_added
  literal_wrong g ms l e = record { is = sym (cond-false (is_next_literal m (open_clause f ls) l) _ _ (sym e)); steady = tt }

  pub literal_full : (g : Frames) (ms : List ℕ) (l : ℕ) → true ≡ is_next_literal m (open_clause f ls) l →
      false ≡ (ltb f.literals.used (length ls) && ltb f.literals.used 1048576) →
      Comes (Err Full) g ms ps (literal_added m (room_in (length ls) (length ps)) l size (held f ls ps) (open_frame f ls ps) (open_clause f ls))
  unfolding literal_added
  literal_full g ms l e n = record {
    is = sym (cond-true (is_next_literal m (open_clause f ls) l) _ _ (sym e) ∙ cond-false (ltb (literal_count (held f ls ps) (open_frame f ls ps) (open_clause f ls)) (min (length ls) 1048576)) _ _ (literal_room false n));
    steady = tt;
  }

  pub literal_goes : (g : Frames) (ms : List ℕ) (l : ℕ) → true ≡ is_next_literal m (open_clause f ls) l →
      true ≡ (ltb f.literals.used (length ls) && ltb f.literals.used 1048576) → OneLiteralMore f g l ls ms (Ok tt) ps →
      Comes (Ok (Framing size)) g ms ps (literal_added m (room_in (length ls) (length ps)) l size (held f ls ps) (open_frame f ls ps) (open_clause f ls))
  unfolding literal_added
  literal_goes g ms l e n w = record {
    is = ap (λ x. Ok (framing size x (open_frame g ms ps) (open_clause g ms))) (same_held f ls ps g ms ps w.same)
        ∙ ap₂ (λ x y. Ok (framing size (held f ls ps) x y)) w.opened w.clause
        ∙ sym (cond-true (is_next_literal m (open_clause f ls) l) _ _ (sym e) ∙ cond-true (ltb (literal_count (held f ls ps) (open_frame f ls ps) (open_clause f ls)) (min (length ls) 1048576)) _ _ (literal_room true n));
    steady = (w.stacked, omega (arith, w.same.count, st.1), st.2);
  }

  -- whether a clause may stand in the open frame, as it is asked
  pub stands_is : (b : Bool) (c : List ℕ) → c ≡ open_clause f ls → b ≡ (ltb 0 (ended_frames f) || holds (state_setting m m.start) c) → b ≡ stands m (held f ls ps) (open_clause f ls)
  unfolding stands
  stands_is b c p e =
      e ∙ ap (λ (x : List ℕ). ltb 0 (ended_frames f) || holds (state_setting m m.start) x) p
      ∙ ap (λ (n : ℕ). ltb 0 n || holds (state_setting m m.start) (open_clause f ls)) (sym (held_count f ls ps))
      ∙ by (held f ls ps)
    where
      by : (Fs : List (List (List ℕ))) → (ltb 0 (length Fs) || holds (state_setting m m.start) (open_clause f ls)) ≡ stands m Fs (open_clause f ls)
      by [] = refl
      by (F ∷ Fs) = or_left (ltb 0 (length (F ∷ Fs))) (holds (state_setting m m.start) (open_clause f ls)) (lt-ltb 0 (length (F ∷ Fs)) (omega arith))

  -- the end of a clause
  pub clause_full : (g : Frames) (qs : List Span) → false ≡ (ltb f.spans.used (length ps) && ltb f.spans.used 65536) →
      Comes (Err Full) g ls qs (clause_ended m (room_in (length ls) (length ps)) size (held f ls ps) (open_frame f ls ps) (open_clause f ls))
  unfolding clause_ended
  clause_full g qs n = record { is = sym (cond-false (ltb (clause_count (held f ls ps) (open_frame f ls ps)) (min (length ps) 65536)) _ _ (clause_room false n)); steady = tt }

  pub clause_fails : (g : Frames) (qs : List Span) → true ≡ (ltb f.spans.used (length ps) && ltb f.spans.used 65536) → false ≡ stands m (held f ls ps) (open_clause f ls) →
      Comes (Err NotAtStart) g ls qs (clause_ended m (room_in (length ls) (length ps)) size (held f ls ps) (open_frame f ls ps) (open_clause f ls))
  unfolding clause_ended
  clause_fails g qs n h = record {
    is = sym (cond-true (ltb (clause_count (held f ls ps) (open_frame f ls ps)) (min (length ps) 65536)) _ _ (clause_room true n) ∙ cond-false (stands m (held f ls ps) (open_clause f ls)) _ _ (sym h));
    steady = tt;
  }

  pub clause_goes : (g : Frames) (qs : List Span) → true ≡ (ltb f.spans.used (length ps) && ltb f.spans.used 65536) → true ≡ stands m (held f ls ps) (open_clause f ls) →
      OneClauseMore f g ps qs (Ok tt) ls →
      Comes (Ok (Framing size)) g ls qs (clause_ended m (room_in (length ls) (length ps)) size (held f ls ps) (open_frame f ls ps) (open_clause f ls))
  unfolding clause_ended
  clause_goes g qs n h w = record {
    is = ap (λ x. Ok (framing size x (open_frame g ls qs) (open_clause g ls))) (same_held f ls ps g ls qs w.same)
        ∙ ap₂ (λ x y. Ok (framing size (held f ls ps) x y)) w.opened w.clause
        ∙ sym (cond-true (ltb (clause_count (held f ls ps) (open_frame f ls ps)) (min (length ps) 65536)) _ _ (clause_room true n) ∙ cond-true (stands m (held f ls ps) (open_clause f ls)) _ _ (sym h));
    steady = (w.stacked, omega (arith, w.same.count, st.1), st.2);
  }

-- what a record does, known to be this one at this phase
pub known : (m : Meaning) (p q : Phase) (r s : Record) (f : Frames) (ls : List ℕ) (ps : List Span) (a : Result Phase CertificateFault) (g : Frames) (ms : List ℕ) (qs : List Span) →
    p ≡ q → r ≡ s → Does m q s f ls ps a g ms qs → Does m p r f ls ps a g ms qs
known m p q r s f ls ps a g ms qs e d h = subst (λ (y : Record). Does m p y f ls ps a g ms qs) (sym d) (subst (λ (x : Phase). Does m x s f ls ps a g ms qs) (sym e) h)

-- the end of a frame
pub frame_early : (m : Meaning) (f : Frames) (ls : List ℕ) (ps : List Span) (size : ℕ) → (length (open_clause f ls) ≡ 0 → ⊥) → Does m (Framing size) FrameEnd f ls ps (Err OutOfPlace) f ls ps
unfolding frame_ended
frame_early m f ls ps size n = λ st. record { is = sym (cond-false (eqb (length (open_clause f ls)) 0) _ _ (ne_eqb (length (open_clause f ls)) 0 n)); steady = tt }

module _ (f : Frames) (ls : List ℕ) (ps : List Span) (size : ℕ) (st : Steady (Framing size) f ls ps) where
  none_open : (g : Frames) → length (open_clause f ls) ≡ 0 → OneFrameMore f g (Ok tt) ls ps → open_clause g ls ≡ []
  none_open g z w = w.clause ∙ no_entry (open_clause f ls) z
    where
      no_entry : (xs : List ℕ) → length xs ≡ 0 → xs ≡ []
      no_entry [] e = refl
      no_entry (x ∷ xs) e = absurd (omega arith)

  pub frame_goes : (g : Frames) → length (open_clause f ls) ≡ 0 → ended_frames f < size → OneFrameMore f g (Ok tt) ls ps →
      Comes (Ok (Framing size)) g ls ps (frame_ended size (held f ls ps) (open_frame f ls ps) (open_clause f ls))
  unfolding frame_ended
  frame_goes g z l w = record {
    is = ap (λ x. Ok (framing size x (open_frame g ls ps) (open_clause g ls))) (more_held f g ls ps w)
        ∙ ap₂ (λ x y. Ok (framing size (held f ls ps ++ open_frame f ls ps ∷ []) x y)) w.opened (none_open g z w)
        ∙ sym (cond-true (eqb (length (open_clause f ls)) 0) _ _ (eq-eqb (length (open_clause f ls)) 0 z)
        ∙ cond-true (ltb (length (held f ls ps)) size) _ _ (lt-ltb (length (held f ls ps)) size (omega (arith, held_count f ls ps))));
    steady = (w.stacked, omega (arith, w.count), st.2);
  }

  pub frame_last : (g : Frames) → length (open_clause f ls) ≡ 0 → size ≤ ended_frames f → OneFrameMore f g (Ok tt) ls ps →
      Comes (Ok (Opened Trace size)) g ls ps (frame_ended size (held f ls ps) (open_frame f ls ps) (open_clause f ls))
  unfolding frame_ended
  frame_last g z l w = record {
    is = ap (λ x. Ok (opened Trace size x)) (more_held f g ls ps w)
        ∙ sym (cond-true (eqb (length (open_clause f ls)) 0) _ _ (eq-eqb (length (open_clause f ls)) 0 z)
        ∙ cond-false (ltb (length (held f ls ps)) size) _ _ (le-ltb (length (held f ls ps)) size (omega (arith, held_count f ls ps))));
    steady = record { stacked = w.stacked; frame = w.opened; clause = none_open g z w };
  }
