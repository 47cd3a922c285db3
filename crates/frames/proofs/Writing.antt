-- What is written leaves the areas stacked, and says what it means.
use Rattle.std.proofs.Common.{◌≡◌, ℕ, zero, suc, ◌+◌, ◌-◌, ◌<◌, ◌≤◌, Result, Ok, Err, List, [], ◌∷◌, ◌++◌, length, get_or, take, drop, sym, refl, ap, ◌∙◌, subst, ap₂, ⊎_elim, add-one, arith}
use Rattle.std.proofs.lemmas.List.{append-nil, length-take-le, length-drop, take_all, take-take, take-append-le, take-append-drop, drop_all, drop-append-le, get_or-take, get_or_push, get_or_append_left, map_push, length-append}
use Rattle.std.specs.Result.{IsErr}
use Rattle.std.proofs.lemmas.Bool.{cases_eq, false≢true}
use Rattle.refusal.specs.declared.faults.Full.{Full}
use Rattle.stack.specs.declared.spans.Span.{Span}
use Rattle.stack.specs.Pushes.{placed, PushedAs}
use Rattle.stack.specs.Runs.{run, runs}
use Rattle.stack.proofs.Places.{length_placed, take_placed, below_placed}
use Rattle.frames.specs.declared.frames.Mark.{Mark}
use Rattle.frames.specs.declared.frames.Frames.{Frames}
use Rattle.frames.specs.Held.{none, marked, ended_frames, clauses_of, before_frame, frame, open_frame, open_clause, flat, span_at, Stacked}
use Rattle.frames.specs.Writes.{WithLiteral, WithClause, WithFrame, open_span, SameFrames, OneLiteralMore, OneClauseMore, OneFrameMore, AddsLiteral, AddsClause, AddsFrame}
use Rattle.frames.proofs.Growth.{runs_within, flat_more, cut, cut_front, same_before, same_cut}
use Rattle.frames.proofs.Views.{mark_low, clauses_count, mark_within}

-- Nothing is ended

module _ (f g : Frames) (ls ms : List ℕ) (ps : List Span) (marks : marked g ≡ marked f) (spans : g.spans.used ≡ f.spans.used) (same : take g.ended ms ≡ take f.ended ls) where
  clauses_same : clauses_of g ms ps ≡ clauses_of f ls ps
  clauses_same = ap₂ (λ (xs : List ℕ) (n : ℕ). runs xs (take n ps)) same spans

  count_same : ended_frames g ≡ ended_frames f
  count_same = ap length marks

  frames_same : SameFrames f ls ps g ms ps
  unfolding frame
  frames_same = record { count = count_same; frames = λ i. same_cut f g marks ms ps i ∙ ap (cut (before_frame f i) (before_frame f (suc i))) clauses_same }

  opened_same : open_frame g ms ps ≡ open_frame f ls ps
  opened_same = ap₂ (λ (m : Mark) (cs : List (List ℕ)). drop m.clauses cs) (same_before f g marks (ended_frames g) ∙ ap (before_frame f) count_same) clauses_same

  stacked_same : g.ended ≡ f.ended → g.literals.used ≤ length ms → Stacked f ls ps → Stacked g ms ps
  stacked_same ended fit s = record {
    literals_fit = fit;
    spans_fit = omega (arith, spans, s.spans_fit);
    marks_rise = λ i h. omega (arith, s.marks_rise i (omega (arith, count_same)), ap (λ (m : Mark). m.clauses) (same_before f g marks i), ap (λ (m : Mark). m.clauses) (same_before f g marks (suc i)));
    marks_low = omega (arith, s.marks_low, spans, ap (λ (m : Mark). m.clauses) (same_before f g marks (ended_frames g)), ap (λ (n : ℕ). (before_frame f n).clauses) count_same);
    starts = λ k h. s.starts k (omega (arith, spans)) ∙ ap (λ (cs : List (List ℕ)). length (flat (take k cs))) (sym clauses_same);
    ends = λ k h. omega (arith, s.ends k (omega (arith, spans)), ended);
    gapless = ap flat clauses_same ∙ s.gapless ∙ sym same;
    marks_count = λ i h.
        let b = same_before f g marks i in
        ap (λ (m : Mark). m.literals) b ∙ s.marks_count i (omega (arith, count_same))
        ∙ ap₂ (λ (m : Mark) (cs : List (List ℕ)). length (flat (take m.clauses cs))) (sym b) (sym clauses_same);
  }

-- g is f, in all that is seen of it
module _ (f g : Frames) (marks : marked g ≡ marked f) (ended : g.ended ≡ f.ended) (literals : g.literals.used ≡ f.literals.used) (spans : g.spans.used ≡ f.spans.used) (ls : List ℕ) (ps : List Span) where
  still_ended : take g.ended ls ≡ take f.ended ls
  still_ended = ap (λ n. take n ls) ended

  still_stacked : Stacked f ls ps → Stacked g ls ps
  still_stacked s = stacked_same f g ls ls ps marks spans still_ended ended (omega (arith, literals, s.literals_fit)) s

  still_clause : open_clause g ls ≡ open_clause f ls
  still_clause = ap₂ (λ (a b : ℕ). drop a (take b ls)) ended literals

  no_literal_more : (l : ℕ) (e : Full) → Stacked f ls ps → OneLiteralMore f g l ls ls (Err e) ps
  no_literal_more l e s = record {
    stacked = still_stacked s;
    same = frames_same f g ls ls ps marks spans still_ended;
    clauses = clauses_same f g ls ls ps marks spans still_ended;
    opened = opened_same f g ls ls ps marks spans still_ended;
    clause = still_clause ∙ sym (append-nil (open_clause f ls));
  }

  no_clause_more : (e : Full) → Stacked f ls ps → OneClauseMore f g ps ps (Err e) ls
  no_clause_more e s = record {
    stacked = still_stacked s;
    same = frames_same f g ls ls ps marks spans still_ended;
    clauses = clauses_same f g ls ls ps marks spans still_ended ∙ sym (append-nil (clauses_of f ls ps));
    opened = opened_same f g ls ls ps marks spans still_ended ∙ sym (append-nil (open_frame f ls ps));
    clause = still_clause;
  }

-- A literal

module _ (f g : Frames) (l : ℕ) (ls ms : List ℕ) (w : WithLiteral f g) (e : ms ≡ placed f.literals.used (l ∷ []) ls) (room : f.literals.used < length ls) where
  literal_fits : f.literals.used + length (l ∷ []) ≤ length ls
  literal_fits = omega arith

  ended_same : take g.ended ms ≡ take f.ended ls
  ended_same = ap₂ (λ (n : ℕ) (xs : List ℕ). take n xs) w.ended e ∙ below_placed ls f.literals.used (l ∷ []) literal_fits f.ended f.limits.0

  literal_last : open_clause g ms ≡ open_clause f ls ++ l ∷ []
  literal_last =
      let n : ℕ = f.literals.used in
      let long = length-take-le n ls (omega arith) in
      let low : f.ended ≤ length (take n ls) = omega (arith, f.limits.0) in
      ap₂ (λ (a b : ℕ). drop a (take b ms)) w.ended w.literals
      ∙ ap (λ (xs : List ℕ). drop f.ended (take (n + 1) xs)) e
      ∙ ap (drop f.ended) (take_placed ls n (l ∷ []) literal_fits)
      ∙ drop-append-le f.ended (take n ls) (l ∷ []) low

  literal_more : (ps : List Span) → Stacked f ls ps → OneLiteralMore f g l ls ms (Ok tt) ps
  literal_more ps s = record {
    stacked = stacked_same f g ls ms ps w.marks w.spans ended_same w.ended (omega (arith, w.literals, ap length e, length_placed ls f.literals.used (l ∷ []) literal_fits)) s;
    same = frames_same f g ls ms ps w.marks w.spans ended_same;
    clauses = clauses_same f g ls ms ps w.marks w.spans ended_same;
    opened = opened_same f g ls ms ps w.marks w.spans ended_same;
    clause = literal_last;
  }

-- a literal that is pushed, if it is, stands in the open clause
pub adds_literal : (f g : Frames) (l : ℕ) (ls ms : List ℕ) (r : Result (Unit {0}) Full) →
    marked g ≡ marked f → g.ended ≡ f.ended → g.spans.used ≡ f.spans.used → PushedAs (l ∷ []) f.literals.used g.literals.used ls ms r → AddsLiteral f g l ls ms r
adds_literal f g l ls ms (Ok _) marks ended spans p =
    literal_more f g l ls ms (record { marks = marks; count = ap length marks; ended = ended; literals = p.1; spans = spans }) p.2 (omega (arith, p.0))
adds_literal f g l ls ms (Err e) marks ended spans p = λ ps s. subst (λ xs. OneLiteralMore f g l ls xs (Err e) ps) (sym p.2) (no_literal_more f g marks ended p.1 spans ls ps l e s)

-- The end of a clause

module _ (f g : Frames) (ps qs : List Span) (w : WithClause f g) (e : qs ≡ placed f.spans.used (open_span f ∷ []) ps) (room : f.spans.used < length ps) where
  span_fits : f.spans.used + length (open_span f ∷ []) ≤ length ps
  span_fits = omega arith

  spans_now : take g.spans.used qs ≡ take f.spans.used ps ++ open_span f ∷ []
  spans_now = ap₂ (λ (n : ℕ) (xs : List Span). take n xs) w.spans e ∙ take_placed ps f.spans.used (open_span f ∷ []) span_fits

  -- the spans below are the same
  span_below : (k : ℕ) → k < f.spans.used → span_at qs k ≡ span_at ps k
  span_below k h =
      let n : ℕ = f.spans.used in
      let d : Span = record { start = 0; length = 0 } in
      ap (λ (xs : List Span). span_at xs k) e
      ∙ sym (get_or-take n (placed n (open_span f ∷ []) ps) k d h)
      ∙ ap (λ (xs : List Span). get_or xs k d) (below_placed ps n (open_span f ∷ []) span_fits n (omega arith))
      ∙ get_or-take n ps k d h

  span_last : span_at qs f.spans.used ≡ open_span f
  span_last =
      let n : ℕ = f.spans.used in
      let d : Span = record { start = 0; length = 0 } in
      sym (get_or-take g.spans.used qs n d (omega (arith, w.spans)))
      ∙ ap (λ (xs : List Span). get_or xs n d) spans_now
      ∙ get_or_push (take n ps) (open_span f) d n (length-take-le n ps (omega arith))

  module _ (ls : List ℕ) (s : Stacked f ls ps) where
    -- the span of the open clause marks it out
    open_run : run (take f.literals.used ls) (open_span f) ≡ open_clause f ls
    open_run =
        let n : ℕ = f.literals.used in
        take_all (n - f.ended) (open_clause f ls) (omega (arith, length-drop f.ended (take n ls), length-take-le n ls s.literals_fit))

    earlier_runs : runs (take f.literals.used ls) (take f.spans.used ps) ≡ clauses_of f ls ps
    earlier_runs =
        let n : ℕ = f.spans.used in
        let d : Span = record { start = 0; length = 0 } in
        runs_within ls f.ended f.literals.used (take n ps) f.limits.0 (λ k h.
        let k< : k < n = omega (arith, length-take-le n ps s.spans_fit) in
        subst (λ (p : Span). p.start + p.length ≤ f.ended) (sym (get_or-take n ps k d k<)) (s.ends k k<))

    clauses_now : clauses_of g ls qs ≡ clauses_of f ls ps ++ open_clause f ls ∷ []
    clauses_now =
        let n : ℕ = f.literals.used in
        ap₂ (λ (k : ℕ) (xs : List Span). runs (take k ls) xs) w.ended spans_now
        ∙ map_push (run (take n ls)) (take f.spans.used ps) (open_span f)
        ∙ ap₂ (λ (cs : List (List ℕ)) (c : List ℕ). cs ++ c ∷ []) earlier_runs open_run

    -- the first clauses are the same
    first_clauses : (k : ℕ) → k ≤ f.spans.used → take k (clauses_of g ls qs) ≡ take k (clauses_of f ls ps)
    first_clauses k h = ap (take k) clauses_now ∙ take-append-le k (clauses_of f ls ps) (open_clause f ls ∷ []) (omega (arith, clauses_count f ls ps s.spans_fit))

    clause_starts : (k : ℕ) → k < g.spans.used → (span_at qs k).start ≡ length (flat (take k (clauses_of g ls qs)))
    clause_starts k h =
        let n : ℕ = f.spans.used in
        ⊎_elim
        (λ (e : k ≡ n).
        let low = f.limits.0 in
        ap (λ (i : ℕ). (span_at qs i).start) e ∙ ap (λ (p : Span). p.start) span_last
        ∙ sym (length-take-le f.ended ls (omega (arith, s.literals_fit))) ∙ ap length (sym s.gapless)
        ∙ ap (λ (cs : List (List ℕ)). length (flat cs)) (sym (take_all k (clauses_of f ls ps) (omega (arith, clauses_count f ls ps s.spans_fit))))
        ∙ ap (λ (cs : List (List ℕ)). length (flat cs)) (sym (first_clauses k (omega arith))))
        (λ (ne : k ≡ n → ⊥).
        let k< : k < n = omega (arith, w.spans) in
        ap (λ (p : Span). p.start) (span_below k k<) ∙ s.starts k k< ∙ ap (λ (cs : List (List ℕ)). length (flat cs)) (sym (first_clauses k (omega arith))))
        (cases_eq k n)

    clause_ends : (k : ℕ) → k < g.spans.used → (span_at qs k).start + (span_at qs k).length ≤ g.ended
    clause_ends k h =
        let n : ℕ = f.spans.used in
        let low = f.limits.0 in
        ⊎_elim
        (λ (e : k ≡ n). omega (arith, w.ended, ap (λ (p : Span). p.start + p.length) (ap (span_at qs) e ∙ span_last)))
        (λ (ne : k ≡ n → ⊥).
        let k< : k < n = omega (arith, w.spans) in
        omega (arith, w.ended, s.ends k k<, ap (λ (p : Span). p.start + p.length) (span_below k k<)))
        (cases_eq k n)

    clause_gapless : flat (clauses_of g ls qs) ≡ take g.ended ls
    clause_gapless =
        let n : ℕ = f.literals.used in
        ap flat clauses_now ∙ flat_more (clauses_of f ls ps) (open_clause f ls) ∙ ap (λ (xs : List ℕ). xs ++ open_clause f ls) s.gapless
        ∙ ap (λ (xs : List ℕ). xs ++ open_clause f ls) (sym (take-take f.ended n ls f.limits.0))
        ∙ take-append-drop f.ended (take n ls) ∙ ap (λ (k : ℕ). take k ls) (sym w.ended)

    clause_stacked : Stacked g ls qs
    clause_stacked = record {
      literals_fit = omega (arith, w.literals, s.literals_fit);
      spans_fit = omega (arith, w.spans, ap length e, length_placed ps f.spans.used (open_span f ∷ []) span_fits);
      marks_rise = λ i h. omega (arith, s.marks_rise i (omega (arith, w.count)), ap (λ (m : Mark). m.clauses) (same_before f g w.marks i), ap (λ (m : Mark). m.clauses) (same_before f g w.marks (suc i)));
      marks_low = (mark_low g (ended_frames g)).0;
      starts = clause_starts;
      ends = clause_ends;
      gapless = clause_gapless;
      marks_count = λ i h.
          let b = same_before f g w.marks i in
          ap (λ (m : Mark). m.literals) b ∙ s.marks_count i (omega (arith, w.count))
          ∙ ap (λ (cs : List (List ℕ)). length (flat cs)) (sym (first_clauses (before_frame f i).clauses (mark_low f i).0))
          ∙ ap (λ (m : Mark). length (flat (take m.clauses (clauses_of g ls qs)))) (sym b);
    }

    clause-more : OneClauseMore f g ps qs (Ok tt) ls
    unfolding frame
    clause-more =
        let within = mark_within f ls ps s.spans_fit in
        record {
          stacked = clause_stacked;
          same = record {
            count = w.count;
            frames = λ i. same_cut f g w.marks ls qs i ∙ ap (cut (before_frame f i) (before_frame f (suc i))) clauses_now
                ∙ cut_front (before_frame f i) (before_frame f (suc i)) (clauses_of f ls ps) (open_clause f ls ∷ []) (within i) (within (suc i));
          };
          clauses = clauses_now;
          opened =
              ap₂ (λ (m : Mark) (cs : List (List ℕ)). drop m.clauses cs) (same_before f g w.marks (ended_frames g) ∙ ap (before_frame f) w.count) clauses_now
              ∙ drop-append-le (before_frame f (ended_frames f)).clauses (clauses_of f ls ps) (open_clause f ls ∷ []) (within (ended_frames f));
          clause =
              ap₂ (λ (a b : ℕ). drop a (take b ls)) w.ended w.literals
              ∙ drop_all f.literals.used (take f.literals.used ls) (omega (arith, length-take-le f.literals.used ls s.literals_fit));
        }

-- a clause that is ended is the last of the open frame
pub adds_clause : (f g : Frames) (ps qs : List Span) → WithClause f g → PushedAs (open_span f ∷ []) f.spans.used g.spans.used ps qs (Ok tt) → AddsClause f g ps qs (Ok tt)
adds_clause f g ps qs w p = clause-more f g ps qs w p.2 (omega (arith, p.0))

-- where there is no room, none is
pub adds_no_clause : (f g : Frames) (ps qs : List Span) (r t : Result (Unit {0}) Full) → IsErr r → IsErr t →
    marked g ≡ marked f → g.ended ≡ f.ended → g.literals.used ≡ f.literals.used → PushedAs (open_span f ∷ []) f.spans.used g.spans.used ps qs r → AddsClause f g ps qs t
adds_no_clause f g ps qs (Err _) (Err e) _ _ marks ended literals p = λ ls s. subst (λ xs. OneClauseMore f g ps xs (Err e) ls) (sym p.2) (no_clause_more f g marks ended literals p.1 ls ps e s)
adds_no_clause f g ps qs (Ok _) t is _ _ _ _ _ = absurd (false≢true is)
adds_no_clause f g ps qs (Err _) (Ok _) _ is _ _ _ _ = absurd (false≢true is)

-- The end of a frame

module _ (f g : Frames) (w : WithFrame f g) where
  -- the marks of the frames before are the same
  before_below : (i : ℕ) → i ≤ ended_frames f → before_frame g i ≡ before_frame f i
  before_below zero h = refl
  before_below (suc i) h = ap (λ (ms : List Mark). get_or ms i none) w.marks ∙ get_or_append_left (marked f) (record { clauses = f.spans.used; literals = f.ended } ∷ []) none i (omega arith)

  before_last : before_frame g (suc (ended_frames f)) ≡ record { clauses = f.spans.used; literals = f.ended }
  before_last = ap (λ (ms : List Mark). get_or ms (ended_frames f) none) w.marks ∙ get_or_push (marked f) (record { clauses = f.spans.used; literals = f.ended }) none (ended_frames f) refl

  before_open : before_frame g (ended_frames g) ≡ record { clauses = f.spans.used; literals = f.ended }
  before_open = ap (before_frame g) (w.count ∙ add-one (ended_frames f)) ∙ before_last

  module _ (ls : List ℕ) (ps : List Span) (s : Stacked f ls ps) where
    ended_clauses : clauses_of g ls ps ≡ clauses_of f ls ps
    ended_clauses = ap₂ (λ (a b : ℕ). runs (take a ls) (take b ps)) w.ended w.spans

    all_clauses : take f.spans.used (clauses_of f ls ps) ≡ clauses_of f ls ps
    all_clauses = take_all f.spans.used (clauses_of f ls ps) (omega (arith, clauses_count f ls ps s.spans_fit))

    frame_rise : (i : ℕ) → i < ended_frames g → (before_frame g i).clauses ≤ (before_frame g (suc i)).clauses
    frame_rise i h =
        ⊎_elim
        (λ (e : i ≡ ended_frames f).
        omega (arith, (mark_low f i).0, ap (λ (m : Mark). m.clauses) (before_below i (omega arith)), ap (λ (m : Mark). m.clauses) (ap (λ (k : ℕ). before_frame g (suc k)) e ∙ before_last)))
        (λ (ne : i ≡ ended_frames f → ⊥).
        let i< : i < ended_frames f = omega (arith, w.count) in
        omega (arith, s.marks_rise i i<, ap (λ (m : Mark). m.clauses) (before_below i (omega arith)), ap (λ (m : Mark). m.clauses) (before_below (suc i) (omega arith))))
        (cases_eq i (ended_frames f))

    frame_literals : (i : ℕ) → i ≤ ended_frames g → (before_frame g i).literals ≡ length (flat (take (before_frame g i).clauses (clauses_of g ls ps)))
    frame_literals i h =
        ⊎_elim
        (λ (e : i ≡ ended_frames g).
        let b = ap (before_frame g) e ∙ before_open in
        let low = f.limits.0 in
        ap (λ (m : Mark). m.literals) b
        ∙ sym (length-take-le f.ended ls (omega (arith, s.literals_fit))) ∙ ap length (sym s.gapless)
        ∙ ap (λ (cs : List (List ℕ)). length (flat cs)) (sym all_clauses)
        ∙ ap₂ (λ (m : Mark) (cs : List (List ℕ)). length (flat (take m.clauses cs))) (sym b) (sym ended_clauses))
        (λ (ne : i ≡ ended_frames g → ⊥).
        let i≤ : i ≤ ended_frames f = omega (arith, w.count) in
        let b = before_below i i≤ in
        ap (λ (m : Mark). m.literals) b ∙ s.marks_count i i≤
        ∙ ap₂ (λ (m : Mark) (cs : List (List ℕ)). length (flat (take m.clauses cs))) (sym b) (sym ended_clauses))
        (cases_eq i (ended_frames g))

    frame_stacked : Stacked g ls ps
    frame_stacked = record {
      literals_fit = omega (arith, w.literals, s.literals_fit);
      spans_fit = omega (arith, w.spans, s.spans_fit);
      marks_rise = frame_rise;
      marks_low = (mark_low g (ended_frames g)).0;
      starts = λ k h. s.starts k (omega (arith, w.spans)) ∙ ap (λ (cs : List (List ℕ)). length (flat (take k cs))) (sym ended_clauses);
      ends = λ k h. omega (arith, s.ends k (omega (arith, w.spans)), w.ended);
      gapless = ap flat ended_clauses ∙ s.gapless ∙ ap (λ (n : ℕ). take n ls) (sym w.ended);
      marks_count = frame_literals;
    }

    frame_more : OneFrameMore f g (Ok tt) ls ps
    unfolding frame
    frame_more =
        let n : ℕ = f.spans.used in
        let a : ℕ = (before_frame f (ended_frames f)).clauses in
        let long = clauses_count f ls ps s.spans_fit in
        record {
          stacked = frame_stacked;
          count = w.count;
          frames = λ i h.
              ap₂ (λ (p q : Mark). cut p q (clauses_of g ls ps)) (before_below i (omega arith)) (before_below (suc i) (omega arith))
              ∙ ap (cut (before_frame f i) (before_frame f (suc i))) ended_clauses;
          last = λ _.
              ap₂ (λ (p q : Mark). cut p q (clauses_of g ls ps)) (before_below (ended_frames f) (omega arith)) before_last
              ∙ ap (cut (before_frame f (ended_frames f)) (record { clauses = n; literals = f.ended })) ended_clauses
              ∙ take_all (n - a) (drop a (clauses_of f ls ps)) (omega (arith, length-drop a (clauses_of f ls ps), long));
          clauses = ended_clauses;
          opened =
              ap₂ (λ (m : Mark) (cs : List (List ℕ)). drop m.clauses cs) before_open ended_clauses
              ∙ drop_all n (clauses_of f ls ps) (omega (arith, long));
          clause = ap₂ (λ (a b : ℕ). drop a (take b ls)) w.ended w.literals;
        }

-- a frame that is ended is the last of the frames
pub adds_frame : (f g : Frames) → g.ended ≡ f.ended → g.literals.used ≡ f.literals.used → g.spans.used ≡ f.spans.used →
    marked g ≡ marked f ++ record { clauses = f.spans.used; literals = f.ended } ∷ [] → AddsFrame f g (Ok tt)
adds_frame f g ended literals spans e =
    frame_more f g (record { marks = e; count = ap length e ∙ length-append (marked f) (record { clauses = f.spans.used; literals = f.ended } ∷ []); ended = ended; literals = literals; spans = spans })
