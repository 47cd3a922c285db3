-- The closing question of frames that stand on the stacks is that of the trace.
use Rattle.std.proofs.Common.{◌≡◌, ℕ, ◌+◌, ◌-◌, ◌*◌, ◌<◌, ◌≤◌, true, false, ltb, leb, List, [], ◌∷◌, ◌++◌, map, length, get_or, take, sym, refl, ap, ◌∙◌, ap₂, ⊎_elim, arith}
use Rattle.std.specs.List.{range_with_len}
use Rattle.std.proofs.lemmas.List.FromFn.{length-map-range_with_len, get_or-map-range_with_len}
use Rattle.std.proofs.lemmas.List.{length-take, get_or-take, take-take, ext_get_or}
use Rattle.std.proofs.lemmas.Bool.{cases_lt, and_parts, and_cases, and_from, ltb-true, ltb-false, leb-true, leb-false, lt-ltb, le-leb}
use Rattle.resolution.specs.Clauses.{denial}
use Rattle.machine.specs.Meaning.{Meaning}
use Rattle.stack.specs.declared.spans.Span.{Span}
use Rattle.frames.specs.declared.frames.Frames.{Frames}
use Rattle.frames.specs.Held.{ended_frames, clauses_of, before_frame, frame, span_at, Stacked}
use Rattle.frames.proofs.Views.{mark_low, clauses_count, frame_count}
use Rattle.question_theory.specs.Traces.{before, selectors, choices, denials, closing_question}
use Rattle.question_theory.specs.Shapes.{flat, owner, LiteralPlace}
use Rattle.question_theory.proofs.OneByOne.{each_count, each_at}
use Rattle.question_theory.proofs.ClosingClauses.{selectors_in_order, denials_in_order, literals_in_order}
use Rattle.questions.specs.Places.{begun, place}
use Rattle.questions.specs.Closing.{last_frame, selecting, denying, closing_clauses}
use Rattle.questions.proofs.Halving.{begun_past, halved_ends}
use Rattle.questions.proofs.Selectors.{selecting_count, selecting_at}
use Rattle.questions.proofs.StackedFrames.{flat_upto, flat_next, before_is, before_count}

module _ (f : Frames) (ls : List ℕ) (ps : List Span) (s : Stacked f ls ps) where
  -- what it is for a span to have begun
  begun_start : (q k : ℕ) → begun (take f.spans.used ps) q k ≡ true → (k < f.spans.used) × (length (flat (take k (clauses_of f ls ps))) ≤ q)
  unfolding begun
  begun_start q k h =
      let ss = take f.spans.used ps in
      let p = and_parts (ltb k (length ss)) (leb (span_at ss k).start q) h in
      let l = ltb-true k (length ss) p.0 in
      let g = leb-true (span_at ss k).start q p.1 in
      let n = length-take f.spans.used ps in
      let k< : k < f.spans.used = omega arith in
      let e = ap (λ (x : Span). x.start) (get_or-take f.spans.used ps k (record { start = 0; length = 0 }) k<) in
      let t = s.starts k k< in
      (k<, omega arith)

  unbegun : (q k : ℕ) → begun (take f.spans.used ps) q k ≡ false → k < f.spans.used → q < length (flat (take k (clauses_of f ls ps)))
  unfolding begun
  unbegun q k h k< =
      let ss = take f.spans.used ps in
      let n = length-take f.spans.used ps in
      let fit = s.spans_fit in
      let e = ap (λ (x : Span). x.start) (get_or-take f.spans.used ps k (record { start = 0; length = 0 }) k<) in
      let t = s.starts k k< in
      ⊎_elim
      (λ (x : ltb k (length ss) ≡ false). let z = ltb-false k (length ss) x in let no : ⊥ = omega arith in absurd no)
      (λ (x : leb (span_at ss k).start q ≡ false). let z = leb-false (span_at ss k).start q x in omega arith)
      (and_cases (ltb k (length ss)) (leb (span_at ss k).start q) h)

  first_begun : (q : ℕ) → 0 < f.spans.used → begun (take f.spans.used ps) q 0 ≡ true
  unfolding begun
  first_begun q h =
      let ss = take f.spans.used ps in
      let n = length-take f.spans.used ps in
      let fit = s.spans_fit in
      let e = ap (λ (x : Span). x.start) (get_or-take f.spans.used ps 0 (record { start = 0; length = 0 }) h) in
      let t = s.starts 0 h in
      and_from (ltb 0 (length ss)) (leb (span_at ss 0).start q) (lt-ltb 0 (length ss) (omega arith)) (le-leb (span_at ss 0).start q (omega arith))

  -- literal q lies in the clause of its span
  module _ (n q : ℕ) (n≤ : n ≤ ended_frames f) (q< : q < (before_frame f n).literals) where
    some_span : 0 < f.spans.used
    some_span =
        let m = s.marks_count n n≤ in
        let low = mark_low f n in
        ⊎_elim
        (λ (h : 0 < f.spans.used). h)
        (λ (h : f.spans.used ≤ 0).
        let z : (before_frame f n).clauses ≡ 0 = omega arith in
        let e = ap (λ k. length (flat (take k (clauses_of f ls ps)))) z in
        let no : ⊥ = omega arith in absurd no)
        (cases_lt 0 f.spans.used)

    lies : (r : ℕ) → begun (take f.spans.used ps) q r ≡ true → begun (take f.spans.used ps) q (r + 1) ≡ false →
        (r < (before_frame f n).clauses) × (length (flat (take r (clauses_of f ls ps))) ≤ q) × (q < length (flat (take (r + 1) (clauses_of f ls ps))))
    lies r now not_yet =
        let cs = clauses_of f ls ps in
        let m = s.marks_count n n≤ in
        let low = mark_low f n in
        let a = begun_start q r now in (
          ⊎_elim
              (λ (h : r < (before_frame f n).clauses). h)
              (λ (h : (before_frame f n).clauses ≤ r). let u = flat_upto cs (before_frame f n).clauses r h in let no : ⊥ = omega (arith, a.1) in absurd no)
              (cases_lt r (before_frame f n).clauses),
          a.1,
          ⊎_elim
              (λ (h : r + 1 < f.spans.used). unbegun q (r + 1) not_yet h)
              (λ (h : f.spans.used ≤ r + 1). let u = flat_upto cs (before_frame f n).clauses (r + 1) (omega arith) in omega arith)
              (cases_lt (r + 1) f.spans.used),
        )

    place_lies : (place (take f.spans.used ps) q < (before_frame f n).clauses) × (length (flat (take (place (take f.spans.used ps) q) (clauses_of f ls ps))) ≤ q)
        × (q < length (flat (take (place (take f.spans.used ps) q + 1) (clauses_of f ls ps))))
    place_lies =
        let lim = f.limits in
        let ends = halved_ends (take f.spans.used ps) q 16 0 (first_begun q some_span) (sym (begun_past f.spans.used ps q 65536 (omega arith))) in
        lies (place (take f.spans.used ps) q) ends.0 ends.1

    module _ (r : ℕ) (at : (r < (before_frame f n).clauses) × (length (flat (take r (clauses_of f ls ps))) ≤ q) × (q < length (flat (take (r + 1) (clauses_of f ls ps))))) where
      same_clause : get_or (before (frame f ls ps) n) r [] ≡ get_or (clauses_of f ls ps) r []
      same_clause = ap (λ cs. get_or cs r []) (before_is f ls ps s n n≤) ∙ get_or-take (before_frame f n).clauses (clauses_of f ls ps) r [] at.0

      -- among all clauses, and among those of the frames before n
      of_all : LiteralPlace (clauses_of f ls ps) q r (q - length (flat (take r (clauses_of f ls ps))))
      of_all =
          let cs = clauses_of f ls ps in
          let low = mark_low f n in
          let total = clauses_count f ls ps s.spans_fit in
          let r< : r < length (clauses_of f ls ps) = omega (arith, at.0) in
          let more = flat_next cs r r< in
          literals_in_order cs q r (q - length (flat (take r cs))) (omega (arith, at.1)) r< (omega (arith, at.2))

      of_frames : LiteralPlace (before (frame f ls ps) n) q r (q - length (flat (take r (clauses_of f ls ps))))
      of_frames =
          let cs = clauses_of f ls ps in
          let low = mark_low f n in
          let total = clauses_count f ls ps s.spans_fit in
          let size = before_count f ls ps s n n≤ in
          let r< : r < length (clauses_of f ls ps) = omega (arith, at.0) in
          let more = flat_next cs r r< in
          let front : take r (before (frame f ls ps) n) ≡ take r (clauses_of f ls ps) = ap (take r) (before_is f ls ps s n n≤) ∙ take-take r (before_frame f n).clauses cs (omega (arith, at.0)) in
          let e = ap (λ ds. length (flat ds)) front in
          let d = ap length same_clause in
          literals_in_order (before (frame f ls ps) n) q r (q - length (flat (take r cs))) (omega (arith, at.1)) (omega (arith, at.0)) (omega (arith, at.2))

      literal_is : get_or (take f.ended ls) q 0 ≡ get_or (flat (before (frame f ls ps) n)) q 0
      literal_is =
          let j = q - length (flat (take r (clauses_of f ls ps))) in
          ap (λ xs. get_or xs q 0) (sym s.gapless) ∙ of_all.literal ∙ ap (λ c. get_or c j 0) (sym same_clause) ∙ sym of_frames.literal

    pub denying_is : (a : ℕ) → denying a (take f.ended ls) (take f.spans.used ps) q ≡ denial (get_or (flat (before (frame f ls ps) n)) q 0) ∷ (2 * (a + owner (before (frame f ls ps) n) q) + 1) ∷ []
    unfolding denying
    denying_is a =
        let r = place (take f.spans.used ps) q in
        ap₂ (λ (x k : ℕ). denial x ∷ (2 * (a + k) + 1) ∷ []) (literal_is r place_lies) (sym (of_frames r place_lies).clause)

  -- the choice of frame j
  selecting_are : (a j : ℕ) → j < ended_frames f → selecting a f j ≡ selectors (a + length (before (frame f ls ps) j)) (frame f ls ps j)
  selecting_are a j h =
      let order = selectors_in_order (a + length (before (frame f ls ps) j)) (frame f ls ps j) in
      let size = frame_count f ls ps s.spans_fit j in
      let count = selecting_count a f j in
      let start = before_count f ls ps s j (omega arith) in
      ext_get_or 0 (selecting a f j) (selectors (a + length (before (frame f ls ps) j)) (frame f ls ps j)) (omega (arith, order.0))
      (λ k l. let x = selecting_at a f j k (omega arith) in let y = order.1 k (omega arith) in omega arith)

  choices_are : (m : Meaning) (n : ℕ) → n ≤ ended_frames f → map (selecting m.variables f) (range_with_len 0 n) ≡ choices m (frame f ls ps) n
  choices_are m n h =
      let F = frame f ls ps in
      let pick : ℕ → List ℕ = λ j. selectors (m.variables + length (before (frame f ls ps) j)) (frame f ls ps j) in
      let count = length-map-range_with_len (selecting m.variables f) 0 n in
      let size = each_count pick (choices m F) refl (λ _. refl) n in
      ext_get_or [] (map (selecting m.variables f) (range_with_len 0 n)) (choices m F n) (count ∙ sym size)
      (λ j l.
      let j< : j < n = omega arith in
      get_or-map-range_with_len (selecting m.variables f) 0 n j j [] j< (omega arith)
      ∙ selecting_are m.variables j (omega arith)
      ∙ sym (each_at pick (choices m F) refl (λ _. refl) n j [] j<))

  denials-are : (a n : ℕ) → n ≤ ended_frames f → map (denying a (take f.ended ls) (take f.spans.used ps)) (range_with_len 0 (before_frame f n).literals) ≡ denials a (before (frame f ls ps) n)
  denials-are a n h =
      let F = frame f ls ps in
      let deny = denying a (take f.ended ls) (take f.spans.used ps) in
      let order = denials_in_order a (before F n) in
      let count = length-map-range_with_len deny 0 (before_frame f n).literals in
      let size : (before_frame f n).literals ≡ length (flat (before (frame f ls ps) n)) = s.marks_count n h ∙ ap (λ ds. length (flat ds)) (sym (before_is f ls ps s n h)) in
      ext_get_or [] (map deny (range_with_len 0 (before_frame f n).literals)) (denials a (before F n)) (count ∙ size ∙ sym order.0)
      (λ q l.
      let q< : q < (before_frame f n).literals = omega arith in
      get_or-map-range_with_len deny 0 (before_frame f n).literals q q [] q< (omega arith)
      ∙ denying_is n q h q< a
      ∙ sym (order.1 q (omega arith)))

  pub closing_is : (m : Meaning) → closing_clauses m.variables f ls ps ≡ closing_question m (frame f ls ps) (last_frame f)
  unfolding closing_clauses closing_question
  closing_is m =
      let h : last_frame f ≤ ended_frames f = omega arith in
      ap₂ (λ (ys zs : List (List ℕ)). frame f ls ps (last_frame f) ++ ys ++ zs) (choices_are m (last_frame f) h) (denials-are m.variables (last_frame f) h)
