-- The questions of a claim are put one after another.
use Rattle.std.proofs.Common.{◌≡◌, ℕ, ◌+◌, ◌-◌, ◌<◌, ◌≤◌, true, List, [], ◌∷◌, ◌++◌, length, get_or, take, drop, Ok, Err, Result, sym, refl, ap, ◌∙◌, subst, ap₂, append-nil, arith}
use Rattle.std.proofs.lemmas.List.{drop_more, drop_all}
use Rattle.refusal.specs.declared.faults.CertificateRefusal.{CertificateRefusal}
use Rattle.stack.specs.declared.spans.Span.{Span}
use Rattle.stack.specs.declared.Stack.{Stack}
use Rattle.resolution.specs.Outcomes as refutation
use Rattle.frames.specs.declared.frames.Frames.{Frames}
use Rattle.frames.specs.Held.{flat}
use Rattle.certificate.specs.declared.record.Record.{Record}
use Rattle.certificate.specs.Records.{encodes}
use Rattle.certificate.proofs.Codes.{longer}
use Rattle.opening.specs.declared.opening.Opening.{Opening}
use Rattle.opening.specs.Steps.{clauses_in}
use Rattle.opening.specs.Views.{held, Settled}
use Rattle.opening.proofs.HeldFrames.{clauses_used, literals_used}
use Rattle.refuting.specs.declared.Below.{Below}
use Rattle.refuting.specs.Rooms as rooms
use Rattle.refuting.specs.Rooms.{Room, Ready}
use Rattle.refuting.specs.Reading.{refutation_read}
use Rattle.refuting.specs.Checked.{Checked}
use Rattle.refuting.proofs.Loop.{still}
use Rattle.checking.specs.Begun.{Begun, Puts}
use Rattle.checking.specs.Asked.{room_above}
use Rattle.checking.specs.Verdicts.{ending, refuted}
use Rattle.checking.proofs.Endings.{refuted_goes, refuted_stops}

-- a record has a byte at least
pub enough : (rs : List Record) → length rs ≤ length (encodes rs)
enough [] = omega arith
enough (r ∷ rs) = omega (arith, enough rs, longer r (encodes (r ∷ rs)) (encodes rs) refl)

-- after so many questions, the others come to what all come to
pub record Going (qs : List (List (List ℕ))) (room : Room) (size : ℕ) (first : List ℕ) (k₀ number : ℕ) (rest : List ℕ) (at k : ℕ) : Type 0 where
  pub taken : at + length rest ≡ size
  pub same : refuted qs room 0 size first k₀ ≡ refuted (drop number qs) room number size rest k

pub going_none : (qs : List (List (List ℕ))) (room : Room) (first : List ℕ) (k₀ at : ℕ) → Going qs room (at + length first) first k₀ 0 first at k₀
going_none qs room first k₀ at = record { taken = refl; same = refl }

module _ (qs : List (List (List ℕ))) (room : Room) (size : ℕ) (first : List ℕ) (k₀ number : ℕ) (rest : List ℕ) (at k : ℕ) (q : Going qs room size first k₀ number rest at k) where
  -- a refutation of the next question was read
  module _ (inside : number < length qs) (list : List (List ℕ)) (is : list ≡ get_or qs number []) (there : Room) (same_room : there ≡ room)
      (left ls ms : List ℕ) (ps ts : List Span) (r : Result ℕ CertificateRefusal) (c : Checked list there (number + 1) at rest left ls ms ps ts r) where
    next : refuted qs room 0 size first k₀ ≡ refuted (get_or qs number [] ∷ drop (number + 1) qs) room number size rest k
    next = q.same ∙ ap (λ (x : List (List (List ℕ))). refuted x room number size rest k) (drop_more qs number [] inside)

    read_is : refutation_read (get_or qs number []) room (number + 1) (size - length rest) rest ≡ record { answer = r; left = left }
    read_is =
        let t = q.taken in
        let o : size - length rest ≡ at = omega arith in
        ap (λ (x : List (List ℕ)). refutation_read x room (number + 1) (size - length rest) rest) (sym is)
        ∙ ap (λ (i : ℕ). refutation_read list room (number + 1) i rest) o
        ∙ ap (λ (x : Room). refutation_read list x (number + 1) at rest) (sym same_room)
        ∙ ap₂ (λ (a : Result ℕ CertificateRefusal) (x : List ℕ). record { answer = a; left = x }) (sym c.answer) (sym c.rest)

    pub going_stops : (x : CertificateRefusal) → r ≡ Err x → Err x ≡ refuted qs room 0 size first k₀
    going_stops x e =
        sym (next ∙ refuted_stops room (get_or qs number []) (drop (number + 1) qs) number size rest k x left
        (read_is ∙ ap (λ (a : Result ℕ CertificateRefusal). record { answer = a; left = left }) e))

    pub going_more : (count at' : ℕ) → r ≡ Ok count → at' + length left ≡ at + length rest → Going qs room size first k₀ (number + 1) left at' (k + count)
    going_more count at' e o = let t = q.taken in record {
      taken = omega arith;
      same = next ∙ refuted_goes room (get_or qs number []) (drop (number + 1) qs) number size rest k count left
          (read_is ∙ ap (λ (a : Result ℕ CertificateRefusal). record { answer = a; left = left }) e);
    }

  pub going_end : length qs ≤ number → refuted qs room 0 size first k₀ ≡ ending number (at + length rest) rest k
  unfolding refuted
  going_end h =
      q.same ∙ ap (λ (x : List (List (List ℕ))). refuted x room number size rest k) (drop_all number qs h)
      ∙ ap (λ (i : ℕ). ending number i rest k) (sym q.taken)

-- areas as long as these, with the same below the marks of the frames
pub record Kept (f : Frames) (ls ms : List ℕ) (ps qs : List Span) : Type 0 where
  pub literals_long : length ms ≡ length ls
  pub spans_long : length qs ≡ length ps
  pub literals : take f.literals.used ms ≡ take f.literals.used ls
  pub spans : take f.spans.used qs ≡ take f.spans.used ps

pub kept_none : (f : Frames) (ls : List ℕ) (ps : List Span) → Kept f ls ls ps ps
kept_none f ls ps = record { literals_long = refl; spans_long = refl; literals = refl; spans = refl }

module _ (f : Frames) (ls ms : List ℕ) (ps qs : List Span) (settled : Settled f ls ps) (k : Kept f ls ms ps qs) (below : Below) (l : below.literals ≡ f.literals) (s : below.spans ≡ f.spans) where
  literals_below : length (flat (clauses_in (held f ls ps))) ≡ f.literals.used
  literals_below =
      sym (ap (λ (x : List (List ℕ)). length (flat x)) (append-nil (clauses_in (held f ls ps))))
      ∙ omega (
        arith,
        ap (λ (x : List (List ℕ)). length (flat (clauses_in (held f ls ps) ++ x))) settled.frame,
        ap (λ (x : List ℕ). length x) settled.clause,
        literals_used f ls ps settled.stacked,
      )

  spans_below : length (clauses_in (held f ls ps)) ≡ f.spans.used
  spans_below =
      sym (ap (λ (x : List (List ℕ)). length x) (append-nil (clauses_in (held f ls ps))))
      ∙ sym (ap (λ (x : List (List ℕ)). length (clauses_in (held f ls ps) ++ x)) settled.frame) ∙ clauses_used f ls ps settled.stacked

  -- the room above the frames, wherever the areas stand now
  pub same_room : rooms.room_above below ms qs ≡ room_above (length ls) (length ps) (held f ls ps)
  same_room =
      ap₂ (λ (x y : ℕ). record { literals = x; spans = y; literals_below = below.literals.used; spans_below = below.spans.used }) k.literals_long k.spans_long
      ∙ ap₂ (λ (x y : ℕ). record { literals = length ls; spans = length ps; literals_below = x; spans_below = y })
      (ap (λ (x : Stack). x.used) l ∙ sym literals_below) (ap (λ (x : Stack). x.used) s ∙ sym spans_below)

  pub ready : (literal-mark span-mark : ℕ) → literal-mark ≤ f.literals.used → span-mark ≤ f.spans.used → refutation.admitted (length ls) (length ps) ≡ true → Ready literal-mark span-mark (rooms.room_above below ms qs)
  ready x y a b h =
      let u = ap (λ (z : Stack). z.used) l in
      let v = ap (λ (z : Stack). z.used) s in
      let st = settled.stacked in
      let m = k.literals_long in
      let n = k.spans_long in
      record {
        list_literals = omega arith;
        list_spans = omega arith;
        literals = omega (arith, st.literals_fit);
        spans = omega (arith, st.spans_fit);
        admits = ap₂ refutation.admitted k.literals_long k.spans_long ∙ h;
      }

  pub kept_more : {list : List (List ℕ)} {question offset : ℕ} {bytes left : List ℕ} {ns : List ℕ} {ts : List Span} {r : Result ℕ CertificateRefusal} →
      Checked list (rooms.room_above below ms qs) question offset bytes left ms ns qs ts r → length ns ≡ length ms → length ts ≡ length qs → Kept f ls ns ps ts
  kept_more {ns = ns} {ts = ts} c a b = record {
    literals_long = a ∙ k.literals_long;
    spans_long = b ∙ k.spans_long;
    literals = subst (λ (i : Stack). take i.used ns ≡ take i.used ms) l c.literals ∙ k.literals;
    spans = subst (λ (i : Stack). take i.used ts ≡ take i.used qs) s c.spans ∙ k.spans;
  }

-- the questions so far were put, and the areas are as the frames left them
abbrev pub UnderWay : Frames → List ℕ → List Span → List (List (List ℕ)) → ℕ → List ℕ → ℕ → ℕ → List ℕ → ℕ → ℕ → List ℕ → List Span → Type 0
UnderWay f ls ps qs size first k₀ number rest at k ms ts = Going qs (room_above (length ls) (length ps) (held f ls ps)) size first k₀ number rest at k × Kept f ls ms ps ts

-- after the last question
pub questions_end : (f : Frames) (ls : List ℕ) (ps : List Span) (qs : List (List (List ℕ))) (size : ℕ) (first : List ℕ) (k₀ number : ℕ) (rest : List ℕ) (at k : ℕ) (ms : List ℕ) (ts : List Span) →
    UnderWay f ls ps qs size first k₀ number rest at k ms ts → (count : ℕ) → count ≡ length qs → count ≤ number → number ≤ count →
    ending count (at + length rest) rest k ≡ refuted qs (room_above (length ls) (length ps) (held f ls ps)) 0 size first k₀
questions_end f ls ps qs size first k₀ number rest at k ms ts w count counts a b =
    let n : count ≡ number = omega arith in
    ap (λ (i : ℕ). ending i (at + length rest) rest k) n ∙ sym (going_end qs _ _ _ _ number rest at k w.0 (omega arith))

-- one question more, of which a list was given
module _ {X : Type 0} (gives : ℕ → X → Type 0) (clauses : X → List ℕ → List Span → List (List ℕ)) (literal-mark span-mark : X → ℕ)
    (stands : (x : X) (ls ms : List ℕ) (ps qs : List Span) → take (literal-mark x) ms ≡ take (literal-mark x) ls → take (span-mark x) qs ≡ take (span-mark x) ps → clauses x ms qs ≡ clauses x ls ps)
    (o : Opening) (offset : ℕ) (ls : List ℕ) (ps : List Span) (begun : Begun o offset ls ps) (total : ℕ) (qs : List (List (List ℕ))) (puts : Puts gives clauses literal-mark span-mark o.frames ls ps total qs)
    (below : Below) (l : below.literals ≡ o.frames.literals) (s : below.spans ≡ o.frames.spans)
    (size : ℕ) (first : List ℕ) (k₀ number : ℕ) (rest : List ℕ) (at k : ℕ) (ms : List ℕ) (ts : List Span) (w : UnderWay o.frames ls ps qs size first k₀ number rest at k ms ts)
    (inside : number < total) (x : X) (given : gives number x) where
  within : number < length qs
  within = omega (arith, puts.all)

  question_ready : Ready (literal-mark x) (span-mark x) (rooms.room_above below ms ts)
  question_ready = ready o.frames ls ms ps ts begun.settled w.1 below l s (literal-mark x) (span-mark x) (puts.literals number x inside given) (puts.spans number x inside given) begun.admits

  asks : clauses x ms ts ≡ get_or qs number []
  asks =
      still (clauses x) (literal-mark x) (span-mark x) (stands x) (rooms.room_above below ms ts) question_ready ls ms ps ts
      (subst (λ (i : Stack). take i.used ms ≡ take i.used ls) (sym l) w.1.literals) (subst (λ (i : Stack). take i.used ts ≡ take i.used ps) (sym s) w.1.spans)
      ∙ puts.each number x inside given

  module _ (left ns : List ℕ) (us : List Span) (r : Result ℕ CertificateRefusal)
      (checked : Ready (literal-mark x) (span-mark x) (rooms.room_above below ms ts) → Checked (clauses x ms ts) (rooms.room_above below ms ts) (number + 1) at rest left ms ns ts us r) where
    pub question_stops : (e : CertificateRefusal) → r ≡ Err e → Err e ≡ refuted qs (room_above (length ls) (length ps) (held o.frames ls ps)) 0 size first k₀
    question_stops =
        going_stops qs _ size first k₀ number rest at k w.0 within (clauses x ms ts) asks
        _ (same_room o.frames ls ms ps ts begun.settled w.1 below l s) left ms ns ts us r (checked question_ready)

    pub question_goes : (count at' : ℕ) → r ≡ Ok count → at' + length left ≡ at + length rest → length ns ≡ length ms → length us ≡ length ts →
        UnderWay o.frames ls ps qs size first k₀ (number + 1) left at' (k + count) ns us
    question_goes count at' e f a b = (
      going_more qs _ size first k₀ number rest at k w.0 within (clauses x ms ts) asks
          _ (same_room o.frames ls ms ps ts begun.settled w.1 below l s) left ms ns ts us r (checked question_ready) count at' e f,
      kept_more o.frames ls ms ps ts begun.settled w.1 below l s (checked question_ready) a b,
    )
