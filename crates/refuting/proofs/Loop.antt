-- The loop over the records of a refutation.
use Rattle.std.proofs.Common.{◌≡◌, ℕ, zero, suc, ◌+◌, ◌-◌, ◌<◌, ◌≤◌, List, [], ◌∷◌, ◌++◌, length, take, IfOk, Some, None, Ok, Err, Result, sym, refl, ap, ◌∙◌, subst, append_assoc, arith}
use Rattle.std.proofs.lemmas.List.{take-take, length_push}
use Rattle.refusal.specs.declared.faults.CertificateFault.{CertificateFault}
use Rattle.refusal.specs.declared.faults.CertificateFault.TheVariants.{NoRecord}
use Rattle.refusal.specs.declared.faults.CertificateRefusal.{CertificateRefusal}
use Rattle.stack.specs.declared.spans.Span.{Span}
use Rattle.resolution.specs.declared.refutation.Refutation.{Refutation}
use Rattle.resolution.specs.Clauses.{Unsat}
use Rattle.resolution.specs.States.{own, fresh, Standing, Follows}
use Rattle.resolution.proofs.Owned.{fresh_stands}
use Rattle.certificate.specs.declared.record.Record.{Record}
use Rattle.certificate.specs.Records.{encode, encodes, read}
use Rattle.certificate.specs.declared.record.Record.TheVariants.{RefutationEnd}
use Rattle.refuting.specs.Rooms.{Room, room_of, Ready}
use Rattle.refuting.specs.Reading.{made, move, Outcome, refused, reading, refutation_read}
use Rattle.refuting.specs.Moves.{Made, Moved}
use Rattle.refuting.specs.Refutations.{Step, Leads, record_of, records, Shows}
use Rattle.refuting.specs.Checked.{Checked}
use Rattle.refuting.proofs.Moving.{from_fault, from_end, from_next}
use Rattle.refuting.proofs.Turns.{reading_none, reading_stops, reading_ends, reading_goes}
use Rattle.refuting.proofs.Stepping.{move_steps, move_ends, end_makes_none, ends_empty}
use Rattle.refuting.proofs.Accepting.{accepts}

-- what is the same up to a mark is the same up to a lower one
take_lower : {X : Type 0} (m n : ℕ) (xs ys : List X) → m ≤ n → take n xs ≡ take n ys → take m xs ≡ take m ys
take_lower m n xs ys h e = sym (take-take m n xs h) ∙ ap (take m) e ∙ take-take m n ys h

-- a list that reads only below the refutation has the same clauses
pub still : (clauses : List ℕ → List Span → List (List ℕ)) (m n : ℕ)
    → ((ls ms : List ℕ) (ps qs : List Span) → take m ms ≡ take m ls → take n qs ≡ take n ps → clauses ms qs ≡ clauses ls ps)
    → (room : Room) → Ready m n room → (ls ms : List ℕ) (ps qs : List Span)
    → take room.literals_below ms ≡ take room.literals_below ls → take room.spans_below qs ≡ take room.spans_below ps → clauses ms qs ≡ clauses ls ps
still clauses m n stands room h ls ms ps qs a b =
    stands ls ms ps qs (take_lower m room.literals_below ms ls h.list_literals a) (take_lower n room.spans_below qs ps h.list_spans b)

-- bytes that begin with the records of a refutation whose first clauses are made
pub record RestIn (list : List (List ℕ)) (room : Room) (own : List (List ℕ)) (bytes left : List ℕ) (count : ℕ) : Type 0 where
  pub steps : List Step
  pub before : List (List ℕ)
  pub written : bytes ≡ encodes (records steps) ++ left
  pub leads : Leads list room own steps (before ++ [] ∷ [])
  pub counted : count ≡ length (records steps)

-- the records up to here made the clauses so far, and the others come to what all come to
pub record Running (list : List (List ℕ)) (room : Room) (question offset : ℕ) (bytes : List ℕ) (ls₀ : List ℕ) (ps₀ : List Span) (t : Refutation) (ls : List ℕ) (ps : List Span) (rest : List ℕ) (k : ℕ) : Type 0 where
  pub room_is : room_of t ls ps ≡ room
  pub stands : Standing t ls ps
  pub literals : take room.literals_below ls ≡ take room.literals_below ls₀
  pub spans : take room.spans_below ps ≡ take room.spans_below ps₀
  pub follows : Follows list (own t ls ps)
  pub counted : k ≡ length (own t ls ps)
  pub behind : (left : List ℕ) (n : ℕ) → RestIn list room (own t ls ps) rest left n → RestIn list room [] bytes left (k + n)
  pub fuel : ℕ
  pub enough : length rest ≤ fuel
  pub same : refutation_read list room question offset bytes ≡ reading list room question (offset + length bytes) (suc fuel) rest (own t ls ps)

-- before the first record
pub begins : (list : List (List ℕ)) (m n question offset : ℕ) (bytes : List ℕ) (t : Refutation) (ls : List ℕ) (ps : List Span) → t ≡ fresh t.floor t.first → Ready m n (room_of t ls ps) →
    Running list (room_of t ls ps) question offset bytes ls ps t ls ps bytes 0
begins list m n question offset bytes t ls ps e h =
    let f = fresh_stands t.floor t.first ls ps h.literals h.spans h.admits in
    let none : own t ls ps ≡ [] = ap (λ (z : Refutation). own z ls ps) e ∙ f.1 in
    record {
      room_is = refl;
      stands = subst (λ (z : Refutation). Standing z ls ps) (sym e) f.0;
      literals = refl;
      spans = refl;
      follows = subst (Follows list) (sym none) tt;
      counted = ap length (sym none);
      behind = λ left n q. record { steps = q.steps; before = q.before; written = q.written; leads = subst (λ (z : List (List ℕ)). Leads list (room_of t ls ps) z q.steps (q.before ++ [] ∷ [])) none q.leads; counted = omega (arith, q.counted) };
      fuel = length bytes;
      enough = omega arith;
      same = ap (reading list (room_of t ls ps) question (offset + length bytes) (suc (length bytes)) bytes) (sym none);
    }

module _ (clauses : List ℕ → List Span → List (List ℕ)) (m n : ℕ)
    (stands : (ls ms : List ℕ) (ps qs : List Span) → take m ms ≡ take m ls → take n qs ≡ take n ps → clauses ms qs ≡ clauses ls ps)
    (room : Room) (question offset : ℕ) (bytes : List ℕ) (ls₀ : List ℕ) (ps₀ : List Span) (h : Ready m n room) where
  abbrev list : List (List ℕ)
  list = clauses ls₀ ps₀

  checked : (r : Result ℕ CertificateRefusal) (left ms : List ℕ) (qs : List Span) → refutation_read list room question offset bytes ≡ record { answer = r; left = left }
      → take room.literals_below ms ≡ take room.literals_below ls₀ → take room.spans_below qs ≡ take room.spans_below ps₀
      → IfOk r (λ _. Unsat list) → Shows list room bytes left r → Checked list room question offset bytes left ls₀ ms ps₀ qs r
  checked r left ms qs e a b u s = record {
    answer = sym (ap (λ (o : Outcome). o.answer) e);
    rest = sym (ap (λ (o : Outcome). o.left) e);
    literals = a;
    spans = b;
    refuted = u;
    shown = s;
    taken = λ count after q.
        let w = sym e ∙ accepts list room question offset bytes after count h.admits q in
        (ap (λ (o : Outcome). o.answer) w, ap (λ (o : Outcome). o.left) w);
  }

  module _ (t : Refutation) (ls : List ℕ) (ps : List Span) (rest : List ℕ) (at k : ℕ) (total : at + length rest ≡ offset + length bytes)
      (q : Running list room question offset bytes ls₀ ps₀ t ls ps rest k) where
    offset_is : (offset + length bytes) - length rest ≡ at
    offset_is = omega arith

    refused_is : (f : CertificateFault) → refused question (offset + length bytes) rest f ≡ Err (record { fault = f; offset = at; question = question })
    refused_is f = ap (λ (i : ℕ). Err (record { fault = f; offset = i; question = question })) offset_is

    -- no record
    pub out_none : (after : List ℕ) → after ≡ rest → read rest ≡ None → Checked list room question offset bytes after ls₀ ls ps₀ ps (Err (record { fault = NoRecord; offset = at; question = question }))
    out_none after e is =
        checked (Err (record { fault = NoRecord; offset = at; question = question })) after ls ps
        (q.same ∙ reading_none list room question (offset + length bytes) q.fuel rest (own t ls ps) is
        ∙ ap (λ (x : Result ℕ CertificateRefusal). record { answer = x; left = rest }) (refused_is NoRecord)
        ∙ ap (λ (x : List ℕ). record { answer = Err (record { fault = NoRecord; offset = at; question = question }); left = x }) (sym e))
        q.literals q.spans tt tt

    abbrev now : List (List ℕ)
    now = clauses ls ps

    -- the list has the clauses that it had before
    same : now ≡ list
    same = still clauses m n stands room h ls₀ ls ps₀ ps q.literals q.spans

    module _ (u : Refutation) (ms : List ℕ) (qs : List Span) (r : Record) (after : List ℕ) (is : read rest ≡ Some (r, after)) where
      -- what the record did, by the list and the room of the whole refutation
      here : (x : Result (Unit {0}) CertificateFault) → Moved now t u ls ms ps qs (move now (room_of t ls ps) (own t ls ps) r) x → Moved list t u ls ms ps qs (move list room (own t ls ps) r) x
      here x w =
          subst (λ (z : List (List ℕ)). Moved z t u ls ms ps qs (move z room (own t ls ps) r) x) same
          (subst (λ (z : Room). Moved now t u ls ms ps qs (move now z (own t ls ps) r) x) q.room_is w)

      -- a record that is refused
      pub out_stop : (f : CertificateFault) → Moved now t u ls ms ps qs (move now (room_of t ls ps) (own t ls ps) r) (Err f) →
          Checked list room question offset bytes after ls₀ ms ps₀ qs (Err (record { fault = f; offset = at; question = question }))
      out_stop f w =
          let p = from_fault list t u ls ms ps qs (move list room (own t ls ps) r) f (here (Err f) w) in
          checked (Err (record { fault = f; offset = at; question = question })) after ms qs
          (q.same ∙ reading_stops list room question (offset + length bytes) q.fuel rest (own t ls ps) r after is f p.0 ∙ ap (λ (x : Result ℕ CertificateRefusal). record { answer = x; left = after }) (refused_is f))
          (ap (take room.literals_below) p.1 ∙ q.literals) (ap (take room.spans_below) p.2 ∙ q.spans) tt tt

      -- the end
      pub out_end : rest ≡ encode r ++ after → r ≡ RefutationEnd → Moved now t u ls ms ps qs (move now (room_of t ls ps) (own t ls ps) r) (Ok tt) → Checked list room question offset bytes after ls₀ ms ps₀ qs (Ok (k + 1))
      out_end wrote ends w =
          let p = from_end list t u ls ms ps qs (move list room (own t ls ps) r) (end_makes_none list room (own t ls ps) r ends) (here (Ok tt) w) in
          let e = move_ends list room (own t ls ps) r p.0 in
          let c = ends_empty (own t ls ps) e.1 in
          let b = q.behind after 1 (record { steps = []; before = take (length (own t ls ps) - 1) (own t ls ps); written = wrote ∙ ap (λ (x : Record). encode x ++ after) e.0; leads = c; counted = refl }) in
          checked (Ok (k + 1)) after ms qs
          (q.same ∙ reading_ends list room question (offset + length bytes) q.fuel rest (own t ls ps) r after is p.0 ∙ ap (λ (x : ℕ). record { answer = Ok (x + 1); left = after }) (sym q.counted))
          (ap (take room.literals_below) p.1 ∙ q.literals) (ap (take room.spans_below) p.2 ∙ q.spans) (p.3 q.follows)
          (record { steps = b.steps; written = b.written; refutes = record { before = b.before; leads = b.leads }; counted = b.counted })

      -- one clause more
      room_kept : (c : List ℕ) → Made list t u ls ms ps qs c (Ok tt) → length ms ≡ length ls → length qs ≡ length ps → room_of u ms qs ≡ room
      room_kept c g a b =
          ap (λ (i : ℕ). record { literals = i; spans = length qs; literals_below = u.floor; spans_below = u.first }) a
          ∙ ap (λ (i : ℕ). record { literals = length ls; spans = i; literals_below = u.floor; spans_below = u.first }) b
          ∙ ap (λ (i : ℕ). record { literals = length ls; spans = length ps; literals_below = i; spans_below = u.first }) g.floor
          ∙ ap (λ (i : ℕ). record { literals = length ls; spans = length ps; literals_below = t.floor; spans_below = i }) g.first
          ∙ q.room_is

      module _ (wrote : rest ≡ encode r ++ after) (c : List ℕ) (made_is : move list room (own t ls ps) r ≡ Ok (made c)) (clauses-is : own u ms qs ≡ own t ls ps ++ c ∷ []) where
        behind_more : (left : List ℕ) (n : ℕ) → RestIn list room (own u ms qs) after left n → RestIn list room [] bytes left (k + 1 + n)
        behind_more left n g =
            let s = move_steps list room (own t ls ps) r c made_is in
            let b = q.behind left (suc n) (record {
              steps = s.step ∷ g.steps;
              before = g.before;
              written = wrote ∙ ap (λ (x : Record). encode x ++ after) s.is ∙ ap (λ (x : List ℕ). encode (record_of s.step) ++ x) g.written
                  ∙ sym (append_assoc (encode (record_of s.step)) (encodes (records g.steps)) left);
              leads = (c, s.makes, s.fitting, subst (λ (z : List (List ℕ)). Leads list room z g.steps (g.before ++ [] ∷ [])) clauses-is g.leads);
              counted = ap suc g.counted;
            }) in
            let e : k + suc n ≡ k + 1 + n = omega arith in
            subst (RestIn list room [] bytes left) e b

      on : (r ≡ RefutationEnd → ⊥) → length after < length rest → length ms ≡ length ls → length qs ≡ length ps → rest ≡ encode r ++ after → Moved now t u ls ms ps qs (move now (room_of t ls ps) (own t ls ps) r) (Ok tt) →
          (fuel : ℕ) → length rest ≤ fuel → refutation_read list room question offset bytes ≡ reading list room question (offset + length bytes) (suc fuel) rest (own t ls ps) →
          Running list room question offset bytes ls₀ ps₀ u ms qs after (k + 1)
      on more shorter a b wrote w zero enough e = absurd (omega arith)
      on more shorter a b wrote w (suc fuel) enough e =
          let p = from_next list t u ls ms ps qs (move list room (own t ls ps) r) (λ e. more (move_ends list room (own t ls ps) r e).0) (here (Ok tt) w) in
          let g = p.2 in
          let l : t.floor ≡ room.literals_below = ap (λ (z : Room). z.literals_below) q.room_is in
          let s : t.first ≡ room.spans_below = ap (λ (z : Room). z.spans_below) q.room_is in
          let n = q.counted in
          record {
            room_is = room_kept p.0 g a b;
            stands = g.goes_on.stands;
            literals = subst (λ (i : ℕ). take i ms ≡ take i ls) l g.goes_on.kept.literals ∙ q.literals;
            spans = subst (λ (i : ℕ). take i qs ≡ take i ps) s g.goes_on.kept.spans ∙ q.spans;
            follows = g.follows q.follows;
            counted = omega (arith, ap length g.goes_on.clauses, length_push (own t ls ps) p.0);
            behind = behind_more wrote p.0 p.1 g.goes_on.clauses;
            fuel = fuel;
            enough = omega arith;
            same = e ∙ reading_goes list room question (offset + length bytes) (suc fuel) rest (own t ls ps) r after is p.0 p.1
                ∙ ap (reading list room question (offset + length bytes) (suc fuel) after) (sym g.goes_on.clauses);
          }

      pub goes : (r ≡ RefutationEnd → ⊥) → length after < length rest → length ms ≡ length ls → length qs ≡ length ps → rest ≡ encode r ++ after → Moved now t u ls ms ps qs (move now (room_of t ls ps) (own t ls ps) r) (Ok tt) →
          Running list room question offset bytes ls₀ ps₀ u ms qs after (k + 1)
      goes more shorter a b wrote w = on more shorter a b wrote w q.fuel q.enough q.same
