-- The refutations of questions and the end are read exactly where they are written.
use Rattle.std.proofs.Common.{◌≡◌, ℕ, ◌+◌, ◌-◌, Bool, true, false, cond, eqb, List, [], ◌∷◌, ◌++◌, length, Some, None, Ok, Err, Option, Result, sym, refl, ap, ◌∙◌, subst, append_assoc, arith}
use Rattle.std.specs.List.{flat_map}
use Rattle.std.proofs.lemmas.List.{length-append, nil_from_length}
use Rattle.std.proofs.lemmas.Bool.{eqb-true, cond-true, cond-false}
use Rattle.refusal.specs.declared.faults.CertificateFault.TheVariants.{NoRecord, OutOfPlace}
use Rattle.refusal.specs.declared.faults.CertificateRefusal.{CertificateRefusal}
use Rattle.resolution.specs.Outcomes.{admitted}
use Rattle.certificate.specs.declared.record.Record.{Record}
use Rattle.certificate.specs.declared.record.Record.TheVariants.{Claim, Literal, ClauseEnd, FrameEnd, Take, Resolve, RefutationEnd, Bit, RowEnd, End}
use Rattle.certificate.specs.Records.{encode, encodes, read, Bytes}
use Rattle.certificate.proofs.Codes.{reads, was_written}
use Rattle.certificate.proofs.Accepting.{err_ok}
use Rattle.refuting.specs.Rooms.{Room}
use Rattle.refuting.specs.Reading.{Outcome, refutation_read}
use Rattle.refuting.specs.Refutations.{Step, records}
use Rattle.refuting.proofs.Accepting.{accepts}
use Rattle.checking.specs.Lawful.{RefuteEach}
use Rattle.checking.specs.Verdicts.{is_ending, by_record, refused, ending, onward, refuted}
use Rattle.checking.proofs.Written.{encodes_append, bytes_behind}
use Rattle.checking.proofs.RefutationsRead.{refutation_in}

-- a test that let an answer through
pub when_ok : {X E : Type 0} (b : Bool) (r : Result X E) (e : E) (x : X) → cond b r (Err e) ≡ Ok x → (b ≡ true) × (r ≡ Ok x)
when_ok true r e x h = (refl, h)
when_ok false r e x h = absurd (err_ok h)

false_true : false ≡ true → ⊥
false_true e = let z : ◌≡◌ {A = ℕ} 0 1 = cc in omega arith

end_is : (r : Record) → is_ending r ≡ true → r ≡ End
end_is (Claim c n) e = absurd (false_true e)
end_is (Literal l) e = absurd (false_true e)
end_is ClauseEnd e = absurd (false_true e)
end_is FrameEnd e = absurd (false_true e)
end_is (Take n) e = absurd (false_true e)
end_is (Resolve l r p) e = absurd (false_true e)
end_is RefutationEnd e = absurd (false_true e)
end_is (Bit b) e = absurd (false_true e)
end_is RowEnd e = absurd (false_true e)
end_is End e = refl

pub no_ending : (r : Record) → (r ≡ End → ⊥) → is_ending r ≡ false
no_ending r n = cases (is_ending r) refl
  where
    cases : (b : Bool) → is_ending r ≡ b → is_ending r ≡ false
    cases true e = absurd (n (end_is r e))
    cases false e = e

module _ (number size : ℕ) (bytes : List ℕ) (k : ℕ) where
  abbrev ended : Option (Record × List ℕ) → Result ℕ CertificateRefusal
  ended o =
      by_record o (refused number size bytes NoRecord)
      (λ r after. cond (is_ending r) (cond (eqb (length after) 0) (Ok (k + 1)) (refused number size after OutOfPlace)) (refused number size bytes OutOfPlace))

  ending_by : (o : Option (Record × List ℕ)) → read bytes ≡ o → ending number size bytes k ≡ ended o
  unfolding ending
  ending_by o h = ap ended h

  by_end : (n : ℕ) (o : Option (Record × List ℕ)) → Bytes bytes → read bytes ≡ o → ended o ≡ Ok n → (bytes ≡ encodes (End ∷ [])) × (n ≡ k + 1)
  by_end n None b h e = absurd (err_ok e)
  by_end n (Some p) b h e =
      let u = when_ok (is_ending p.0) _ _ n e in
      let v = when_ok (eqb (length p.1) 0) (Ok (k + 1)) _ n u.1 in
      let f = v.1 in
      let s : k + 1 ≡ n = cc in (
        was_written bytes p.0 p.1 b h ∙ ap (λ (r : Record). encode r ++ p.1) (end_is p.0 u.0) ∙ ap (λ (x : List ℕ). 10 ∷ x) (nil_from_length p.1 (eqb-true (length p.1) 0 v.0)),
        sym s,
      )

  pub end_read : (n : ℕ) → Bytes bytes → ending number size bytes k ≡ Ok n → (bytes ≡ encodes (End ∷ [])) × (n ≡ k + 1)
  end_read n b e = by_end n (read bytes) b refl (sym (ending_by (read bytes) refl) ∙ e)

  -- each way out
  pub no_end : (at : ℕ) → at + length bytes ≡ size → read bytes ≡ None → Err (record { fault = NoRecord; offset = at; question = number }) ≡ ending number size bytes k
  no_end at t h = let o : at ≡ size - length bytes = omega arith in ap (λ (i : ℕ). Err (record { fault = NoRecord; offset = i; question = number })) o ∙ sym (ending_by None h)

  module _ (r : Record) (after : List ℕ) (h : read bytes ≡ Some (r, after)) where
    pub other_record : (at : ℕ) → at + length bytes ≡ size → is_ending r ≡ false → Err (record { fault = OutOfPlace; offset = at; question = number }) ≡ ending number size bytes k
    other_record at t e =
        let o : at ≡ size - length bytes = omega arith in
        ap (λ (i : ℕ). Err (record { fault = OutOfPlace; offset = i; question = number })) o
        ∙ sym (cond-false (is_ending r) _ _ e) ∙ sym (ending_by (Some (r, after)) h)

    pub byte_after : (at : ℕ) → at + length after ≡ size → is_ending r ≡ true → eqb (length after) 0 ≡ false → Err (record { fault = OutOfPlace; offset = at; question = number }) ≡ ending number size bytes k
    byte_after at t e f =
        let o : at ≡ size - length after = omega arith in
        ap (λ (i : ℕ). Err (record { fault = OutOfPlace; offset = i; question = number })) o
        ∙ sym (cond-false (eqb (length after) 0) _ _ f) ∙ sym (cond-true (is_ending r) _ _ e) ∙ sym (ending_by (Some (r, after)) h)

    pub at_end : is_ending r ≡ true → eqb (length after) 0 ≡ true → Ok (k + 1) ≡ ending number size bytes k
    at_end e f = sym (cond-true (eqb (length after) 0) _ _ f) ∙ sym (cond-true (is_ending r) _ _ e) ∙ sym (ending_by (Some (r, after)) h)

  pub end_ends : bytes ≡ encodes (End ∷ []) → ending number size bytes k ≡ Ok (k + 1)
  end_ends e = ending_by (Some (End, [])) (ap read e ∙ reads End [])

-- bytes that are refutations of these questions and then the end, in so many records after k
pub record Proved (room : Room) (qs : List (List (List ℕ))) (bytes : List ℕ) (k n : ℕ) : Type 0 where
  pub refutations : List (List Step)
  pub refutes : RefuteEach room qs refutations
  pub written : bytes ≡ encodes (flat_map records refutations ++ End ∷ [])
  pub counted : n ≡ k + length (flat_map records refutations ++ End ∷ [])

module _ (room : Room) (q : List (List ℕ)) (qs : List (List (List ℕ))) (number size : ℕ) (bytes : List ℕ) (k : ℕ) where
  abbrev read_first : Outcome
  read_first = refutation_read q room (number + 1) (size - length bytes) bytes

  -- one refutation, then the others
  pub refuted_goes : (count : ℕ) (left : List ℕ) → read_first ≡ record { answer = Ok count; left = left } →
      refuted (q ∷ qs) room number size bytes k ≡ refuted qs room (number + 1) size left (k + count)
  unfolding refuted
  refuted_goes count left e = ap (λ (o : Outcome). onward o.answer (λ c. refuted qs room (number + 1) size o.left (k + c))) e

  pub refuted_stops : (x : CertificateRefusal) (left : List ℕ) → read_first ≡ record { answer = Err x; left = left } → refuted (q ∷ qs) room number size bytes k ≡ Err x
  unfolding refuted
  refuted_stops x left e = ap (λ (o : Outcome). onward o.answer (λ c. refuted qs room (number + 1) size o.left (k + c))) e

  first_read : (n : ℕ) (x : Result ℕ CertificateRefusal) → Bytes bytes → read_first.answer ≡ x →
      ((left : List ℕ) (j : ℕ) → Bytes left → refuted qs room (number + 1) size left j ≡ Ok n → Proved room qs left j n) →
      refuted (q ∷ qs) room number size bytes k ≡ Ok n → Proved room (q ∷ qs) bytes k n
  first_read n (Err x) b f more e =
      absurd (err_ok (sym (refuted_stops x read_first.left (ap (λ (a : Result ℕ CertificateRefusal). record { answer = a; left = read_first.left }) f)) ∙ e))
  first_read n (Ok count) b f more e =
      let left = read_first.left in
      let is : read_first ≡ record { answer = Ok count; left = left } = ap (λ (a : Result ℕ CertificateRefusal). record { answer = a; left = left }) f in
      let r = refutation_in q room (number + 1) (size - length bytes) bytes left count b is in
      let p = more left (k + count) (bytes_behind (encodes (records r.steps)) left (subst Bytes r.written b)) (sym (refuted_goes count left is) ∙ e) in
      let rest = flat_map records p.refutations ++ End ∷ [] in
      record {
        refutations = r.steps ∷ p.refutations;
        refutes = (r.refutes, p.refutes);
        written = r.written ∙ ap (λ (x : List ℕ). encodes (records r.steps) ++ x) p.written ∙ sym (encodes_append (records r.steps) rest)
            ∙ ap encodes (sym (append_assoc (records r.steps) (flat_map records p.refutations) (End ∷ [])));
        counted = p.counted ∙ omega (arith, r.counted, length-append (records r.steps) rest, ap length (append_assoc (records r.steps) (flat_map records p.refutations) (End ∷ [])));
      }

pub refuted_proved : (room : Room) (qs : List (List (List ℕ))) (number size : ℕ) (bytes : List ℕ) (k n : ℕ) → Bytes bytes → refuted qs room number size bytes k ≡ Ok n → Proved room qs bytes k n
unfolding refuted
refuted_proved room [] number size bytes k n b e = let w = end_read number size bytes k n b e in record { refutations = []; refutes = tt; written = w.0; counted = w.1 }
refuted_proved room (q ∷ qs) number size bytes k n b e =
    first_read room q qs number size bytes k n (read_first room q qs number size bytes k).answer b refl (λ left j. refuted_proved room qs (number + 1) size left j n) e

-- and the other way round
pub proved_refuted : (room : Room) → admitted room.literals room.spans ≡ true → (qs : List (List (List ℕ))) (refutations : List (List Step)) (number size k : ℕ) → RefuteEach room qs refutations →
    refuted qs room number size (encodes (flat_map records refutations ++ End ∷ [])) k ≡ Ok (k + length (flat_map records refutations ++ End ∷ []))
unfolding refuted
proved_refuted room a [] [] number size k r = end_ends number size (encodes (End ∷ [])) k refl
proved_refuted room a [] (steps ∷ more) number size k r = absurd r
proved_refuted room a (q ∷ qs) [] number size k r = absurd r
proved_refuted room a (q ∷ qs) (steps ∷ more) number size k r =
    let rest = flat_map records more ++ End ∷ [] in
    let bytes = encodes ((records steps ++ flat_map records more) ++ End ∷ []) in
    let wrote : bytes ≡ encodes (records steps) ++ encodes rest = ap encodes (append_assoc (records steps) (flat_map records more) (End ∷ [])) ∙ encodes_append (records steps) rest in
    let first = accepts q room (number + 1) (size - length bytes) bytes (encodes rest) (length (records steps)) a (record { steps = steps; written = wrote; refutes = r.0; counted = refl }) in
    let count : k + length (records steps) + length rest ≡ k + length ((records steps ++ flat_map records more) ++ End ∷ []) =
    omega (arith, length-append (records steps) rest, ap length (append_assoc (records steps) (flat_map records more) (End ∷ []))) in
    refuted_goes room q qs number size bytes k (length (records steps)) (encodes rest) first
    ∙ proved_refuted room a qs more (number + 1) size (k + length (records steps)) r.1
    ∙ ap Ok count
