-- Fields are read exactly where they stand in the text.
use Rattle.std.proofs.Common.{◌≡◌, ℕ, ◌+◌, ◌<◌, Bool, true, false, cond, ◌&&◌, eqb, ltb, List, [], ◌∷◌, ◌++◌, length, get_or, drop, Some, None, decimal, Option, sym, refl, ap, ◌∙◌, subst, add-zero, arith}
use Rattle.std.proofs.lemmas.Bool.{and_parts, and_from, ltb-true, eqb-true, lt-ltb, eq-eqb, cond-true}
use Rattle.std.proofs.lemmas.List.{length-drop, get_or-drop, drop_more}
use Rattle.decimal.specs.Number.{is_digit, number_of, Stops}
use Rattle.decimal.proofs.Exactness.{number_reads, number_written}
use Rattle.circuit_text.specs.Chains.{and_then}
use Rattle.circuit_text.specs.Fields.{end_of_byte, end_of_line, number_at, spaced_at}
use Rattle.circuit_text.specs.Printed.{spaced, line}
use Rattle.circuit_text.proofs.Chains.{came}
use Rattle.circuit_text.proofs.Places.{Here, here_from, here_join, here_split}

-- a choice that is there was taken
pub taken : {X : Type 0} (b : Bool) (x y : X) → cond b (Some x) None ≡ Some y → (b ≡ true) × (x ≡ y)
taken true x y e = (refl, cc)
taken false x y e = absurd (let z : ◌≡◌ {A = ℕ} 0 1 = cc in omega arith)

pub byte_in : (text : List ℕ) (at byte end : ℕ) → Here text at (byte ∷ []) end → end_of_byte byte text at ≡ Some end
unfolding end_of_byte
byte_in text at byte end h =
    let inside : at < length text = omega (arith, ap length h.bytes_here, length-drop at text) in
    let is : get_or text at 0 ≡ byte =
    sym (get_or-drop at text 0 0 ∙ ap (λ i. get_or text i 0) (add-zero at)) ∙ ap (λ (l : List ℕ). get_or l 0 0) h.bytes_here in
    cond-true (ltb at (length text) && eqb (get_or text at 0) byte) (Some (at + 1)) None
    (and_from (ltb at (length text)) (eqb (get_or text at 0) byte) (lt-ltb at (length text) inside) (eq-eqb (get_or text at 0) byte is))
    ∙ ap (λ (n : ℕ). Some n) (sym h.size)

pub byte_out : (text : List ℕ) (at byte end : ℕ) → end_of_byte byte text at ≡ Some end → Here text at (byte ∷ []) end
unfolding end_of_byte
byte_out text at byte end e =
    let t = taken (ltb at (length text) && eqb (get_or text at 0) byte) (at + 1) end e in
    let p = and_parts (ltb at (length text)) (eqb (get_or text at 0) byte) t.0 in
    record {
      bytes_here = drop_more text at 0 (ltb-true at (length text) p.0)
          ∙ (ap (λ (x : ℕ). x ∷ drop (at + 1) text) (eqb-true (get_or text at 0) byte p.1) ∙ ap (λ (n : ℕ). byte ∷ drop n text) t.1);
      size = sym t.1;
    }

-- no digit follows a number
after_number : (ns : List ℕ) (rest : List ℕ) → Stops (spaced ns ++ rest)
unfolding spaced
after_number [] rest = refl
after_number (n ∷ ns) rest = refl

pub number_in : (text : List ℕ) (at n mid : ℕ) (ns : List ℕ) (end : ℕ) → n < 10000000
    → Here text at (decimal n) mid → Here text mid (spaced ns) end → number_at text at ≡ Some (n, mid)
unfolding number_at
number_in text at n mid ns end small h after =
    let stops : Stops (drop mid text) = ap (λ (l : List ℕ). is_digit (get_or l 0 0)) after.bytes_here ∙ after_number ns (drop end text) in
    let read : number_of (drop at text) ≡ Some (n, length (decimal n)) =
    number_reads (drop at text) n (length (decimal n)) record { rest = drop mid text; here = h.bytes_here; size = refl; fits = omega arith; stops = stops } in
    ap (λ (o : Option (ℕ × ℕ)). and_then o (λ p. cond (ltb p.0 10000000) (Some (p.0, at + p.1)) None)) read
    ∙ (cond-true (ltb n 10000000) (Some (n, at + length (decimal n))) None (lt-ltb n 10000000 small) ∙ ap (λ (m : ℕ). Some (n, m)) (sym h.size))

pub number_out : (text : List ℕ) (at n end : ℕ) → number_at text at ≡ Some (n, end) → (n < 10000000) × Here text at (decimal n) end
unfolding number_at
number_out text at n end e =
    let c = came (number_of (drop at text)) (λ p. cond (ltb p.0 10000000) (Some (p.0, at + p.1)) None) (n, end) e in
    let v = c.0.0 in
    let k = c.0.1 in
    let t = taken (ltb v 10000000) (v, at + k) (n, end) c.2 in
    let vn : v ≡ n = ap (λ (p : ℕ × ℕ). p.0) t.1 in
    let kend : at + k ≡ end = ap (λ (p : ℕ × ℕ). p.1) t.1 in
    let w = number_written (drop at text) v k c.1 in
    let h : Here text at (decimal v) (at + length (decimal v)) = here_from text at (decimal v) w.rest w.here in
    let P : ℕ → Type 0 = λ m. Here text at (decimal m) end in
    let same : at + length (decimal v) ≡ end = ap (λ (m : ℕ). at + m) (sym w.size) ∙ kend in
    (omega (arith, ltb-true v 10000000 t.0, vn), subst P vn (subst (λ m. Here text at (decimal v) m) same h))

-- the fields of a line, from the left
pub first_in : (text : List ℕ) (at n : ℕ) (ns : List ℕ) (end : ℕ) → n < 10000000 → Here text at (line n ns) end
    → (mid : ℕ) × (number_at text at ≡ Some (n, mid)) × Here text mid (spaced ns) end
first_in text at n ns end small h =
    let s = here_split text at (decimal n) (spaced ns) end h in
    (s.0, number_in text at n s.0 ns end small s.1 s.2, s.2)

pub spaced_in : (text : List ℕ) (at n : ℕ) (ns : List ℕ) (end : ℕ) → n < 10000000 → Here text at (spaced (n ∷ ns)) end
    → (mid : ℕ) × (spaced_at text at ≡ Some (n, mid)) × Here text mid (spaced ns) end
unfolding spaced spaced_at
spaced_in text at n ns end small h =
    let s = here_split text at (32 ∷ []) (decimal n ++ spaced ns) end h in
    let f = first_in text s.0 n ns end small s.2 in
    (f.0, ap (λ (o : Option ℕ). and_then o (number_at text)) (byte_in text at 32 s.0 s.1) ∙ f.1, f.2)

pub end_in : (text : List ℕ) (at end : ℕ) → Here text at (spaced []) end → end_of_line text at ≡ Some end
unfolding spaced
end_in text at end h = byte_in text at 10 end h

-- and from the right
pub first_out : (text : List ℕ) (at n mid : ℕ) (ns : List ℕ) (end : ℕ) → number_at text at ≡ Some (n, mid) → Here text mid (spaced ns) end → Here text at (line n ns) end
first_out text at n mid ns end e h = here_join text at (decimal n) mid (spaced ns) end (number_out text at n mid e).1 h

pub spaced_out : (text : List ℕ) (at n mid : ℕ) (ns : List ℕ) (end : ℕ) → spaced_at text at ≡ Some (n, mid) → Here text mid (spaced ns) end → Here text at (spaced (n ∷ ns)) end
unfolding spaced spaced_at
spaced_out text at n mid ns end e h =
    let c = came (end_of_byte 32 text at) (number_at text) (n, mid) e in
    here_join text at (32 ∷ []) c.0 (decimal n ++ spaced ns) end (byte_out text at 32 c.0 c.1) (first_out text c.0 n mid ns end c.2 h)

pub end_out : (text : List ℕ) (at end : ℕ) → end_of_line text at ≡ Some end → Here text at (spaced []) end
unfolding spaced
end_out text at end e = byte_out text at 10 end e
