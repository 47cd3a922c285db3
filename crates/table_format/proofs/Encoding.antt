-- The answer is yes exactly where the bytes encode a table within bounds.
use Rattle.std.proofs.Common.{◌≡◌, ℕ, zero, suc, ◌+◌, ◌*◌, ◌/◌, ◌%◌, ◌^◌, ◌<◌, ◌≤◌, Bool, true, false, ◌&&◌, eqb, ltb, leb, List, [], ◌∷◌, ◌++◌, length, get_or, drop, IfOk, Ok, Err, Result, sym, refl, ap, ◌∙◌, ⊎_elim, arith, MatchResult}
use Rattle.std.specs.List.{range_with_len, flat_map}
use Rattle.std.proofs.lemmas.List.{drop_more, drop_all}
use Rattle.std.proofs.lemmas.Bool.{and_parts, leb-true, ltb-true, eqb-true, cases_eq}
use Rattle.std.proofs.lemmas.Bool.Decides.{nat_tests}
use Rattle.refusal.specs.declared.faults.TableFault.{TableFault}
use Rattle.refusal.specs.declared.faults.TableFault.TheVariants.{NoSizes, Sizes, NoRow, RowNumbers}
use Rattle.refusal.specs.declared.faults.TableRefusal.{TableRefusal}
use Rattle.table_format.specs.Tables.{Table, Bounded, Encodes, Good, rows, row_bytes, encoded, table_of}
use Rattle.table_format.specs.Questions.{stands, sizes_fit, row_fits, ending, rows_read, read}
use Rattle.table_format.specs.Records.{sizes_taken, row_taken}
use Rattle.table_format.proofs.Walk.{asked, given, opened, Walked, walked_none, walked_more, walked_all}

-- each is a byte
abbrev pub Bytes : List ℕ → Type 0
Bytes bs = (i : ℕ) → get_or bs i 0 < 256

-- yes to a record and to what follows
yes : (whole fit : Bool) (missing unfit : TableFault) (offset : ℕ) (more : Result (Unit {0}) TableRefusal) → asked whole fit missing unfit offset more ≡ Ok tt →
    (whole ≡ true) × (fit ≡ true) × (more ≡ Ok tt)
yes true true missing unfit offset more e = (refl, refl, e)
yes true false missing unfit offset more e = let z : ◌≡◌ {A = ℕ} 0 1 = cc in absurd (omega arith)
yes false fit missing unfit offset more e = let z : ◌≡◌ {A = ℕ} 0 1 = cc in absurd (omega arith)

stood : (bs : List ℕ) (o kind size : ℕ) → stands bs o kind size ≡ true → (o + size ≤ length bs) × (get_or bs o 0 ≡ kind)
stood bs o kind size e =
    let parts = and_parts (leb (o + size) (length bs)) (eqb (get_or bs o 0) kind) e in
    (leb-true (o + size) (length bs) parts.0, eqb-true (get_or bs o 0) kind parts.1)

-- the bytes of a row give back the numbers that they make
row_again : (a b c d e f : ℕ) → a < 256 → c < 256 → d < 256 → e < 256 →
    let n = a + b * 256 in let w = c + d * 256 + e * 65536 + f * 16777216 in
    2 ∷ n % 256 ∷ n / 256 ∷ w % 256 ∷ w / 256 % 256 ∷ w / 65536 % 256 ∷ w / 16777216 ∷ [] ≡ 2 ∷ a ∷ b ∷ c ∷ d ∷ e ∷ f ∷ []
row_again a b c d e f ha hc hd he =
    let n0 : (a + b * 256) % 256 ≡ a = omega arith in
    let n1 : (a + b * 256) / 256 ≡ b = omega arith in
    let w0 : (c + d * 256 + e * 65536 + f * 16777216) % 256 ≡ c = omega arith in
    let q1 : (c + d * 256 + e * 65536 + f * 16777216) / 256 ≡ d + e * 256 + f * 65536 = omega arith in
    let q2 : (c + d * 256 + e * 65536 + f * 16777216) / 65536 ≡ e + f * 256 = omega arith in
    let r1 : (d + e * 256 + f * 65536) % 256 ≡ d = omega arith in
    let r2 : (e + f * 256) % 256 ≡ e = omega arith in
    let w1 : (c + d * 256 + e * 65536 + f * 16777216) / 256 % 256 ≡ d = rw q1 r1 in
    let w2 : (c + d * 256 + e * 65536 + f * 16777216) / 65536 % 256 ≡ e = rw q2 r2 in
    let w3 : (c + d * 256 + e * 65536 + f * 16777216) / 16777216 ≡ f = omega arith in
    rw (n0, n1, w0, w1, w2, w3)

-- what was read was encoded
module _ (bs : List ℕ) where
  byte : (i j : ℕ) → i < length bs → i + 1 ≡ j → drop i bs ≡ get_or bs i 0 ∷ drop j bs
  byte i j l e = drop_more bs i 0 l ∙ ap (λ (k : ℕ). get_or bs i 0 ∷ drop k bs) e

  row_parts : (r : ℕ) → 11 + 7 * r ≤ length bs →
      drop (4 + 7 * r) bs ≡ get_or bs (4 + 7 * r) 0 ∷ get_or bs (5 + 7 * r) 0 ∷ get_or bs (6 + 7 * r) 0 ∷ get_or bs (7 + 7 * r) 0 ∷ get_or bs (8 + 7 * r) 0 ∷ get_or bs (9 + 7 * r) 0 ∷ get_or bs (10 + 7 * r) 0 ∷ drop (4 + 7 * (r + 1)) bs
  row_parts r l = rw (
    byte (4 + 7 * r) (5 + 7 * r) (omega arith) (omega arith),
    byte (5 + 7 * r) (6 + 7 * r) (omega arith) (omega arith),
    byte (6 + 7 * r) (7 + 7 * r) (omega arith) (omega arith),
    byte (7 + 7 * r) (8 + 7 * r) (omega arith) (omega arith),
    byte (8 + 7 * r) (9 + 7 * r) (omega arith) (omega arith),
    byte (9 + 7 * r) (10 + 7 * r) (omega arith) (omega arith),
    byte (10 + 7 * r) (4 + 7 * (r + 1)) (omega arith) (omega arith),
  )

  row_written : (r : ℕ) → Bytes bs → stands bs (4 + 7 * r) 2 7 ≡ true → drop (4 + 7 * r) bs ≡ row_bytes (table_of bs) r ++ drop (4 + 7 * (r + 1)) bs
  row_written r h e =
      let s = stood bs (4 + 7 * r) 2 7 e in
      row_parts r (omega arith)
      ∙ (ap (λ (k : ℕ). k ∷ get_or bs (5 + 7 * r) 0 ∷ get_or bs (6 + 7 * r) 0 ∷ get_or bs (7 + 7 * r) 0 ∷ get_or bs (8 + 7 * r) 0 ∷ get_or bs (9 + 7 * r) 0 ∷ get_or bs (10 + 7 * r) 0 ∷ drop (4 + 7 * (r + 1)) bs) s.1
      ∙ sym (ap (λ (x : List ℕ). x ++ drop (4 + 7 * (r + 1)) bs) (row_again (get_or bs (5 + 7 * r) 0) (get_or bs (6 + 7 * r) 0) (get_or bs (7 + 7 * r) 0) (get_or bs (8 + 7 * r) 0) (get_or bs (9 + 7 * r) 0) (get_or bs (10 + 7 * r) 0)
      (h (5 + 7 * r)) (h (7 + 7 * r)) (h (8 + 7 * r)) (h (9 + 7 * r)))))

  end_yes : (o : ℕ) → ending bs o ≡ Ok tt → (stands bs o 3 1 ≡ true) × (length bs ≡ o + 1)
  unfolding ending
  end_yes o e = (grind (arith, nat_tests), grind (arith, nat_tests))

  rows_yes : (n r : ℕ) → rows_read bs (suc n) r ≡ Ok tt → (stands bs (4 + 7 * r) 2 7 ≡ true) × (row_fits (table_of bs) r ≡ true) × (rows_read bs n (r + 1) ≡ Ok tt)
  unfolding rows_read
  rows_yes n r e = yes (stands bs (4 + 7 * r) 2 7) (row_fits (table_of bs) r) NoRow RowNumbers (4 + 7 * r) (rows_read bs n (r + 1)) e

  rows_end : (r : ℕ) → rows_read bs 0 r ≡ Ok tt → (stands bs (4 + 7 * r) 3 1 ≡ true) × (length bs ≡ 4 + 7 * r + 1)
  unfolding rows_read
  rows_end r e = end_yes (4 + 7 * r) e

  rows_written : (n r : ℕ) → Bytes bs → rows_read bs n r ≡ Ok tt → drop (4 + 7 * r) bs ≡ flat_map (row_bytes (table_of bs)) (range_with_len r n) ++ 3 ∷ []
  rows_written zero r h e =
      let q = rows_end r e in
      byte (4 + 7 * r) (length bs) (omega (arith, q.1)) (omega (arith, q.1))
      ∙ (ap (λ (k : ℕ). k ∷ drop (length bs) bs) (stood bs (4 + 7 * r) 3 1 q.0).1 ∙ ap (λ (x : List ℕ). 3 ∷ x) (drop_all (length bs) bs (omega arith)))
  rows_written (suc n) r h e =
      let q = rows_yes n r e in
      row_written r h q.0 ∙ ap (λ (x : List ℕ). row_bytes (table_of bs) r ++ x) (rows_written n (r + 1) h q.2)

  rows_fit : (n r k : ℕ) → rows_read bs n r ≡ Ok tt → r ≤ k → k < r + n → row_fits (table_of bs) k ≡ true
  rows_fit zero r k e l u = absurd (omega arith)
  rows_fit (suc n) r k e l u =
      let q = rows_yes n r e in
      ⊎_elim
      (λ (s : k ≡ r). rw s q.1)
      (λ (ne : k ≡ r → ⊥). rows_fit n (r + 1) k q.2 (omega arith) (omega arith))
      (cases_eq k r)

  rows_length : (n r : ℕ) → rows_read bs n r ≡ Ok tt → length bs ≡ 5 + 7 * (r + n)
  rows_length zero r e = omega (arith, (rows_end r e).1)
  rows_length (suc n) r e = omega (arith, rows_length n (r + 1) (rows_yes n r e).2)

  read_yes : read bs ≡ Ok tt → (stands bs 0 1 4 ≡ true) × (sizes_fit (table_of bs) ≡ true) × (rows_read bs (rows (table_of bs)) 0 ≡ Ok tt)
  unfolding read
  read_yes e = yes (stands bs 0 1 4) (sizes_fit (table_of bs)) NoSizes Sizes 0 (rows_read bs (rows (table_of bs)) 0) e

  in_bounds : read bs ≡ Ok tt → Bounded (table_of bs)
  in_bounds e =
      let t = table_of bs in
      let q = read_yes e in
      let parts = and_parts (leb (t.inputs + t.state_bits) 10) (leb 1 t.rules && leb t.rules 32) q.1 in
      let ruled = and_parts (leb 1 t.rules) (leb t.rules 32) parts.1 in
      let fits : (r : ℕ) → r < rows t → (ltb (t.next r) (2 ^ t.state_bits) ≡ true) × (ltb (t.broken r) (2 ^ t.rules) ≡ true) =
      λ r l. and_parts (ltb (t.next r) (2 ^ t.state_bits)) (ltb (t.broken r) (2 ^ t.rules)) (rows_fit (rows t) 0 r q.2 (omega arith) (omega arith)) in
      record {
        few_bits = leb-true (t.inputs + t.state_bits) 10 parts.0;
        rules_some = leb-true 1 t.rules ruled.0;
        rules_few = leb-true t.rules 32 ruled.1;
        states = λ r l. ltb-true (t.next r) (2 ^ t.state_bits) (fits r l).0;
        marks = λ r l. ltb-true (t.broken r) (2 ^ t.rules) (fits r l).1;
      }

  pub good_from : read bs ≡ Ok tt → Good bs
  good_from e = (in_bounds e, omega (arith, rows_length (rows (table_of bs)) 0 (read_yes e).2))

  pub encodes_from : Bytes bs → read bs ≡ Ok tt → Encodes bs
  encodes_from h e =
      let q = read_yes e in
      let s = stood bs 0 1 4 q.0 in
      let head : bs ≡ 1 ∷ get_or bs 1 0 ∷ get_or bs 2 0 ∷ get_or bs 3 0 ∷ drop 4 bs =
      rw (byte 0 1 (omega arith) (omega arith), byte 1 2 (omega arith) (omega arith), byte 2 3 (omega arith) (omega arith), byte 3 4 (omega arith) (omega arith), s.1) in
      (table_of bs, in_bounds e, head ∙ ap (λ (x : List ℕ). 1 ∷ get_or bs 1 0 ∷ get_or bs 2 0 ∷ get_or bs 3 0 ∷ x) (rows_written (rows (table_of bs)) 0 h q.2))

-- what was encoded is read
row_reads : (t : Table) (r : ℕ) (more : List ℕ) → t.next r < 2 ^ t.state_bits → t.broken r < 2 ^ t.rules → Ok more ≡ row_taken t.state_bits t.rules (row_bytes t r ++ more)
row_reads t r more states marks =
    let n : t.next r % 256 + t.next r / 256 * 256 ≡ t.next r = omega arith in
    let w : t.broken r % 256 + (t.broken r / 256 % 256) * 256 + (t.broken r / 65536 % 256) * 65536 + (t.broken r / 16777216) * 16777216 ≡ t.broken r = omega arith in
    grind (arith, nat_tests)

module _ (t : Table) (b : Bounded t) where
  sizes_read : Ok (given (encoded t), drop 4 (encoded t)) ≡ sizes_taken (encoded t)
  sizes_read =
      let few = b.few_bits in
      let some = b.rules_some in
      let most = b.rules_few in
      grind (arith, nat_tests)

  walks : (n r : ℕ) → r + n ≡ rows t → Walked (encoded t) (flat_map (row_bytes t) (range_with_len r n) ++ 3 ∷ []) (rows t) r → Ok tt ≡ read (encoded t)
  walks zero r e w = walked_all (encoded t) (3 ∷ []) (rows t) r w (omega arith) (omega arith)
  walks (suc n) r e w =
      walks n (r + 1) (omega arith)
      (walked_more (encoded t) (flat_map (row_bytes t) (range_with_len r (suc n)) ++ 3 ∷ []) (rows t) r w (given (encoded t)) refl (omega arith) (flat_map (row_bytes t) (range_with_len (r + 1) n) ++ 3 ∷ [])
      (row_reads t r (flat_map (row_bytes t) (range_with_len (r + 1) n) ++ 3 ∷ []) (b.states r (omega arith)) (b.marks r (omega arith))))

  encoded_reads : Ok tt ≡ read (encoded t)
  encoded_reads =
      let rest = flat_map (row_bytes t) (range_with_len 0 (rows t)) ++ 3 ∷ [] in
      walks (rows t) 0 (omega arith) (walked_none (encoded t) rest (given (encoded t)) (rows t) (opened (encoded t) rest (given (encoded t)) sizes_read) refl)

pub reads_from : (bs : List ℕ) → Encodes bs → read bs ≡ Ok tt
reads_from bs q = ap read q.2 ∙ sym (encoded_reads q.0 q.1)

-- both ways, of an answer
pub answered : (bs : List ℕ) → Bytes bs → (r : Result (Unit {0}) TableRefusal) → r ≡ read bs → MatchResult r (λ _. Encodes bs) (λ _. Encodes bs → ⊥) × IfOk r (λ _. Good bs)
answered bs h (Ok _) e = (encodes_from bs h (sym e), good_from bs (sym e))
answered bs h (Err f) e = (λ q. let s = reads_from bs q in let z : ◌≡◌ {A = ℕ} 0 1 = cc in omega arith, tt)
