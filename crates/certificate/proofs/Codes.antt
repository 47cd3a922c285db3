-- What is read was written, and what is written is read.
use Rattle.std.proofs.Common.{◌≡◌, ℕ, ◌+◌, ◌*◌, ◌/◌, ◌%◌, ◌<◌, ◌≤◌, Bool, true, false, cond, List, [], ◌∷◌, ◌++◌, length, get_or, drop, Some, None, Option, unwrap_or, sym, refl, ap, ◌∙◌, subst, add-one, arith, drop-cons}
use Rattle.std.proofs.lemmas.List.{length-append, get_or-append-add}
use Rattle.std.proofs.lemmas.Bool.Decides.{nat_tests}
use Rattle.std.specs.Option.{option_map}
use Rattle.certificate.specs.declared.record.Record.{Record}
use Rattle.certificate.specs.declared.record.Record.TheVariants.{Claim, Literal, ClauseEnd, FrameEnd, Take, Resolve, RefutationEnd, Bit, RowEnd, End}
use Rattle.certificate.specs.Records.{le32, encode, word, begins, read, read_bare, record_of, left_of, Taken, Bytes}

word_le32 : (w : ℕ) → w % 256 + (w / 256 % 256) * 256 + (w / 65536 % 256) * 65536 + (w / 16777216) * 16777216 ≡ w
word_le32 w = omega arith

le32_word : (a b c d : ℕ) → a < 256 → b < 256 → c < 256 → le32 (a + b * 256 + c * 65536 + d * 16777216) ≡ a ∷ b ∷ c ∷ d ∷ []
le32_word a b c d ha hb hc =
    let e0 : (a + b * 256 + c * 65536 + d * 16777216) % 256 ≡ a = omega arith in
    let q1 : (a + b * 256 + c * 65536 + d * 16777216) / 256 ≡ b + c * 256 + d * 65536 = omega arith in
    let q2 : (a + b * 256 + c * 65536 + d * 16777216) / 65536 ≡ c + d * 256 = omega arith in
    let r1 : (b + c * 256 + d * 65536) % 256 ≡ b = omega arith in
    let r2 : (c + d * 256) % 256 ≡ c = omega arith in
    let e1 : (a + b * 256 + c * 65536 + d * 16777216) / 256 % 256 ≡ b = rw q1 r1 in
    let e2 : (a + b * 256 + c * 65536 + d * 16777216) / 65536 % 256 ≡ c = rw q2 r2 in
    let e3 : (a + b * 256 + c * 65536 + d * 16777216) / 16777216 ≡ d = omega arith in
    rw (e0, e1, e2, e3)

-- what is written is read
pub reads : (r : Record) (rest : List ℕ) → read (encode r ++ rest) ≡ Some (r, rest)
unfolding read read_bare
reads (Claim k w) rest =
    let e : read (encode (Claim k w) ++ rest) ≡ Some (Claim k (word (encode (Claim k w) ++ rest) 2), rest) = grind (arith, nat_tests) in
    e ∙ ap (λ (x : ℕ). Some (Claim k x, rest)) (word_le32 w)
reads (Literal w) rest =
    let e : read (encode (Literal w) ++ rest) ≡ Some (Literal (word (encode (Literal w) ++ rest) 1), rest) = grind (arith, nat_tests) in
    e ∙ ap (λ (x : ℕ). Some (Literal x, rest)) (word_le32 w)
reads ClauseEnd rest = grind (arith, nat_tests)
reads FrameEnd rest = grind (arith, nat_tests)
reads (Take w) rest =
    let e : read (encode (Take w) ++ rest) ≡ Some (Take (word (encode (Take w) ++ rest) 1), rest) = grind (arith, nat_tests) in
    e ∙ ap (λ (x : ℕ). Some (Take x, rest)) (word_le32 w)
reads (Resolve l r p) rest =
    let e : read (encode (Resolve l r p) ++ rest) ≡ Some (Resolve (word (encode (Resolve l r p) ++ rest) 1) (word (encode (Resolve l r p) ++ rest) 5) (word (encode (Resolve l r p) ++ rest) 9), rest) = grind (arith, nat_tests) in
    e ∙ ap (λ (x : ℕ × ℕ × ℕ). Some (Resolve x.0 x.1 x.2, rest)) (rw (word_le32 l, word_le32 r, word_le32 p))
reads RefutationEnd rest = grind (arith, nat_tests)
reads (Bit b) rest = grind (arith, nat_tests)
reads RowEnd rest = grind (arith, nat_tests)
reads End rest = grind (arith, nat_tests)

-- what is read was written
begun : (bs : List ℕ) (k n : ℕ) → begins bs k n ≡ true → (n ≤ length bs) × (get_or bs 0 0 ≡ k)
begun bs k n e = (grind (arith, nat_tests), grind (arith, nat_tests))

head : (bs : List ℕ) (k : ℕ) → 1 ≤ length bs → get_or bs 0 0 ≡ k → bs ≡ k ∷ drop 1 bs
head [] k h e = absurd (omega arith)
head (x ∷ xs) k h e = ap (λ (y : ℕ). y ∷ xs) e

byte_at : (bs : List ℕ) (i : ℕ) → i < length bs → drop i bs ≡ get_or bs i 0 ∷ drop (i + 1) bs
byte_at bs i h = rw (add-one, drop-cons bs i 0)

word_at : (bs : List ℕ) (i : ℕ) → Bytes bs → i + 4 ≤ length bs → drop i bs ≡ le32 (word bs i) ++ drop (i + 4) bs
word_at bs i h l =
    let a : i + 1 + 1 ≡ i + 2 = omega arith in
    let b : i + 2 + 1 ≡ i + 3 = omega arith in
    let c : i + 3 + 1 ≡ i + 4 = omega arith in
    let d0 = byte_at bs i (omega arith) in
    let d1 : drop (i + 1) bs ≡ get_or bs (i + 1) 0 ∷ drop (i + 2) bs = byte_at bs (i + 1) (omega arith) ∙ ap (λ (j : ℕ). get_or bs (i + 1) 0 ∷ drop j bs) a in
    let d2 : drop (i + 2) bs ≡ get_or bs (i + 2) 0 ∷ drop (i + 3) bs = byte_at bs (i + 2) (omega arith) ∙ ap (λ (j : ℕ). get_or bs (i + 2) 0 ∷ drop j bs) b in
    let d3 : drop (i + 3) bs ≡ get_or bs (i + 3) 0 ∷ drop (i + 4) bs = byte_at bs (i + 3) (omega arith) ∙ ap (λ (j : ℕ). get_or bs (i + 3) 0 ∷ drop j bs) c in
    d0 ∙ ap (λ (x : List ℕ). get_or bs i 0 ∷ x) (d1 ∙ ap (λ (x : List ℕ). get_or bs (i + 1) 0 ∷ x) (d2 ∙ ap (λ (x : List ℕ). get_or bs (i + 2) 0 ∷ x) d3))
    ∙ sym (ap (λ (x : List ℕ). x ++ drop (i + 4) bs) (le32_word (get_or bs i 0) (get_or bs (i + 1) 0) (get_or bs (i + 2) 0) (get_or bs (i + 3) 0) (h i) (h (i + 1)) (h (i + 2))))

abbrev Written : List ℕ → Option (Record × List ℕ) → Type 0
Written bs None = Unit {0}
Written bs (Some p) = bs ≡ encode p.0 ++ p.1

tower : (P : Option (Record × List ℕ) → Type 0) (b : Bool) (x y : Option (Record × List ℕ)) → (b ≡ true → P x) → P y → P (cond b x y)
tower P true x y f g = f refl
tower P false x y f g = g

one_word : (bs : List ℕ) (k : ℕ) → Bytes bs → begins bs k 5 ≡ true → bs ≡ k ∷ (le32 (word bs 1) ++ drop 5 bs)
one_word bs k h e =
    let q = begun bs k 5 e in
    head bs k (omega arith) q.1 ∙ ap (λ (x : List ℕ). k ∷ x) (word_at bs 1 h (omega arith))

no_body : (bs : List ℕ) (k : ℕ) → begins bs k 1 ≡ true → bs ≡ k ∷ drop 1 bs
no_body bs k e = let q = begun bs k 1 e in head bs k q.0 q.1

written_bare : (bs : List ℕ) → Written bs (read_bare bs)
unfolding read_bare
written_bare bs =
    tower (Written bs) (begins bs 3 1) _ _ (no_body bs 3)
    (tower (Written bs) (begins bs 4 1) _ _ (no_body bs 4)
    (tower (Written bs) (begins bs 7 1) _ _ (no_body bs 7)
    (tower (Written bs) (begins bs 9 1) _ _ (no_body bs 9)
    (tower (Written bs) (begins bs 10 1) _ _ (no_body bs 10) tt))))

written : (bs : List ℕ) → Bytes bs → Written bs (read bs)
unfolding read
written bs h =
    tower (Written bs) (begins bs 1 6) _ _ (λ e.
    let q = begun bs 1 6 e in
    head bs 1 (omega arith) q.1 ∙ ap (λ (x : List ℕ). 1 ∷ x) (byte_at bs 1 (omega arith) ∙ ap (λ (x : List ℕ). get_or bs 1 0 ∷ x) (word_at bs 2 h (omega arith))))
    (tower (Written bs) (begins bs 2 5) _ _ (one_word bs 2 h)
    (tower (Written bs) (begins bs 5 5) _ _ (one_word bs 5 h)
    (tower (Written bs) (begins bs 6 13) _ _ (λ e.
    let q = begun bs 6 13 e in
    head bs 6 (omega arith) q.1 ∙ ap (λ (x : List ℕ). 6 ∷ x)
    (word_at bs 1 h (omega arith) ∙ ap (λ (x : List ℕ). le32 (word bs 1) ++ x) (word_at bs 5 h (omega arith) ∙ ap (λ (x : List ℕ). le32 (word bs 5) ++ x) (word_at bs 9 h (omega arith)))))
    (tower (Written bs) (begins bs 8 2) _ _ (λ e.
    let q = begun bs 8 2 e in
    head bs 8 (omega arith) q.1 ∙ ap (λ (x : List ℕ). 8 ∷ x) (byte_at bs 1 (omega arith)))
    (written_bare bs)))))

pub was_written : (bs : List ℕ) (r : Record) (after : List ℕ) → Bytes bs → read bs ≡ Some (r, after) → bs ≡ encode r ++ after
was_written bs r after h e = subst (Written bs) e (written bs h)

-- none is read exactly where none was written
pub none_written : (bs : List ℕ) → read bs ≡ None → (q : Record) (more : List ℕ) → bs ≡ encode q ++ more → ⊥
none_written bs e q more w =
    let r : read bs ≡ Some (q, more) = ap read w ∙ reads q more in
    let z : ◌≡◌ {A = ℕ} 0 1 = cc in
    omega arith

pub some_same : {X : Type 0} {x y : X} → ◌≡◌ {A = Option X} (Some x) (Some y) → x ≡ y
some_same e = cc

pub some_written : (bs : List ℕ) (r : Record) (after : List ℕ) → Bytes bs → read bs ≡ Some (r, after) → Taken bs after (Some r)
some_written bs r after h e = (
  was_written bs r after h e,
  λ q more w.
      let p : (q, more) ≡ (r, after) = some_same (sym (ap read w ∙ reads q more) ∙ e) in
      (ap (λ (x : Record × List ℕ). x.0) p, ap (λ (x : Record × List ℕ). x.1) p),
)

-- a record takes at least one byte
encode_some : (r : Record) → 1 ≤ length (encode r)
encode_some (Claim k w) = omega arith
encode_some (Literal w) = omega arith
encode_some ClauseEnd = omega arith
encode_some FrameEnd = omega arith
encode_some (Take w) = omega arith
encode_some (Resolve l r p) = omega arith
encode_some RefutationEnd = omega arith
encode_some (Bit b) = omega arith
encode_some RowEnd = omega arith
encode_some End = omega arith

pub longer : (r : Record) (bs after : List ℕ) → bs ≡ encode r ++ after → length after < length bs
longer r bs after e = omega (arith, ap length e, length-append (encode r) after, encode_some r)

pub read_shorter : (bs : List ℕ) (r : Record) (after : List ℕ) → Bytes bs → read bs ≡ Some (r, after) → length after < length bs
read_shorter bs r after h e = longer r bs after (was_written bs r after h e)

-- what the next record is, and what it leaves, by what is read
pub none_taken : (bs : List ℕ) (o : Option Record) → read bs ≡ None → o ≡ None → (o ≡ record_of bs) × (bs ≡ left_of bs) × Taken bs bs o
none_taken bs o e f = (
  f ∙ sym (ap (λ (x : Option (Record × List ℕ)). option_map (λ p. p.0) x) e),
  sym (ap (λ (x : Option (Record × List ℕ)). unwrap_or (option_map (λ p. p.1) x) bs) e),
  subst (Taken bs bs) (sym f) (refl, none_written bs e),
)

pub some_taken : (bs : List ℕ) (r : Record) (after : List ℕ) → Bytes bs → read bs ≡ Some (r, after) → (Some r ≡ record_of bs) × (after ≡ left_of bs) × Taken bs after (Some r)
some_taken bs r after h e = (
  sym (ap (λ (x : Option (Record × List ℕ)). option_map (λ p. p.0) x) e),
  sym (ap (λ (x : Option (Record × List ℕ)). unwrap_or (option_map (λ p. p.1) x) bs) e),
  some_written bs r after h e,
)

-- what is read, by the record and what it leaves
pub read_some : (bs : List ℕ) (r : Record) → Some r ≡ record_of bs → read bs ≡ Some (r, left_of bs)
read_some bs r e = by (read bs) refl
  where
    by : (o : Option (Record × List ℕ)) → read bs ≡ o → read bs ≡ Some (r, left_of bs)
    by None h = let z : ◌≡◌ {A = Option Record} (Some r) None = e ∙ ap (λ (x : Option (Record × List ℕ)). option_map (λ p. p.0) x) h in let n : ◌≡◌ {A = ℕ} 0 1 = cc in absurd (omega arith)
    by (Some p) h =
        let a : r ≡ p.0 = some_same (e ∙ ap (λ (x : Option (Record × List ℕ)). option_map (λ p. p.0) x) h) in
        let b : left_of bs ≡ p.1 = ap (λ (x : Option (Record × List ℕ)). unwrap_or (option_map (λ p. p.1) x) bs) h in
        h ∙ sym (ap (λ (y : Record). Some (y, left_of bs)) a ∙ ap (λ (y : List ℕ). Some (p.0, y)) b)

pub read_none : (bs : List ℕ) → None ≡ record_of bs → read bs ≡ None
read_none bs e = by (read bs) refl
  where
    by : (o : Option (Record × List ℕ)) → read bs ≡ o → read bs ≡ None
    by None h = h
    by (Some p) h = let z : ◌≡◌ {A = Option Record} None (Some p.0) = e ∙ ap (λ (x : Option (Record × List ℕ)). option_map (λ p. p.0) x) h in let n : ◌≡◌ {A = ℕ} 0 1 = cc in absurd (omega arith)

-- what follows a record in bytes is bytes
pub bytes_after : (r : Record) (bs after : List ℕ) → bs ≡ encode r ++ after → Bytes bs → Bytes after
bytes_after r bs after e h i =
    subst (λ (x : ℕ). x < 256) (ap (λ (x : List ℕ). get_or x (length (encode r) + i) 0) e ∙ get_or-append-add (encode r) after i 0) (h (length (encode r) + i))
