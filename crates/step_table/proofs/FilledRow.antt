-- After its parts are written a row is filled.
use Rattle.std.proofs.Common.{◌≡◌, ℕ, ◌+◌, ◌^◌, ◌<◌, ◌≤◌, Bool, false, eqb, List, [], ◌∷◌, ◌++◌, map, length, take, drop, set, sym, refl, ap, ◌∙◌, subst, arith}
use lib.Seq.{paste}
use Rattle.std.specs.List.{range_with_len, AllByRecursion}
use Rattle.std.proofs.lemmas.List.FromFn.{length-map-range_with_len}
use Rattle.std.proofs.lemmas.List.Edits.{length-paste, take-paste, drop-paste, paste-paste}
use Rattle.std.proofs.ByRecursion.{All-append, All-from_get_or, All-get_or}
use Rattle.std.proofs.lemmas.List.{append_assoc, map-append, length-append, length-set, length-take-le, get_or-take, take_all, drop-set-lt}
use Rattle.machine.specs.Meaning.{Fits}
use Rattle.machine.specs.Rows.{Ready, Fillable, Filled, bit, byte, bits, row_inputs, row_state}
use Rattle.machine.proofs.RowBits.{bit_byte, byte_small}
use Rattle.table_format.specs.Tables.{Table, rows}
use Rattle.table_format.specs.Stepping.{binary_digit, number, row_of, row_variable, meant, fitting}
use Rattle.table_format.proofs.Numbers.{number_below, bit_number, row_from_bits, row_below}
use Rattle.table_format.proofs.OneFit.{fitting_fits}
use Rattle.step_table.specs.Filling.{bit_bytes, mark_bytes}
use Rattle.step_table.proofs.RowFront.{given_split, inputs_length, state_length, front_is, small_front}

-- the bits of bytes that hold these
bits_back : (f : ℕ → Bool) (xs : List ℕ) → bits (map (λ k. byte (f k)) xs) ≡ map f xs
bits_back f [] = refl
bits_back f (x ∷ xs) = both (bit_byte (f x)) (bits_back f xs)
  where
    both : {b b' : Bool} {bs bs' : List Bool} → b ≡ b' → bs ≡ bs' → b ∷ bs ≡ b' ∷ bs'
    both e d = cc

bytes_small : (f : ℕ → Bool) (xs : List ℕ) → AllByRecursion (λ b. b < 2) (map (λ k. byte (f k)) xs)
bytes_small f [] = tt
bytes_small f (x ∷ xs) = (byte_small (f x), bytes_small f xs)

-- what is written after the front: a byte for each row, the next state, the rules
parts : Table → ℕ → ℕ → ℕ → List ℕ
parts t row next broken = (mark_bytes row (rows t) ++ bit_bytes next t.state_bits) ++ bit_bytes broken t.rules

size : Table → ℕ
size t = rows t + t.state_bits + t.rules

module _ (t : Table) (row next broken : ℕ) where
  marks_length : length (mark_bytes row (rows t)) ≡ rows t
  marks_length = length-map-range_with_len (λ k. byte (eqb k row)) 0 (rows t)

  bits_length : (value count : ℕ) → length (bit_bytes value count) ≡ count
  bits_length value count = length-map-range_with_len (λ k. byte (binary_digit value k)) 0 count

  parts_length : length (parts t row next broken) ≡ size t
  unfolding parts size
  parts_length =
      omega (
        arith,
        length-append (mark_bytes row (rows t) ++ bit_bytes next t.state_bits) (bit_bytes broken t.rules),
        length-append (mark_bytes row (rows t)) (bit_bytes next t.state_bits),
        marks_length,
        bits_length next t.state_bits,
        bits_length broken t.rules,
      )

  parts_bits : bits (parts t row next broken)
      ≡ map (λ r. eqb r row) (range_with_len 0 (rows t)) ++ (map (binary_digit next) (range_with_len 0 t.state_bits) ++ map (binary_digit broken) (range_with_len 0 t.rules))
  unfolding parts
  parts_bits =
      map-append bit (mark_bytes row (rows t) ++ bit_bytes next t.state_bits) (bit_bytes broken t.rules)
      ∙ ap (λ (y : List Bool). y ++ bits (bit_bytes broken t.rules)) (map-append bit (mark_bytes row (rows t)) (bit_bytes next t.state_bits))
      ∙ append_assoc (bits (mark_bytes row (rows t))) (bits (bit_bytes next t.state_bits)) (bits (bit_bytes broken t.rules))
      ∙ three (bits_back (λ r. eqb r row) (range_with_len 0 (rows t))) (bits_back (binary_digit next) (range_with_len 0 t.state_bits)) (bits_back (binary_digit broken) (range_with_len 0 t.rules))
    where
      three : {a a' b b' c c' : List Bool} → a ≡ a' → b ≡ b' → c ≡ c' → a ++ (b ++ c) ≡ a' ++ (b' ++ c')
      three d e f = cc

  parts_small : AllByRecursion (λ b. b < 2) (parts t row next broken)
  unfolding parts
  parts_small =
      All-append (λ b. b < 2) (mark_bytes row (rows t) ++ bit_bytes next t.state_bits) (bit_bytes broken t.rules)
      (All-append (λ b. b < 2) (mark_bytes row (rows t)) (bit_bytes next t.state_bits)
      (bytes_small (λ k. eqb k row) (range_with_len 0 (rows t))) (bytes_small (binary_digit next) (range_with_len 0 t.state_bits)))
      (bytes_small (binary_digit broken) (range_with_len 0 t.rules))

  -- one part after the other is all of them
  parts_written : (front : List ℕ) (first : ℕ) → first ≤ length front →
      paste (paste (paste front first (mark_bytes row (rows t)) (rows t)) (first + rows t) (bit_bytes next t.state_bits) t.state_bits)
      (first + rows t + t.state_bits) (bit_bytes broken t.rules) t.rules
      ≡ paste front first (parts t row next broken) (size t)
  unfolding parts size
  parts_written front first room =
      let r = rows t in
      let l = t.state_bits in
      let o = t.rules in
      let marks = mark_bytes row r in
      let nexts = bit_bytes next l in
      let rules = bit_bytes broken o in
      let at : first + r + l ≡ first + (r + l) = omega arith in
      ap (λ (y : List ℕ). paste y (first + r + l) rules o) (paste-paste front first marks nexts r l (sym marks_length) (sym (bits_length next l)) room)
      ∙ ap (λ (k : ℕ). paste (paste front first (marks ++ nexts) (r + l)) k rules o) at
      ∙ paste-paste front first (marks ++ nexts) rules (r + l) o (omega (arith, length-append marks nexts, marks_length, bits_length next l)) (sym (bits_length broken o)) room

-- a row that is ready for so many given bits and variables, which are those of the table
module _ (t : Table) (old : List ℕ) (given variables : ℕ) (all : given ≡ t.inputs + t.state_bits) (whole : variables ≡ (meant t).variables) (ready : Ready given variables old) where
  pub can : Fillable (meant t) old
  can = record { room = omega (arith, ready.0); small = λ k l. ready.1 k (omega arith) }

  room : 1 + t.inputs + t.state_bits ≤ length old
  room = omega (arith, can.room)

  inputs_size : length (row_inputs (meant t) old) ≡ t.inputs
  inputs_size = inputs_length (meant t) old room

  state_size : length (row_state (meant t) old) ≡ t.state_bits
  state_size = state_length (meant t) old room

  -- the number of the given bits is that of the row of state and inputs
  number_is : number (take (t.inputs + t.state_bits) (drop 1 (bits old))) ≡ row_of t (row_state (meant t) old) (row_inputs (meant t) old)
  number_is =
      let x : List Bool = row_inputs (meant t) old in
      let s : List Bool = row_state (meant t) old in
      let both : length (x ++ s) ≡ t.inputs + t.state_bits = omega (arith, length-append x s, inputs_size, state_size) in
      ap number (given_split (meant t) old)
      ∙ row_from_bits t s x (number (x ++ s)) state_size inputs_size (omega (arith, number_below (x ++ s), ap (λ (n : ℕ). 2 ^ n) both)) (λ k l. sym (bit_number (x ++ s) k))

  pub number_in : (n : ℕ) → n ≡ number (take given (drop 1 (bits old))) → n < rows t
  number_in n is =
      let e : n ≡ row_of t (row_state (meant t) old) (row_inputs (meant t) old) = is ∙ ap (λ (k : ℕ). number (take k (drop 1 (bits old)))) all ∙ number_is in
      omega (arith, row_below t (row_state (meant t) old) (row_inputs (meant t) old) state_size inputs_size)

  -- the row with its parts written
  module _ (new : List ℕ) (row : ℕ) (is_row : row ≡ row_of t (row_state (meant t) old) (row_inputs (meant t) old))
      (written : new ≡ paste (set old 0 0) (1 + (t.inputs + t.state_bits)) (parts t row (t.next row) (t.broken row)) (size t)) where
    variables_are : (meant t).variables ≡ 1 + (t.inputs + t.state_bits) + size t
    unfolding size
    variables_are = omega arith

    front_room : 1 + (t.inputs + t.state_bits) + size t ≤ length (set old 0 0)
    front_room = omega (arith, variables_are, can.room, length-set old 0 0)

    taken : take (meant t).variables new ≡ take (1 + (t.inputs + t.state_bits)) (set old 0 0) ++ parts t row (t.next row) (t.broken row)
    taken =
        let first : ℕ = 1 + (t.inputs + t.state_bits) in
        let ps : List ℕ = parts t row (t.next row) (t.broken row) in
        let n = parts_length t row (t.next row) (t.broken row) in
        ap (λ (k : ℕ). take k new) variables_are ∙ ap (take (first + size t)) written
        ∙ take-paste (set old 0 0) first ps (size t) (omega (arith, front_room)) (omega arith)
        ∙ ap (λ (y : List ℕ). take first (set old 0 0) ++ y) (take_all (size t) ps (omega arith))

    fit_is : bits (take (meant t).variables new) ≡ fitting t (row_state (meant t) old) (row_inputs (meant t) old)
    unfolding fitting
    fit_is =
        let g : ℕ = t.inputs + t.state_bits in
        let ps : List ℕ = parts t row (t.next row) (t.broken row) in
        let tail : ℕ → List Bool = λ r. map (λ k. eqb k r) (range_with_len 0 (rows t)) ++ (map (binary_digit (t.next r)) (range_with_len 0 t.state_bits) ++ map (binary_digit (t.broken r)) (range_with_len 0 t.rules)) in
        let front : bits (take (1 + g) (set old 0 0)) ≡ false ∷ (row_inputs (meant t) old ++ row_state (meant t) old) =
        front_is old g (omega (arith, room)) ∙ ap (λ (y : List Bool). false ∷ y) (given_split (meant t) old) in
        ap bits taken ∙ map-append bit (take (1 + g) (set old 0 0)) ps ∙ both front (parts_bits t row (t.next row) (t.broken row) ∙ ap tail is_row)
      where
        both : {a a' b b' : List Bool} → a ≡ a' → b ≡ b' → a ++ b ≡ a' ++ b'
        both e d = cc

    all_small : AllByRecursion (λ b. b < 2) (take (meant t).variables new)
    all_small =
        let g : ℕ = t.inputs + t.state_bits in
        let ps : List ℕ = parts t row (t.next row) (t.broken row) in
        let front : List ℕ = take (1 + g) (set old 0 0) in
        let n : length front ≡ 1 + g = length-take-le (1 + g) (set old 0 0) (omega (arith, front_room)) in
        subst (AllByRecursion (λ b. b < 2)) (sym taken)
        (All-append (λ b. b < 2) front ps
        (All-from_get_or (λ b. b < 2) front 0 (λ k l.
        let k< : k < 1 + g = omega arith in
        omega (arith, get_or-take (1 + g) (set old 0 0) k 0 k<, small_front old g (omega (arith, room)) can.small k k<)))
        (parts_small t row (t.next row) (t.broken row)))

    filled_row : Filled (meant t) old new
    filled_row =
        let x : List Bool = row_inputs (meant t) old in
        let s : List Bool = row_state (meant t) old in
        let first : ℕ = 1 + (t.inputs + t.state_bits) in
        let ps : List ℕ = parts t row (t.next row) (t.broken row) in
        let v : ℕ = (meant t).variables in
        let n = parts_length t row (t.next row) (t.broken row) in
        let same : length new ≡ length old = ap length written ∙ length-paste (set old 0 0) first ps (size t) front_room (omega arith) ∙ length-set old 0 0 in
        let pos : 0 < v = omega arith in
        record {
          same_length = same;
          small = λ k l. omega (
            arith,
            get_or-take v new k 0 l,
            All-get_or (λ b. b < 2) (take v new) k 0 (omega (arith, length-take-le v new (omega (arith, can.room)))) all_small,
          );
          fits = subst (Fits (meant t) s x) (sym fit_is) (fitting_fits t s x state_size inputs_size);
          rest = ap (λ (k : ℕ). drop k new) variables_are ∙ ap (drop (first + size t)) written
              ∙ drop-paste (set old 0 0) first ps (size t) (omega (arith, front_room)) (omega arith)
              ∙ ap (λ (k : ℕ). drop k (set old 0 0)) (sym variables_are) ∙ drop-set-lt v old 0 0 pos;
        }

  -- so is the row that its parts are written to one after the other
  pub filled : (new marked stepped : List ℕ) (first count bits-count bits-count' rules row next broken : ℕ) →
      first ≡ row_variable t (rows t) → count ≡ rows t → bits-count ≡ t.state_bits → bits-count' ≡ t.state_bits → rules ≡ t.rules →
      row ≡ number (take given (drop 1 (bits old))) → next ≡ t.next row → broken ≡ t.broken row →
      marked ≡ paste (set old 0 0) (1 + given) (mark_bytes row count) count → stepped ≡ paste marked first (bit_bytes next bits-count) bits-count →
      new ≡ paste stepped (first + bits-count') (bit_bytes broken rules) rules → Filled (meant t) old new
  filled new marked stepped first count bits-count bits-count' rules row next broken ef ec eb eb' eo er en ek e1 e2 e3 =
      let g : ℕ = t.inputs + t.state_bits in
      let start : first ≡ 1 + g + rows t = omega arith in
      let after : first + bits-count' ≡ 1 + g + rows t + t.state_bits = omega arith in
      filled_row new row (er ∙ ap (λ (k : ℕ). number (take k (drop 1 (bits old)))) all ∙ number_is)
      (e3 ∙ same (e2 ∙ same (e1 ∙ same_marks all ec) start en eb) after ek eo
      ∙ parts_written t row (t.next row) (t.broken row) (set old 0 0) (1 + g) (omega (arith, room, length-set old 0 0)))
    where
      same : {r r' : List ℕ} {f f' v v' n n' : ℕ} → r ≡ r' → f ≡ f' → v ≡ v' → n ≡ n' → paste r f (bit_bytes v n) n ≡ paste r' f' (bit_bytes v' n') n'
      same a b c d = cc

      same_marks : {g g' n n' : ℕ} → g ≡ g' → n ≡ n' → paste (set old 0 0) (1 + g) (mark_bytes row n) n ≡ paste (set old 0 0) (1 + g') (mark_bytes row n') n'
      same_marks a b = cc
