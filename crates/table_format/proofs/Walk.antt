-- The walk over the bytes that are left puts the questions that are put to the whole.
use Rattle.std.proofs.Common.{◌≡◌, ℕ, suc, ◌+◌, ◌-◌, ◌*◌, ◌^◌, ◌<◌, ◌≤◌, Bool, true, false, cond, List, get_or, drop, Ok, Err, Result, sym, refl, ap, ◌∙◌, arith}
use Rattle.std.proofs.lemmas.List.{length-drop, get_or-drop, drop-drop}
use Rattle.std.proofs.lemmas.Bool.Decides.{nat_tests}
use Rattle.refusal.specs.declared.faults.TableFault.{TableFault}
use Rattle.refusal.specs.declared.faults.TableFault.TheVariants.{NoSizes, Sizes, NoRow, RowNumbers}
use Rattle.refusal.specs.declared.faults.TableRefusal.{TableRefusal}
use Rattle.table_format.specs.Tables.{rows, table_of}
use Rattle.table_format.specs.Questions.{refused, stands, sizes_fit, row_fits, ending, rows_read, read}
use Rattle.table_format.specs.Records.{sizes_taken, row_taken, ended}

-- a record is put two questions, of the bytes that are left and of the whole
abbrev taken : {X : Type 0} → Bool → Bool → TableFault → TableFault → X → Result X TableFault
taken whole fit missing unfit x = cond whole (cond fit (Ok x) (Err unfit)) (Err missing)

abbrev pub asked : Bool → Bool → TableFault → TableFault → ℕ → Result (Unit {0}) TableRefusal → Result (Unit {0}) TableRefusal
asked whole fit missing unfit offset more = cond whole (cond fit more (refused unfit offset)) (refused missing offset)

module _ {X : Type 0} (missing unfit : TableFault) (offset : ℕ) (x : X) (more : Result (Unit {0}) TableRefusal) where
  -- both are answered yes
  on : (whole fit : Bool) (y : X) → Ok y ≡ taken whole fit missing unfit x → (fit ≡ true) × (y ≡ x) × (asked whole fit missing unfit offset more ≡ more)
  on true true y e = (refl, cc, refl)
  on true false y e = let z : ◌≡◌ {A = ℕ} 0 1 = cc in absurd (omega arith)
  on false fit y e = let z : ◌≡◌ {A = ℕ} 0 1 = cc in absurd (omega arith)

  -- one is answered no
  off : (whole fit : Bool) (fault : TableFault) → Err fault ≡ taken whole fit missing unfit x → refused fault offset ≡ asked whole fit missing unfit offset more
  off true true fault e = let z : ◌≡◌ {A = ℕ} 0 1 = cc in absurd (omega arith)
  off true false fault e = let s : fault ≡ unfit = cc in ap (λ (f : TableFault). refused f offset) s
  off false fit fault e = let s : fault ≡ missing = cc in ap (λ (f : TableFault). refused f offset) s

-- the sizes that stand in bytes: inputs, state bits, rules
abbrev pub Given : Type 0
Given = ℕ × ℕ × ℕ

abbrev pub given : List ℕ → Given
given bs = (get_or bs 1 0, get_or bs 2 0, get_or bs 3 0)

pub record Opened (bs rest : List ℕ) (s : Given) : Type 0 where
  pub sizes : s ≡ given bs
  pub left : rest ≡ drop 4 bs
  pub same : read bs ≡ rows_read bs (rows (table_of bs)) 0

pub opened : (bs rest : List ℕ) (s : Given) → Ok (s, rest) ≡ sizes_taken bs → Opened bs rest s
unfolding read
opened bs rest s e =
    let t = table_of bs in
    let q = on NoSizes Sizes 0 (given bs, drop 4 bs) (rows_read bs (rows t) 0) (stands bs 0 1 4) (sizes_fit t) (s, rest) e in
    record { sizes = ap (λ (p : Given × List ℕ). p.0) q.1; left = ap (λ (p : Given × List ℕ). p.1) q.1; same = q.2 }

pub unopened : (bs : List ℕ) (fault : TableFault) → Err fault ≡ sizes_taken bs → refused fault 0 ≡ read bs
unfolding read
unopened bs fault e =
    let t = table_of bs in
    off NoSizes Sizes 0 (given bs, drop 4 bs) (rows_read bs (rows t) 0) (stands bs 0 1 4) (sizes_fit t) fault e

-- what stands in the bytes that are left stands in the whole
module _ (bs : List ℕ) (o : ℕ) where
  stands_left : (kind size : ℕ) → stands (drop o bs) 0 kind (suc size) ≡ stands bs o kind (suc size)
  stands_left kind size = grind (arith, nat_tests, length-drop o bs, get_or-drop o bs 0 0)

  pub ended_left : ended (drop o bs) o ≡ ending bs o
  unfolding ending
  ended_left = grind (arith, nat_tests, length-drop o bs, get_or-drop o bs 0 0)

-- a byte of row r among the bytes that are left
at_left : (bs : List ℕ) (r i j : ℕ) → 4 + 7 * r + i ≡ j → get_or (drop (4 + 7 * r) bs) i 0 ≡ get_or bs j 0
at_left bs r i j e = get_or-drop (4 + 7 * r) bs i 0 ∙ ap (λ (k : ℕ). get_or bs k 0) e

-- row r among the bytes that are left is row r of the whole
row_left : (bs : List ℕ) (r : ℕ) →
    row_taken (get_or bs 2 0) (get_or bs 3 0) (drop (4 + 7 * r) bs) ≡ taken (stands bs (4 + 7 * r) 2 7) (row_fits (table_of bs) r) NoRow RowNumbers (drop 7 (drop (4 + 7 * r) bs))
row_left bs r = rw (
  stands_left bs (4 + 7 * r) 2 6,
  at_left bs r 1 (5 + 7 * r) (omega arith),
  at_left bs r 2 (6 + 7 * r) (omega arith),
  at_left bs r 3 (7 + 7 * r) (omega arith),
  at_left bs r 4 (8 + 7 * r) (omega arith),
  at_left bs r 5 (9 + 7 * r) (omega arith),
  at_left bs r 6 (10 + 7 * r) (omega arith),
)

-- before row r of n the bytes from there on are left, and the rows from there on are yet to be asked
pub record Walked (bs rest : List ℕ) (n r : ℕ) : Type 0 where
  pub left : rest ≡ drop (4 + 7 * r) bs
  pub same : read bs ≡ rows_read bs (n - r) r

pub walked_none : (bs rest : List ℕ) (s : Given) (n : ℕ) → Opened bs rest s → n ≡ 2 ^ (s.0 + s.1) → Walked bs rest n 0
walked_none bs rest s n q e =
    let all : n ≡ rows (table_of bs) = e ∙ ap (λ (g : Given). 2 ^ (g.0 + g.1)) q.sizes in
    let z : n - 0 ≡ rows (table_of bs) = omega arith in
    record { left = q.left; same = q.same ∙ ap (λ (k : ℕ). rows_read bs k 0) (sym z) }

module _ (bs rest : List ℕ) (n r : ℕ) (w : Walked bs rest n r) where
  -- the first row that is left
  module _ (s : Given) (is : s ≡ given bs) (more : r < n) where
    row_is : row_taken s.1 s.2 rest ≡ taken (stands bs (4 + 7 * r) 2 7) (row_fits (table_of bs) r) NoRow RowNumbers (drop 7 (drop (4 + 7 * r) bs))
    row_is =
        ap (λ (g : Given). row_taken g.1 g.2 rest) is
        ∙ (ap (row_taken (get_or bs 2 0) (get_or bs 3 0)) w.left ∙ row_left bs r)

    same_is : read bs ≡ asked (stands bs (4 + 7 * r) 2 7) (row_fits (table_of bs) r) NoRow RowNumbers (4 + 7 * r) (rows_read bs (n - (r + 1)) (r + 1))
    unfolding rows_read
    same_is = let e : n - r ≡ suc (n - (r + 1)) = omega arith in w.same ∙ ap (λ (k : ℕ). rows_read bs k r) e

    pub walked_more : (after : List ℕ) → Ok after ≡ row_taken s.1 s.2 rest → Walked bs after n (r + 1)
    walked_more after e =
        let q = on NoRow RowNumbers (4 + 7 * r) (drop 7 (drop (4 + 7 * r) bs)) (rows_read bs (n - (r + 1)) (r + 1)) (stands bs (4 + 7 * r) 2 7) (row_fits (table_of bs) r) after (e ∙ row_is) in
        let on7 : 4 + 7 * r + 7 ≡ 4 + 7 * (r + 1) = omega arith in
        record { left = q.1 ∙ (drop-drop 7 (4 + 7 * r) bs ∙ ap (λ (k : ℕ). drop k bs) on7); same = same_is ∙ q.2 }

    pub walked_not : (fault : TableFault) → Err fault ≡ row_taken s.1 s.2 rest → refused fault (4 + 7 * r) ≡ read bs
    walked_not fault e =
        off NoRow RowNumbers (4 + 7 * r) (drop 7 (drop (4 + 7 * r) bs)) (rows_read bs (n - (r + 1)) (r + 1)) (stands bs (4 + 7 * r) 2 7) (row_fits (table_of bs) r) fault (e ∙ row_is)
        ∙ sym same_is

  -- no row is left
  pub walked_all : n ≤ r → r ≤ n → ended rest (4 + 7 * n) ≡ read bs
  unfolding rows_read
  walked_all l u =
      let none : n - r ≡ 0 = omega arith in
      let all : n ≡ r = omega arith in
      ap (λ (x : List ℕ). ended x (4 + 7 * n)) w.left
      ∙ (ap (λ (k : ℕ). ended (drop (4 + 7 * r) bs) (4 + 7 * k)) all ∙ (ended_left bs (4 + 7 * r) ∙ sym (w.same ∙ ap (λ (k : ℕ). rows_read bs k r) none)))
