-- The questions that the reader of step tables puts, in order, and its answer.
use Rattle.std.specs.Prelude.{ℕ, zero, suc, ◌+◌, ◌*◌, ◌^◌, Bool, cond, ◌&&◌, List, length, Ok, Err, Result, ◌==◌, nat_le, nat_lt, slice_index}
use Rattle.refusal.specs.declared.faults.TableFault.{TableFault}
use Rattle.refusal.specs.declared.faults.TableFault.TheVariants.{NoSizes, Sizes, NoRow, RowNumbers, Ending}
use Rattle.refusal.specs.declared.faults.TableRefusal.{TableRefusal}
use Rattle.table_format.specs.Tables.{Table, rows, table_of}

-- a refusal with its offset
abbrev pub refused : TableFault → ℕ → Result (Unit {0}) TableRefusal
refused fault offset = Err (record { fault = fault; offset = offset })

-- a record of this kind and length stands at an offset, whole
abbrev pub stands : List ℕ → ℕ → ℕ → ℕ → Bool
stands bytes offset kind size = nat_le (offset + size) (length bytes) && slice_index bytes offset == kind

-- the sizes are in bounds
abbrev pub sizes_fit : Table → Bool
sizes_fit t = nat_le (t.inputs + t.state_bits) 10 && (nat_le 1 t.rules && nat_le t.rules 32)

-- the numbers of a row are in range
abbrev pub row_fits : Table → ℕ → Bool
row_fits t r = nat_lt (t.next r) (2 ^ t.state_bits) && nat_lt (t.broken r) (2 ^ t.rules)

-- the end record stands at an offset, and no byte follows it
unfoldable pub ending : List ℕ → ℕ → Result (Unit {0}) TableRefusal
ending bytes offset =
    cond (stands bytes offset 3 1)
    (cond (length bytes == offset + 1) (Ok tt) (refused Ending (offset + 1)))
    (refused Ending offset)

-- n more rows from row r on, each whole and in range, then the end
unfoldable pub rows_read : List ℕ → ℕ → ℕ → Result (Unit {0}) TableRefusal
rows_read bytes zero r = ending bytes (4 + 7 * r)
rows_read bytes (suc n) r =
    cond (stands bytes (4 + 7 * r) 2 7)
    (cond (row_fits (table_of bytes) r) (rows_read bytes n (r + 1)) (refused RowNumbers (4 + 7 * r)))
    (refused NoRow (4 + 7 * r))

-- the reader's answer
unfoldable pub read : List ℕ → Result (Unit {0}) TableRefusal
read bytes =
    cond (stands bytes 0 1 4)
    (cond (sizes_fit (table_of bytes)) (rows_read bytes (rows (table_of bytes)) 0) (refused Sizes 0))
    (refused NoSizes 0)
