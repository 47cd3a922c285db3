-- What the reader makes of the record that stands first in the bytes that are left.
use Rattle.std.specs.Prelude.{ℕ, ◌+◌, ◌*◌, ◌^◌, cond, ◌&&◌, List, length, drop, Ok, Err, Result, ◌==◌, nat_lt, slice_index}
use Rattle.refusal.specs.declared.faults.TableFault.{TableFault}
use Rattle.refusal.specs.declared.faults.TableFault.TheVariants.{NoSizes, Sizes, NoRow, RowNumbers, Ending}
use Rattle.refusal.specs.declared.faults.TableRefusal.{TableRefusal}
use Rattle.table_format.specs.Tables.{table_of}
use Rattle.table_format.specs.Questions.{stands, sizes_fit, refused}

-- the sizes (inputs, state bits, rules), and the bytes after them
abbrev pub sizes_taken : List ℕ → Result ((ℕ × ℕ × ℕ) × List ℕ) TableFault
sizes_taken bytes =
    cond (stands bytes 0 1 4)
    (cond (sizes_fit (table_of bytes)) (Ok ((slice_index bytes 1, slice_index bytes 2, slice_index bytes 3), drop 4 bytes)) (Err Sizes))
    (Err NoSizes)

-- the bytes after a row, in a table of so many state bits and rules
abbrev pub row_taken : ℕ → ℕ → List ℕ → Result (List ℕ) TableFault
row_taken state_bits rules bytes =
    cond (stands bytes 0 2 7)
    (cond (nat_lt (slice_index bytes 1 + slice_index bytes 2 * 256) (2 ^ state_bits) && nat_lt (slice_index bytes 3 + slice_index bytes 4 * 256 + slice_index bytes 5 * 65536 + slice_index bytes 6 * 16777216) (2 ^ rules))
    (Ok (drop 7 bytes)) (Err RowNumbers))
    (Err NoRow)

-- the end record, at an offset of the whole, and no byte after it
abbrev pub ended : List ℕ → ℕ → Result (Unit {0}) TableRefusal
ended bytes offset =
    cond (stands bytes 0 3 1)
    (cond (length bytes == 1) (Ok tt) (refused Ending (offset + 1)))
    (refused Ending offset)
