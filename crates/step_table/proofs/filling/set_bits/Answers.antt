use Rattle.std.proofs.Common.{◌≡◌, ◌+◌, ◌-◌, length, take, drop, sym, arith}
use Rattle.std.proofs.lemmas.List.{length-take-le, length-drop}
use Rattle.std.proofs.lemmas.List.FromFn.{length-map-range_with_len}
use Rattle.std.proofs.lemmas.Slice.{put_mid-paste}
use Rattle.machine.specs.Rows.{byte}
use Rattle.table_format.specs.Stepping.{binary_digit}
use Rattle.step_table.specs.Filling.{bit_bytes}
use Rattle.step_table.proofs.Written.{all_written, written_more}
use Rattle.step_table.proofs.filling.set_bits.Goals as goal

pub loop-bit-preserved : goal.loop-bit-preserved
loop-bit-preserved c =
    written_more (binary_digit c.args.value) c.loop-bit.byte-items c.loop-bit.bit c.from.result c.bit_of.result
    (omega (arith, c.loop-bit.auto.byte-items)) c.from.ensures c.bit_of.ensures c.loop-bit.invariant

pub returns : goal.returns
returns c =
    let row = c.args.row.now in
    let first = c.args.first in
    let count = c.args.count in
    let size : length (take (first + count - first) (drop first row)) ≡ count = omega (arith, length-take-le (first + count - first) (drop first row) (omega (arith, length-drop first row)), length-drop first row) in
    let items : length c.loop-bit.byte-items ≡ count = omega (arith, c.loop-bit.auto.byte-items) in
    put_mid-paste first (first + count - first) row c.loop-bit.byte-items (bit_bytes c.args.value count) count
    (all_written (binary_digit c.args.value) c.loop-bit.byte-items count items (λ k l. c.loop-bit.invariant k (omega arith))) (omega arith)
    (sym (length-map-range_with_len (λ k. byte (binary_digit c.args.value k)) 0 count))
