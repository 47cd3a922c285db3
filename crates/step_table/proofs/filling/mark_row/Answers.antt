use Rattle.std.proofs.Common.{◌≡◌, ℕ, ◌+◌, ◌-◌, eqb, length, replicate, take, drop, set, sym, ap, ◌∙◌, arith}
use Rattle.std.proofs.lemmas.List.{length-take-le, length-drop, length-set, length-replicate}
use Rattle.std.proofs.lemmas.List.FromFn.{length-map-range_with_len}
use Rattle.std.proofs.lemmas.Slice.{put_mid-paste}
use Rattle.machine.specs.Rows.{byte}
use Rattle.step_table.specs.Filling.{mark_bytes}
use Rattle.step_table.proofs.Written.{all_written, one_written}
use Rattle.step_table.proofs.filling.mark_row.Goals as goal

pub returns : goal.returns
returns c =
    let row = c.args.row.now in
    let first = c.args.first in
    let count = c.args.count in
    let marked = c.args.marked in
    let size : length (take (first + count - first) (drop first row)) ≡ count = omega (arith, length-take-le (first + count - first) (drop first row) (omega (arith, length-drop first row)), length-drop first row) in
    let zeros : c.fill.new.self ≡ replicate count 0 = c.fill.ensures.after (λ y e. e) ∙ ap (λ (n : ℕ). replicate n 0) size in
    put_mid-paste first (first + count - first) row (set c.fill.new.self marked 1) (mark_bytes marked count) count
    (ap (λ xs. set xs marked 1) zeros
    ∙ all_written (λ k. eqb k marked) (set (replicate count 0) marked 1) count (length-set (replicate count 0) marked 1 ∙ length-replicate count 0) (λ k l. one_written count marked k c.requires.0 l))
    (omega arith) (sym (length-map-range_with_len (λ k. byte (eqb k marked)) 0 count))
