use Rattle.std.proofs.Common.{◌≡◌, ℕ, ◌+◌, ◌-◌, ◌<◌, [], ◌∷◌, length, reverse, take, drop, fold, refl, ap, ◌∙◌, sym, arith, rules}
use Rattle.std.specs.Iterator.Adapters.{rev_steps}
use Rattle.std.specs.Slice.Iter.{iter_steps_back}
use Rattle.std.proofs.lemmas.Fn.{fold_over}
use Rattle.std.proofs.lemmas.Iterator.Adapters.{YieldsList-from_rev_slice}
use Rattle.std.proofs.lemmas.List.{length-take-le, length-drop, get_or-take, get_or-drop}
use Rattle.std.proofs.lemmas.List.Sums.{fold-append}
use Rattle.machine.proofs.RowBits.{part_bits}
use Rattle.machine.specs.Rows.{bits}
use Rattle.table_format.specs.Stepping.{number}
use Rattle.step_table.proofs.RowNumbers.{with_bit, number_folded}
use Rattle.step_table.proofs.filling.row_number.Goals as goal

pub returns : goal.returns
returns c =
    let row = c.args.row.now in
    let n = 1 + c.args.given - 1 in
    let part = take n (drop 1 row) in
    let sum : c.fold.result ≡ fold with_bit 0 (reverse part) = fold_over (rev_steps iter_steps_back) (λ y. y.now) _ (λ ys a. a ≡ fold with_bit 0 ys) _
    (λ ys a x b f' j k. let m : b ≡ with_bit a x.now = search rules in (m ∙ ap (λ s. with_bit s x.now) j ∙ sym (fold-append with_bit 0 ys (x.now ∷ [])), refl))
    c.rev.result (reverse part) 0 _ (YieldsList-from_rev_slice {s = c.rev.result} part (cc)).runs refl c.fold.ensures.ran in
    let n-is : n ≡ c.args.given = omega arith in
    let size : length part ≡ n = length-take-le n (drop 1 row) (omega (arith, length-drop 1 row)) in
    sum
    ∙ number_folded part (omega arith)
    (λ k l. let k< : k < n = omega arith in omega (arith, get_or-take n (drop 1 row) k 0 k<, get_or-drop 1 row k 0, c.requires.1.1 k (omega arith)))
    ∙ ap number (sym (part_bits row 1 n) ∙ ap (λ (m : ℕ). take m (drop 1 (bits row))) n-is)
