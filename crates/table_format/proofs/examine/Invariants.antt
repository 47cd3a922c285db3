use Rattle.std.proofs.Common.{◌≡◌}
use Rattle.table_format.proofs.Walk.{given, Walked}
use Rattle.table_format.proofs.examine.Given as goal

abbrev pub invariant-loop-r : goal.invariant-loop-r
invariant-loop-r l = record {
  sizes : (l.sizes.inputs, l.sizes.state_bits, l.sizes.rules) ≡ given l.bytes;
  walked : Walked l.bytes l.rest l.rows l.r-counter;
}
