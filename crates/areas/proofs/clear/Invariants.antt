use Rattle.std.proofs.Common.{◌≡◌, take, replicate}
use Rattle.areas.proofs.clear.Given as goal

abbrev pub invariant-loop-entry : goal.invariant-loop-entry
invariant-loop-entry g l = take l.entry-index l.area ≡ replicate l.entry-index l.blank
