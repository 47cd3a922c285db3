use Rattle.std.proofs.Common.{◌∙◌}
use Rattle.stack.specs.Runs.{part}
use Rattle.resolution.proofs.Laws.{any_contains}
use Rattle.resolution.proofs.merging.has.Goals as goal

pub returns : goal.returns
unfolding part
returns c = c.contains.ensures.value ∙ any_contains c.args.literal _
