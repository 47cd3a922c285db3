use Rattle.std.proofs.Common.{rules}
use Rattle.resolution.proofs.Parts.{rest_none, rest_one_left, rest_one_right, rest_skip_left, rest_skip_right, rest_lt, rest_gt, rest_eq}
use Rattle.resolution.proofs.merging.Merge.step.Goals as goal

pub returns-in-None-None : goal.returns-in-None-None
returns-in-None-None c = search (rules, rest_none)

pub returns-in-None-Some : goal.returns-in-None-Some
returns-in-None-Some c = search (rules, rest_one_right)

pub returns-in-Some-None : goal.returns-in-Some-None
returns-in-Some-None c = search (rules, rest_one_left)

pub returns-in-Some-Some : goal.returns-in-Some-Some
returns-in-Some-Some c = search (rules, rest_skip_left)

pub returns-in-Some-Some-2 : goal.returns-in-Some-Some-2
returns-in-Some-Some-2 c = search (rules, rest_skip_right)

pub returns-in-Some-Some-3 : goal.returns-in-Some-Some-3
returns-in-Some-Some-3 c = search (rules, rest_lt)

pub returns-in-Some-Some-4 : goal.returns-in-Some-Some-4
returns-in-Some-Some-4 c = search (rules, rest_gt)

pub returns-in-Some-Some-5 : goal.returns-in-Some-Some-5
returns-in-Some-Some-5 c = search (rules, rest_eq)
