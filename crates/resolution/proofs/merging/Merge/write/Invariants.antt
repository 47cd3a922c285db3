use Rattle.std.proofs.Common.{◌≡◌, ◌+◌, ◌-◌, ◌≤◌, ◌++◌, length, take, drop}
use Rattle.stack.specs.Runs.{part}
use Rattle.resolution.specs.Merging.{rest}
use Rattle.resolution.proofs.merging.Merge.write.Given as goal

abbrev pub invariant-both : goal.invariant-both
invariant-both l =
    (l.i ≤ l.self.left.end) × (l.j ≤ l.self.right.end) × (l.from ≤ l.at) × (l.at ≤ length l.literals)
    × (take l.from l.literals ≡ take l.from l.initial.literals)
    × (part l.literals l.from l.at ++ rest l.initial.literals l.self.pivot l.self.against l.i l.self.left.end l.j l.self.right.end
    ≡ rest l.initial.literals l.self.pivot l.self.against l.initial.i l.self.left.end l.initial.j l.self.right.end)
    × (drop l.at l.literals ≡ drop l.at l.initial.literals)

abbrev pub decreases-both : goal.decreases-both
decreases-both l = (l.self.left.end - l.i) + (l.self.right.end - l.j)

abbrev pub invariant-loop-next : goal.invariant-loop-next
invariant-loop-next l =
    (l.i ≤ l.self.left.end) × (l.j ≤ l.self.right.end) × (l.from ≤ l.at) × (l.at ≤ length l.literals)
    × (take l.from l.literals ≡ take l.from l.initial.literals)
    × (part l.literals l.from l.at ++ rest l.initial.literals l.self.pivot l.self.against l.i l.self.left.end l.j l.self.right.end
    ≡ part l.initial.literals l.from l.initial.at ++ rest l.initial.literals l.self.pivot l.self.against l.initial.i l.self.left.end l.initial.j l.self.right.end)
    × (l.initial.at ≤ l.at)
    × (drop l.at l.literals ≡ drop l.at l.initial.literals)

abbrev pub decreases-loop-next : goal.decreases-loop-next
decreases-loop-next l = (l.self.left.end - l.i) + (l.self.right.end - l.j)
