use Rattle.std.proofs.Common.{◌≡◌, ◌+◌, ◌-◌, ◌≤◌, length}
use Rattle.resolution.specs.Merging.{rest}
use Rattle.resolution.proofs.merging.Merge.is_at_most.Given as goal

abbrev pub invariant-loop-next : goal.invariant-loop-next
invariant-loop-next l =
    (l.i ≤ l.self.left.end) × (l.j ≤ l.self.right.end)
    × (length (rest l.literals l.self.pivot l.self.against l.i l.self.left.end l.j l.self.right.end) + l.initial.free
    ≡ length (rest l.literals l.self.pivot l.self.against l.initial.i l.self.left.end l.initial.j l.self.right.end) + l.free)

abbrev pub decreases-loop-next : goal.decreases-loop-next
decreases-loop-next l = (l.self.left.end - l.i) + (l.self.right.end - l.j)
