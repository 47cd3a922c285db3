use Rattle.std.proofs.Common.{◌≡◌, ◌+◌, ◌^◌, ◌≤◌, take}
use Rattle.questions.specs.Places.{halved}
use Rattle.questions.proofs.closing.find_span.Given as goal

abbrev pub invariant-loop-bit : goal.invariant-loop-bit
invariant-loop-bit l = (halved (take l.frames.spans.used l.spans) l.literal 16 0 ≡ halved (take l.frames.spans.used l.spans) l.literal l.bit l.span) × (l.span + 2 ^ l.bit ≤ 65536)
