-- The span that a literal of the ended clauses lies in.
use Rattle.std.specs.Prelude.{ℕ, zero, suc, ◌+◌, ◌^◌, Bool, cond, ◌&&◌, List, length, nat_le, nat_lt}
use Rattle.stack.specs.declared.spans.Span.{Span}
use Rattle.frames.specs.Held.{span_at}

-- there is a span k, and it starts at or before literal q
unfoldable pub begun : List Span → ℕ → ℕ → Bool
begun ps q k = nat_lt k (length ps) && nat_le (span_at ps k).start q

-- the search for the last span that has begun, where span k has and span k + 2 ^ b has not
unfoldable pub halved : List Span → ℕ → ℕ → ℕ → ℕ
halved ps q zero k = k
halved ps q (suc b) k = halved ps q b (cond (begun ps q (k + 2 ^ b)) (k + 2 ^ b) k)

-- the span that literal q lies in: 16 halvings, as there are at most 65,536 spans
abbrev pub place : List Span → ℕ → ℕ
place ps q = halved ps q 16 0
