-- The entries that spans mark out.
use Rattle.std.specs.Prelude.{ℕ, ◌-◌, List, map, take, drop}
use Rattle.stack.specs.declared.spans.Span.{Span}

-- the entries from place a up to place b
unfoldable pub part : List ℕ → ℕ → ℕ → List ℕ
part area a b = take (b - a) (drop a area)

-- the literals that a span marks out
abbrev pub run : List ℕ → Span → List ℕ
run literals span = take span.length (drop span.start literals)

-- the clauses that spans mark out
abbrev pub runs : List ℕ → List Span → List (List ℕ)
runs literals spans = map (run literals) spans
