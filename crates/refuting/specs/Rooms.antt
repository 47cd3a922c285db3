-- Where the clauses of a refutation may stand.
use Rattle.std.specs.Prelude.{◌≡◌, ℕ, ◌≤◌, true, List, length}
use Rattle.stack.specs.declared.spans.Span.{Span}
use Rattle.resolution.specs.declared.refutation.Refutation.{Refutation}
use Rattle.resolution.specs.Outcomes.{admitted}
use Rattle.refuting.specs.declared.Below.{Below}

-- areas of so many literals and spans, of which so many are in use below the refutation
pub record Room : Type 0 where
  pub literals : ℕ
  pub spans : ℕ
  pub literals_below : ℕ
  pub spans_below : ℕ

-- the room above what the stacks hold
abbrev pub room_above : Below → List ℕ → List Span → Room
room_above below ls ps = record { literals = length ls; spans = length ps; literals_below = below.literals.used; spans_below = below.spans.used }

-- the room of a refutation under way
abbrev pub room_of : Refutation → List ℕ → List Span → Room
room_of t ls ps = record { literals = length ls; spans = length ps; literals_below = t.floor; spans_below = t.first }

-- the list reads only below the refutation, the stacks lie within the areas, and these are admitted
pub record Ready (literal_mark span_mark : ℕ) (room : Room) : Type 0 where
  pub list_literals : literal_mark ≤ room.literals_below
  pub list_spans : span_mark ≤ room.spans_below
  pub literals : room.literals_below ≤ room.literals
  pub spans : room.spans_below ≤ room.spans
  pub admits : admitted room.literals room.spans ≡ true
