-- What follows a value that is there.
use Rattle.std.specs.Prelude.{Some, None, Ok, Err, Option, Result}

abbrev pub and_then : {X Y : Type 0} → Option X → (X → Option Y) → Option Y
and_then None next = None
and_then (Some x) next = next x

abbrev pub carried : {X Y E : Type 0} → Result X E → (X → Result Y E) → Result Y E
carried (Ok x) next = next x
carried (Err e) next = Err e
