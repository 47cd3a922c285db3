-- What came before a value that is there.
use Rattle.std.proofs.Common.{◌≡◌, ℕ, Some, None, Ok, Err, Option, Result, refl, arith}
use Rattle.circuit_text.specs.Chains.{and_then, carried}

pub came : {X Y : Type 0} (o : Option X) (next : X → Option Y) (y : Y) → and_then o next ≡ Some y → (x : X) × (o ≡ Some x) × (next x ≡ Some y)
came None next y e = absurd (let z : ◌≡◌ {A = ℕ} 0 1 = cc in omega arith)
came (Some x) next y e = (x, refl, e)

pub carried_came : {X Y E : Type 0} (r : Result X E) (next : X → Result Y E) (y : Y) → carried r next ≡ Ok y → (x : X) × (r ≡ Ok x) × (next x ≡ Ok y)
carried_came (Ok x) next y e = (x, refl, e)
carried_came (Err f) next y e = absurd (let z : ◌≡◌ {A = ℕ} 0 1 = cc in omega arith)
