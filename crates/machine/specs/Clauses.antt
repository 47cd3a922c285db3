-- The literals of a clause that is answered by value.
use Rattle.std.specs.Prelude.{ℕ, List, take}
use Rattle.machine.specs.declared.clause.Clause.{Clause}

-- the literals of a clause, in order
abbrev pub listed : Clause → List ℕ
listed c = take c.length c.literals
