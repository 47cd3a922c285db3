-- Copies of clauses from a list.
use Rattle.std.proofs.Common.{◌≡◌, ℕ, ◌<◌, List, [], ◌∷◌, length, get_or, Result, Ok, Err, sym, subst}
use Rattle.std.specs.List.{AllByRecursion}
use Rattle.std.proofs.lemmas.List.{get_or-map}
use Rattle.refusal.specs.declared.faults.Full.{Full as NoPlace}
use Rattle.refusal.specs.declared.faults.RefutationFault.{RefutationFault}
use Rattle.refusal.specs.declared.faults.RefutationFault.TheVariants.{Full}
use Rattle.stack.specs.declared.spans.Span.{Span}
use Rattle.stack.specs.Pushes.{PushedAs}
use Rattle.stack.specs.Runs.{run, runs}
use Rattle.resolution.specs.Clauses.{Rising}
use Rattle.resolution.specs.Lists.{numbered_clause, CopiedAs, Proper}

-- what a push of a clause answers, as the answer of a copy
abbrev pub as_copy : Result (Unit {0}) NoPlace → Result (Unit {0}) RefutationFault
as_copy (Ok u) = Ok u
as_copy (Err e) = Err Full

copied_clause : (cs : List (List ℕ)) (n used end : ℕ) (ls ms : List ℕ) (r : Result (Unit {0}) NoPlace) → n < length cs → PushedAs (numbered_clause cs n) used end ls ms r → CopiedAs cs n used end ls ms (as_copy r)
copied_clause cs n used end ls ms (Ok u) h p = (h, p)
copied_clause cs n used end ls ms (Err e) h p = (h, p.0, p.1, p.2)

-- a clause that is pushed is the one asked for
pub copied : (cs : List (List ℕ)) (n used end : ℕ) (ls ms : List ℕ) (r : Result (Unit {0}) NoPlace) (c : List ℕ) → n < length cs → numbered_clause cs n ≡ c → PushedAs c used end ls ms r → CopiedAs cs n used end ls ms (as_copy r)
copied cs n used end ls ms r c h e p = copied_clause cs n used end ls ms r h (subst (λ z. PushedAs z used end ls ms r) (sym e) p)

pub runs_at : (ls : List ℕ) (ps : List Span) (i : ℕ) (d : Span) → i < length ps → numbered_clause (runs ls ps) i ≡ run ls (get_or ps i d)
runs_at ls ps i d h = get_or-map (run ls) ps i d [] h

pub proper_rising : (ls : List ℕ) (ps : List Span) → AllByRecursion (Proper ls) ps → AllByRecursion Rising (runs ls ps)
proper_rising ls [] h = tt
proper_rising ls (p ∷ ps) h = (h.0.1, proper_rising ls ps h.1)
