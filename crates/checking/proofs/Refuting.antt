-- A list that is refuted has no setting that satisfies it.
use Rattle.std.proofs.Common.{ℕ, List, [], ◌∷◌, ◌++◌, get_or, subst}
use Rattle.std.specs.List.{AllByRecursion}
use Rattle.std.proofs.ByRecursion.{All-push, All-get_or}
use Rattle.resolution.specs.Clauses.{Unsat}
use Rattle.resolution.specs.States.{Implied, Follows}
use Rattle.resolution.proofs.Laws.{implied_resolvent, implied_member, empty_unsat}
use Rattle.refuting.specs.Rooms.{Room}
use Rattle.refuting.specs.Refutations.{Step, Makes, taken, resolved, Leads, Refutes}
use Rattle.checking.specs.Lawful.{RefuteEach}

made_follows : {list own : List (List ℕ)} {s : Step} {c : List ℕ} → Makes list own s c → Follows list own → Implied list c
made_follows {list} (taken {n = n} inside) f = implied_member list n inside
made_follows {list} {own} (resolved {left = left} {right = right} {pivot = pivot} a b p q) f =
    implied_resolvent list (get_or own left []) (get_or own right []) pivot (All-get_or (Implied list) own left [] a f) (All-get_or (Implied list) own right [] b f)

all_follow : (list : List (List ℕ)) (room : Room) (own : List (List ℕ)) (steps : List Step) (all : List (List ℕ)) → Leads list room own steps all → Follows list own → Follows list all
all_follow list room own [] all e f = subst (Follows list) e f
all_follow list room own (s ∷ steps) all (c, makes, fits, leads) f =
    all_follow list room (own ++ c ∷ []) steps all leads (All-push (Implied list) own c f (made_follows makes f))

last_follows : (list before : List (List ℕ)) (c : List ℕ) → Follows list (before ++ c ∷ []) → Implied list c
last_follows list [] c f = f.0
last_follows list (b ∷ before) c f = last_follows list before c f.1

pub refutes_unsat : (list : List (List ℕ)) (room : Room) (steps : List Step) → Refutes list room steps → Unsat list
refutes_unsat list room steps r =
    empty_unsat list (last_follows list r.before [] (all_follow list room [] steps (r.before ++ [] ∷ []) r.leads tt))

pub each_unsat : (room : Room) (qs : List (List (List ℕ))) (refutations : List (List Step)) → RefuteEach room qs refutations → AllByRecursion Unsat qs
each_unsat room [] [] r = tt
each_unsat room [] (steps ∷ more) r = absurd r
each_unsat room (q ∷ qs) [] r = absurd r
each_unsat room (q ∷ qs) (steps ∷ more) r = (refutes_unsat q room steps r.0, each_unsat room qs more r.1)
