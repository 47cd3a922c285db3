use Rattle.std.proofs.Common.{◌+◌, ◌-◌, ◌++◌, take, drop, sym, refl, ap, ◌∙◌, arith}
use Rattle.stack.proofs.Places.{between_min, length_between}
use Rattle.stack.proofs.Stack.push_again.Goals as goal

pub returns-then-self-area : goal.returns-then-self-area
returns-then-self-area g c =
    let l = length_between c.args.area.now c.args.entries.start c.args.entries.end c.min-start.result c.min-end.result c.min-end.ensures c.min-start.ensures in
    (elim c.then-self-area.branch [ goal.then-self-area-via-then-self-area w ↦ omega (arith, w.if-self-area.true) | goal.then-self-area-via-else-self-area+then-end-start w ↦ omega (arith, w.if-self-area.false, w.if-end-start.true) ], refl, refl)

pub returns : goal.returns
returns g c =
    let area = c.args.area.now in
    let n = c.args.self.now.used in
    let l = length_between area c.args.entries.start c.args.entries.end c.min-start.result c.min-end.result c.min-end.ensures c.min-start.ensures in
    let e = between_min area c.args.entries.start c.args.entries.end c.min-start.result c.min-end.result c.min-end.ensures c.min-start.ensures in (
      omega arith,
      omega arith,
      c.copy_within.ensures.after
          ∙ ap (λ z. (take n area ++ z) ++ drop (n + (c.min-end.result - c.min-start.result)) area) (sym e)
          ∙ ap (λ k. (take n area ++ take (c.args.entries.end - c.args.entries.start) (drop c.args.entries.start area)) ++ drop (n + k) area) (sym l),
    )
