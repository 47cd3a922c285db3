use Rattle.std.proofs.Common.{◌≡◌, ℕ, ◌+◌, ◌*◌, map, set, sym, refl, ap, ◌∙◌, arith}
use Rattle.std.specs.List.{range_with_len}
use Rattle.std.proofs.lemmas.List.FromFn.{length-map-range_with_len, map-range_with_len_more}
use Rattle.stack.specs.Pushes.{placed}
use Rattle.questions.proofs.Placing.{placed_none, placed_more}
use Rattle.questions.proofs.Selectors.{selecting_count, selecting_is}
use Rattle.questions.proofs.list.TraceList.push_selectors.Goals as goal

pub returns-then-size-room : goal.returns-then-size-room
returns-then-size-room g c =
    let n = selecting_count (g.M.Machine.meaning c.args.self.now.machine.now).variables c.args.self.now.frames.now c.args.index in
    let a = ap (λ m. m.clauses) c.before-first.ensures in
    (grind arith, refl, refl)

pub loop-k-init : goal.loop-k-init
loop-k-init g c = placed_none c.args.literals.now c.args.stack.now.used

pub loop-k-preserved : goal.loop-k-preserved
loop-k-preserved g c =
    let first = c.before-first.result.clauses in
    let area = c.args.literals.now in
    let start = c.args.stack.now.used in
    let k = c.loop-k.k in
    let sel : ℕ → ℕ = λ n. 2 * (c.variables-variables.result + n) in
    let xs = map sel (range_with_len first k) in
    let n = length-map-range_with_len sel first k in
    ap (λ ls. set ls (start + k) (sel (first + k))) c.loop-k.invariant
    ∙ placed_more area start xs (start + k) (sel (first + k)) (omega arith) (grind arith)
    ∙ ap (λ ys. placed start ys area) (sym (map-range_with_len_more sel first k (first + k) refl))

pub returns : goal.returns
returns g c =
    let v = (g.M.Machine.meaning c.args.self.now.machine.now).variables in
    let f = c.args.self.now.frames.now in
    let area = c.args.literals.now in
    let start = c.args.stack.now.used in
    let first = c.before-first.result.clauses in
    let n = selecting_count v f c.args.index in
    let a = ap (λ m. m.clauses) c.before-first.ensures in
    let b = c.frame_end.ensures.end in
    let s = c.saturating_sub-size.ensures in
    let z : c.loop-k.k ≡ c.saturating_sub-size.result = omega arith in (
      grind arith,
      omega (arith, n, a, b, s),
      c.loop-k.invariant
          ∙ ap (λ k. placed start (map (λ n. 2 * (c.variables-variables.result + n)) (range_with_len first k)) area) z
          ∙ ap (λ w. placed start (map (λ n. 2 * (w + n)) (range_with_len first c.saturating_sub-size.result)) area) c.variables-variables.ensures
          ∙ ap (λ xs. placed start xs area) (selecting_is v f c.args.index first c.saturating_sub-size.result a (omega (arith, a, b, s))),
    )
