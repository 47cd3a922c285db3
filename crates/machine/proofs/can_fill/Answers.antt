use Rattle.std.proofs.Common.{◌≡◌, ℕ, ◌+◌, ◌-◌, ◌<◌, ◌≤◌, List, get_or, take, drop, sym, ap, ◌∙◌, subst, ⊎_elim, arith}
use Rattle.std.proofs.lemmas.List.{length-take, length-drop, get_or-take, get_or-drop, get_or_past}
use Rattle.std.proofs.lemmas.Bool.{cases_lt}
use Rattle.machine.proofs.can_fill.Goals as goal

-- the bytes behind the first, up to an end
behind : (row : List ℕ) (m end k : ℕ) → m ≡ 1 → 1 + k < end → get_or (take (end - m) (drop m row)) k 0 ≡ get_or row (1 + k) 0
behind row m end k e h =
    get_or-take (end - m) (drop m row) k 0 (omega arith) ∙ (get_or-drop m row k 0 ∙ ap (λ (i : ℕ). get_or row i 0) (omega arith))

pub returns-then-row-variables-clause-yes : goal.returns-then-row-variables-clause-yes
returns-then-row-variables-clause-yes c all =
    let row = c.args.row.now in
    let end = c.min-end.result in
    let m = c.min.result in (
      c.if-row-variables.true,
      λ k h. ⊎_elim
          (λ (in_ : 1 + k < end).
          subst (λ (b : ℕ). b < 2) (behind row m end k (omega (arith, c.min.ensures)) in_)
          (c.are_bits.ensures.yes all k (omega (arith, length-take (end - m) (drop m row), length-drop m row, c.min.ensures, c.min-end.ensures))))
          (λ (past : end ≤ 1 + k).
          let e = get_or_past row (1 + k) 0 (omega (arith, c.min-end.ensures, c.saturating_add.ensures)) in omega (arith, e))
          (cases_lt (1 + k) end),
    )

pub returns-then-row-variables-clause-no : goal.returns-then-row-variables-clause-no
returns-then-row-variables-clause-no c some ready =
    let row = c.args.row.now in
    let end = c.min-end.result in
    let m = c.min.result in
    c.are_bits.ensures.no some (λ k h.
    let long = length-take (end - m) (drop m row) in
    subst (λ (b : ℕ). b < 2) (sym (behind row m end k (omega (arith, long, length-drop m row, c.min.ensures, c.min-end.ensures)) (omega (arith, long, length-drop m row, c.min.ensures, c.min-end.ensures))))
    (ready.1 k (omega (arith, long, length-drop m row, c.min.ensures, c.min-end.ensures, c.saturating_add.ensures))))
