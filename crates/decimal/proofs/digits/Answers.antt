use Rattle.std.proofs.Common.{◌≡◌, ◌+◌, ◌-◌, ◌*◌, ◌^◌, ◌<◌, ◌≤◌, [], length, get_or, drop, refl, sym, ap, ◌∙◌, ⊎_elim, arith}
use Rattle.std.proofs.lemmas.Bool.{cases_lt}
use Rattle.decimal.specs.Number.{leading, value_on}
use Rattle.decimal.proofs.Leading.{leading_more, leading_low, leading_high, leading_end, too_large, fitting_none, fitting_some}
use Rattle.decimal.proofs.digits.Goals as goal

pub loop-byte-init : goal.loop-byte-init
loop-byte-init c = (omega arith, refl, refl, omega arith)

pub returns-in_err-checked_mul : goal.returns-in_err-checked_mul
returns-in_err-checked_mul c =
    let text = c.args.text.now in
    let i = c.loop-byte.byte-index in
    let big : 2 ^ 32 ≤ c.loop-byte.value * 10 + (get_or text i 0 - 48) = grind (arith, c.in_err-checked_mul.ensures) in
    c.from_residual.ensures
    ∙ fitting_none (leading text) (too_large text i c.loop-byte.value (omega arith) (grind (arith, c.is_ascii_digit.ensures)) (grind (arith, c.is_ascii_digit.ensures)) c.loop-byte.invariant.2 big)

pub returns-in_err-value : goal.returns-in_err-value
returns-in_err-value c =
    let text = c.args.text.now in
    let i = c.loop-byte.byte-index in
    let big : 2 ^ 32 ≤ c.loop-byte.value * 10 + (get_or text i 0 - 48) = grind (arith, c.in_ok-checked_mul.ensures, c.from.ensures, c.in_err-value.ensures) in
    c.from_residual-in_err-value.ensures
    ∙ fitting_none (leading text) (too_large text i c.loop-byte.value (omega arith) (grind (arith, c.is_ascii_digit.ensures)) (grind (arith, c.is_ascii_digit.ensures)) c.loop-byte.invariant.2 big)

pub overflow_add-size : goal.overflow_add-size
overflow_add-size c = grind (arith, c.loop-byte.invariant.1)

pub loop-byte-preserved : goal.loop-byte-preserved
loop-byte-preserved c =
    let text = c.args.text.now in
    let i = c.loop-byte.byte-index in
    let more = leading_more text i (omega arith) (grind (arith, c.is_ascii_digit.ensures)) (grind (arith, c.is_ascii_digit.ensures)) in
    let e : c.in_ok-value.value ≡ c.loop-byte.value * 10 + (get_or text i 0 - 48) = grind (arith, c.in_ok-checked_mul.ensures, c.from.ensures, c.in_ok-value.ensures) in (
      grind (arith, c.in_ok-value.ensures),
      omega (arith, c.loop-byte.invariant.1),
      rw e (sym (ap (value_on c.loop-byte.value) more) ∙ c.loop-byte.invariant.2),
      omega (arith, ap length more, c.loop-byte.invariant.3),
    )

pub returns-after-loop-byte : goal.returns-after-loop-byte
returns-after-loop-byte c =
    let text = c.args.text.now in
    let i = c.loop-byte.byte-index in
    let stop = leading_end text i (omega arith) in
    fitting_some (leading text) c.loop-byte.value c.loop-byte.size
    (ap (value_on c.loop-byte.value) (sym stop) ∙ c.loop-byte.invariant.2)
    (omega (arith, ap length stop, c.loop-byte.invariant.1, c.loop-byte.invariant.3)) c.loop-byte.invariant.0

pub returns-then-not-is_ascii_digit : goal.returns-then-not-is_ascii_digit
returns-then-not-is_ascii_digit c =
    let text = c.args.text.now in
    let i = c.loop-byte.byte-index in
    let stop : leading (drop i text) ≡ [] =
    ⊎_elim (λ (l : get_or text i 0 < 48). leading_low text i (omega arith) l)
    (λ (h : 48 ≤ get_or text i 0). leading_high text i (omega arith) (grind (arith, c.is_ascii_digit.ensures, h)))
    (cases_lt (get_or text i 0) 48) in
    fitting_some (leading text) c.loop-byte.value c.loop-byte.size
    (ap (value_on c.loop-byte.value) (sym stop) ∙ c.loop-byte.invariant.2)
    (omega (arith, ap length stop, c.loop-byte.invariant.1, c.loop-byte.invariant.3)) c.loop-byte.invariant.0
