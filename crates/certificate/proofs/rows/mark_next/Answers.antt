use Rattle.std.proofs.Common.{◌≡◌, ℕ, ◌+◌, ◌*◌, ◌/◌, ◌%◌, ◌<◌, ◌≢◌, List, length, get_or, set, sym, refl, ap, ◌∙◌, subst, ⊎_elim, arith}
use mir.Val.{bool_byte}
use Rattle.std.proofs.lemmas.List.{get_or-set_same, get_or-set_other}
use Rattle.std.proofs.lemmas.Bool.{cases_eq}
use Rattle.machine.specs.Meaning.{lit}
use Rattle.machine.specs.Rows.{byte, bits}
use Rattle.certificate.proofs.Filling.{there, got, one_more, ahead, byte_of, low_lit}
use Rattle.certificate.proofs.rows.mark_next.Goals as goal

pub unwrap-literal-requires : goal.unwrap-literal-requires
unwrap-literal-requires g c =
    let law = g.M.Machine.lawful c.args.machine.now in
    there (g.M.Machine.meaning c.args.machine.now).next c.loop-bit.bit 0 c.next_literal.result (omega (arith, law.next_size)) c.next_literal.ensures

pub value-requires : goal.value-requires
value-requires g c =
    let m = g.M.Machine.meaning c.args.machine.now in
    let law = g.M.Machine.lawful c.args.machine.now in
    let v = got m.next c.loop-bit.bit 0 c.next_literal.result c.unwrap-literal.result (omega (arith, law.next_size)) c.next_literal.ensures c.unwrap-literal.ensures in
    omega (arith, law.next_low c.loop-bit.bit (omega arith))

-- two bits in one byte
low_kept : (row : List ℕ) (p x b k : ℕ) → get_or row p 0 ≡ x → p < length row → get_or (set row p (x + 2 * b)) k 0 % 2 ≡ get_or row k 0 % 2
low_kept row p x b k e l =
    ⊎_elim
    (λ (q : k ≡ p). let s = get_or-set_same row p (x + 2 * b) 0 l in let t = ap (λ (i : ℕ). get_or (set row p (x + 2 * b)) i 0) q in let u = ap (λ (i : ℕ). get_or row i 0) q in omega arith)
    (λ (n : k ≢ p). ap (λ (y : ℕ). y % 2) (get_or-set_other row p k (x + 2 * b) 0 n))
    (cases_eq k p)

pub loop-bit-preserved : goal.loop-bit-preserved
loop-bit-preserved g c =
    let m = g.M.Machine.meaning c.args.machine.now in
    let law = g.M.Machine.lawful c.args.machine.now in
    let row = c.loop-bit.row in
    let first = c.args.row.now in
    let bit = c.loop-bit.bit in
    let l = c.unwrap-literal.result in
    let b = c.value.result in
    let p = 1 + c.inputs-first.result + bit in
    let x = get_or row p 0 in
    let v = got m.next bit 0 c.next_literal.result l (omega (arith, law.next_size)) c.next_literal.ensures c.unwrap-literal.ensures in
    let is : b ≡ lit (bits first) (get_or m.next bit 0) = c.value.ensures ∙ low_lit row first l (c.loop-bit.invariant.0 (l / 2) (omega (arith, law.next_low bit (omega arith)))) ∙ ap (lit (bits first)) v in
    let at : p ≡ 1 + m.inputs + bit = omega arith in
    let small : x < 2 = subst (λ (q : ℕ). get_or row q 0 < 2) (sym at) (c.loop-bit.invariant.2 bit (omega arith) (omega arith)) in
    let fits : p < length row = omega (arith, law.room) in (
      (λ k h. low_kept row p x (bool_byte b) k refl fits ∙ c.loop-bit.invariant.0 k h),
      one_more (λ j y. y / 2 ≡ byte (lit (bits first) (get_or m.next j 0))) row (1 + m.inputs) p bit (x + 2 * bool_byte b) at fits
          (let h : (x + 2 * bool_byte b) / 2 ≡ bool_byte b = omega arith in h ∙ byte_of b ∙ ap byte is) c.loop-bit.invariant.1,
      ahead (λ j y. j < m.state_bits → y < 2) row (1 + m.inputs) p bit (x + 2 * bool_byte b) at c.loop-bit.invariant.2,
    )
