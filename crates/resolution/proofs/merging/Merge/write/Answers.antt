use Rattle.std.proofs.Common.{◌≡◌, ℕ, ◌+◌, ◌-◌, ◌<◌, ◌≤◌, List, ◌++◌, length, take, drop, sym, refl, ap, ◌∙◌, arith}
use Rattle.std.proofs.lemmas.List.{take-set-le, length-set, drop-drop}
use Rattle.stack.specs.Runs.{part}
use Rattle.resolution.specs.Merging.{rest}
use Rattle.resolution.proofs.Parts.{part_none, turn_skip, turn_keep, turn_end, rest_kept, joined, unwritten, turn_quick, tail_quick, tail_more, moved}
use Rattle.resolution.proofs.merging.Merge.write.Goals as goal

pub both-init : goal.both-init
both-init c = (
  omega arith,
  omega arith,
  omega arith,
  omega arith,
  refl,
  ap (λ a. a ++ rest c.args.literals.now c.args.self.pivot c.args.self.against c.args.self.left.start c.args.self.left.end c.args.self.right.start c.args.self.right.end) (part_none c.args.literals.now c.args.from c.args.from (omega arith)),
  refl,
)

pub both-preserved : goal.both-preserved
both-preserved c =
    let m = moved _ _ _ _ _ _ _ c.advance-pace.ensures in (
      omega arith,
      omega arith,
      omega arith,
      simp length-set (omega arith),
      take-set-le c.args.from c.both.literals c.both.at c.chosen.result c.both.invariant.2 ∙ c.both.invariant.4,
      turn_quick c.args.from c.args.literals.now c.both.literals c.args.self.pivot c.args.self.against c.both.i c.args.self.left.end c.both.j c.args.self.right.end c.both.at _
          (omega arith) (omega arith) (omega arith) (omega arith) c.both.invariant.2 (omega arith) c.both.invariant.4 c.both.invariant.5 (omega (arith, c.both.auto.literals)) (omega (arith, c.both.auto.literals)) _ _ _ c.chosen.result c.advance-pace.ensures (λ k. c.chosen.ensures.new k ∙ c.min.ensures),
      tail_quick c.args.literals.now c.both.literals c.both.at c.advance-pace.result.kept c.chosen.result m.2 c.chosen.ensures.old c.both.invariant.6,
    )

-- what the second loop still has to write, of the whole
whole : (n : ℕ) (ls ms ns : List ℕ) (p q i e j f i₁ j₁ at₁ at i₀ j₀ : ℕ) → i₁ ≤ e → e ≤ n → j₁ ≤ f → f ≤ n → take n ms ≡ take n ls
    → part ns n at ++ rest ms p q i e j f ≡ part ms n at₁ ++ rest ms p q i₁ e j₁ f
    → part ms n at₁ ++ rest ls p q i₁ e j₁ f ≡ rest ls p q i₀ e j₀ f
    → part ns n at ++ rest ms p q i e j f ≡ rest ls p q i₀ e j₀ f
whole n ls ms ns p q i e j f i₁ j₁ at₁ at i₀ j₀ a b c d t x y =
    x ∙ ap (λ r. part ms n at₁ ++ r) (rest_kept n ls ms p q i₁ e j₁ f a b c d t) ∙ y

tail_later : (ls ms : List ℕ) (a b : ℕ) → a ≤ b → drop a ms ≡ drop a ls → drop b ms ≡ drop b ls
tail_later ls ms a b h t =
    let z : a + (b - a) ≡ b = omega arith in
    ap (λ k. drop k ms) (sym z) ∙ sym (drop-drop (b - a) a ms) ∙ ap (drop (b - a)) t ∙ drop-drop (b - a) a ls ∙ ap (λ k. drop k ls) z

free : (c : goal.In-Some-keep) → c.loop-next.at < length c.loop-next.literals
free c =
    let h = c.in-Some.ensures in
    unwritten c.args.from c.loop-next.at c.in-Some-keep.x c.loop-next.literals _ _ _ c.loop-next.invariant.2 c.loop-next.invariant.3
    (whole c.args.from c.args.literals.now c.both.literals c.loop-next.literals c.args.self.pivot c.args.self.against c.loop-next.i c.args.self.left.end c.loop-next.j c.args.self.right.end c.both.i c.both.j c.both.at c.loop-next.at c.args.self.left.start c.args.self.right.start
    c.both.invariant.0 c.requires.left.1 c.both.invariant.1 c.requires.right.1 c.both.invariant.4 c.loop-next.invariant.5 c.both.invariant.5)
    (sym (rest_kept c.args.from c.both.literals c.loop-next.literals c.args.self.pivot c.args.self.against c.loop-next.i c.args.self.left.end c.loop-next.j c.args.self.right.end c.loop-next.invariant.0 c.requires.left.1 c.loop-next.invariant.1 c.requires.right.1 c.loop-next.invariant.4) ∙ simp c.in-Some-keep.is at h.5)
    (omega (arith, c.loop-next.auto.literals, c.both.auto.literals))

pub bounds-literals-at-in-Some-keep : goal.bounds-literals-at-in-Some-keep
bounds-literals-at-in-Some-keep c = free c

pub loop-next-preserved-in-Some-keep : goal.loop-next-preserved-in-Some-keep
loop-next-preserved-in-Some-keep c =
    let h = c.in-Some.ensures in
    let l = free c in (
      h.1,
      h.3,
      omega arith,
      simp length-set (omega arith),
      take-set-le c.args.from c.loop-next.literals c.loop-next.at c.in-Some-keep.x c.loop-next.invariant.2 ∙ c.loop-next.invariant.4,
      turn_keep c.args.from c.both.literals c.loop-next.literals c.args.self.pivot c.args.self.against c.loop-next.i _ c.loop-next.j _ c.in-Some.next.i c.in-Some.next.j c.loop-next.at _
          h.1 (omega arith) h.3 (omega arith) h.0 h.2 c.loop-next.invariant.4 c.loop-next.invariant.5 c.in-Some-keep.x c.loop-next.invariant.2 l (simp c.in-Some-keep.is at h.5),
      omega arith,
      tail_more c.both.literals c.loop-next.literals c.loop-next.at c.in-Some-keep.x c.loop-next.invariant.7,
    )

pub loop-next-preserved : goal.loop-next-preserved
loop-next-preserved c =
    let h = c.in-Some.ensures in (
      h.1,
      h.3,
      c.loop-next.invariant.2,
      c.loop-next.invariant.3,
      c.loop-next.invariant.4,
      turn_skip c.args.from c.both.literals c.loop-next.literals c.args.self.pivot c.args.self.against c.loop-next.i _ c.loop-next.j _ c.in-Some.next.i c.in-Some.next.j c.loop-next.at _
          h.1 (omega arith) h.3 (omega arith) h.0 h.2 c.loop-next.invariant.4 c.loop-next.invariant.5 (simp c.in_default-keep.is at h.5),
      c.loop-next.invariant.6,
      c.loop-next.invariant.7,
    )

pub returns : goal.returns
returns c =
    let j = joined c.args.from c.loop-next.at c.args.literals.now c.loop-next.literals _ c.loop-next.invariant.2 c.loop-next.invariant.3 (c.loop-next.invariant.4 ∙ c.both.invariant.4)
    (c.loop-next.invariant.7 ∙ tail_later c.args.literals.now c.both.literals c.both.at c.loop-next.at c.loop-next.invariant.6 c.both.invariant.6)
    (turn_end c.args.from c.both.literals c.loop-next.literals c.args.self.pivot c.args.self.against c.loop-next.i c.args.self.left.end c.loop-next.j c.args.self.right.end c.loop-next.at _
    c.loop-next.invariant.0 c.requires.left.1 c.loop-next.invariant.1 c.requires.right.1 c.loop-next.invariant.4
    (whole c.args.from c.args.literals.now c.both.literals c.loop-next.literals c.args.self.pivot c.args.self.against c.loop-next.i c.args.self.left.end c.loop-next.j c.args.self.right.end c.both.i c.both.j c.both.at c.loop-next.at c.args.self.left.start c.args.self.right.start
    c.both.invariant.0 c.requires.left.1 c.both.invariant.1 c.requires.right.1 c.both.invariant.4 c.loop-next.invariant.5 c.both.invariant.5)
    c.in_default.ensures) in
    record { end = j.0; after = j.1 }
