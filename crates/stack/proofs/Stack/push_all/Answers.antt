use Rattle.std.proofs.Common.{◌+◌, ◌-◌, ◌++◌, length, take, drop, refl, ap, ◌∙◌, arith}
use Rattle.std.proofs.lemmas.List.{take_all}
use Rattle.std.proofs.lemmas.Slice.{put_mid-paste}
use Rattle.stack.proofs.Stack.push_all.Goals as goal

pub returns : goal.returns
returns g c =
    let n = c.args.self.now.used in
    let xs = c.args.entries.now in
    let area = c.args.area.now in (
      omega arith,
      refl,
      put_mid-paste n (n + length xs - n) area c.copy_from_slice.new.self xs (length xs) c.copy_from_slice.ensures.after (omega arith) refl
          ∙ ap (λ z. (take n area ++ z) ++ drop (n + length xs) area) (take_all (length xs) xs (omega arith)),
    )
