use Rattle.std.proofs.Common.{◌≡◌, ◌<◌, ◌≤◌, [], ◌∷◌, ◌++◌, length, replicate, sym, ap, ◌∙◌, add-one, arith, take_all, take-suc-set}
use Rattle.std.proofs.lemmas.List.{replicate_more}
use Rattle.areas.proofs.clear.Goals as goal

pub loop-entry-preserved : goal.loop-entry-preserved
loop-entry-preserved g c =
    let h : c.loop-entry.entry-index < length c.loop-entry.area = omega arith in
    rw (add-one, take-suc-set) (ap (λ r. r ++ c.blank-blank.result ∷ []) c.loop-entry.invariant ∙ replicate_more c.loop-entry.entry-index c.blank-blank.result ∙ rw add-one)

pub returns : goal.returns
returns g c =
    let h : length c.loop-entry.area ≤ c.loop-entry.entry-index = omega arith in
    let e : c.loop-entry.entry-index ≡ length c.args.area.now = omega arith in
    sym (take_all c.loop-entry.entry-index c.loop-entry.area h) ∙ c.loop-entry.invariant ∙ ap (λ n. replicate n c.blank-blank.result) e ∙ ap (replicate (length c.args.area.now)) c.blank-blank.ensures
