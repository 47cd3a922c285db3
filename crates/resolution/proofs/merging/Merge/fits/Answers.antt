use Rattle.std.proofs.Common.{sym, arith}
use Rattle.std.proofs.lemmas.Bool.{le-leb}
use Rattle.resolution.proofs.Parts.{rest_short}
use Rattle.resolution.proofs.merging.Merge.fits.Goals as goal

pub returns-then-right-free : goal.returns-then-right-free
returns-then-right-free c =
    let s = rest_short c.args.literals.now c.args.self.pivot c.args.self.against c.args.self.left.start c.args.self.left.end c.args.self.right.start c.args.self.right.end c.requires.left.0 c.requires.left.1 c.requires.right.0 c.requires.right.1 in
    sym (le-leb _ _ (omega arith))
