-- `lent::ends_free`: one comparison says it.
use native.Mathlib.Omega.{arith}
use Rattle.choice.proofs.Says.{says_eq, says_same}
use Rattle.lent.proofs.TagWords.{ends_free}
use Rattle.lent.proofs.ends_free.Goals as goal

pub returns : goal.returns
returns c = let e = ends_free c.args.tag (omega arith) c.args.s c.requires in says_same _ _ _ e.1 e.0 (says_eq _ _)
