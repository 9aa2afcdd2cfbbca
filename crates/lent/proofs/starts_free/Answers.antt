-- `lent::starts_free`: two comparisons say it.
use native.Mathlib.Omega.{arith}
use Rattle.choice.proofs.Says.{says_lt, says_same}
use Rattle.lent.proofs.TagWords.{starts_free}
use Rattle.lent.proofs.starts_free.Goals as goal

pub returns-then-tag-gt-FREE_STARTS : goal.returns-then-tag-gt-FREE_STARTS
returns-then-tag-gt-FREE_STARTS c = let e = starts_free c.args.tag (omega arith) in says_same _ _ _ (λ q. e.1 (omega (arith, c.if-tag-gt-FREE_STARTS.true), q)) (λ p. (e.0 p).1) (says_lt _ _)

pub returns-else-tag-gt-FREE_STARTS : goal.returns-else-tag-gt-FREE_STARTS
returns-else-tag-gt-FREE_STARTS c = let e = starts_free c.args.tag (omega arith) in says_same _ _ _ (λ q. absurd (omega (arith, q, c.if-tag-gt-FREE_STARTS.false))) (λ p. (e.0 p).0) (says_lt _ _)
