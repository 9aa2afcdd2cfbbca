-- `lent::is_busy`: two comparisons say it.
use native.Mathlib.Omega.{arith}
use Rattle.choice.proofs.Says.{says_le, says_lt, says_same}
use Rattle.lent.proofs.TagWords.{is_busy}
use Rattle.lent.proofs.is_busy.Goals as goal

pub returns-then-tag-ge-STARTS : goal.returns-then-tag-ge-STARTS
returns-then-tag-ge-STARTS c =
    let e = is_busy c.args.tag (omega arith) in
    says_same _ _ _ (λ q. e.1 (omega (arith, c.if-tag-ge-STARTS.true), q)) (λ p. (e.0 p).1) (says_lt _ _)

pub returns-else-tag-ge-STARTS : goal.returns-else-tag-ge-STARTS
returns-else-tag-ge-STARTS c =
    let e = is_busy c.args.tag (omega arith) in
    says_same _ _ _ (λ q. absurd (omega (arith, q, c.if-tag-ge-STARTS.false))) (λ p. (e.0 p).0) (says_le _ _)
