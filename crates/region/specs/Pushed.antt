-- A block that was just put at the head of a list is what the next check of that list sees: so behind the first piece of
-- full length no later one of them is refused.
use Rattle.std.specs.Prelude.{ℕ, ◌≤◌, ◌<◌, ◌≡◌, refl, List}
use Rattle.std.proofs.Common.{arith, ap, ◌∙◌}
use Rattle.choice.specs.Choice.{if_eq, eq_no, eq_case, upd, upd_same}
use Rattle.script.specs.Memory.{Memory, Next, Prev, Mark, none, root, Write, apply}
use Rattle.script.specs.Script.{run, ◌>>◌, must_eq, Gives}
use Rattle.script.proofs.Script.{gives_get, gives_bind, gives_done, gives_eq}
use Rattle.sound.specs.Checks.{must_grain, must_lead, see_head}
use Rattle.sound.proofs.Seen.{gives_grain, gives_lead}
use Rattle.sound.specs.Links.{push_writes}

-- y is the head of list k, and all that is beside it agrees
pub head_there : (n : ℕ) (m : Memory) (k y : ℕ) → n ≤ none → y < n → m Next (root k) ≡ y → m Mark k ≡ 1 → m Prev y ≡ none → Gives m (see_head n k) y
unfolding see_head
head_there n m k y small i next_is mark_is prev_is = gives_get m Next (root k) _ next_is (gives_get m Mark k _ mark_is
    (gives_bind m (if_eq y none (must_eq 1 0) (must_grain n y >> (must_eq 1 1 >> must_lead Prev y none))) _
    (ap (run m) (eq_no y none _ _ (λ q. omega arith))
    ∙ gives_bind m (must_grain n y) _ (gives_grain m n y i)
    (gives_bind m (must_eq 1 1) _ (gives_eq m 5 1 1 refl) (gives_lead m Prev y none prev_is)))
    (gives_done m _)))

-- x was put before h in list k, which was marked where it was not empty
pub head_pushed : (n : ℕ) (m : Memory) (k x h : ℕ) → n ≤ none → x < n → ((h ≡ none → ⊥) → m Mark k ≡ 1) → Gives (apply m (push_writes k x h)) (see_head n k) x
head_pushed n m k x h small i marked = eq_case (λ (w : List Write). Gives (apply m w) (see_head n k) x) h none _ _
    (λ e. head_there n _ k x small i
    (upd_same (upd (m Next) x h) (root k) x (root k) refl) (upd_same (m Mark) k 1 k refl) (upd_same (m Prev) x none x refl))
    (λ e. head_there n _ k x small i
    (upd_same (upd (m Next) x h) (root k) x (root k) refl) (marked e) (upd_same (upd (m Prev) h x) x none x refl))
