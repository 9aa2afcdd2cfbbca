-- What follows from specs/Each.antt.
use Rattle.std.specs.Prelude.{ℕ, ◌≡◌, List, [], ◌∷◌, ◌++◌}
use Rattle.std.proofs.Common.{sym, ◌∙◌}
use Rattle.script.specs.Memory.{Write, Untouched}
use Rattle.tags.specs.Each.{Each}

pub each_append : (P : Write → Type 0) (a b : List Write) → Each P a → Each P b → Each P (a ++ b)
each_append P [] b h k = k
each_append P (w ∷ a) b h k = (h.0, each_append P a b h.1 k)

-- what follows from it
pub each_weaker : (P Q : Write → Type 0) → ((w : Write) → P w → Q w) → (l : List Write) → Each P l → Each Q l
each_weaker P Q f [] h = tt
each_weaker P Q f (w ∷ l) h = (f w h.0, each_weaker P Q f l h.1)

-- two properties together
pub each_both : (P Q : Write → Type 0) (l : List Write) → Each P l → Each Q l → Each (λ w. P w × Q w) l
each_both P Q [] h k = tt
each_both P Q (w ∷ l) h k = ((h.0, k.0), each_both P Q l h.1 k.1)

-- writes to one field leave the others alone
pub each_untouched : (f i : ℕ) (l : List Write) → (f ≡ i → ⊥) → Each (λ w. w.field ≡ f) l → Untouched i l
each_untouched f i [] n h = tt
each_untouched f i (w ∷ l) n h = ((λ e. n (sym h.0 ∙ e)), each_untouched f i l n h.1)
