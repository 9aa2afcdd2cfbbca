-- What follows from specs/Memory.antt.
use Rattle.std.specs.Prelude.{ℕ, zero, suc, ◌≡◌, refl, List, [], ◌∷◌, ◌++◌}
use Rattle.std.proofs.Common.{ap, sym, ◌∙◌}
use Rattle.choice.specs.Choice.{if_eq, upd, eq_no}
use Rattle.script.specs.Memory.{Memory, pick, Write, put, apply, latest, Untouched, Spared}

-- ---- writes

pub apply_append : (m : Memory) (p q : List Write) → apply m (p ++ q) ≡ apply (apply m p) q
apply_append m [] q = refl
apply_append m (w ∷ p) q = apply_append (put m w) p q

-- ---- what stands at one place after some writes, if v stood there before

put_is : (m : Memory) (w : Write) (g y : ℕ) → put m w g y ≡ pick w.field g (if_eq y w.place w.value (m g y)) (m g y)
unfolding upd
put_is m w g y = go w.field g (m g)
  where
    go : (f h : ℕ) (n : ℕ → ℕ) → pick f h (upd n w.place w.value) n y ≡ pick f h (if_eq y w.place w.value (n y)) (n y)
    go zero zero n = refl
    go zero (suc h) n = refl
    go (suc f) zero n = refl
    go (suc f) (suc h) n = go f h n

pub apply_is : (m : Memory) (l : List Write) (g y : ℕ) → apply m l g y ≡ latest l g y (m g y)
apply_is m [] g y = refl
apply_is m (w ∷ l) g y = apply_is (put m w) l g y ∙ ap (latest l g y) (put_is m w g y)

-- ---- what some writes leave alone: a field, or a field at one place

pick_other {ℓ} : {A : Type ℓ} (f g : ℕ) (x y : A) → (f ≡ g → ⊥) → pick f g x y ≡ y
pick_other zero zero x y n = absurd (n refl)
pick_other zero (suc g) x y n = refl
pick_other (suc f) zero x y n = refl
pick_other (suc f) (suc g) x y n = pick_other f g x y (λ e. n (ap suc e))

pick_same {ℓ} : {A : Type ℓ} (f g : ℕ) (x y : A) → (f ≡ g → x ≡ y) → pick f g x y ≡ y
pick_same zero zero x y n = n refl
pick_same zero (suc g) x y n = refl
pick_same (suc f) zero x y n = refl
pick_same (suc f) (suc g) x y n = pick_same f g x y (λ e. n (ap suc e))

pub apply_untouched : (m : Memory) (l : List Write) (g : ℕ) → Untouched g l → apply m l g ≡ m g
apply_untouched m [] g u = refl
apply_untouched m (w ∷ l) g u = apply_untouched (put m w) l g u.1 ∙ pick_other w.field g _ (m g) u.0

pub apply_spared : (m : Memory) (l : List Write) (g y : ℕ) → Spared g y l → apply m l g y ≡ m g y
apply_spared m [] g y u = refl
apply_spared m (w ∷ l) g y u =
    apply_spared (put m w) l g y u.1 ∙ put_is m w g y
    ∙ pick_same w.field g _ (m g y) (λ e. eq_no y w.place w.value (m g y) (λ q. u.0 e (sym q)))

pub untouched_append : (g : ℕ) (p q : List Write) → Untouched g p → Untouched g q → Untouched g (p ++ q)
untouched_append g [] q a b = b
untouched_append g (w ∷ p) q a b = (a.0, untouched_append g p q a.1 b)

pub spared_append : (g y : ℕ) (p q : List Write) → Spared g y p → Spared g y q → Spared g y (p ++ q)
spared_append g y [] q a b = b
spared_append g y (w ∷ p) q a b = (a.0, spared_append g y p q a.1 b)

-- what becomes of a field hangs on that field alone
pub apply_alike : (m d : Memory) (l : List Write) (g : ℕ) → m g ≡ d g → apply m l g ≡ apply d l g
apply_alike m d [] g e = e
apply_alike m d (w ∷ l) g e = apply_alike (put m w) (put d w) l g (ap (λ (f : ℕ → ℕ). pick w.field g (upd f w.place w.value) f) e)
