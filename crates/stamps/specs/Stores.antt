-- What the writes of a list leave of the tags (`tag_stores`). Writes that all go to the tags leave the other three slices as
-- they were (`stores_tags`), so that this is all that becomes of the lent slices.
use Rattle.std.specs.Prelude.{ℕ, zero, suc, ◌≤◌, ◌<◌, ◌≡◌, refl, List, [], ◌∷◌, ◌++◌, length}
use Rattle.std.proofs.Common.{arith, ap, sym, ◌∙◌, subst}
use Rattle.choice.specs.Choice.{if_eq, if_le, eq_yes, eq_no, le_yes, le_no}
use Rattle.table.specs.Table.{enter, enter_length}
use Rattle.script.specs.Memory.{Write, pick, ◌at◌≔◌}
use Rattle.tags.specs.Tag.{Tag}
use Rattle.tags.specs.Each.{Each}
use Rattle.tags.specs.Within.{ToTag}
use Rattle.lent.specs.Slices.{Slices, tag_word, put_tag, with_tags, store_at, store, stores}

-- the tags after one write
abbrev pub tag_store : List ℕ → Write → List ℕ
tag_store t w = pick w.field Tag (put_tag t w.place w.value) t

-- after some, one after the other
unfoldable pub tag_stores : List ℕ → List Write → List ℕ
tag_stores t [] = t
tag_stores t (w ∷ l) = tag_stores (tag_store t w) l

-- ---- the other slices stay

store_tags : (S : Slices) (w : Write) → ToTag w → store S w ≡ with_tags S (tag_store S.tags w)
store_tags S w e = subst (λ (f : ℕ). store_at S f w.place w.value ≡ with_tags S (pick f Tag (put_tag S.tags w.place w.value) S.tags)) (sym e) refl

pub stores_tags : (S : Slices) (l : List Write) → Each ToTag l → stores S l ≡ with_tags S (tag_stores S.tags l)
unfolding tag_stores
stores_tags S [] h = refl
stores_tags S (w ∷ l) h = ap (λ (T : Slices). stores T l) (store_tags S w h.0) ∙ stores_tags (with_tags S (tag_store S.tags w)) l h.1

-- ---- lengths

pub tag_stores_length : (t : List ℕ) (l : List Write) → length (tag_stores t l) ≡ length t
unfolding tag_stores
tag_stores_length t [] = refl
tag_stores_length t (w ∷ l) = tag_stores_length (tag_store t w) l ∙ one w.field
  where
    one : (f : ℕ) → length (tag_store t (f at w.place ≔ w.value)) ≡ length t
    one zero = enter_length t w.place (tag_word w.value)
    one (suc f) = refl

-- ---- what a function did so far: no write, one, and then some more

pub nothing : (t : List ℕ) → t ≡ tag_stores t []
unfolding tag_stores
nothing t = refl

pub stored : (t u : List ℕ) (x r v : ℕ) → r ≡ tag_word v → u ≡ enter t x r → u ≡ tag_stores t ((Tag at x ≔ v) ∷ [])
unfolding tag_stores
stored t u x r v e h = h ∙ ap (enter t x) e

pub tag_stores_append : (t : List ℕ) (p q : List Write) → tag_stores t (p ++ q) ≡ tag_stores (tag_stores t p) q
unfolding tag_stores
tag_stores_append t [] q = refl
tag_stores_append t (w ∷ p) q = tag_stores_append (tag_store t w) p q

pub then : (t u v : List ℕ) (p q : List Write) → u ≡ tag_stores t p → v ≡ tag_stores u q → v ≡ tag_stores t (p ++ q)
then t u v p q e f = f ∙ ap (λ (z : List ℕ). tag_stores z q) e ∙ sym (tag_stores_append t p q)

-- ---- a list of writes that depends on a test

module _ (t u : List ℕ) (a b : ℕ) (p q : List Write) where
  pub where_same : a ≡ b → u ≡ tag_stores t p → u ≡ tag_stores t (if_eq a b p q)
  where_same e h = h ∙ ap (tag_stores t) (sym (eq_yes a b p q e))

  pub where_other : (a ≡ b → ⊥) → u ≡ tag_stores t q → u ≡ tag_stores t (if_eq a b p q)
  where_other n h = h ∙ ap (tag_stores t) (sym (eq_no a b p q n))

  pub where_least : a ≤ b → u ≡ tag_stores t p → u ≡ tag_stores t (if_le a b p q)
  where_least e h = h ∙ ap (tag_stores t) (sym (le_yes a b p q e))

  pub where_less : b < a → u ≡ tag_stores t q → u ≡ tag_stores t (if_le a b p q)
  where_less n h = h ∙ ap (tag_stores t) (sym (le_no a b p q (λ e. omega arith)))
