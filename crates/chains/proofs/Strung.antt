-- What follows from specs/Strung.antt.
use Rattle.std.specs.Prelude.{ℕ, ◌≡◌, refl, List, [], ◌∷◌, ◌++◌, ◌⊎◌}
use Rattle.std.proofs.Common.{arith, ◌∙◌, subst, inl, inr, ⊎_elim}
use Rattle.choice.specs.Choice.{eq_yes, eq_no, upd_other, upd_each}
use Rattle.definition.specs.Lists.{Lists, remove, push, drop}
use Rattle.invariants.specs.Members.{Mem, NoDup, Parts, Apiece}
use Rattle.invariants.proofs.Members.{parts}
use Rattle.script.specs.Memory.{Memory, Next, Prev, Mark, apply}
use Rattle.chains.specs.Links.{Head, leave_writes, next_of, enter_writes}
use Rattle.chains.specs.Chain.{Chain, last_or, first_or}
use Rattle.chains.proofs.Chain.{first_mem, last_mem, marked_at, next_at, prev_at_lem, chain_keep, chain_leave, chain_enter}
use Rattle.chains.specs.Strung.{Strung}

module _ (m : Memory) (f : Lists) (o : Apiece f) (s : Strung m f) where
  -- ---- the words of a block of list k

  module _ (k y : ℕ) (i : Mem y (f k)) where
    pub cut : Parts y (f k)
    cut = parts y (f k) (o.once k) i

    pub chained : Chain m k (cut.front ++ y ∷ cut.back)
    chained = rw cut.is at (s k)

    pub single : NoDup (cut.front ++ y ∷ cut.back)
    single = rw cut.is at (o.once k)

    next_is_lem : m Next y ≡ first_or y cut.back
    next_is_lem = next_at m k y cut.front cut.back chained

    prev_is_lem : m Prev y ≡ last_or y cut.front
    prev_is_lem = prev_at_lem m k y cut.front cut.back chained

    pub mark_of : m Mark k ≡ 1
    mark_of = marked_at m k y cut.front cut.back chained

    pub next_mem : Mem (m Next y) (f k)
    next_mem = rw (next_is_lem, cut.is) (first_mem y cut.front cut.back)

    pub prev_mem : Mem (m Prev y) (f k)
    prev_mem = rw (prev_is_lem, cut.is) (last_mem y cut.front cut.back)

  -- ---- y leaves

  pub strung_leave : (k y x p h b : ℕ) → Mem y (f k) → x ≡ m Next y → p ≡ m Prev y → h ≡ m Head k → b ≡ m Mark k → Strung (apply m (leave_writes k y x p h b)) (drop k y f)
  strung_leave k y x p h b i ex ep eh eb = rw (eh, eb) (upd_each (λ j l. Chain (apply m (leave_writes k y x p (m Head k) (m Mark k))) j l) f k (remove y (f k))
      (rw ((cut k y i).less, ex ∙ next_is_lem k y i, ep ∙ prev_is_lem k y i) (chain_leave m k y (cut k y i).front (cut k y i).back (single k y i) (chained k y i)))
      (λ j n. chain_keep m (apply m (leave_writes k y x p (m Head k) (m Mark k))) j (f j) (upd_other _ k _ j n) (upd_other _ k _ j n)
      (λ u a. upd_other (m Next) p _ u (λ e. n (o.one j k u a (rw (e ∙ ep) (prev_mem k y i)))))
      (λ u a. upd_other (m Prev) x _ u (λ e. n (o.one j k u a (rw (e ∙ ex) (next_mem k y i))))) (s j)))

  -- ---- y enters

  -- the next that y gets: the list's first block, or y
  pub first_is : (k y : ℕ) → next_of y (m Mark k) (m Head k) ≡ first_or y (f k)
  first_is k y = go (f k) (s k)
    where
      go : (l : List ℕ) → Chain m k l → next_of y (m Mark k) (m Head k) ≡ first_or y l
      go [] c = eq_yes (m Mark k) 0 y _ c
      go (z ∷ l) c = eq_no (m Mark k) 0 y _ (omega (arith, c.0)) ∙ c.1

  pub first_in : (k y : ℕ) → (first_or y (f k) ≡ y) ⊎ Mem (first_or y (f k)) (f k)
  first_in k y = go (f k)
    where
      go : (l : List ℕ) → (first_or y l ≡ y) ⊎ Mem (first_or y l) l
      go [] = inl refl
      go (z ∷ l) = inr (inl refl)

  pub strung_enter : (k y t : ℕ) → ((j : ℕ) → Mem y (f j) → ⊥) → t ≡ next_of y (m Mark k) (m Head k) → Strung (apply m (enter_writes k y t)) (push k y f)
  strung_enter k y t new et = rw (et ∙ first_is k y) (upd_each (λ j l. Chain (apply m (enter_writes k y (first_or y (f k)))) j l) f k (y ∷ f k)
      (chain_enter m k y (f k) (o.once k) (new k) (s k))
      (λ j n. chain_keep m (apply m (enter_writes k y (first_or y (f k)))) j (f j) (upd_other _ k _ j n) (upd_other _ k _ j n)
      (λ u a. upd_other (m Next) y _ u (λ e. new j (rw e at a)))
      (λ u a. upd_other _ y y u (λ e. new j (rw e at a)) ∙ upd_other (m Prev) _ y u (λ e. ⊎_elim
      (λ (q : first_or y (f k) ≡ y). new j (subst (λ (v : ℕ). Mem v (f j)) (e ∙ q) a)) (λ (q : Mem (first_or y (f k)) (f k)). n (o.one j k u a (rw e q))) (first_in k y))) (s j)))
