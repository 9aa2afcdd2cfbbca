-- What strung lists show of their blocks: links lead back, and a block is the head exactly where it is its own previous.
use Rattle.std.specs.Prelude.{ℕ, ◌≡◌, List, [], ◌∷◌, ◌++◌}
use Rattle.std.proofs.Common.{arith, ap, sym, ◌∙◌, inl}
use Rattle.choice.specs.Choice.{if_eq, eq_yes, eq_no}
use Rattle.definition.specs.Lists.{Lists}
use Rattle.invariants.specs.Members.{Mem, NoDup, Apiece}
use Rattle.script.specs.Memory.{Memory, Next, Prev, Mark}
use Rattle.chains.specs.Links.{Head}
use Rattle.chains.specs.Chain.{Chain}
use Rattle.chains.proofs.Chain.{mem_mid, last_not, nodup_right, tail_at, next_at}
use Rattle.chains.specs.Strung.{Strung}
use Rattle.chains.proofs.Strung.{cut, chained, single}

module _ (m : Memory) (f : Lists) (o : Apiece f) (s : Strung m f) where
  module _ (k y : ℕ) (i : Mem y (f k)) where
    -- the next leads back, or is y; so does the previous
    pub next_back : m Prev (m Next y) ≡ if_eq (m Next y) y (m Prev y) y
    next_back = go (cut m f o s k y i).front (cut m f o s k y i).back (single m f o s k y i) (chained m f o s k y i)
      where
        go : (l r : List ℕ) → NoDup (l ++ y ∷ r) → Chain m k (l ++ y ∷ r) → m Prev (m Next y) ≡ if_eq (m Next y) y (m Prev y) y
        go l [] d c = ap (m Prev) (next_at m k y l [] c) ∙ sym (eq_yes (m Next y) y _ _ (next_at m k y l [] c))
        go [] (u ∷ r) d c = ap (m Prev) c.3.0 ∙ c.3.1 ∙ sym (eq_no (m Next y) y _ _ (λ e. d.0 (inl (sym e ∙ c.3.0))))
        go (z ∷ l) (u ∷ r) d c =
            let t = (tail_at (m Next) (m Prev) z y l (u ∷ r) c.3).2 in
            ap (m Prev) t.0 ∙ t.1 ∙ sym (eq_no (m Next y) y _ _ (λ e. nodup_right y (z ∷ l) (u ∷ r) d (inl (sym e ∙ t.0))))

    pub prev_back : m Next (m Prev y) ≡ if_eq (m Prev y) y (m Next y) y
    prev_back = go (cut m f o s k y i).front (cut m f o s k y i).back (single m f o s k y i) (chained m f o s k y i)
      where
        go : (l r : List ℕ) → NoDup (l ++ y ∷ r) → Chain m k (l ++ y ∷ r) → m Next (m Prev y) ≡ if_eq (m Prev y) y (m Next y) y
        go [] r d c = ap (m Next) c.2 ∙ sym (eq_yes (m Prev y) y _ _ c.2)
        go (z ∷ l) r d c =
            let t = tail_at (m Next) (m Prev) z y l r c.3 in
            ap (m Next) t.0 ∙ t.1 ∙ sym (eq_no (m Prev y) y _ _ (λ e. last_not z y l r d (sym t.0 ∙ e)))

    -- y is the head exactly where it is its own previous
    pub head_first : (m Head k ≡ y → m Prev y ≡ y) × (m Prev y ≡ y → m Head k ≡ y)
    head_first = go (cut m f o s k y i).front (cut m f o s k y i).back (single m f o s k y i) (chained m f o s k y i)
      where
        go : (l r : List ℕ) → NoDup (l ++ y ∷ r) → Chain m k (l ++ y ∷ r) → (m Head k ≡ y → m Prev y ≡ y) × (m Prev y ≡ y → m Head k ≡ y)
        go [] r d c = ((λ e. c.2), (λ e. c.1))
        go (z ∷ l) r d c = (
          (λ e. absurd (d.0 (rw (sym c.1 ∙ e) (mem_mid y l r)))),
          (λ e. absurd (last_not z y l r d (sym (tail_at (m Next) (m Prev) z y l r c.3).0 ∙ e))),
        )

  -- the head of a marked list is one of its blocks and its own previous
  pub head_in : (k : ℕ) → m Mark k ≡ 1 → Mem (m Head k) (f k) × (m Prev (m Head k) ≡ m Head k)
  head_in k = go (f k) (s k)
    where
      go : (l : List ℕ) → Chain m k l → m Mark k ≡ 1 → Mem (m Head k) l × (m Prev (m Head k) ≡ m Head k)
      go [] c e = omega (arith, c, e)
      go (z ∷ l) c e = (inl c.1, rw c.1 c.2)
