-- What follows from specs/Chain.antt.
use Rattle.std.specs.Prelude.{ℕ, ◌<◌, ◌≡◌, refl, List, [], ◌∷◌, ◌++◌, ◌⊎◌}
use Rattle.std.proofs.Common.{arith, ap, sym, ◌∙◌, subst, inl, inr, ⊎_elim}
use Rattle.choice.specs.Choice.{eq_yes, eq_no, upd, upd_same, upd_other, upd_each}
use Rattle.definition.specs.Lists.{Lists, remove, push, drop}
use Rattle.invariants.specs.Members.{Mem, NoDup, Parts, Apiece}
use Rattle.invariants.proofs.Members.{parts}
use Rattle.script.specs.Memory.{none, root}
use Rattle.sound.specs.Links.{node}
use Rattle.sound.specs.Chain.{Chain, Links, Real, last_or}

-- ---- one chain

pub chain_keep : (nx pv nx' pv' : ℕ → ℕ) (n w : ℕ) (l : List ℕ)
    → nx' n ≡ nx n → ((y : ℕ) → Mem y l → nx' y ≡ nx y) → ((y : ℕ) → Mem y l → pv' y ≡ pv y) → Chain nx pv n w l → Chain nx' pv' n w l
chain_keep nx pv nx' pv' n w [] e f g c = e ∙ c
chain_keep nx pv nx' pv' n w (y ∷ l) e f g c =
    (e ∙ c.0, g y (inl refl) ∙ c.1, chain_keep nx pv nx' pv' y y l (f y (inl refl)) (λ z m. f z (inr m)) (λ z m. g z (inr m)) c.2)

-- the first of l gets another node before it: n' with the word w'
pub chain_front : (nx pv nx' pv' : ℕ → ℕ) (n w n' w' : ℕ) (l : List ℕ) → NoDup l
    → nx' n' ≡ nx n → ((y : ℕ) → Mem y l → nx' y ≡ nx y)
    → ((y : ℕ) → Mem y l → y ≡ nx n → pv' y ≡ w') → ((y : ℕ) → Mem y l → (y ≡ nx n → ⊥) → pv' y ≡ pv y) → Chain nx pv n w l → Chain nx' pv' n' w' l
chain_front nx pv nx' pv' n w n' w' [] d e f a g c = e ∙ c
chain_front nx pv nx' pv' n w n' w' (y ∷ l) d e f a g c = (
  e ∙ c.0,
  a y (inl refl) (sym c.0),
  chain_keep nx pv nx' pv' y y l (f y (inl refl)) (λ z m. f z (inr m)) (λ z m. g z (inr m) (λ q. d.0 (rw (q ∙ c.0) at m))) c.2,
)

-- the first of a chain, and what stands behind one of its members
pub first_is : (nx pv : ℕ → ℕ) (n w : ℕ) (l : List ℕ) → Chain nx pv n w l → (nx n ≡ none) ⊎ Mem (nx n) l
first_is nx pv n w [] c = inl c
first_is nx pv n w (y ∷ l) c = inr (inl c.0)

pub last_mem : (z : ℕ) (l m : List ℕ) → Mem (last_or z l) (z ∷ l ++ m)
last_mem z [] m = inl refl
last_mem z (u ∷ l) m = inr (last_mem u l m)

module _ (nx pv : ℕ → ℕ) where
  pub prev_is_lem : (n w y : ℕ) (l m : List ℕ) → Chain nx pv n w (l ++ y ∷ m) → pv y ≡ last_or w l
  prev_is_lem n w y [] m c = c.1
  prev_is_lem n w y (z ∷ l) m c = prev_is_lem z z y l m c.2

  pub next_is_lem : (n w y : ℕ) (l m : List ℕ) → Chain nx pv n w (l ++ y ∷ m) → (nx y ≡ none) ⊎ Mem (nx y) (l ++ y ∷ m)
  next_is_lem n w y [] m c = ⊎_elim (λ e. inl e) (λ h. inr (inr h)) (first_is nx pv y y m c.2)
  next_is_lem n w y (z ∷ l) m c = ⊎_elim (λ e. inl e) (λ h. inr (inr h)) (next_is_lem z z y l m c.2)

  -- the node before y leads to y, and the chain behind y
  pub before_leads : (n w y : ℕ) (l m : List ℕ) → Chain nx pv n w (l ++ y ∷ m) → nx (last_or n l) ≡ y
  before_leads n w y [] m c = c.0
  before_leads n w y (z ∷ l) m c = before_leads z z y l m c.2

  pub tail_of : (n w y : ℕ) (l m : List ℕ) → Chain nx pv n w (l ++ y ∷ m) → Chain nx pv y y m
  tail_of n w y [] m c = c.2
  tail_of n w y (z ∷ l) m c = tail_of z z y l m c.2

pub mem_tail : (u y : ℕ) (l m : List ℕ) → Mem u m → Mem u (l ++ y ∷ m)
mem_tail u y [] m h = inr h
mem_tail u y (z ∷ l) m h = inr (mem_tail u y l m h)

-- ---- y taken out: the node before it gets its next, and the next its previous

chain_unlink : (nx pv : ℕ → ℕ) (n w y : ℕ) (l m : List ℕ) → NoDup (l ++ y ∷ m) → (Mem n (l ++ y ∷ m) → ⊥) → (Mem none (l ++ y ∷ m) → ⊥)
    → (pv' : ℕ → ℕ) → ((z : ℕ) → (z ≡ none → ⊥) → pv' z ≡ upd pv (nx y) (pv y) z)
    → Chain nx pv n w (l ++ y ∷ m) → Chain (upd nx (last_or n l) (nx y)) pv' n w (l ++ m)
chain_unlink nx pv n w y [] m d nn n1 pv' q c =
    chain_front nx pv _ _ y y n w m d.1 (upd_same _ n (nx y) n refl)
    (λ z k. upd_other _ n (nx y) z (λ e. nn (inr (rw e at k))))
    (λ z k e. q z (λ g. n1 (inr (rw g at k))) ∙ upd_same _ (nx y) (pv y) z e ∙ c.1)
    (λ z k g. q z (λ g. n1 (inr (rw g at k))) ∙ upd_other _ (nx y) (pv y) z g) c.2
chain_unlink nx pv n w y (z ∷ l) m d nn n1 pv' q c = (
  upd_other _ (last_or z l) (nx y) n (λ e. nn (subst (λ (i : ℕ). Mem i (z ∷ l ++ y ∷ m)) (sym e) (last_mem z l (y ∷ m)))) ∙ c.0,
  q z (λ g. n1 (inl (sym g))) ∙ upd_other _ (nx y) (pv y) z (λ e. ⊎_elim (λ g. n1 (inl (sym (e ∙ g)))) (λ k. d.0 (rw e k)) (next_is_lem nx pv z z y l m c.2)) ∙ c.1,
  chain_unlink nx pv z z y l m d.1 d.0 (λ k. n1 (inr k)) pv' q c.2,
)

-- ---- all lists

module _ (nx pv : ℕ → ℕ) (f : Lists) (o : Apiece f) (real : Real f) (h : Links nx pv f) where
  pub not_root : (j k : ℕ) → Mem (root j) (f k) → ⊥
  not_root j k m = omega (arith, real k (root j) m)

  pub not_none : (k : ℕ) → Mem none (f k) → ⊥
  not_none k m = omega (arith, real k none m)

  pub head_is_lem : (k : ℕ) → (nx (root k) ≡ none) ⊎ Mem (nx (root k)) (f k)
  head_is_lem k = first_is nx pv (root k) none (f k) (h k)

  -- the node before a member is the root or a member
  before_is : (k y : ℕ) (p : Parts y (f k)) → node k (pv y) ≡ last_or (root k) p.front
  before_is k y p = go p.front (rw p.is at (h k)) (rw p.is at (not_none k))
    where
      go : (l : List ℕ) → Chain nx pv (root k) none (l ++ y ∷ p.back) → (Mem none (l ++ y ∷ p.back) → ⊥) → node k (pv y) ≡ last_or (root k) l
      go [] c n1 = eq_yes (pv y) none _ _ c.1
      go (z ∷ l) c n1 =
          let e : pv y ≡ last_or z l = prev_is_lem nx pv (root k) none y (z ∷ l) p.back c in
          eq_no (pv y) none _ _ (λ q. n1 (subst (λ (i : ℕ). Mem i (z ∷ l ++ y ∷ p.back)) (sym e ∙ q) (last_mem z l (y ∷ p.back)))) ∙ e

  pub node_mem : (k y : ℕ) → Mem y (f k) → (node k (pv y) ≡ root k) ⊎ Mem (node k (pv y)) (f k)
  node_mem k y m = let p = parts y (f k) (o.once k) m in go p.front p.back p.is (before_is k y p)
    where
      go : (a b : List ℕ) → f k ≡ a ++ y ∷ b → node k (pv y) ≡ last_or (root k) a → (node k (pv y) ≡ root k) ⊎ Mem (node k (pv y)) (f k)
      go [] b e q = inl q
      go (z ∷ a) b e q = inr (rw (q, e) (last_mem z a (y ∷ b)))

  pub next_mem : (k y : ℕ) → Mem y (f k) → (nx y ≡ none) ⊎ Mem (nx y) (f k)
  next_mem k y m =
      let p = parts y (f k) (o.once k) m in
      rw p.is (next_is_lem nx pv (root k) none y p.front p.back (rw p.is at (h k)))

  pub prev_mem : (k y : ℕ) → Mem y (f k) → (pv y ≡ none) ⊎ Mem (pv y) (f k)
  prev_mem k y m = let p = parts y (f k) (o.once k) m in
      go p.front p.back p.is (prev_is_lem nx pv (root k) none y p.front p.back (rw p.is at (h k)))
    where
      go : (a b : List ℕ) → f k ≡ a ++ y ∷ b → pv y ≡ last_or none a → (pv y ≡ none) ⊎ Mem (pv y) (f k)
      go [] b e q = inl q
      go (z ∷ a) b e q = inr (rw (q, e) (last_mem z a (y ∷ b)))

  -- each neighbour in the list links back
  pub node_leads : (k y : ℕ) → Mem y (f k) → nx (node k (pv y)) ≡ y
  node_leads k y m =
      let p = parts y (f k) (o.once k) m in
      ap nx (before_is k y p) ∙ before_leads nx pv (root k) none y p.front p.back (rw p.is at (h k))

  pub next_back : (k y : ℕ) → Mem y (f k) → (nx y ≡ none → ⊥) → pv (nx y) ≡ y
  next_back k y m n =
      let p = parts y (f k) (o.once k) m in
      go p.back (tail_of nx pv (root k) none y p.front p.back (rw p.is at (h k)))
    where
      go : (l : List ℕ) → Chain nx pv y y l → pv (nx y) ≡ y
      go [] c = absurd (n c)
      go (z ∷ l) c = rw c.0 c.1

  -- y is taken out of list k; what is written for none doesn't matter
  pub links_unlink : (k y : ℕ) → Mem y (f k) → (pv' : ℕ → ℕ) → ((z : ℕ) → (z ≡ none → ⊥) → pv' z ≡ upd pv (nx y) (pv y) z)
      → Links (upd nx (node k (pv y)) (nx y)) pv' (drop k y f)
  links_unlink k y m pv' q =
      let p = parts y (f k) (o.once k) m in
      upd_each (λ j l. Chain (upd nx (node k (pv y)) (nx y)) pv' (root j) none l) f k (remove y (f k))
      (rw (p.less, before_is k y p) (chain_unlink nx pv (root k) none y p.front p.back
      (rw p.is at (o.once k)) (rw p.is at (not_root k k)) (rw p.is at (not_none k)) pv' q (rw p.is at (h k))))
      (λ j n. chain_keep nx pv _ _ (root j) none (f j)
      (upd_other _ _ _ (root j) (λ e. ⊎_elim (λ g. n (omega (arith, e ∙ g))) (λ i. not_root j k (rw e i)) (node_mem k y m)))
      (λ z i. upd_other _ _ _ z (λ e. ⊎_elim (λ g. not_root k j (subst (λ u. Mem u (f j)) (e ∙ g) i)) (λ a. n (o.one j k z i (rw e a))) (node_mem k y m)))
      (λ z i. q z (λ g. not_none j (rw g at i))
      ∙ upd_other _ _ _ z (λ e. ⊎_elim (λ g. not_none j (subst (λ u. Mem u (f j)) (e ∙ g) i)) (λ a. n (o.one j k z i (rw e a))) (next_mem k y m)))
      (h j))

  -- x is put at the head of list k
  pub links_push : (k x : ℕ) → x < none → ((j : ℕ) → Mem x (f j) → ⊥) → (pv' : ℕ → ℕ) → ((z : ℕ) → (z ≡ none → ⊥) → pv' z ≡ upd (upd pv (nx (root k)) x) x none z)
      → Links (upd (upd nx x (nx (root k))) (root k) x) pv' (push k x f)
  links_push k x r new pv' q = upd_each (λ j l. Chain (upd (upd nx x (nx (root k))) (root k) x) pv' (root j) none l) f k (x ∷ f k) (
    upd_same _ (root k) x (root k) refl,
    q x (omega arith) ∙ upd_same _ x none x refl,
    chain_front nx pv _ _ (root k) none x x (f k) (o.once k)
        (upd_other _ (root k) x x (omega arith) ∙ upd_same _ x (nx (root k)) x refl)
        (λ y m. upd_other _ (root k) x y (λ e. not_root k k (rw e at m)) ∙ upd_other _ x (nx (root k)) y (λ e. new k (rw e at m)))
        (λ y m e. q y (λ g. not_none k (rw g at m)) ∙ upd_other _ x none y (λ g. new k (rw g at m)) ∙ upd_same _ (nx (root k)) x y e)
        (λ y m g. q y (λ g. not_none k (rw g at m)) ∙ upd_other _ x none y (λ e. new k (rw e at m)) ∙ upd_other _ (nx (root k)) x y g) (h k),
  )
      (λ j n. chain_keep nx pv _ _ (root j) none (f j)
      (upd_other _ (root k) x (root j) (omega (arith, n)) ∙ upd_other _ x _ (root j) (omega arith))
      (λ y m. upd_other _ (root k) x y (λ e. not_root k j (rw e at m)) ∙ upd_other _ x _ y (λ e. new j (rw e at m)))
      (λ y m. q y (λ g. not_none j (rw g at m)) ∙ upd_other _ x none y (λ e. new j (rw e at m)) ∙ upd_other _ (nx (root k)) x y
      (λ e. ⊎_elim (λ z. not_none j (subst (λ u. Mem u (f j)) (e ∙ z) m)) (λ i. n (o.one j k y m (rw e i))) (head_is_lem k))) (h j))
