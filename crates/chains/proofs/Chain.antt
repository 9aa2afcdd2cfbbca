-- What follows from specs/Chain.antt.
use Rattle.std.specs.Prelude.{ℕ, ◌≡◌, refl, List, [], ◌∷◌, ◌++◌}
use Rattle.std.proofs.Common.{arith, ap, sym, ◌∙◌, subst, inl, inr, ⊎_elim}
use Rattle.choice.specs.Choice.{if_eq, eq_yes, eq_no, upd, upd_same, upd_other, same?}
use Rattle.invariants.specs.Members.{Mem, NoDup}
use Rattle.script.specs.Memory.{Memory, Next, Prev, Mark, apply}
use Rattle.chains.specs.Links.{Head, mark_left, leave_writes, enter_writes}
use Rattle.chains.specs.Chain.{Tail, Chain, last_or, first_or}

-- ---- members

pub mem_mid : (y : ℕ) (l r : List ℕ) → Mem y (l ++ y ∷ r)
mem_mid y [] r = inl refl
mem_mid y (z ∷ l) r = inr (mem_mid y l r)

pub mem_right : (u y : ℕ) (l r : List ℕ) → Mem u r → Mem u (l ++ y ∷ r)
mem_right u y [] r h = inr h
mem_right u y (z ∷ l) r h = inr (mem_right u y l r h)

pub first_mem : (y : ℕ) (l r : List ℕ) → Mem (first_or y r) (l ++ y ∷ r)
first_mem y l [] = mem_mid y l []
first_mem y l (u ∷ r) = mem_right u y l (u ∷ r) (inl refl)

pub last_mem : (y : ℕ) (l r : List ℕ) → Mem (last_or y l) (l ++ y ∷ r)
last_mem y [] r = inl refl
last_mem y (z ∷ []) r = inl refl
last_mem y (z ∷ u ∷ l) r = inr (last_mem y (u ∷ l) r)

pub nodup_right : (y : ℕ) (l r : List ℕ) → NoDup (l ++ y ∷ r) → Mem y r → ⊥
nodup_right y [] r d = d.0
nodup_right y (z ∷ l) r d = nodup_right y l r d.1

-- the last block of a list is not y, which comes after it
pub last_not : (z y : ℕ) (l r : List ℕ) → NoDup (z ∷ l ++ y ∷ r) → last_or z l ≡ y → ⊥
last_not z y [] r d e = d.0 (inl e)
last_not z y (u ∷ l) r d e = last_not u y l r d.1 e

-- ---- the words of y in l ++ y ∷ r

module _ (nx pv : ℕ → ℕ) where
  tail_next : (y : ℕ) (r : List ℕ) → Tail nx pv y r → nx y ≡ first_or y r
  tail_next y [] c = c
  tail_next y (u ∷ r) c = c.0

  pub tail_at : (z y : ℕ) (l r : List ℕ) → Tail nx pv z (l ++ y ∷ r) → (pv y ≡ last_or z l) × (nx (last_or z l) ≡ y) × Tail nx pv y r
  tail_at z y [] r c = (c.1, c.0, c.2)
  tail_at z y (u ∷ l) r c = tail_at u y l r c.2

  pub tail_keep : (nx' pv' : ℕ → ℕ) (y : ℕ) (l : List ℕ)
      → ((u : ℕ) → Mem u (y ∷ l) → nx' u ≡ nx u) → ((u : ℕ) → Mem u l → pv' u ≡ pv u) → Tail nx pv y l → Tail nx' pv' y l
  tail_keep nx' pv' y [] f g c = f y (inl refl) ∙ c
  tail_keep nx' pv' y (z ∷ l) f g c =
      (f y (inl refl) ∙ c.0, g z (inl refl) ∙ c.1, tail_keep nx' pv' z l (λ u i. f u (inr i)) (λ u i. g u (inr i)) c.2)

  -- y leaves, and is not the first
  pub tail_cut : (z y : ℕ) (l r : List ℕ) → NoDup (z ∷ l ++ y ∷ r) → Tail nx pv z (l ++ y ∷ r)
      → Tail (upd nx (last_or z l) (first_or (last_or z l) r)) (upd pv (first_or y r) (last_or z l)) z (l ++ r)
  tail_cut z y [] [] d c = upd_same nx z z z refl
  tail_cut z y [] (u ∷ r) d c = (
    upd_same nx z u z refl,
    upd_same pv u z u refl,
    tail_keep _ _ u r (λ v i. upd_other nx z u v (λ e. d.0 (inr (subst (λ (t : ℕ). Mem t (u ∷ r)) e i)))) (λ v i. upd_other pv u z v (λ e. d.1.1.0 (rw e at i))) c.2.2,
  )
  tail_cut z y (v ∷ l) r d c = (
    upd_other nx _ _ z (λ e. d.0 (subst (λ (t : ℕ). Mem t (v ∷ l ++ y ∷ r)) (sym e) (inner v l))) ∙ c.0,
    upd_other pv _ _ v (λ e. d.1.0 (rw e (first_mem y l r))) ∙ c.1,
    tail_cut v y l r d.1 c.2,
  )
    where
      inner : (v : ℕ) (l : List ℕ) → Mem (last_or v l) (v ∷ l ++ y ∷ r)
      inner v [] = inl refl
      inner v (u ∷ l) = inr (inner u l)

-- ---- the list

module _ (m : Memory) (k y : ℕ) where
  pub marked_at : (l r : List ℕ) → Chain m k (l ++ y ∷ r) → m Mark k ≡ 1
  marked_at [] r c = c.0
  marked_at (z ∷ l) r c = c.0

  pub next_at : (l r : List ℕ) → Chain m k (l ++ y ∷ r) → m Next y ≡ first_or y r
  next_at [] r c = tail_next (m Next) (m Prev) y r c.3
  next_at (z ∷ l) r c = tail_next (m Next) (m Prev) y r (tail_at (m Next) (m Prev) z y l r c.3).2

  pub prev_at_lem : (l r : List ℕ) → Chain m k (l ++ y ∷ r) → m Prev y ≡ last_or y l
  prev_at_lem [] r c = c.2
  prev_at_lem (z ∷ l) r c = (tail_at (m Next) (m Prev) z y l r c.3).0

pub chain_keep : (m m' : Memory) (k : ℕ) (l : List ℕ) → m' Mark k ≡ m Mark k → m' Head k ≡ m Head k
    → ((u : ℕ) → Mem u l → m' Next u ≡ m Next u) → ((u : ℕ) → Mem u l → m' Prev u ≡ m Prev u) → Chain m k l → Chain m' k l
chain_keep m m' k [] b h f g c = b ∙ c
chain_keep m m' k (y ∷ l) b h f g c =
    (b ∙ c.0, h ∙ c.1, g y (inl refl) ∙ c.2, tail_keep (m Next) (m Prev) (m' Next) (m' Prev) y l f (λ u i. g u (inr i)) c.3)

still : (y x p b : ℕ) → (p ≡ y → ⊥) → mark_left y x p b ≡ b
still y x p b n = ⊎_elim (λ e. eq_yes x y _ b e ∙ eq_no p y 0 b n) (λ e. eq_no x y _ b e) (same? x y)

-- y leaves, wherever it stands
pub chain_leave : (m : Memory) (k y : ℕ) (l r : List ℕ) → NoDup (l ++ y ∷ r) → Chain m k (l ++ y ∷ r)
    → Chain (apply m (leave_writes k y (first_or y r) (last_or y l) (m Head k) (m Mark k))) k (l ++ r)
chain_leave m k y [] [] d c = upd_same _ k _ k refl ∙ eq_yes y y _ _ refl ∙ eq_yes y y 0 _ refl
chain_leave m k y [] (u ∷ r) d c = (
  upd_same _ k _ k refl ∙ eq_no u y _ _ away ∙ c.0,
  upd_same _ k _ k refl ∙ eq_yes y y u _ refl,
  upd_same _ u _ u refl ∙ eq_yes y y u y refl,
  tail_keep (m Next) (m Prev) _ _ u r (λ v i. upd_other (m Next) y _ v (λ e. d.0 (subst (λ (t : ℕ). Mem t (u ∷ r)) e i))) (λ v i. upd_other (m Prev) u _ v (λ e. d.1.0 (rw e at i))) c.3.2,
)
  where
    away : u ≡ y → ⊥
    away e = d.0 (inl (sym e))
chain_leave m k y (z ∷ l) r d c = (
  upd_same _ k _ k refl ∙ still y (first_or y r) (last_or z l) _ (last_not z y l r d) ∙ c.0,
  upd_same _ k _ k refl ∙ eq_no _ y _ _ (last_not z y l r d) ∙ c.1,
  upd_other (m Prev) _ _ z (λ e. d.0 (rw e (first_mem y l r))) ∙ c.2,
  rw (eq_no (last_or z l) y (first_or y r) (last_or z l) (last_not z y l r d), next r (nodup_right y l r d.1)) (tail_cut (m Next) (m Prev) z y l r d c.3),
)
  where
    next : (r : List ℕ) → (Mem y r → ⊥) → if_eq (first_or y r) y (last_or z l) (first_or y r) ≡ first_or (last_or z l) r
    next [] n = eq_yes y y _ _ refl
    next (u ∷ r) n = eq_no u y _ _ (λ e. n (inl (sym e)))

-- y enters
pub chain_enter : (m : Memory) (k y : ℕ) (l : List ℕ) → NoDup l → (Mem y l → ⊥) → Chain m k l
    → Chain (apply m (enter_writes k y (first_or y l))) k (y ∷ l)
chain_enter m k y [] d n c = (upd_same _ k 1 k refl, upd_same _ k y k refl, upd_same _ y y y refl, upd_same _ y y y refl)
chain_enter m k y (z ∷ l) d n c = (
  upd_same _ k 1 k refl,
  upd_same _ k y k refl,
  upd_same _ y y y refl,
  (
    upd_same _ y z y refl,
    upd_other _ y y z (λ e. n (inl (sym e))) ∙ upd_same _ z y z refl,
    tail_keep (m Next) (m Prev) _ _ z l (λ v i. upd_other (m Next) y z v (λ e. n (subst (λ (t : ℕ). Mem t (z ∷ l)) e i)))
        (λ v i. upd_other _ y y v (λ e. n (inr (rw e at i))) ∙ upd_other (m Prev) z y v (λ e. d.0 (rw e at i))) c.3,
  ),
)

-- ---- a memory has one list at most under each number

tail_same : (nx pv : ℕ → ℕ) (y : ℕ) (l k : List ℕ) → NoDup (y ∷ l) → NoDup (y ∷ k) → Tail nx pv y l → Tail nx pv y k → l ≡ k
tail_same nx pv y [] [] a b c d = refl
tail_same nx pv y [] (z ∷ k) a b c d = absurd (b.0 (inl (sym c ∙ d.0)))
tail_same nx pv y (u ∷ l) [] a b c d = absurd (a.0 (inl (sym d ∙ c.0)))
tail_same nx pv y (u ∷ l) (z ∷ k) a b c d =
    let e : u ≡ z = sym c.0 ∙ d.0 in
    rw e (ap (λ (t : List ℕ). z ∷ t) (tail_same nx pv z l k (subst (λ (v : ℕ). NoDup (v ∷ l)) e a.1) b.1 (subst (λ (v : ℕ). Tail nx pv v l) e c.2) d.2))

pub chain_same : (m : Memory) (k : ℕ) (l r : List ℕ) → NoDup l → NoDup r → Chain m k l → Chain m k r → l ≡ r
chain_same m k [] [] a b c d = refl
chain_same m k [] (z ∷ r) a b c d = absurd (omega (arith, c, d.0))
chain_same m k (y ∷ l) [] a b c d = absurd (omega (arith, d, c.0))
chain_same m k (y ∷ l) (z ∷ r) a b c d =
    let e : y ≡ z = sym c.1 ∙ d.1 in
    rw e (ap (λ (t : List ℕ). z ∷ t) (tail_same (m Next) (m Prev) z l r (subst (λ (v : ℕ). NoDup (v ∷ l)) e a) b (subst (λ (v : ℕ). Tail (m Next) (m Prev) v l) e c.3) d.3))
