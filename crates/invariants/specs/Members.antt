-- Members of the free lists: what a push and a drop do to them.
use Rattle.std.specs.Prelude.{ℕ, ◌≡◌, refl, List, [], ◌∷◌, ◌++◌, ◌⊎◌}
use Rattle.std.proofs.Common.{sym, ◌∙◌, inl, inr, ⊎_elim}
use Rattle.choice.specs.Choice.{eq_yes, eq_no, upd_each, same?}
use Rattle.definition.specs.Lists.{Lists, remove, push, drop}

abbrev pub Mem : ℕ → List ℕ → Type 0
Mem y [] = ⊥
Mem y (z ∷ l) = (y ≡ z) ⊎ Mem y l

abbrev pub NoDup : List ℕ → Type 0
NoDup [] = Unit {0}
NoDup (y ∷ l) = (Mem y l → ⊥) × NoDup l

-- ---- one list without one of its members

pub mem_remove : (u y : ℕ) (l : List ℕ) → Mem u (remove y l) → Mem u l
unfolding remove
mem_remove u y [] h = elim h [ ]
mem_remove u y (z ∷ l) h = ⊎_elim
    (λ e. inr (rw (eq_yes z y l (z ∷ remove y l) e) at h))
    (λ n. ⊎_elim (λ e. inl e) (λ m. inr (mem_remove u y l m)) (rw (eq_no z y l (z ∷ remove y l) n) at h))
    (same? z y)

pub mem_keep : (u y : ℕ) (l : List ℕ) → (u ≡ y → ⊥) → Mem u l → Mem u (remove y l)
unfolding remove
mem_keep u y [] ne h = elim h [ ]
mem_keep u y (z ∷ l) ne h = ⊎_elim
    (λ e. rw (eq_yes z y l (z ∷ remove y l) e) (⊎_elim {C = Mem u l} (λ a. absurd (ne (a ∙ e))) (λ m. m) h))
    (λ n. rw (eq_no z y l (z ∷ remove y l) n) (⊎_elim {C = Mem u (z ∷ remove y l)} (λ a. inl a) (λ m. inr (mem_keep u y l ne m)) h))
    (same? z y)

pub nodup_remove : (y : ℕ) (l : List ℕ) → NoDup l → NoDup (remove y l)
unfolding remove
nodup_remove y [] d = tt
nodup_remove y (z ∷ l) d = ⊎_elim
    (λ e. rw (eq_yes z y l (z ∷ remove y l) e) d.1)
    (λ n. rw (eq_no z y l (z ∷ remove y l) n) ((λ m. d.0 (mem_remove z y l m)), nodup_remove y l d.1))
    (same? z y)

pub gone : (y : ℕ) (l : List ℕ) → NoDup l → Mem y (remove y l) → ⊥
unfolding remove
gone y [] d h = elim h [ ]
gone y (z ∷ l) d h = ⊎_elim
    (λ e. d.0 (rw e (rw (eq_yes z y l (z ∷ remove y l) e) at h)))
    (λ n. ⊎_elim (λ a. n (sym a)) (λ m. gone y l d.1 m) (rw (eq_no z y l (z ∷ remove y l) n) at h))
    (same? z y)

-- the list before y and behind it
pub record Parts (y : ℕ) (l : List ℕ) : Type 0 where
  pub front : List ℕ
  pub back : List ℕ
  pub is : l ≡ front ++ y ∷ back
  pub less : remove y l ≡ front ++ back

-- ---- all lists: no block twice, in one list or in two

pub record Apiece (f : Lists) : Type 0 where
  pub once : (k : ℕ) → NoDup (f k)
  pub one : (j k y : ℕ) → Mem y (f j) → Mem y (f k) → j ≡ k

module _ (f : Lists) (o : Apiece f) where
  -- a member after a drop was one before
  pub mem_drop : (k y j u : ℕ) → Mem u (drop k y f j) → Mem u (f j)
  mem_drop k y j u = upd_each (λ j l. Mem u l → Mem u (f j)) f k (remove y (f k)) (mem_remove u y (f k)) (λ j n m. m) j

  pub mem_dropped : (k x j u : ℕ) → (u ≡ x → ⊥) → Mem u (f j) → Mem u (drop k x f j)
  mem_dropped k x j u ne = upd_each (λ j l. Mem u (f j) → Mem u l) f k (remove x (f k)) (mem_keep u x (f k) ne) (λ j n m. m) j

  pub dropped : (k j x : ℕ) → Mem x (f k) → Mem x (drop k x f j) → ⊥
  dropped k j x m = upd_each (λ j l. Mem x l → ⊥) f k (remove x (f k)) (gone x (f k) (o.once k)) (λ j n i. n (o.one j k x i m)) j

  pub apiece_drop : (k y : ℕ) → Apiece (drop k y f)
  apiece_drop k y = record {
    once = upd_each (λ j l. NoDup l) f k (remove y (f k)) (nodup_remove y (f k) (o.once k)) (λ j n. o.once j);
    one = λ i j u a b. o.one i j u (mem_drop k y i u a) (mem_drop k y j u b);
  }

  -- a member after a push is the new one or an old one
  pub mem_push : (k x j u : ℕ) → Mem u (push k x f j) → ((u ≡ x) × (j ≡ k)) ⊎ Mem u (f j)
  mem_push k x j u = upd_each (λ j l. Mem u l → ((u ≡ x) × (j ≡ k)) ⊎ Mem u (f j)) f k (x ∷ f k)
      (⊎_elim (λ e. inl (e, refl)) (λ m. inr m)) (λ j n m. inr m) j

  pub mem_pushed : (k x j u : ℕ) → Mem u (f j) → Mem u (push k x f j)
  mem_pushed k x j u = upd_each (λ j l. Mem u (f j) → Mem u l) f k (x ∷ f k) (λ m. inr m) (λ j n m. m) j

  pub apiece_push : (k x : ℕ) → ((j : ℕ) → Mem x (f j) → ⊥) → Apiece (push k x f)
  apiece_push k x new = record {
    once = upd_each (λ j l. NoDup l) f k (x ∷ f k) (new k, o.once k) (λ j n. o.once j);
    one = λ i j u a b. ⊎_elim
        (λ p. ⊎_elim (λ q. p.1 ∙ sym q.1) (λ m. absurd (new j (rw p.0 at m))) (mem_push k x j u b))
        (λ m. ⊎_elim (λ q. absurd (new i (rw q.0 at m))) (λ n. o.one i j u m n) (mem_push k x j u b)) (mem_push k x i u a);
  }
