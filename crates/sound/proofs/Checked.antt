-- What follows from specs/Checked.antt.
use Rattle.std.specs.Prelude.{ℕ, suc, ◌+◌, ◌-◌, ◌*◌, ◌/◌, ◌%◌, ◌<◌, ◌≡◌, refl}
use Rattle.std.proofs.Common.{arith, sym, subst, inl, inr, ⊎_elim}
use Rattle.choice.specs.Choice.{if_eq}
use Rattle.class.specs.Class.{list_of}
use Rattle.script.specs.Memory.{Memory, Size, Before, Next, Prev, Mark, Live, none, root}
use Rattle.script.specs.Script.{done, unless_eq, must_eq, must_le, must_differ, Gives}
use Rattle.script.proofs.Script.{inv_bind, inv_get, inv_done, inv_eq, inv_le, inv_differ}
use Rattle.sound.specs.Checks.{Word, is_free, is_used, is_last, is_bad, word_of, must_grain, must_back, as_busy, as_used, must_list, Entry, see_prev, see_entry, see_head, Beside, nobody, somebody, as_behind, see_behind, as_before, see_before, Owner, block_of, see_owner}
use Rattle.sound.specs.Inverted.{Busy}
use Rattle.sound.proofs.Inverted.{inv_stop, inv_if_eq, busy_checked, used_checked, lead_checked, grain_checked}
use Rattle.sound.specs.Checked.{Back, LedTo, EntryChecked, HeadChecked, BehindChecked, BeforeChecked, FoundAt, OwnerChecked}

-- ---- links

-- a link that must lead back
pub back_checked : (n : ℕ) (m : Memory) (f x y : ℕ) {u : Unit {0}} → Gives m (must_back n f x y) u → Back n m f x y
back_checked n m f x y h = ⊎_elim
    (λ i. inl i.0)
    (λ i. let g = inv_bind m (must_grain n x) _ i.1 in inr (grain_checked m n x g.1, lead_checked m f x y g.2))
    (inv_if_eq m x none _ _ h)

-- ---- entries of the lists

-- what stands before y
prev_checked : (n : ℕ) (m : Memory) (k y p : ℕ) {u : Unit {0}} → Gives m (see_prev n (m Next (root k)) y p) u → LedTo n m k y p
prev_checked n m k y p h = ⊎_elim
    (λ i. inl (i.0, inv_eq m 5 (m Next (root k)) y i.1))
    (λ i.
    let a = inv_bind m (must_grain n (m Next (root k))) _ i.1 in
    let b = inv_bind m (must_differ (m Next (root k)) y) _ a.2 in
    let d = inv_bind m (must_grain n p) _ b.2 in
    inr (grain_checked m n _ a.1, inv_differ m _ _ b.1, grain_checked m n p d.1, lead_checked m Next p y d.2))
    (inv_if_eq m p none _ _ h)

-- a free block is in its list
pub entry_checked : (n : ℕ) (m : Memory) (k y : ℕ) (e : Entry) → Gives m (see_entry n k y) e → EntryChecked n m k y e
unfolding see_entry
entry_checked n m k y e h =
    let a = inv_bind m (must_back n Prev (m Next y) y) _ (inv_get m Next y _ h) in
    let b = inv_bind m (must_eq (m Mark k) 1) _ (inv_get m Mark k _ (inv_get m Next (root k) _ a.2)) in
    let d = inv_bind m (see_prev n (m Next (root k)) y (m Prev y)) _ (inv_get m Prev y _ b.2) in
    subst (EntryChecked n m k y) (inv_done m _ e d.2) (record {
      next = refl;
      prev = refl;
      back = back_checked n m Prev (m Next y) y a.1;
      marked = inv_eq m 5 (m Mark k) 1 b.1;
      head = prev_checked n m k y (m Prev y) d.1;
    })

-- ---- the head of a list: none where the list is not marked, else a grain behind nothing

-- the head that gets another before it
pub head_checked : (n : ℕ) (m : Memory) (k h : ℕ) → Gives m (see_head n k) h → HeadChecked n m k h
unfolding see_head
head_checked n m k h g =
    let r = m Next (root k) in
    let a = inv_bind m (if_eq r none (must_eq (m Mark k) 0) _) _ (inv_get m Mark k _ (inv_get m Next (root k) _ g)) in
    subst (HeadChecked n m k) (inv_done m _ h a.2) (record {
      is = refl;
      marked = ⊎_elim
          (λ i. inl (i.0, inv_eq m 5 (m Mark k) 0 i.1))
          (λ i.
          let b = inv_bind m (must_grain n r) _ i.1 in
          let d = inv_bind m (must_eq (m Mark k) 1) _ b.2 in
          inr (grain_checked m n r b.1, inv_eq m 5 (m Mark k) 1 d.1, lead_checked m Prev r none d.2))
          (inv_if_eq m r none _ _ a.1);
    })

-- ---- the blocks beside a used one

-- it is busy, or free and in its list
pub behind_checked : (n c : ℕ) (m : Memory) (y : ℕ) (b : Beside) → Gives m (see_behind n c y) b → BehindChecked n c m y b
unfolding see_behind
behind_checked n c m y b h = go (word_of (m Size y)) refl (inv_get m Size y _ h)
  where
    nothing : Busy (word_of (m Size y)) → Gives m (done nobody) b → BehindChecked n c m y b
    nothing i g = subst (BehindChecked n c m y) (inv_done m nobody b g) i

    go : (w : Word) → word_of (m Size y) ≡ w → Gives m (as_behind n c y w) b → BehindChecked n c m y b
    go (is_free t) q g =
        let i = inv_bind m (must_list c t) _ g in
        let j = inv_bind m (as_busy (word_of (m Size (y + t)))) _ (inv_get m Size (y + t) _ i.2) in
        let k = inv_bind m (must_eq (m Before (y + t)) y) _ (inv_get m Before (y + t) _ j.2) in
        let l = inv_bind m (see_entry n (list_of t) y) _ k.2 in
        subst (BehindChecked n c m y) (inv_done m (somebody t l.0) b l.2) (record {
          word = q;
          list = omega (arith, inv_le m 5 (suc (list_of t)) (16 * c) i.1);
          busy = busy_checked m (word_of (m Size (y + t))) j.1;
          link = inv_eq m 5 (m Before (y + t)) y k.1;
          entry = entry_checked n m (list_of t) y l.0 l.1;
        })
    go (is_used t) q g = nothing (subst Busy (sym q) tt) g
    go is_last q g = nothing (subst Busy (sym q) tt) g
    go is_bad q g = absurd (inv_stop m 5 g)

-- nothing, a used block, or a free one in its list
pub before_checked : (n c : ℕ) (m : Memory) (x : ℕ) (b : Beside) → Gives m (see_before n c x) b → BeforeChecked n c m x b
unfolding see_before
before_checked n c m x b h = ⊎_elim
    (λ i. subst (BeforeChecked n c m x) (inv_done m nobody b i.1) (inl i.0))
    (λ i.
    let a = inv_bind m (must_le (suc (m Before x)) x) _ i.1 in
    go (omega (arith, inv_le m 5 (suc (m Before x)) x a.1)) (word_of (m Size (m Before x))) refl (inv_get m Size (m Before x) _ a.2))
    (inv_if_eq m (m Before x) none _ _ (inv_get m Before x _ h))
  where
    go : m Before x < x → (w : Word) → word_of (m Size (m Before x)) ≡ w → Gives m (as_before n c x (m Before x) w) b → BeforeChecked n c m x b
    go l (is_free t) q g =
        let i = inv_bind m (must_eq (m Before x + t) x) _ g in
        let j = inv_bind m (must_list c t) _ i.2 in
        let k = inv_bind m (see_entry n (list_of t) (m Before x)) _ j.2 in
        let s = inv_eq m 5 (m Before x + t) x i.1 in
        subst (BeforeChecked n c m x) (inv_done m (somebody t k.0) b k.2) (record {
          low = l;
          word = q;
          meets = s;
          start = omega arith;
          list = omega (arith, inv_le m 5 (suc (list_of t)) (16 * c) j.1);
          entry = entry_checked n m (list_of t) (m Before x) k.0 k.1;
        })
    go l (is_used t) q g =
        let i = inv_bind m (must_eq (m Before x + t) x) _ g in
        subst (BeforeChecked n c m x) (inv_done m nobody b i.2)
        (inr (record { grains = t; low = l; word = q; meets = inv_eq m 5 (m Before x + t) x i.1 }))
    go l is_last q g = absurd (inv_stop m 5 g)
    go l is_bad q g = absurd (inv_stop m 5 g)

-- ---- the block of a payload at q

-- where it starts
block_checked : (m : Memory) (q x : ℕ) → Gives m (block_of q) x → FoundAt m q x
block_checked m q x h = ⊎_elim
    (λ i. inl (i.0, sym (inv_done m (q / 2) x i.1)))
    (λ i.
    let z = m Prev (q / 2 - 1) in
    let a = inv_bind m (must_le (suc z) (q / 2)) _ (inv_get m Prev (q / 2 - 1) _ i.1) in
    let e = inv_done m z x a.2 in
    inr (i.0, sym e, omega (arith, inv_le m 5 (suc z) (q / 2) a.1)))
    (inv_if_eq m (q % 2) 1 _ _ h)

-- a payload that is returned or resized has a block
pub owner_checked : (m : Memory) (q : ℕ) (o : Owner) → Gives m (see_owner q) o → OwnerChecked m q o
unfolding see_owner
owner_checked m q o h =
    let a = inv_bind m (unless_eq 3 (m Live q) 1) _ (inv_get m Live q _ h) in
    let b = inv_bind m (block_of q) _ a.2 in
    let x = b.0 in
    let d = inv_bind m (as_used (word_of (m Size x))) _ (inv_get m Size x _ b.2) in
    let s = d.0 in
    let i = inv_bind m (must_le q (2 * (x + s))) _ d.2 in
    let j = inv_bind m (must_eq (m Before (x + s)) x) _ (inv_get m Before (x + s) _ i.2) in
    subst (OwnerChecked m q) (inv_done m _ o j.2) (record {
      live = inv_eq m 3 (m Live q) 1 a.1;
      found = block_checked m q x b.1;
      word = used_checked m (word_of (m Size x)) d.1;
      inside = inv_le m 5 q (2 * (x + s)) i.1;
      link = inv_eq m 5 (m Before (x + s)) x j.1;
    })
