-- What follows from specs/Decode.antt.
use Rattle.std.specs.Prelude.{ℕ, suc, ◌+◌, ◌-◌, ◌*◌, ◌/◌, ◌%◌, ◌≤◌, ◌<◌, ◌≡◌, refl, List, [], ◌∷◌, ◌⊎◌}
use Rattle.std.proofs.Common.{arith, ap, sym, ◌∙◌, subst, inl, inr, ⊎_elim}
use Rattle.choice.specs.Choice.{eq_yes, eq_no, eq_case, same?}
use Rattle.definition.specs.Blocks.{Block, free, used, last, gap, size, total, room}
use Rattle.invariants.specs.Order.{Side, out, busy, idle, Ordered, OrderedL, BlockAt}
use Rattle.invariants.proofs.Order.{at_whole}
use Rattle.invariants.specs.Pieces.{Inner}
use Rattle.tags.specs.Tag.{flags, START, FREE, SMALL, LARGE, free_tag, end_tag, small_tag, large_tag, start_tag, pad_tag, first_tag, tag_in, Laid, Tagged, TaggedL}
use Rattle.tags.proofs.Tagged.{tagged_at}
use Rattle.tags.specs.Says.{Says, free_first, free_last, small, large, wide, pad, sentinel, inner}
use Rattle.tags.proofs.Says.{grain}
use Rattle.tags.specs.Decode.{RoomIs, Busy}

-- the first tag of a block
first_tag_lem : (t : ℕ → ℕ) (x : ℕ) (b : Block) → Laid t x b → 1 ≤ size b → t x ≡ tag_in b 0
first_tag_lem t x b h p = let e : x ≡ x + 0 = omega arith in ap t e ∙ h 0 p

-- the last tag of a free block
free_end : (t : ℕ → ℕ) (x s : ℕ) → 1 ≤ s → Laid t x (free s) → (t (x + s - 1) % START ≡ FREE) × (t (x + s - 1) / flags ≡ s)
free_end t x s p h =
    let e : x + s - 1 ≡ x + (s - 1) = omega arith in
    let g : t (x + s - 1) ≡ tag_in (free s) (s - 1) = ap t e ∙ h (s - 1) (omega arith) in
    ⊎_elim
    (λ (q : s - 1 ≡ 0). let v : t (x + s - 1) ≡ free_tag s = g ∙ eq_yes (s - 1) 0 _ _ q in (omega arith, omega arith))
    (λ (n : s - 1 ≡ 0 → ⊥). let v : t (x + s - 1) ≡ end_tag s = g ∙ eq_no (s - 1) 0 _ _ n ∙ eq_yes (suc (s - 1)) s _ _ (omega arith) in (omega arith, omega arith))
    (same? (s - 1) 0)

module _ (t : ℕ → ℕ) (xs : List Block) (o : Ordered out xs) (h : Tagged t 0 xs) where
  -- ---- from a block to its tags

  pub first_free : (x s : ℕ) → BlockAt x (free s) 0 xs → t x ≡ free_tag s
  first_free x s a = first_tag_lem t x (free s) (tagged_at t x (free s) 0 xs h a) (at_whole x (free s) 0 out xs o a) ∙ eq_yes 0 0 _ _ refl

  pub first_used : (x s d : ℕ) → BlockAt x (used s d) 0 xs → t x ≡ first_tag s d
  first_used x s d a = first_tag_lem t x (used s d) (tagged_at t x (used s d) 0 xs h a) (at_whole x (used s d) 0 out xs o a).0 ∙ eq_yes 0 0 _ _ refl

  pub first_last : (x : ℕ) → BlockAt x last 0 xs → t x ≡ start_tag 1
  first_last x a = first_tag_lem t x last (tagged_at t x last 0 xs h a) (omega arith)

  -- by its payload's place
  pub first_small : (x s : ℕ) → BlockAt x (used s 1) 0 xs → t x ≡ small_tag s
  first_small x s a = first_used x s 1 a ∙ eq_yes 1 1 _ _ refl

  pub first_large : (x s : ℕ) → BlockAt x (used s 2) 0 xs → t x ≡ large_tag s
  first_large x s a = first_used x s 2 a ∙ eq_no 2 1 _ _ (omega arith) ∙ eq_yes 2 2 _ _ refl

  pub first_wide : (x s d : ℕ) → BlockAt x (used s d) 0 xs → 2 ≤ d / 2 → t x ≡ start_tag s
  first_wide x s d a p = first_used x s d a ∙ eq_no d 1 _ _ (omega arith) ∙ eq_no d 2 _ _ (omega arith)

  -- the last grain of its padding
  pub pad_tag_lem : (x s d : ℕ) → BlockAt x (used s d) 0 xs → 2 ≤ d / 2 → t (x + d / 2 - 1) ≡ pad_tag (d / 2)
  pad_tag_lem x s d a p =
      let e : x + d / 2 - 1 ≡ x + (d / 2 - 1) = omega arith in
      let i : d / 2 - 1 < s = omega (arith, (at_whole x (used s d) 0 out xs o a).1.within) in
      ap t e ∙ tagged_at t x (used s d) 0 xs h a (d / 2 - 1) i ∙ eq_no (d / 2 - 1) 0 _ _ (omega arith) ∙ eq_yes (suc (d / 2 - 1)) (d / 2) _ _ (omega arith)

  -- the last grain of a free block, also where it is the first
  pub last_free : (x s : ℕ) → BlockAt x (free s) 0 xs → (t (x + s - 1) % START ≡ FREE) × (t (x + s - 1) / flags ≡ s)
  last_free x s a = free_end t x s (at_whole x (free s) 0 out xs o a) (tagged_at t x (free s) 0 xs h a)

  -- ---- from the tags to the block

  -- START and FREE: a free block starts here
  pub free_here : (y : ℕ) → y < total xs → t y % flags ≡ START + FREE → BlockAt y (free (t y / flags)) 0 xs
  free_here y k e = let g = grain t xs o h y k in go g.x g.b g.i g.at g.place g.says
    where
      go : (x : ℕ) (b : Block) (i : ℕ) → BlockAt x b 0 xs → y ≡ x + i → Says b i (t y) → BlockAt y (free (t y / flags)) 0 xs
      go x b i a p (free_first s q z v) =
          let d : y ≡ x = omega arith in
          let w : b ≡ free (t y / flags) = q ∙ ap free (omega arith) in
          subst (λ (u : ℕ). BlockAt u (free (t y / flags)) 0 xs) (sym d) (subst (λ (c : Block). BlockAt x c 0 xs) w a)
      go x b i a p (free_last s q z f v) = absurd (omega arith)
      go x b i a p (small s q z v) = absurd (omega arith)
      go x b i a p (large s q z v) = absurd (omega arith)
      go x b i a p (wide s n q f f' z v) = absurd (omega arith)
      go x b i a p (pad s n q f f' z v) = absurd (omega arith)
      go x b i a p (sentinel q z v) = absurd (omega arith)
      go x b i a p (inner v) = absurd (omega arith)

  -- FREE without START, or with START and count 1: a free block ends here
  pub free_ends : (y : ℕ) → y < total xs → ((t y % flags ≡ START + FREE) × (t y / flags ≡ 1)) ⊎ (t y % flags ≡ FREE)
      → (x : ℕ) × BlockAt x (free (t y / flags)) 0 xs × (suc y ≡ x + t y / flags)
  free_ends y k e = let g = grain t xs o h y k in go g.x g.b g.i g.at g.place g.says e
    where
      Ends : Type 0
      Ends = (x : ℕ) × BlockAt x (free (t y / flags)) 0 xs × (suc y ≡ x + t y / flags)

      Reads : ℕ → Type 0
      Reads v = ((v % flags ≡ START + FREE) × (v / flags ≡ 1)) ⊎ (v % flags ≡ FREE)

      off : (v : ℕ) → (v % flags ≡ START + FREE → ⊥) → (v % flags ≡ FREE → ⊥) → Reads v → Ends
      off v a b (inl q) = absurd (a q.0)
      off v a b (inr q) = absurd (b q)

      go : (x : ℕ) (b : Block) (i : ℕ) → BlockAt x b 0 xs → y ≡ x + i → Says b i (t y) → Reads (t y) → Ends
      go x b i a p (free_first s q z v) (inl e) = (x, subst (λ (c : Block). BlockAt x c 0 xs) (q ∙ ap free (omega arith)) a, omega (arith, e.1))
      go x b i a p (free_first s q z v) (inr e) = absurd (omega arith)
      go x b i a p (free_last s q z f v) (inl e) = absurd (omega (arith, e.0))
      go x b i a p (free_last s q z f v) (inr e) = (x, subst (λ (c : Block). BlockAt x c 0 xs) (q ∙ ap free (omega arith)) a, omega arith)
      go x b i a p (small s q z v) e = off (t y) (omega arith) (omega arith) e
      go x b i a p (large s q z v) e = off (t y) (omega arith) (omega arith) e
      go x b i a p (wide s n q f f' z v) e = off (t y) (omega arith) (omega arith) e
      go x b i a p (pad s n q f f' z v) e = off (t y) (omega arith) (omega arith) e
      go x b i a p (sentinel q z v) e = off (t y) (omega arith) (omega arith) e
      go x b i a p (inner v) e = off (t y) (omega arith) (omega arith) e

  -- START and SMALL: a used block starts here, with its payload in the middle of this grain
  pub small_here : (y : ℕ) → y < total xs → t y % flags ≡ START + SMALL → BlockAt y (used (t y / flags) 1) 0 xs
  small_here y k e = let g = grain t xs o h y k in go g.x g.b g.i g.at g.place g.says
    where
      go : (x : ℕ) (b : Block) (i : ℕ) → BlockAt x b 0 xs → y ≡ x + i → Says b i (t y) → BlockAt y (used (t y / flags) 1) 0 xs
      go x b i a p (free_first s q z v) = absurd (omega arith)
      go x b i a p (free_last s q z f v) = absurd (omega arith)
      go x b i a p (small s q z v) =
          let d : x ≡ y = omega arith in
          let w : b ≡ used (t y / flags) 1 = q ∙ ap (λ (u : ℕ). used u 1) (omega arith) in
          subst (λ (u : ℕ). BlockAt u (used (t y / flags) 1) 0 xs) d (subst (λ (c : Block). BlockAt x c 0 xs) w a)
      go x b i a p (large s q z v) = absurd (omega arith)
      go x b i a p (wide s n q f f' z v) = absurd (omega arith)
      go x b i a p (pad s n q f f' z v) = absurd (omega arith)
      go x b i a p (sentinel q z v) = absurd (omega arith)
      go x b i a p (inner v) = absurd (omega arith)

  -- START and LARGE: a used block starts here, with its payload at the next grain
  pub large_here : (y : ℕ) → y < total xs → t y % flags ≡ START + LARGE → BlockAt y (used (t y / flags) 2) 0 xs
  large_here y k e = let g = grain t xs o h y k in go g.x g.b g.i g.at g.place g.says
    where
      go : (x : ℕ) (b : Block) (i : ℕ) → BlockAt x b 0 xs → y ≡ x + i → Says b i (t y) → BlockAt y (used (t y / flags) 2) 0 xs
      go x b i a p (free_first s q z v) = absurd (omega arith)
      go x b i a p (free_last s q z f v) = absurd (omega arith)
      go x b i a p (small s q z v) = absurd (omega arith)
      go x b i a p (large s q z v) =
          let d : x ≡ y = omega arith in
          let w : b ≡ used (t y / flags) 2 = q ∙ ap (λ (u : ℕ). used u 2) (omega arith) in
          subst (λ (u : ℕ). BlockAt u (used (t y / flags) 2) 0 xs) d (subst (λ (c : Block). BlockAt x c 0 xs) w a)
      go x b i a p (wide s n q f f' z v) = absurd (omega arith)
      go x b i a p (pad s n q f f' z v) = absurd (omega arith)
      go x b i a p (sentinel q z v) = absurd (omega arith)
      go x b i a p (inner v) = absurd (omega arith)

  -- LARGE without START: the padding of a used block ends here, the payload is at the next grain. The count is how many
  -- grains of padding there are, and the block's size is the count of its first tag
  pub pad_here : (y : ℕ) → y < total xs → t y % flags ≡ LARGE
      → (x : ℕ) × BlockAt x (used (t x / flags) (2 * (t y / flags))) 0 xs × (suc y ≡ x + t y / flags) × (2 ≤ t y / flags) × (t x % flags ≡ START)
  pad_here y k e = let g = grain t xs o h y k in go g.x g.b g.i g.at g.place g.says
    where
      Owned : Type 0
      Owned = (x : ℕ) × BlockAt x (used (t x / flags) (2 * (t y / flags))) 0 xs × (suc y ≡ x + t y / flags) × (2 ≤ t y / flags) × (t x % flags ≡ START)

      go : (x : ℕ) (b : Block) (i : ℕ) → BlockAt x b 0 xs → y ≡ x + i → Says b i (t y) → Owned
      go x b i a p (free_first s q z v) = absurd (omega arith)
      go x b i a p (free_last s q z f v) = absurd (omega arith)
      go x b i a p (small s q z v) = absurd (omega arith)
      go x b i a p (large s q z v) = absurd (omega arith)
      go x b i a p (wide s n q f f' z v) = absurd (omega arith)
      go x b i a p (pad s n q f f' z v) =
          let c : BlockAt x (used s (2 * n)) 0 xs = subst (λ (c : Block). BlockAt x c 0 xs) q a in
          let u : t x ≡ start_tag s = first_wide x s (2 * n) c (omega arith) in
          let j : s ≡ t x / flags = omega arith in
          let k : n ≡ t y / flags = omega arith in
          (x, subst (λ (s : ℕ). BlockAt x (used s (2 * (t y / flags))) 0 xs) j (subst (λ (n : ℕ). BlockAt x (used s (2 * n)) 0 xs) k c), omega arith, omega arith, omega arith)
      go x b i a p (sentinel q z v) = absurd (omega arith)
      go x b i a p (inner v) = absurd (omega arith)

-- ---- the free room beside a block

-- no tag of a used block has FREE
used_plain : (s d i : ℕ) → (tag_in (used s d) i % flags ≡ START + FREE → ⊥) × (tag_in (used s d) i % START ≡ FREE → ⊥)
used_plain s d i = eq_case Plain i 0 _ _
    (λ _. eq_case Plain d 1 _ _ (λ _. (omega arith, omega arith)) (λ _. eq_case Plain d 2 _ _ (λ _. (omega arith, omega arith)) (λ _. (omega arith, omega arith))))
    (λ _. eq_case Plain (suc i) (d / 2) _ _ (λ _. (omega arith, omega arith)) (λ _. (omega arith, omega arith)))
  where
    Plain : ℕ → Type 0
    Plain v = (v % flags ≡ START + FREE → ⊥) × (v % START ≡ FREE → ⊥)

used_busy : (s d : ℕ) → Busy (first_tag s d)
used_busy s d = eq_case Busy d 1 _ _ (λ _. (omega arith, omega arith)) (λ _. eq_case Busy d 2 _ _ (λ _. (omega arith, omega arith)) (λ _. (omega arith, omega arith)))

-- after the end y of a used block
pub behind_tag : (t : ℕ → ℕ) (y : ℕ) (r : List Block) → Ordered busy r → Tagged t y r → RoomIs (t y % flags) (t y / flags) (START + FREE) (room r)
behind_tag t y [] o h = absurd o
behind_tag t y (free b ∷ r) o h =
    let g : t y ≡ free_tag b = first_tag_lem t y (free b) h.0 o.1 ∙ eq_yes 0 0 _ _ refl in
    record { room = inl (omega arith, omega arith, o.1) }
behind_tag t y (used b d ∷ r) o h =
    let g = first_tag_lem t y (used b d) h.0 o.1.0 in
    record { room = inr ((λ q. (used_plain b d 0).0 (ap (λ (v : ℕ). v % flags) (sym g) ∙ q)), refl) }
behind_tag t y (last ∷ r) o h = let g = first_tag_lem t y last h.0 (omega arith) in record { room = inr (omega arith, refl) }
behind_tag t y (gap ∷ r) o h = absurd o.0

-- before the end `total l` of the blocks l, where another block starts
pub before_tag : (t : ℕ → ℕ) (l : List Block) → OrderedL l → TaggedL t l → 1 ≤ total l → RoomIs (t (total l - 1) % START) (t (total l - 1) / flags) FREE (room l)
before_tag t [] o h p = absurd (omega arith)
before_tag t (free s ∷ l) o h p = let g = free_end t (total l) s o.1 h.0 in record { room = inl (g.0, g.1, o.1) }
before_tag t (used s d ∷ l) o h p =
    let e : total l + s - 1 ≡ total l + (s - 1) = omega (arith, o.1.0) in
    let g : t (total l + s - 1) ≡ tag_in (used s d) (s - 1) = ap t e ∙ h.0 (s - 1) (omega (arith, o.1.0)) in
    record { room = inr ((λ q. (used_plain s d (s - 1)).1 (ap (λ (v : ℕ). v % START) (sym g) ∙ q)), refl) }
before_tag t (last ∷ l) o h p =
    let e : total l + 1 - 1 ≡ total l = omega arith in
    let g : t (total l + 1 - 1) ≡ start_tag 1 = ap t e ∙ first_tag_lem t (total l) last h.0 (omega arith) in
    record { room = inr (omega arith, refl) }
before_tag t (gap ∷ l) o h p =
    let e : total l + 1 - 1 ≡ total l = omega arith in
    let g : t (total l + 1 - 1) ≡ 0 = ap t e ∙ first_tag_lem t (total l) gap h.0 (omega arith) in
    record { room = inr (omega arith, refl) }

-- After a used or a free block another block of the piece starts, or its sentinel: where that one is not free, its first
-- tag has START and not FREE.
pub busy_tag : (t : ℕ → ℕ) (y : ℕ) (a : Side) (r : List Block) → Inner a → Ordered a r → Tagged t y r → room r ≡ 0 → Busy (t y)
busy_tag t y out [] i o h e = absurd i
busy_tag t y busy [] i o h e = absurd o
busy_tag t y idle [] i o h e = absurd o
busy_tag t y a (free s ∷ r) i o h e = absurd (omega (arith, o.1))
busy_tag t y a (used s d ∷ r) i o h e = subst Busy (sym (first_tag_lem t y (used s d) h.0 o.1.0 ∙ eq_yes 0 0 _ _ refl)) (used_busy s d)
busy_tag t y a (last ∷ r) i o h e = subst Busy (sym (first_tag_lem t y last h.0 (omega arith))) (omega arith, omega arith)
busy_tag t y out (gap ∷ r) i o h e = absurd i
busy_tag t y busy (gap ∷ r) i o h e = absurd o.0
busy_tag t y idle (gap ∷ r) i o h e = absurd o.0

-- after a free block there is no free room
pub idle_room : (r : List Block) → Ordered idle r → room r ≡ 0
idle_room [] o = refl
idle_room (free s ∷ r) o = absurd o.0
idle_room (used s d ∷ r) o = refl
idle_room (last ∷ r) o = refl
idle_room (gap ∷ r) o = refl
