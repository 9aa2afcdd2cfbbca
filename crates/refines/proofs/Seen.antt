-- On a memory that stands for a heap (`Sound`) the checks of free blocks, of lists and of guards pass.
use Rattle.std.specs.Prelude.{ℕ, suc, ◌+◌, ◌-◌, ◌*◌, ◌/◌, ◌%◌, ◌^◌, ◌≤◌, ◌<◌, ◌≡◌}
use Rattle.std.proofs.Common.{arith, ap, sym, ◌∙◌, subst, ⊎_elim}
use Rattle.std.proofs.Math.Path.{refl}
use mathlib.Core.List.{List, [], ◌∷◌}
use Rattle.choice.specs.Choice.{eq_yes, eq_no, eq_case, same?}
use Rattle.class.specs.Class.{list_of}
use Rattle.class.proofs.Class.{list_small}
use Rattle.definition.specs.Blocks.{Block, free, used, last, gap, total, ◌⟨⟩◌}
use Rattle.definition.specs.Calls.{Heap}
use Rattle.invariants.specs.Order.{Side, out, busy, idle, Ordered, order_split, BlockAt, stands_at}
use Rattle.invariants.proofs.Order.{total_zip, at_end_lem, at_whole}
use Rattle.invariants.specs.Pieces.{Inner}
use Rattle.invariants.specs.Members.{Mem}
use Rattle.invariants.specs.Moves.{Ok}
use Rattle.script.specs.Memory.{Memory, Next, Prev, Mark}
use Rattle.script.specs.Script.{Script, done, must_eq, must_le, Gives}
use Rattle.script.proofs.Script.{gives_bind, gives_get, gives_eq, gives_le, gives_done}
use Rattle.machine.specs.Machine.{guard_next, guard_prev}
use Rattle.tags.specs.Tag.{Tag, flags, START, FREE, SMALL, free_tag, Tagged}
use Rattle.tags.proofs.Tagged.{tagged_split}
use Rattle.tags.specs.Decode.{Busy}
use Rattle.tags.proofs.Decode.{first_free, last_free, busy_tag, idle_room}
use Rattle.tags.proofs.Bound.{free_short}
use Rattle.chains.specs.Links.{Head}
use Rattle.chains.specs.Chain.{Chain}
use Rattle.chains.proofs.Strung.{next_mem, prev_mem, mark_of}
use Rattle.chains.proofs.Seen.{next_back, prev_back, head_first, head_in}
use Rattle.plans.specs.Checks.{must_grain, must_list, must_be, must_busy, must_free, see_free, one_if, see_entry, see_head, see_guard, see_rest, see_join}
use Rattle.armour.specs.Row.{Row, Sound}

-- ---- single checks

module _ (m : Memory) where
  pub gives_be : (f x y : ℕ) → m f x ≡ y → Gives m (must_be f x y) (tt {0})
  gives_be f x y e = gives_get m f x _ e (gives_eq m 5 y y refl)

  pub gives_grain : (n x : ℕ) → x < n → Gives m (must_grain n x) (tt {0})
  gives_grain n x h = gives_le m 5 (suc x) n h

  pub gives_busy : (v : ℕ) → Busy v → Gives m (must_busy v) (tt {0})
  gives_busy v b = gives_bind m (must_le START (v % flags)) _ (gives_le m 5 START (v % flags) b.0) (gives_le m 5 (v % flags) (START + SMALL) b.1)

-- ---- what follows a block, where the tags are those of blocks

-- more of the piece follows a used or a free block, at least its sentinel
some_after : (a : Side) (r : List Block) → Inner a → Ordered a r → 1 ≤ total r
some_after out [] i w = absurd i
some_after busy [] i w = absurd w
some_after idle [] i w = absurd w
some_after a (free s ∷ r) i w = omega (arith, w.1)
some_after a (used s d ∷ r) i w = omega (arith, w.1.0)
some_after a (last ∷ r) i w = omega arith
some_after a (gap ∷ r) i w = omega arith

module _ (n c : ℕ) (m : Memory) (xs : List Block) (o : Row n c m xs) where
  pub used_inside : (x s d : ℕ) → BlockAt x (used s d) 0 xs → x + s < n
  used_inside x s d b = let p = stands_at x (used s d) xs b in go p.before p.behind p.whole p.place
    where
      go : (l r : List Block) → xs ≡ l ⟨⟩ used s d ∷ r → x ≡ total l → x + s < n
      go l r e q =
          let i = order_split l (used s d ∷ r) (subst (Ordered out) e o.order) in
          omega (arith, some_after busy r tt i.1.2, total_zip l (used s d ∷ r), ap total e, o.whole)

  -- the block after a free one is not free
  pub free_inside : (y s : ℕ) → BlockAt y (free s) 0 xs → (y + s < n) × Busy (m Tag (y + s))
  free_inside y s b = let p = stands_at y (free s) xs b in go p.before p.behind p.whole p.place
    where
      go : (l r : List Block) → xs ≡ l ⟨⟩ free s ∷ r → y ≡ total l → (y + s < n) × Busy (m Tag (y + s))
      go l r e q =
          let i = order_split l (free s ∷ r) (subst (Ordered out) e o.order) in
          let t = tagged_split (m Tag) l (free s ∷ r) (subst (Tagged (m Tag) 0) e o.tags) in (
            omega (arith, some_after idle r tt i.1.2, total_zip l (free s ∷ r), ap total e, o.whole),
            subst (λ (x : ℕ). Busy (m Tag (x + s))) (sym q) (busy_tag (m Tag) (total l + s) idle r tt i.1.2 t.1.1 (idle_room r i.1.2)),
          )

-- ---- on a sound memory

one_same : (a b y : ℕ) → (a ≡ y → b ≡ y) → (b ≡ y → a ≡ y) → one_if a y ≡ one_if b y
one_same a b y f g = ⊎_elim
    (λ (e : a ≡ y). eq_yes a y 1 0 e ∙ sym (eq_yes b y 1 0 (f e)))
    (λ (e : a ≡ y → ⊥). eq_no a y 1 0 e ∙ sym (eq_no b y 1 0 (λ q. e (g q))))
    (same? a y)

module _ (n c : ℕ) (m : Memory) (h : Heap) (o : Sound n c m h) where
  pub sound_ok : Ok c h
  sound_ok = record { order = o.row.order; exact = o.exact; short = o.row.short }

  -- ---- free blocks

  pub free_some : (y s : ℕ) → BlockAt y (free s) 0 h.blocks → 1 ≤ s
  free_some y s b = at_whole y (free s) 0 out h.blocks o.row.order b

  -- it has a list
  pub free_below : (y s : ℕ) → BlockAt y (free s) 0 h.blocks → s < 2 ^ c
  free_below y s b = free_short c h.blocks o.row.order o.row.short y s b

  pub free_gives : (y s : ℕ) → BlockAt y (free s) 0 h.blocks → Gives m (must_free n y) s
  unfolding must_free
  free_gives y s b =
      let w = free_some y s b in
      let e : m Tag y ≡ free_tag s = first_free (m Tag) h.blocks o.row.order o.row.tags y s b in
      gives_bind m (must_grain n y) _ (gives_grain m n y (omega (arith, at_end_lem y (free s) 0 h.blocks b, o.row.whole)))
      (gives_get m Tag y _ e
      (gives_bind m (must_eq (free_tag s % flags) (START + FREE)) _ (gives_eq m 5 _ _ (omega arith))
      (gives_bind m (must_le 1 (free_tag s / flags)) _ (gives_le m 5 _ _ (omega arith))
      (subst (Gives m (done (free_tag s / flags))) (omega arith) (gives_done m _)))))

  pub whole_gives : (y s : ℕ) → BlockAt y (free s) 0 h.blocks → Gives m (see_free n y) s
  unfolding see_free
  whole_gives y s b =
      let i = free_inside n c m h.blocks o.row y s b in
      let e = last_free (m Tag) h.blocks o.row.order o.row.tags y s b in
      gives_bind m (must_free n y) _ (free_gives y s b)
      (gives_bind m (must_grain n (y + s)) _ (gives_grain m n (y + s) i.0)
      (gives_get m Tag (y + s - 1) _ refl
      (gives_bind m (must_eq (m Tag (y + s - 1) % START) FREE) _ (gives_eq m 5 _ _ e.0)
      (gives_bind m (must_eq (m Tag (y + s - 1) / flags) s) _ (gives_eq m 5 _ _ e.1)
      (gives_get m Tag (y + s) _ refl
      (gives_bind m (must_busy (m Tag (y + s))) _ (gives_busy m _ i.1) (gives_done m s)))))))

  -- ---- lists

  pub member_free : (k y : ℕ) → Mem y (h.lists k) → (s : ℕ) × Gives m (must_free n y) s × BlockAt y (free s) 0 h.blocks
  member_free k y i = let g = o.exact.there k y i in (g.0, free_gives y g.0 g.1, g.1)

  pub entry_gives : (k y : ℕ) → Mem y (h.lists k) → Gives m (see_entry n k y) (tt {0})
  unfolding see_entry
  entry_gives k y i =
      let f = h.lists in
      let a = o.exact.apiece in
      let t = o.strung in
      let e = head_first m f a t k y i in
      gives_get m Next y _ refl
      (gives_get m Prev y _ refl
      (gives_bind m (must_free n (m Next y)) _ (member_free k (m Next y) (next_mem m f a t k y i)).1
      (gives_bind m (must_be Prev (m Next y) _) _ (gives_be m Prev (m Next y) _ (next_back m f a t k y i))
      (gives_bind m (must_free n (m Prev y)) _ (member_free k (m Prev y) (prev_mem m f a t k y i)).1
      (gives_bind m (must_be Next (m Prev y) _) _ (gives_be m Next (m Prev y) _ (prev_back m f a t k y i))
      (gives_bind m (must_be Mark k 1) _ (gives_be m Mark k 1 (mark_of m f a t k y i))
      (gives_get m Head k _ refl (gives_eq m 5 _ _ (one_same (m Head k) (m Prev y) y e.0 e.1)))))))))

  pub head_gives : (k : ℕ) → Gives m (see_head n k) (tt {0})
  unfolding see_head
  head_gives k = gives_get m Mark k _ refl (gives_get m Head k _ refl
      (eq_case (λ (t : Script (Unit {0})). Gives m t (tt {0})) (m Mark k) 0 _ _
      (λ e. gives_done m (tt {0}))
      (λ e. let g = head_in m h.lists o.exact.apiece o.strung k (marked (h.lists k) (o.strung k) e) in
      gives_bind m (must_free n (m Head k)) _ (member_free k (m Head k) g.0).1 (gives_be m Prev (m Head k) _ g.1))))
    where
      marked : (l : List ℕ) → Chain m k l → (m Mark k ≡ 0 → ⊥) → m Mark k ≡ 1
      marked [] t e = absurd (e t)
      marked (z ∷ l) t e = t.0

  -- ---- sizes that have a list

  pub list_gives : (t : ℕ) → 1 ≤ t → t < 2 ^ c → Gives m (must_list c t) (tt {0})
  list_gives t a b = gives_le m 5 (suc (list_of t)) (16 * c) (list_small t a c b)

  pub rest_gives : (t k : ℕ) → 1 ≤ t → t < 2 ^ c → Gives m (see_rest n c t k) (tt {0})
  unfolding see_rest
  rest_gives t k a b = gives_bind m (must_list c t) _ (list_gives t a b)
      (eq_case (λ (u : Script (Unit {0})). Gives m u (tt {0})) k t _ _ (λ e. gives_done m (tt {0})) (λ e. head_gives (list_of (t - k))))

  pub join_gives : (t : ℕ) → 1 ≤ t → t < 2 ^ c → Gives m (see_join n c t) (tt {0})
  unfolding see_join
  join_gives t a b = gives_bind m (must_list c t) _ (list_gives t a b) (head_gives (list_of t))

  -- ---- guards

  pub guard_gives : (x s d : ℕ) → BlockAt x (used s d) 0 h.blocks → Gives m (see_guard x) (tt {0})
  unfolding see_guard
  guard_gives x s d b =
      let g = o.guarded x s d b in
      gives_bind m (must_be Next x (guard_next x)) _ (gives_be m Next x (guard_next x) g.0) (gives_be m Prev x (guard_prev x) g.1)
