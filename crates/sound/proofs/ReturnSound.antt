-- Return, on a sound memory: its script answers as the definition does, and what it writes turns the memory into one for
-- the definition's heap. The block found becomes one free block with its free neighbours, which leave their lists, and
-- goes to the head of its list; its payload is live no more. A payload that is not live is refused.
use Rattle.std.specs.Prelude.{ℕ, ◌+◌, ◌-◌, ◌*◌, ◌/◌, ◌≤◌, ◌<◌, ◌≡◌, refl, List, ◌∷◌, ◌++◌}
use Rattle.std.proofs.Common.{arith, ap, sym, ◌∙◌, inr, ⊎_elim}
use Rattle.std.proofs.Math.Path.{subst}
use Rattle.choice.specs.Choice.{upd, same?}
use Rattle.class.specs.Class.{list_of}
use Rattle.definition.specs.Blocks.{Block, free, used, gap, total, ◌⟨⟩◌, Place, room, past}
use Rattle.definition.specs.Lists.{Lists, push, skip}
use Rattle.definition.specs.Calls.{Heap, granted, join, give_back_at, give_back}
use Rattle.invariants.specs.Order.{busy, idle, Inside, Ordered, OrderedL, order_split, BlockAt, at_here, stands_at, Apart, same, before, behind}
use Rattle.invariants.proofs.Order.{total_zip, apart, payload_at}
use Rattle.invariants.specs.Moves.{Ok, free_used}
use Rattle.invariants.proofs.Neighbours.{total_past, order_l_past, order_past, join_ok}
use Rattle.invariants.proofs.Kept.{kept_join, kept_join_back}
use Rattle.invariants.proofs.NotLive.{not_live_back}
use Rattle.script.specs.Memory.{Memory, Size, Before, Next, Prev, Mark, Live, Table, none, root, free_word, Write, apply, latest}
use Rattle.script.proofs.Memory.{apply_is, apply_append, apply_untouched}
use Rattle.script.specs.Script.{Gives}
use Rattle.script.proofs.Script.{gives_bind, gives_done, gives_le, halts}
use Rattle.sound.specs.Row.{Row}
use Rattle.sound.specs.Sound.{Sound, Lively, Padded, Given}
use Rattle.sound.specs.Checks.{must_list, see_head, see_owner, see_behind, see_before}
use Rattle.sound.specs.Plans.{Plan, room_of, both_leave, free_writes, join_script, give_back_script}
use Rattle.sound.specs.Meets.{Grants, Meets}
use Rattle.sound.proofs.Core.{core_both, row_free}
use Rattle.sound.specs.Relists.{Relists}
use Rattle.sound.proofs.Relists.{relists_push, relists_then}
use Rattle.sound.proofs.Leave.{row_as}
use Rattle.sound.specs.Swaps.{Swaps}
use Rattle.sound.proofs.Swaps.{lively_drop, pad_free, padded_change, given_same}
use Rattle.sound.proofs.Seen.{not_owner, head_seen}
use Rattle.sound.specs.SeenBeside.{Here, beside}
use Rattle.sound.proofs.SeenBeside.{room_seen, owner_seen, behind_seen, before_seen, merged_list}
use Rattle.sound.proofs.Skips.{skips_both, fewer_both, not_in_both}
use Rattle.sound.specs.Links.{push_writes}
use Rattle.invariants.proofs.Gaps.{gap_used}
use Rattle.sound.proofs.Settle.{pad_some}

-- ---- the plan

-- the free block of t grains at z goes to the head of its list, and its free parts have left theirs by w
abbrev list_writes : Memory → ℕ → ℕ → List Write → List Write
list_writes m z t w = w ++ push_writes (list_of t) z (latest w Next (root (list_of t)) (m Next (root (list_of t))))

-- all that is planned for the payload at q
abbrev join_plan : Memory → ℕ → ℕ → ℕ → List Write → Plan
join_plan m q z t w = record { answer = 0; moved = 0; early = 0; writes = list_writes m z t w ++ free_writes q z t }

-- the script plans it
join_gives : (n c : ℕ) (m : Memory) (q z t : ℕ) (w : List Write) → list_of t < 16 * c → Gives m (see_head n (list_of t)) (m Next (root (list_of t)))
    → Gives m (join_script n c q z t w) (join_plan m q z t w)
unfolding join_script
join_gives n c m q z t w i h = gives_bind m (must_list c t) _ (gives_le m 5 _ _ (omega arith)) (gives_bind m (see_head n (list_of t)) _ h (gives_done m _))

-- ---- blocks of the heap

-- the definition finds the block
give_back_found : (f : Lists) (l r : List Block) (s d : ℕ) → OrderedL l → 1 ≤ d → give_back (Here f l (used s d) r) (2 * total l + d) ≡ granted 0 (join f l s r)
unfolding give_back give_back_at
give_back_found f l r s d w h = ap (λ (p : Place). give_back_at f p.before p.behind) (payload_at l r s d w h)

-- ---- the block found

module _ (n c : ℕ) (m : Memory) (f : Lists) (l r : List Block) (s d : ℕ) (o : Sound n c m (Here f l (used s d) r)) where
  -- how its neighbours are ordered
  order : OrderedL l × Ordered busy r
  order = let i = order_split l (used s d ∷ r) o.heap.order in (i.0, i.1.2)

  -- it is not empty, and its payload is inside
  whole : (1 ≤ s) × Inside s d
  whole = (order_split l (used s d ∷ r) o.heap.order).1.1

  -- where the free block will start, and how long it will be
  abbrev start : ℕ
  start = total (past l)

  abbrev merged : ℕ
  merged = room l + (s + room r)

  -- the writes by which its neighbours leave their lists
  abbrev leaving : List Write
  leaving = both_leave (beside m r (total l + s)) start (beside m l start)

  -- the lists afterwards
  abbrev lists : Lists
  lists = push (list_of merged) start (skip l start (skip r (total l + s) f))

  -- the blocks before and afterwards
  abbrev old : List Block
  old = l ⟨⟩ used s d ∷ r

  abbrev new : List Block
  new = past l ⟨⟩ free merged ∷ past r

  -- that heap is one
  sane : Ok c (record { blocks = new; lists = lists })
  unfolding join
  sane = join_ok c f l r s d o.heap

  -- every grain is still there
  same_total : total new ≡ total old
  same_total = omega (arith, total_zip (past l) (free merged ∷ past r), total_zip l (used s d ∷ r), total_past l, total_past r)

  -- the block goes, and a free one comes
  swaps : Swaps old new (total l) (used s d) start (free merged)
  swaps = record {
    forth = λ y b v h. kept_join_back y b v l r s d merged refl h;
    back = λ y b v h. inr (kept_join y b v l r s d merged refl h);
  }

  -- it really goes
  gone : BlockAt (total l) (used s d) 0 new → ⊥
  gone h = go (apart (total l) start 0 (used s d) (free merged) new h (at_here (past l) (past r) (free merged)))
    where
      go : Apart (total l) (used s d) start (free merged) → ⊥
      go (same p q) = free_used q
      go (before p) = omega (arith, whole.0, total_past l)
      go (behind p) = omega (arith, whole.0, total_past l)

  -- the lists are strung anew
  relisted : Relists m f (list_writes m start merged leaving) lists
  relisted =
      let g = skip l start (skip r (total l + s) f) in
      let a = skips_both n c m f l r s d o in
      relists_then m f g lists leaving _ (fewer_both n c m f l r s d o) a
      (relists_push (apply m leaving) g a.apiece a.real a.strung (list_of merged) start _
      (omega (arith, whole.0, total_past l, o.whole, o.small, total_zip l (used s d ∷ r)))
      (not_in_both n c m f l r s d o start (omega arith) (omega (arith, whole.0)))
      (sym (apply_is m leaving Next (root (list_of merged)))))

  -- the memory afterwards
  abbrev end : Memory
  end = apply (apply m (list_writes m start merged leaving)) (free_writes (2 * total l + d) start merged)

  -- stringing the lists leaves the other fields
  untouched : (i : ℕ) → (Next ≡ i → ⊥) → (Prev ≡ i → ⊥) → (Mark ≡ i → ⊥) → apply m (list_writes m start merged leaving) i ≡ m i
  untouched i a b e = apply_untouched m (list_writes m start merged leaving) i (relisted.rest i a b e)

  -- the row has the one free block
  row : Row (end Size) (end Before) 0 none new
  row = row_as _ _ _ _ new
      (ap (λ (a : ℕ → ℕ). upd a start (free_word merged)) (untouched Size (omega arith) (omega arith) (omega arith)))
      (ap (λ (a : ℕ → ℕ). upd a (start + merged) start) (untouched Before (omega arith) (omega arith) (omega arith)))
      (row_free (m Size) (m Before) (past l) (past r) merged (core_both (m Size) (m Before) l r s d o.row) (order_l_past l order.0) idle (order_past r order.1) (omega (arith, whole.0)))

  -- the payload is live no more
  lively : Lively end new
  lively = lively_drop m end old new o.lively (total l) s d start (free merged) o.heap.order (λ v. v) swaps (at_here l r (used s d)) gone
      (ap (λ (a : ℕ → ℕ). upd a (2 * total l + d) 0) (untouched Live (omega arith) (omega arith) (omega arith)))

  -- the words before payloads stay
  padded : Padded end new
  padded = padded_change m end old new (total l) (used s d) start (free merged) o.padded swaps
      (λ k e p v. absurd (free_used (sym p)))
      (λ y t e a b v. relisted.quiet (y + e / 2 - 1) (pad_some n c m (Here f l (used s d) r) o y t e a v)
      (pad_free c old f y t e o.heap a v) (pad_free c new lists y t e sane b v))

  -- no grain was given or taken away
  given : Given end new
  given = given_same m end old new o.given (untouched Table (omega arith) (omega arith) (omega arith)) same_total
      (λ y h. ⊎_elim (λ (p : (y ≡ total l) × (used s d ≡ gap)). absurd (gap_used p.1)) (λ (i : BlockAt y gap 0 new). i) (swaps.forth y gap tt h))
      (λ y h. kept_join y gap tt l r s d merged refl h)

  -- so the memory stands for the heap
  joined : Sound n c end (record { blocks = new; lists = lists })
  joined = record {
    heap = sane;
    whole = same_total ∙ o.whole;
    small = o.small;
    row = row;
    strung = record { links = relisted.strung.links; marks = relisted.strung.marks };
    lively = lively;
    padded = padded;
    given = given;
  }

  -- what the script reads is there
  planned : Gives m (give_back_script n c (2 * total l + d)) (join_plan m (2 * total l + d) start merged leaving)
  unfolding give_back_script
  planned =
      let q = 2 * total l + d in
      let a = beside m r (total l + s) in
      let b = beside m l start in
      let i : total l - room_of b ≡ start = omega (arith, room_seen m l start, total_past l) in
      let j : room_of b + (s + room_of a) ≡ merged = omega (arith, room_seen m l start, room_seen m r (total l + s)) in
      gives_bind m (see_owner q) _ (owner_seen n c m f l r s d o)
      (gives_bind m (see_behind n c (total l + s)) _ (behind_seen n c m f l r s d o)
      (gives_bind m (see_before n c (total l)) _ (before_seen n c m f l r s d o)
      (subst (λ (x : ℕ). Gives m (join_script n c q x (room_of b + (s + room_of a)) (both_leave a x b)) (join_plan m q start merged leaving)) (sym i)
      (subst (λ (x : ℕ). Gives m (join_script n c q start x leaving) (join_plan m q start merged leaving)) (sym j)
      (join_gives n c m q start merged leaving (merged_list n c m f l r s d o) (head_seen n c m (Here f l (used s d) r) o (list_of merged)))))))

  -- the block is given back
  pub give_back_grants : Grants n c m (give_back_script n c (2 * total l + d)) 0 (join f l s r)
  unfolding join
  give_back_grants = record {
    plan = join_plan m (2 * total l + d) start merged leaving;
    gives = planned;
    answer = refl;
    sound = subst (λ (u : Memory). Sound n c u (record { blocks = new; lists = lists })) (sym (apply_append m (list_writes m start merged leaving) (free_writes (2 * total l + d) start merged))) joined;
  }

-- ---- any payload

-- where it is live, its block is found
live_meets : (n c : ℕ) (m : Memory) (f : Lists) (A l r : List Block) (q s d : ℕ) → Sound n c m (record { blocks = A; lists = f }) → A ≡ l ⟨⟩ used s d ∷ r → q ≡ 2 * total l + d
    → Meets n c m (give_back_script n c q) (give_back (record { blocks = A; lists = f }) q)
live_meets n c m f A l r q s d o e p = rw (e, p) (go (rw e at o))
  where
    go : Sound n c m (Here f l (used s d) r) → Meets n c m (give_back_script n c (2 * total l + d)) (give_back (Here f l (used s d) r) (2 * total l + d))
    go o = subst (Meets n c m (give_back_script n c (2 * total l + d)))
        (sym (give_back_found f l r s d (order n c m f l r s d o).0 (whole n c m f l r s d o).1.some)) (give_back_grants n c m f l r s d o)

-- return does what the definition says
pub give_back_meets : (n c : ℕ) (m : Memory) (h : Heap) → Sound n c m h → (q : ℕ) → Meets n c m (give_back_script n c q) (give_back h q)
unfolding give_back_script
give_back_meets n c m h o q = ⊎_elim
    (λ (e : m Live q ≡ 1).
    let g = o.lively.real q e in
    let p = stands_at g.0 (used g.1 g.2) h.blocks g.3 in
    live_meets n c m h.lists h.blocks p.before p.behind q g.1 g.2 o p.whole (omega (arith, g.4, p.place)))
    (λ (e : m Live q ≡ 1 → ⊥). subst (Meets n c m (give_back_script n c q))
    (sym (not_live_back h q (λ x s d b i. e (ap (m Live) i ∙ o.lively.set x s d b)))) (halts m (see_owner q) _ (not_owner m q e)))
    (same? (m Live q) 1)
