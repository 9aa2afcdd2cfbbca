-- What follows from specs/SeenBeside.antt.
use Rattle.std.specs.Prelude.{ℕ, suc, ◌+◌, ◌-◌, ◌*◌, ◌/◌, ◌%◌, ◌^◌, ◌≤◌, ◌<◌, ◌≡◌, refl, ◌⊎◌}
use Rattle.std.proofs.Common.{arith, ap, sym, ◌∙◌, subst, inl, inr}
use mathlib.Core.List.{List, [], ◌∷◌}
use Rattle.choice.specs.Choice.{eq_yes, eq_no}
use Rattle.class.specs.Class.{list_of}
use Rattle.class.proofs.Class.{list_small}
use Rattle.definition.specs.Blocks.{Block, free, used, last, gap, total, ◌⟨⟩◌, room, past}
use Rattle.definition.specs.Lists.{Lists}
use Rattle.definition.specs.Calls.{Heap}
use Rattle.invariants.specs.Order.{busy, Inside, Ordered, OrderedL, order_split, BlockAt, LeftAt, at_join, at_here}
use Rattle.invariants.proofs.Order.{total_zip}
use Rattle.invariants.proofs.Pieces.{used_listed}
use Rattle.invariants.proofs.Neighbours.{swallow}
use Rattle.script.specs.Memory.{Memory, Size, Before, Next, Prev, Live, none, free_word, used_word, last_word}
use Rattle.script.specs.Script.{Script, done, ◌>>=◌, unless_eq, must_eq, must_le, Gives}
use Rattle.script.proofs.Script.{gives_bind, gives_get, gives_eq, gives_le, gives_done}
use Rattle.sound.specs.Row.{Row, Left, link_l}
use Rattle.sound.proofs.Row.{row_split}
use Rattle.sound.specs.Sound.{Sound}
use Rattle.sound.specs.Checks.{Word, is_free, is_used, is_last, word_of, must_lead, must_busy, must_used, must_list, see_entry, Beside, nobody, somebody, free_behind, as_behind, see_behind, free_before, as_before, see_before, block_of, see_owner}
use Rattle.sound.specs.Plans.{room_of}
use Rattle.sound.proofs.Seen.{word_free, word_used, word_last, gives_word, gives_lead, gives_used, free_facts, entry_seen}
use Rattle.sound.specs.SeenBeside.{Here, beside}

-- it has the room that the definition says
pub room_seen : (m : Memory) (r : List Block) (y : ℕ) → room_of (beside m r y) ≡ room r
room_seen m [] y = refl
room_seen m (free t ∷ r) y = refl
room_seen m (used t d ∷ r) y = refl
room_seen m (last ∷ r) y = refl
room_seen m (gap ∷ r) y = refl

-- ---- free neighbours

module _ (n c : ℕ) (m : Memory) (h : Heap) (o : Sound n c m h) (y t : ℕ) (b : BlockAt y (free t) 0 h.blocks) where
  -- its size has a list
  listed : Gives m (must_list c t) (tt {0})
  listed = gives_le m 5 (suc (list_of t)) (16 * c) (omega (arith, (free_facts n c m h o y t b).list))

  -- and the list knows it
  entry : Gives m (see_entry n (list_of t) y >>= (λ e. done (somebody t e))) (somebody t (record { next = m Next y; prev = m Prev y }))
  entry = gives_bind m (see_entry n (list_of t) y) _ (entry_seen n c m h o (list_of t) y (o.heap.exact.listed y t b)) (gives_done m _)

  -- as the block behind
  free_behind_lem : Gives m (free_behind n c y t) (somebody t (record { next = m Next y; prev = m Prev y }))
  free_behind_lem =
      let g = free_facts n c m h o y t b in
      gives_bind m (must_list c t) _ listed
      (gives_bind m (must_busy (y + t)) _ g.busy
      (gives_bind m (must_lead Before (y + t) y) _ (gives_lead m Before (y + t) y g.behind) entry))

  -- as the block before
  free_before_lem : Gives m (free_before n c (y + t) y t) (somebody t (record { next = m Next y; prev = m Prev y }))
  free_before_lem =
      gives_bind m (must_eq (y + t) (y + t)) _ (gives_eq m 5 (y + t) (y + t) refl)
      (gives_bind m (must_list c t) _ listed entry)

-- ---- the block before, as a header says

-- the block behind a used one says where that starts
back_of : (sz up : ℕ → ℕ) (y p : ℕ) (r : List Block) → Ordered busy r → Row sz up y p r → up y ≡ p
back_of sz up y p [] w h = absurd w
back_of sz up y p (free t ∷ r) w h = h.0.1
back_of sz up y p (used t e ∷ r) w h = h.0.1
back_of sz up y p (last ∷ r) w h = h.0.1
back_of sz up y p (gap ∷ r) w h = absurd w.0

-- a header that says none
nobody_before : (n c : ℕ) (m : Memory) (x : ℕ) → m Before x ≡ none → Gives m (see_before n c x) nobody
unfolding see_before
nobody_before n c m x e = gives_get m Before x _ e
    (subst (λ (t : Script Beside). Gives m t nobody) (sym (eq_yes none none _ _ refl)) (gives_done m nobody))

-- a header that says z
block_before : (n c : ℕ) (m : Memory) (x z v : ℕ) (w : Word) {b : Beside} → m Before x ≡ z → z < x → z < none → m Size z ≡ v → word_of v ≡ w
    → Gives m (as_before n c x z w) b → Gives m (see_before n c x) b
unfolding see_before
block_before n c m x z v w {b} e p q u d g = gives_get m Before x _ e
    (subst (λ (t : Script Beside). Gives m t b) (sym (eq_no z none _ _ (omega arith)))
    (gives_bind m (must_le (suc z) x) _ (gives_le m 5 (suc z) x (omega arith)) (gives_word m Size z v w (as_before n c x z) u d g)))

-- ---- around a used block

module _ (n c : ℕ) (m : Memory) (f : Lists) (l r : List Block) (s d : ℕ) (o : Sound n c m (Here f l (used s d) r)) where
  -- how the heap and the memory are made here
  order : OrderedL l × Ordered busy r
  order = let i = order_split l (used s d ∷ r) o.heap.order in (i.0, i.1.2)

  whole : (1 ≤ s) × Inside s d
  whole = (order_split l (used s d ∷ r) o.heap.order).1.1

  rows : Left (m Size) (m Before) l × Row (m Size) (m Before) (total l) (link_l l) (used s d ∷ r)
  rows = row_split (m Size) (m Before) l (used s d ∷ r) o.row

  -- its neighbour behind
  pub behind_seen : Gives m (see_behind n c (total l + s)) (beside m r (total l + s))
  unfolding see_behind
  behind_seen = go r order.1 rows.1.1 (λ t b. at_join (total l + s) (free t) (used s d ∷ l) r (inr b))
    where
      go : (q : List Block) → Ordered busy q → Row (m Size) (m Before) (total l + s) (total l) q
          → ((t : ℕ) → BlockAt (total l + s) (free t) (total l + s) q → BlockAt (total l + s) (free t) 0 (l ⟨⟩ used s d ∷ r))
          → Gives m (see_behind n c (total l + s)) (beside m q (total l + s))
      go [] w k at = absurd w
      go (free t ∷ q) w k at = gives_word m Size (total l + s) (free_word t) (is_free t) (as_behind n c (total l + s)) k.0.0 (word_free t w.1)
          (free_behind_lem n c m (Here f l (used s d) r) o (total l + s) t (at t (inl (refl, refl))))
      go (used t e ∷ q) w k at = gives_word m Size (total l + s) (used_word t) (is_used t) (as_behind n c (total l + s)) k.0.0 (word_used t w.1.0) (gives_done m nobody)
      go (last ∷ q) w k at = gives_word m Size (total l + s) last_word is_last (as_behind n c (total l + s)) k.0.0 word_last (gives_done m nobody)
      go (gap ∷ q) w k at = absurd w.0

  -- its neighbour before
  pub before_seen : Gives m (see_before n c (total l)) (beside m l (total (past l)))
  before_seen = go l order.0 rows.0 rows.1.0.1 (omega (arith, o.small, o.whole, total_zip l (used s d ∷ r)))
      (λ z t b. at_join z (free t) l (used s d ∷ r) (inl b))
    where
      go : (a : List Block) → OrderedL a → Left (m Size) (m Before) a → m Before (total a) ≡ link_l a → total a ≤ none
          → ((z t : ℕ) → LeftAt z (free t) a → BlockAt z (free t) 0 (l ⟨⟩ used s d ∷ r))
          → Gives m (see_before n c (total a)) (beside m a (total (past a)))
      go [] w k e i at = nobody_before n c m 0 e
      go (free t ∷ a) w k e i at = block_before n c m (total a + t) (total a) (free_word t) (is_free t) e (omega (arith, w.1)) (omega (arith, w.1)) k.0.0 (word_free t w.1)
          (free_before_lem n c m (Here f l (used s d) r) o (total a) t (at (total a) t (inl (refl, refl))))
      go (used t v ∷ a) w k e i at = block_before n c m (total a + t) (total a) (used_word t) (is_used t) e (omega (arith, w.1.0)) (omega (arith, w.1.0)) k.0.0 (word_used t w.1.0)
          (gives_bind m (must_eq (total a + t) (total a + t)) _ (gives_eq m 5 (total a + t) (total a + t) refl) (gives_done m nobody))
      go (last ∷ a) w k e i at = nobody_before n c m (total a + 1) e
      go (gap ∷ a) w k e i at = nobody_before n c m (total a + 1) e

  -- its payload's place leads to its start
  block_seen : Gives m (block_of (2 * total l + d)) (total l)
  block_seen = go whole.1.kind
    where
      go : (d ≡ 1) ⊎ (d % 2 ≡ 0) → Gives m (block_of (2 * total l + d)) (total l)
      go (inl e) = subst (λ (t : Script ℕ). Gives m t (total l)) (sym (eq_yes ((2 * total l + d) % 2) 1 _ _ (omega arith)))
          (subst (λ (x : ℕ). Gives m (done ((2 * total l + d) / 2)) x) (omega arith) (gives_done m _))
      go (inr e) =
          let h : (2 * total l + d) / 2 ≡ total l + d / 2 = omega arith in
          subst (λ (t : Script ℕ). Gives m t (total l)) (sym (eq_no ((2 * total l + d) % 2) 1 _ _ (omega arith)))
          (gives_get m Prev ((2 * total l + d) / 2 - 1) _ (ap (λ (x : ℕ). m Prev (x - 1)) h ∙ o.padded (total l) s d (at_here l r (used s d)) e)
          (gives_bind m (must_le (suc (total l)) ((2 * total l + d) / 2)) _ (gives_le m 5 _ _ (omega (arith, whole.1.some))) (gives_done m (total l))))

  -- its payload is live, and leads to it
  pub owner_seen : Gives m (see_owner (2 * total l + d)) (record { at = total l; grains = s })
  unfolding see_owner
  owner_seen =
      gives_get m Live (2 * total l + d) _ (o.lively.set (total l) s d (at_here l r (used s d)))
      (gives_bind m (unless_eq 3 1 1) _ (gives_eq m 3 1 1 refl)
      (gives_bind m (block_of (2 * total l + d)) _ block_seen
      (gives_bind m (must_used (total l)) _ (gives_used m (total l) s whole.0 rows.1.0.0)
      (gives_bind m (must_le (2 * total l + d) (2 * (total l + s))) _ (gives_le m 5 _ _ (omega (arith, whole.1.within)))
      (gives_bind m (must_lead Before (total l + s) (total l)) _
      (gives_lead m Before (total l + s) (total l) (back_of (m Size) (m Before) (total l + s) (total l) r order.1 rows.1.1))
      (gives_done m _))))))

  -- ---- the block with its free neighbours

  -- together they are part of one piece
  pub used_short : room l + (s + room r) < 2 ^ c
  used_short =
      let w = swallow c f l r s d o.heap in
      let t = room l + (s + room r) in
      used_listed c (past l) (past r) t 1 (order_split (past l) (used t 1 ∷ past r) w.order).1.2 w.short

  -- so they have a list
  pub merged_list : list_of (room l + (s + room r)) < 16 * c
  merged_list = list_small (room l + (s + room r)) (omega (arith, whole.0)) c used_short
