-- T7 in memory, for resize: it writes into no other payload; and where the block stays, nothing of its own that it keeps.
-- What it moves to another place is not in the plan's writes: the plan says how much is to be moved.
use Rattle.std.specs.Prelude.{ℕ, ◌+◌, ◌-◌, ◌*◌, ◌≤◌, min, ◌≡◌, refl}
use Rattle.std.proofs.Common.{arith, ◌∙◌, ⊎_elim}
use Rattle.std.proofs.Math.Path.{sym, subst}
use mathlib.Core.List.{List, ◌∷◌}
use Rattle.class.specs.Class.{list_of}
use Rattle.definition.specs.Blocks.{Block, used, total, ◌⟨⟩◌, room, past}
use Rattle.definition.specs.Lists.{Lists, skip}
use Rattle.definition.specs.Calls.{Heap, place, keeps}
use Rattle.invariants.specs.Order.{out, Inside, BlockAt, at_here, stands_at}
use Rattle.invariants.proofs.Order.{at_whole}
use Rattle.invariants.proofs.Neighbours.{total_past}
use Rattle.invariants.specs.Placing.{Align}
use Rattle.invariants.proofs.Placing.{align_pos, place_some, keeps_holds}
use Rattle.script.specs.Memory.{Memory, none, apply}
use Rattle.script.specs.Script.{ok, run, Gives}
use Rattle.sound.specs.Sound.{Sound}
use Rattle.sound.specs.Checks.{Beside}
use Rattle.sound.specs.Plans.{Plan, leaves, both_leave, elsewhere_script, resize_script}
use Rattle.sound.specs.Leave.{leave_writes}
use Rattle.sound.specs.SeenBeside.{Here, beside}
use Rattle.sound.proofs.Skips.{skips_behind, fewer_behind, skips_both, fewer_both}
use Rattle.sound.specs.PayloadWrites.{Spares, Unlisted, Off, Edge, Aside}
use Rattle.sound.proofs.PayloadWrites.{spares_append, spares_from, aside_off, aside_edge, leave_off, after_off, placed_off}
use Rattle.sound.proofs.PayloadTake.{used_small, free_aside, taking, take_spares}
use Rattle.sound.proofs.PayloadReturn.{owned, both_aside, behind_off, both_off, back_spares}
use Rattle.sound.proofs.ResizeSteps.{between, both, Step, stays, stretches, sinks, moves, step}
use Rattle.invariants.proofs.Moves.{used_unlisted}

-- ---- step 4: a take, and then a return

module _ (n c p a : ℕ) (m : Memory) (h : Heap) (al : Align a) (o : Sound n c m h) where
  -- neither writes into another payload
  elsewhere_spares : (q u : ℕ) (t : Plan) (y s d : ℕ) → Gives m (elsewhere_script n c q p a u) t → BlockAt y (used s d) 0 h.blocks → (2 * y + d ≡ q → ⊥) → Spares y s d t.writes
  elsewhere_spares q u t y s d g b ne =
      let k = both n c p a m q u t g in
      let i = between n c p a m h al o k.first k.takes in
      rw k.writes (spares_append y s d k.first.writes k.second.writes (take_spares n c p a m h al o k.first y s d k.takes b)
      (back_spares n c (apply m k.first.writes) i.heap q k.second y s d i.sound k.returns (i.grants.kept y (used s d) tt b) ne))

  -- a payload that was live is not the one that is handed out
  pub elsewhere_other : (q u : ℕ) (t : Plan) (y s d : ℕ) → Gives m (elsewhere_script n c q p a u) t → BlockAt y (used s d) 0 h.blocks → t.answer ≡ 2 * y + d → ⊥
  elsewhere_other q u t y s d g b e =
      let k = both n c p a m q u t g in
      let i = taking n c p a m h al o k.first k.takes in
      let w = (at_whole y (used s d) 0 out h.blocks o.heap.order b).1 in
      let x = i.start in
      let j = place_some a x (align_pos a al) in
      let v = keeps_holds (place a x) p in
      ⊎_elim (λ (f : y + s ≤ x). omega (arith, w.within, k.answer, i.answer)) (λ (f : x + i.grains ≤ y). omega (arith, w.some, i.fits, k.answer, i.answer))
      (free_aside h.blocks y s d x i.grains b i.there)

-- ---- the other steps

module _ (n c p a : ℕ) (m : Memory) (f : Lists) (l r : List Block) (s d : ℕ) (al : Align a) (o : Sound n c m (Here f l (used s d) r)) where
  -- as in ResizeSteps
  abbrev q : ℕ
  q = 2 * total l + d

  abbrev next : Beside
  next = beside m r (total l + s)

  abbrev start : ℕ
  start = total (past l)

  abbrev all : ℕ
  all = room l + (s + room r)

  abbrev Steps : Plan → Type 0
  Steps t = Step n c p a m f l r s d al o t

  abbrev blocks : List Block
  blocks = l ⟨⟩ used s d ∷ r

  -- in place: beside a block that is not the resized one, or behind what it keeps
  stretch_off : (y t : ℕ) → y + t ≤ none → Unlisted f y t → Edge y t (total l) → Edge y t (total l + (s + room r)) → ((keeps d p ≡ s + room r → ⊥) → Off y t (total l + keeps d p))
      → Spares y t 1 (leave_writes m (leaves next) (total l) (s + room r) (keeps d p))
  stretch_off y t small un a b e = leave_off y t m (leaves next) (total l) (s + room r) (keeps d p) small (behind_off n c m f l r s d o y t small un) a b e
      (after_off m f (skip r (total l + s) f) (leaves next) (skips_behind n c m f l r s d o) y t small (λ u i j k h. un u i j k (fewer_behind n c m f l r s d o k u h)) (list_of (s + room r - keeps d p)))

  -- the payload of another block
  other_spared : (t : Plan) (y i e : ℕ) → Steps t → BlockAt y (used i e) 0 blocks → (2 * y + e ≡ q → ⊥) → 1 ≤ e → Spares y i e t.writes
  other_spared t y i e k b ne pe = go k
    where
      small : y + i ≤ none
      small = used_small n c m (Here f l (used s d) r) o y i e b

      un : Unlisted f y i
      un = used_unlisted c blocks f y i e o.heap b

      ad : Aside y i start all
      ad = both_aside n c m f l r s d o y i e b ne

      go : Steps t → Spares y i e t.writes
      go (stays j w) = rw w tt
      go (stretches h j w) = spares_from y i e pe t.writes (rw w (stretch_off y i small un
          (aside_edge y i start all (total l) ad (omega (arith, total_past l)) (omega (arith, total_past l)))
          (aside_edge y i start all (total l + (s + room r)) ad (omega (arith, total_past l)) (omega (arith, total_past l)))
          (λ v. aside_off y i start all (total l + keeps d p) ad (omega (arith, total_past l)) (omega (arith, total_past l, v)))))
      go (sinks some big fits answer moved early w) = spares_from y i e pe t.writes (rw w (placed_off m f (skip l start (skip r (total l + s) f)) (both_leave next start (beside m l start)) (skips_both n c m f l r s d o) y i small
          (λ u v j k h. un u v j k (fewer_both n c m f l r s d o k u h)) start all (keeps (place a start) p) (place a start) _ (refl, (refl, tt))
          (both_off n c m f l r s d o y i small un) ad fits (place_some a start (align_pos a al)) (omega (arith, keeps_holds (place a start) p))))
      go (moves u eu big g) = elsewhere_spares n c p a m (Here f l (used s d) r) al o q u t y i e g b ne

  -- of its own payload, what it keeps
  own_spared : (t : Plan) → Steps t → t.answer ≡ q → Spares (total l) (min s (keeps d p)) d t.writes
  own_spared t k e = go k
    where
      here : BlockAt (total l) (used s d) 0 blocks
      here = at_here l r (used s d)

      whole : (1 ≤ s) × Inside s d
      whole = at_whole (total l) (used s d) 0 out blocks o.heap.order here

      go : Steps t → Spares (total l) (min s (keeps d p)) d t.writes
      go (stays i w) = rw w tt
      go (stretches h j w) = spares_from (total l) (min s (keeps d p)) d whole.1.some t.writes (rw w (stretch_off (total l) (min s (keeps d p))
          (omega (arith, used_small n c m (Here f l (used s d) r) o (total l) s d here))
          (λ u i j. used_unlisted c blocks f (total l) s d o.heap here u i (omega arith)) (λ i j. omega arith) (λ i j. omega arith) (λ v i j. omega arith)))
      go (sinks some big fits answer moved early w) = absurd (omega (arith, total_past l))
      go (moves u eu big g) = absurd (elsewhere_other n c p a m (Here f l (used s d) r) al o q u t (total l) s d g here e)

-- ---- resize

module _ (n c q p a : ℕ) (m : Memory) (h : Heap) (t : Plan) (y s d : ℕ) (al : Align a) (o : Sound n c m h) (g : run m (resize_script n c q p a) ≡ ok t) (b : BlockAt y (used s d) 0 h.blocks) where
  -- the payload of every other used block
  pub resize_spares : (2 * y + d ≡ q → ⊥) → Spares y s d t.writes
  unfolding resize_script
  resize_spares ne =
      let w = owned n c m h q o _ t g in
      let v : Sound n c m (Here h.lists w.l (used w.s w.d) w.r) = subst (λ (A : List Block). Sound n c m (record { blocks = A; lists = h.lists })) w.whole o in
      other_spared n c p a m h.lists w.l w.r w.s w.d al v t y s d
      (step n c p a m h.lists w.l w.r w.s w.d al v t (subst (λ (u : ℕ). Gives m (resize_script n c u p a) t) w.payload g))
      (subst (λ (A : List Block). BlockAt y (used s d) 0 A) w.whole b) (λ e. ne (e ∙ sym w.payload)) (at_whole y (used s d) 0 out h.blocks o.heap.order b).1.some

  -- where the payload stays at its place: of the resized one all that is kept, up to the block's old end or its new one
  pub resize_spares_own : 2 * y + d ≡ q → t.answer ≡ q → Spares y (min s (keeps d p)) d t.writes
  resize_spares_own e i =
      let w = stands_at y (used s d) h.blocks b in
      let k : q ≡ 2 * total w.before + d = omega (arith, w.place) in
      let v : Sound n c m (Here h.lists w.before (used s d) w.behind) = subst (λ (A : List Block). Sound n c m (record { blocks = A; lists = h.lists })) w.whole o in
      subst (λ (x : ℕ). Spares x (min s (keeps d p)) d t.writes) (sym w.place)
      (own_spared n c p a m h.lists w.before w.behind s d al v t
      (step n c p a m h.lists w.before w.behind s d al v t (subst (λ (u : ℕ). Gives m (resize_script n c u p a) t) k g)) (i ∙ k))
