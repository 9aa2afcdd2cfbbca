-- What follows from specs/Survives.antt.
use Rattle.std.specs.Prelude.{ℕ, ◌+◌, ◌*◌, ◌%◌, ◌≤◌, ◌<◌, ◌≡◌, List, ◌⊎◌}
use Rattle.std.proofs.Common.{arith, sym, ◌∙◌, subst, inl, inr, ⊎_elim}
use Rattle.choice.specs.Choice.{same?}
use Rattle.definition.specs.Blocks.{Block, free, used}
use Rattle.definition.specs.Lists.{Lists}
use Rattle.invariants.specs.Order.{BlockAt}
use Rattle.invariants.proofs.Order.{one_block}
use Rattle.invariants.specs.Moves.{free_used}
use Rattle.invariants.proofs.Promises.{used_apart}
use Rattle.script.specs.Memory.{Memory}
use Rattle.script.specs.Script.{Gives}
use Rattle.script.proofs.Script.{ends_gives}
use Rattle.sound.proofs.Swaps.{used_place, owner_unique}
use Rattle.plans.specs.Deeds.{Plan}
use Rattle.plans.specs.Calls.{Call, Allocate, Deallocate, Reallocate, Insert, Append, script_of, Fair}
use Rattle.plans.specs.Reallocate.{reallocate_script}
use Rattle.armour.specs.Row.{Row}
use Rattle.armour.specs.Allocates.{AllocateArmoured}
use Rattle.armour.proofs.Allocates.{allocate_armoured}
use Rattle.armour.proofs.Deallocates.{deallocate_armoured}
use Rattle.armour.specs.Reallocates.{ReallocateArmoured}
use Rattle.armour.proofs.Reallocates.{reallocate_armoured}
use Rattle.armour.proofs.Regions.{insert_armoured, append_armoured}
use Rattle.promises.specs.Settled.{Settled}
use Rattle.promises.proofs.Settled.{reallocate_settled}
use Rattle.promises.specs.Survives.{Survives}

-- ---- allocate

-- where a free block stood no payload was
allocate_fresh : (n c p a : ℕ) (m : Memory) (xs : List Block) (f : Lists) (t : Plan) → Row n c m xs → AllocateArmoured n c p a m xs f t
    → (y s d : ℕ) → BlockAt y (used s d) 0 xs → t.answer ≡ 2 * y + d → ⊥
allocate_fresh n c p a m xs f t o w y s d b e =
    let h = ⊎_elim
    (λ (i : (y ≡ w.block) × (free w.grains ≡ used s d)). absurd (free_used (sym i.1)))
    (λ (i : BlockAt y (used s d) 0 w.heap.blocks). i)
    (w.swaps.forth y (used s d) tt b) in
    let u = (owner_unique w.heap.blocks y s d w.block w.k w.d w.armoured.row.order h w.here (sym e ∙ w.payload)).0 in
    free_used (one_block w.block (used s d) (free w.grains) xs o.order (subst (λ (x : ℕ). BlockAt x (used s d) 0 xs) u b) w.was_free)

-- ---- reallocate

module _ (n c q p a : ℕ) (m : Memory) (xs : List Block) (f : Lists) (t : Plan) (o : Row n c m xs) (fair : Fair (Reallocate q p a))
    (g : Gives m (reallocate_script n c q p a) t) (w : ReallocateArmoured n c q p a m xs f t) where
  other_stays : (y s d : ℕ) → BlockAt y (used s d) 0 xs → (q ≡ 2 * y + d → ⊥) → BlockAt y (used s d) 0 w.heap.blocks
  other_stays y s d b ne = ⊎_elim
      (λ (i : (y ≡ w.block) × (used w.grains w.place ≡ used s d)). absurd (ne (omega (arith, w.owner, i.0, used_place i.1))))
      (λ (i : BlockAt y (used s d) 0 w.heap.blocks). i)
      (w.resized.swaps.forth y (used s d) tt b)

  -- the new block is none of the others
  other_start : (y s d : ℕ) → BlockAt y (used s d) 0 xs → (q ≡ 2 * y + d → ⊥) → y ≡ w.resized.z → ⊥
  other_start y s d b ne e = ⊎_elim
      (λ (i : w.resized.z ≡ w.block).
      let h : BlockAt y (used w.grains w.place) 0 xs = subst (λ (x : ℕ). BlockAt x (used w.grains w.place) 0 xs) (sym (e ∙ i)) w.was_used in
      ne (omega (arith, w.owner, e, i, used_place (one_block y (used s d) (used w.grains w.place) xs o.order b h))))
      (λ (i : (k : ℕ) × BlockAt w.resized.z (free k) 0 xs).
      free_used (one_block w.resized.z (used s d) (free i.0) xs o.order (subst (λ (x : ℕ). BlockAt x (used s d) 0 xs) e b) i.1))
      w.resized.old

  other_clear : (y s d : ℕ) → BlockAt y (used s d) 0 xs → (q ≡ 2 * y + d → ⊥) → (t.moved ≡ 0) ⊎ ((t.answer + t.moved ≤ 2 * y) ⊎ (2 * (y + s) ≤ t.answer))
  other_clear y s d b ne =
      let r = w.resized in
      let k = ends_gives (λ (t : Plan). Settled q p a t.answer t.moved) m (reallocate_script n c q p a) (reallocate_settled n c q p a) g in
      ⊎_elim
      (λ (i : t.moved ≡ 0). inl i)
      (λ (i : t.moved < p). inr (⊎_elim
      (λ (h : y + s ≤ r.z). inr (omega (arith, r.payload)))
      (λ (h : r.z + r.k ≤ y). inl (omega (arith, r.payload, r.long)))
      (used_apart y s d r.z r.k r.e w.heap.blocks (other_stays y s d b ne) r.here (other_start y s d b ne))))
      k.fewer

  other_fresh : (y s d : ℕ) → BlockAt y (used s d) 0 xs → (q ≡ 2 * y + d → ⊥) → t.answer ≡ 2 * y + d → ⊥
  other_fresh y s d b ne e =
      let r = w.resized in
      other_start y s d b ne (owner_unique w.heap.blocks y s d r.z r.k r.e w.armoured.row.order (other_stays y s d b ne) r.here (sym e ∙ r.payload)).0

  other_only : (y s d : ℕ) → BlockAt y (used s d) 0 w.heap.blocks → (t.answer ≡ 2 * y + d) ⊎ (BlockAt y (used s d) 0 xs × (q ≡ 2 * y + d → ⊥))
  other_only y s d b =
      let r = w.resized in
      ⊎_elim
      (λ (e : y ≡ r.z).
      let u = one_block y (used s d) (used r.k r.e) w.heap.blocks w.armoured.row.order b (subst (λ (z : ℕ). BlockAt z (used r.k r.e) 0 w.heap.blocks) (sym e) r.here) in
      inl (omega (arith, r.payload, e, used_place u)))
      (λ (n : y ≡ r.z → ⊥). ⊎_elim
      (λ (i : (y ≡ r.z) × (used r.k r.e ≡ used s d)). absurd (n i.0))
      (λ (i : BlockAt y (used s d) 0 xs). inr (i, λ e. r.gone y s d b n (owner_unique xs y s d w.block w.grains w.place o.order i w.was_used (sym e ∙ w.owner)).0))
      (r.swaps.back y (used s d) tt b))
      (same? y r.z)

  payload_aligned : t.answer % a ≡ 0
  payload_aligned = ⊎_elim (λ (e : t.answer ≡ q). subst (λ (v : ℕ). v % a ≡ 0) (sym e) fair.1) (λ (e : t.answer % a ≡ 0). e) w.resized.aligned

  resize_survives : Survives n c m xs f (Reallocate q p a) t
  resize_survives =
      let r = w.resized in
      record {
        heap = w.heap;
        possible = w.defined;
        armoured = w.armoured;
        stays = other_stays;
        lent = record { x = r.z; s = r.k; d = r.e; block = r.here; place = r.payload; long = r.long; aligned = payload_aligned };
        clear = other_clear;
        fresh = other_fresh;
        only = other_only;
      }

-- ---- every call

pub call_survives : (n c most : ℕ) (m : Memory) (xs : List Block) (f : Lists) (K : Call) (t : Plan) → 1 ≤ c → Row n c m xs → Fair K → Gives m (script_of n c most K) t → Survives n c m xs f K t
call_survives n c most m xs f (Allocate p a) t big o fair g =
    let w = allocate_armoured n c p a m xs f t fair o g in
    record {
      heap = w.heap;
      possible = record { block = w.block; grains = w.grains; was_free = w.was_free; searched = w.searched; defined = w.defined };
      armoured = w.armoured;
      stays = λ y s d b _. ⊎_elim
          (λ (i : (y ≡ w.block) × (free w.grains ≡ used s d)). absurd (free_used (sym i.1)))
          (λ (i : BlockAt y (used s d) 0 w.heap.blocks). i)
          (w.swaps.forth y (used s d) tt b);
      lent = record { x = w.block; s = w.k; d = w.d; block = w.here; place = w.payload; long = w.long; aligned = w.aligned };
      clear = λ y s d b _. tt;
      fresh = λ y s d b _ e. allocate_fresh n c p a m xs f t o w y s d b e;
      only = λ y s d b. ⊎_elim
          (λ (i : (y ≡ w.block) × (used w.k w.d ≡ used s d)). inl (omega (arith, w.payload, i.0, used_place i.1)))
          (λ (i : BlockAt y (used s d) 0 xs). inr (i, tt))
          (w.swaps.back y (used s d) tt b);
    }
call_survives n c most m xs f (Deallocate q) t big o fair g =
    let w = deallocate_armoured n c q m xs f t o g in
    record {
      heap = w.heap;
      possible = w.defined;
      armoured = w.armoured;
      stays = λ y s d b ne. ⊎_elim
          (λ (i : (y ≡ w.block) × (used w.grains w.place ≡ used s d)). absurd (ne (omega (arith, w.payload, i.0, used_place i.1))))
          (λ (i : BlockAt y (used s d) 0 w.heap.blocks). i)
          (w.swaps.forth y (used s d) tt b);
      lent = w.gone;
      clear = λ y s d b _. tt;
      fresh = λ y s d b _ e. e;
      only = λ y s d b. ⊎_elim
          (λ (i : (y ≡ w.start) × (free w.grown ≡ used s d)). absurd (free_used (sym i.1)))
          (λ (i : BlockAt y (used s d) 0 xs). inr (i, w.gone y s d b))
          (w.swaps.back y (used s d) tt b);
    }
call_survives n c most m xs f (Reallocate q p a) t big o fair g = resize_survives n c q p a m xs f t o fair g (reallocate_armoured n c q p a m xs f t fair.0 o g)
call_survives n c most m xs f (Insert x len) t big o fair g =
    let w = insert_armoured n c x len m xs f o big most t g in
    record { heap = w.heap; possible = w.defined; armoured = w.armoured; stays = λ y s d b _. w.stays y s d b; lent = tt; clear = λ y s d b _. tt; fresh = λ y s d b _ e. e; only = λ y s d b. inr (w.only y s d b, tt) }
call_survives n c most m xs f (Append x len) t big o fair g =
    let w = append_armoured n c x len m xs f o big most t g in
    record { heap = w.heap; possible = w.defined; armoured = w.armoured; stays = λ y s d b _. w.stays y s d b; lent = tt; clear = λ y s d b _. tt; fresh = λ y s d b _ e. e; only = λ y s d b. inr (w.only y s d b, tt) }
