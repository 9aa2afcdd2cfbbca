-- A return: refused early, or as its plan is, or what was planned is stored.
use Rattle.std.specs.Prelude.{ℕ, ◌*◌, ◌/◌, ◌^◌, ◌≤◌, ◌<◌, List, length, Ok, Err}
use Rattle.std.proofs.Common.{arith, sym, subst}
use Rattle.sound.specs.Calls.{Return}
use Rattle.sound.specs.Runs.{yes, not}
use Rattle.slices.specs.Decode.{grains}
use Rattle.slices.specs.Slices.{Slices}
use Rattle.free_list.specs.Lent.{lent}
use Rattle.refusal.specs.Number.{number}
use Rattle.refusal.specs.declared.Refusal.{Refusal}
use Rattle.refusal.specs.declared.Refusal.TheVariants.{NoList, OutOfRange, NotLive, Misplaced, Damaged, TooShort}
use Rattle.free_list.specs.Written.{WrittenLive}
use Rattle.tables.specs.Length.{LongEnough}
use Rattle.request.specs.Returned.{Returned}
use Rattle.deallocate.specs.declared.Plan.{Plan as BackPlan}
use Rattle.deallocate.specs.Shown.{BackPlanned, back_writes, plan_of}
use Rattle.calls.specs.Bytes.{deallocate, Wrong, Asks, unsuited, unkind, back}
use Rattle.calls.specs.Performs.{short, wrong, outside, Goes, Performs, early, refused, granted}
use Rattle.calls.proofs.Promised.{deallocated}
use Rattle.firmheap.specs.Contract.{Deallocates}

-- a payload that is not behind the arena has its bit in a live table that is long enough
pub back_inside : (a l v : List ℕ) (q : ℕ) → LongEnough (length a) (length l) (length v) → q / 2 < grains 8 a → (q < 64 * length v) × (q < 2 * grains 8 a)
unfolding grains
back_inside a l v q e h = (omega (arith, e.bits), omega arith)

module _ (a l v : List ℕ) (x al : ℕ) (z : length a < 2 ^ 64) where
  -- a table is too short
  pub deallocate_short : (LongEnough (length a) (length l) (length v) → ⊥) → Deallocates a l v x al (not 6) a l v
  deallocate_short e t = deallocated (lent a l v t) x al (not 6) (lent a l v t) z (early 6 (short e))

  module _ (e : LongEnough (length a) (length l) (length v)) where
    -- the alignment is none, or doesn't suit the offset; or no payload can be at the offset
    pub deallocate_wrong : (r : Refusal) → Returned x al (Err r) → Deallocates a l v x al (not (number r)) a l v
    deallocate_wrong r s t = deallocated (lent a l v t) x al (not (number r)) (lent a l v t) z (early (number r) (wrong (number r) e (go r s)))
      where
        go : (r : Refusal) → Returned x al (Err r) → Wrong (deallocate x al) (number r)
        go NoList s = absurd s
        go OutOfRange s = unsuited s
        go NotLive s = unkind s.0 s.1
        go Misplaced s = absurd s
        go Damaged s = absurd s
        go TooShort s = absurd s

    module _ (q : ℕ) (s : Returned x al (Ok q)) where
      asks : Asks (deallocate x al) (Return q)
      asks = back s

      -- the payload is behind the arena
      pub deallocate_outside : grains 8 a ≤ q / 2 → Deallocates a l v x al (not 3) a l v
      deallocate_outside h t = deallocated (lent a l v t) x al (not 3) (lent a l v t) z (early 3 (outside (Return q) e asks (λ i. omega arith)))

      module _ (h : q / 2 < grains 8 a) where
        goes : (t : List ℕ) → Goes (lent a l v t) (deallocate x al) (Return q)
        goes t = record { long = e; asks = asks; inside = (back_inside a l v q e h).1 }

        -- refused
        pub deallocate_refused : (r : Refusal) → BackPlanned a l v q (Err r) → Deallocates a l v x al (not (number r)) a l v
        deallocate_refused r k t = deallocated (lent a l v t) x al (not (number r)) (lent a l v t) z (refused (Return q) (number r) (goes t) (sym (k.answer t)))

        -- done
        pub deallocate_done : (r : BackPlan) → BackPlanned a l v q (Ok r) → (b m o : List ℕ) → WrittenLive a l v (back_writes a q r) b m o → Deallocates a l v x al (yes 0) b m o
        deallocate_done r k b m o w t = deallocated (lent a l v t) x al (yes 0) (lent b m o t) z
            (subst (λ (T : Slices). Performs (lent a l v t) (deallocate x al) (yes 0) T) (sym (w.slices t))
            (granted (Return q) (plan_of a q r) (goes t) (sym (k.answer t))))
