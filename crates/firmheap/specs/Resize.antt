-- A resize: refused early, or as the resize in half grains says.
use Rattle.std.specs.Prelude.{ℕ, ◌*◌, ◌/◌, ◌^◌, ◌≤◌, ◌<◌, refl, List, [], length, Ok, Err}
use Rattle.std.proofs.Common.{arith}
use Rattle.refusal.specs.Number.{number}
use Rattle.refusal.specs.declared.Refusal.{Refusal}
use Rattle.refusal.specs.declared.Refusal.TheVariants.{NoList, OutOfRange, NotLive, Misplaced, Damaged, TooShort}
use Rattle.sound.specs.Calls.{Resize}
use Rattle.sound.specs.Runs.{Reply, yes, not}
use Rattle.slices.specs.Decode.{grains}
use Rattle.slices.specs.Slices.{Slices}
use Rattle.free_list.specs.Lent.{lent}
use Rattle.tables.specs.Length.{LongEnough}
use Rattle.allocate.specs.Demand.{Demand, asked_demand}
use Rattle.request.specs.declared.Request.{Request}
use Rattle.request.specs.Asked.{Numbers, Asked}
use Rattle.request.specs.Returned.{Returned}
use Rattle.reallocate.specs.Does.{Does, Resizes}
use Rattle.calls.specs.Bytes.{reallocate, Wrong, Asks, resize, resize_range, resize_unsuited, resize_unkind, in_bytes}
use Rattle.calls.specs.Performs.{short, wrong, outside, outcome, Goes, Performs, early, refused, granted}
use Rattle.calls.proofs.Promised.{reallocated}
use Rattle.firmheap.specs.Contract.{Reallocates}

-- what is done in half grains is what the call does
does_performs : (S : Slices) (x n al q p u : ℕ) (T : Slices) (r : Reply) → Goes S (reallocate x n al) (Resize q p u) → Does S q (outcome S (Resize q p u)) r T
    → Performs S (reallocate x n al) (in_bytes (reallocate x n al) r) T
does_performs S x n al q p u T r g (Does.refused i f) = refused (Resize q p u) i g f
does_performs S x n al q p u T r g (Does.granted t f) = granted (Resize q p u) t g f

module _ (a l v : List ℕ) (x n al : ℕ) (z : length a < 2 ^ 64) where
  -- a table is too short
  pub reallocate_short : (LongEnough (length a) (length l) (length v) → ⊥) → Reallocates a l v x n al (not 6) a l v
  reallocate_short e t = reallocated (lent a l v t) x n al (not 6) (lent a l v t) z (early 6 (short e))

  module _ (e : LongEnough (length a) (length l) (length v)) where
    -- the request is out of range
    pub reallocate_wrong : (r : Refusal) → Asked n al (Err r) → Reallocates a l v x n al (not (number r)) a l v
    reallocate_wrong r g t = rw g.0 (reallocated (lent a l v t) x n al (not 2) (lent a l v t) z (early 2 (wrong 2 e (resize_range g.1))))

    module _ (w : Request) (g : Numbers n al w) where
      -- the numbers are those of a demand
      pub reallocate_demand : Demand w.length w.multiple × (w.length < 2 ^ 63)
      reallocate_demand = (asked_demand n al w g, omega (arith, g.length, g.range.fits))

      -- the alignment doesn't suit the offset, or no payload can be at the offset
      pub reallocate_unsuited : (r : Refusal) → Returned x al (Err r) → Reallocates a l v x n al (not (number r)) a l v
      reallocate_unsuited r s t = reallocated (lent a l v t) x n al (not (number r)) (lent a l v t) z (early (number r) (wrong (number r) e (go r s)))
        where
          go : (r : Refusal) → Returned x al (Err r) → Wrong (reallocate x n al) (number r)
          go NoList s = absurd s
          go OutOfRange s = resize_unsuited g.range s
          go NotLive s = resize_unkind g.range s.0 s.1
          go Misplaced s = absurd s
          go Damaged s = absurd s
          go TooShort s = absurd s

      module _ (q : ℕ) (s : Returned x al (Ok q)) where
        asks : Asks (reallocate x n al) (Resize q w.length w.multiple)
        asks = rw (g.length, g.multiple) (resize g.range s)

        -- the payload is behind the arena
        pub reallocate_outside : grains 8 a ≤ q / 2 → Reallocates a l v x n al (not 3) a l v
        reallocate_outside h t = reallocated (lent a l v t) x n al (not 3) (lent a l v t) z
            (early 3 (outside (Resize q w.length w.multiple) e asks (λ i. omega arith)))

        -- refused, or granted, as in half grains
        pub reallocate_done : q / 2 < grains 8 a → (r : Reply) (b m o : List ℕ) → Resizes a l v q w.length w.multiple r b m o → Reallocates a l v x n al (in_bytes (reallocate x n al) r) b m o
        reallocate_done h r b m o d t = reallocated (lent a l v t) x n al (in_bytes (reallocate x n al) r) (lent b m o t) z
            (does_performs (lent a l v t) x n al q w.length w.multiple (lent b m o t) r (record { long = e; asks = asks; inside = omega arith }) (d t))

        -- its offset is a number of the machine
        pub reallocate_offset : q / 2 < grains 8 a → (at : ℕ) (b m o : List ℕ) → Resizes a l v q w.length w.multiple (yes at) b m o → 16 * at < 2 ^ 64
        reallocate_offset h at b m o d = omega (arith, ((reallocate_done h (yes at) b m o d []).within (16 * at) refl).inside)
