-- A take: refused early, or as its plan is, or what was planned is stored.
use Rattle.std.specs.Prelude.{ℕ, ◌+◌, ◌*◌, ◌<◌, ◌^◌, List, length, Ok, Err}
use Rattle.std.proofs.Common.{arith, sym, subst}
use Rattle.sound.specs.Calls.{Take}
use Rattle.sound.specs.Runs.{yes, not}
use Rattle.slices.specs.Decode.{grains}
use Rattle.slices.specs.Slices.{Slices}
use Rattle.free_list.specs.Lent.{lent}
use Rattle.refusal.specs.Number.{number}
use Rattle.refusal.specs.declared.Refusal.{Refusal}
use Rattle.free_list.specs.Written.{WrittenLive}
use Rattle.tables.specs.Length.{LongEnough}
use Rattle.allocate.specs.declared.Plan.{Plan}
use Rattle.allocate.specs.Plan.{Plans, Bounded, made_by}
use Rattle.request.specs.declared.Request.{Request}
use Rattle.request.specs.Asked.{Numbers, Asked}
use Rattle.calls.specs.Bytes.{allocate, range, take}
use Rattle.calls.specs.Performs.{short, wrong, Goes, Performs, early, refused, granted}
use Rattle.calls.proofs.Promised.{allocated}
use Rattle.firmheap.specs.Contract.{Allocates}

-- the payload's bit is in a live table that is long enough
pub take_live : (a l v : List ℕ) (r : Plan) → LongEnough (length a) (length l) (length v) → Bounded a l r → 2 * r.at + r.place < 64 * length v
unfolding grains
take_live a l v r e b = omega (arith, e.bits, b.pad)

-- its offset is a number of the machine
pub take_offset : (a l : List ℕ) (r : Plan) → length a < 2 ^ 64 → Bounded a l r → 16 * (2 * r.at + r.place) < 2 ^ 64
unfolding grains
take_offset a l r z b = omega (arith, b.pad)

module _ (a l v : List ℕ) (n al : ℕ) (z : length a < 2 ^ 64) where
  -- a table is too short
  pub allocate_short : (LongEnough (length a) (length l) (length v) → ⊥) → Allocates a l v n al (not 6) a l v
  allocate_short e t = allocated (lent a l v t) n al (not 6) (lent a l v t) z (early 6 (short e))

  module _ (e : LongEnough (length a) (length l) (length v)) where
    -- the request is out of range
    pub allocate_wrong : (r : Refusal) → Asked n al (Err r) → Allocates a l v n al (not (number r)) a l v
    allocate_wrong r s t = rw s.0 (allocated (lent a l v t) n al (not 2) (lent a l v t) z (early 2 (wrong 2 e (range s.1))))

    module _ (q : Request) (s : Numbers n al q) where
      -- what is looked for in half grains
      goes : (t : List ℕ) → Goes (lent a l v t) (allocate n al) (Take q.length q.multiple)
      goes t = record { long = e; asks = rw (s.length, s.multiple) (take s.range); inside = tt }

      -- refused
      pub allocate_refused : (r : Refusal) → Plans a l q.length q.multiple (Err r) → Allocates a l v n al (not (number r)) a l v
      allocate_refused r k t = allocated (lent a l v t) n al (not (number r)) (lent a l v t) z
          (refused (Take q.length q.multiple) (number r) (goes t) (sym (k.answers v t)))

      -- done
      pub allocate_done : (r : Plan) → Plans a l q.length q.multiple (Ok r) → (b m o : List ℕ) → WrittenLive a l v (made_by a r).writes b m o
          → Allocates a l v n al (yes (16 * (2 * r.at + r.place))) b m o
      allocate_done r k b m o w t =
          let x = yes (16 * (2 * r.at + r.place)) in
          allocated (lent a l v t) n al x (lent b m o t) z
          (subst (λ (T : Slices). Performs (lent a l v t) (allocate n al) x T) (sym (w.slices t))
          (granted (Take q.length q.multiple) (made_by a r) (goes t) (sym (k.answers v t))))
