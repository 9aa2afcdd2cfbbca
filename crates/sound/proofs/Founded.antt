-- What follows from specs/Founded.antt.
use Rattle.std.specs.Prelude.{ℕ, ◌+◌, ◌-◌, ◌/◌, ◌%◌, ◌<◌, ◌≡◌, List}
use Rattle.std.proofs.Common.{arith}
use Rattle.definition.specs.Blocks.{Block, free, used}
use Rattle.definition.specs.Lists.{Lists}
use Rattle.definition.specs.Calls.{Heap}
use Rattle.invariants.specs.Order.{out, BlockAt}
use Rattle.invariants.proofs.Order.{at_whole, at_end_lem}
use Rattle.invariants.specs.Members.{Mem}
use Rattle.script.specs.Memory.{Memory, Next, none, root}
use Rattle.script.specs.Script.{Gives}
use Rattle.sound.specs.Chain.{Real}
use Rattle.sound.specs.Sound.{Sound}
use Rattle.sound.specs.Checks.{see_head}
use Rattle.sound.proofs.Swaps.{pad_inside}
use Rattle.sound.proofs.Seen.{head_strung}
use Rattle.sound.specs.Founded.{Founded}

-- every sound memory is founded
pub sound_founded : (n c : ℕ) (m : Memory) (h : Heap) → Sound n c m h → Founded n c m h.blocks h.lists
sound_founded n c m h b = record { heap = b.heap; whole = b.whole; small = b.small; row = b.row; strung = b.strung; lively = b.lively; padded = b.padded }

module _ (n c : ℕ) (m : Memory) (xs : List Block) (f : Lists) (o : Founded n c m xs f) where
  -- a member of a list is a grain
  member_inside : (k y : ℕ) → Mem y (f k) → y < n
  member_inside k y i =
      let t = o.heap.exact.there k y i in
      omega (arith, o.whole, at_end_lem y (free t.0) 0 xs t.1, at_whole y (free t.0) 0 out xs o.heap.order t.1)

  -- so no member is none
  pub founded_real : Real f
  founded_real k y i = omega (arith, member_inside k y i, o.small)

  -- and the head of each list is seen
  pub head_founded : (k : ℕ) → Gives m (see_head n k) (m Next (root k))
  head_founded k = head_strung n m f k o.small o.strung (member_inside k)

  -- the word before a payload is at a grain too
  pub pad_grain : (y s d : ℕ) → BlockAt y (used s d) 0 xs → d % 2 ≡ 0 → y + d / 2 - 1 ≡ none → ⊥
  pad_grain y s d b e q =
      let w = at_whole y (used s d) 0 out xs o.heap.order b in
      omega (arith, pad_inside y s d w.1 e, at_end_lem y (used s d) 0 xs b, o.whole, o.small)
