-- What follows from specs/Untouched.antt.
use Rattle.std.specs.Prelude.{ℕ, ◌+◌, ◌*◌, ◌≡◌, refl, get_or}
use Rattle.std.proofs.Common.{arith, ⊎_elim}
use Rattle.definition.specs.Blocks.{used}
use Rattle.definition.specs.Calls.{Heap}
use Rattle.invariants.specs.Order.{BlockAt}
use Rattle.sound.specs.Plans.{Plan}
use Rattle.sound.specs.Calls.{Call, Take, Return, Resize, Give, Append, Fair}
use Rattle.sound.specs.Runs.{Reply}
use Rattle.sound.specs.Payloads.{NotOf}
use Rattle.sound.proofs.Payloads.{call_spares}
use Rattle.script.specs.Script.{ok, no}
use Rattle.slices.specs.Slices.{Slices, memory_of, stores}
use Rattle.slices.proofs.Kept.{stores_byte}
use Rattle.calls.specs.Bytes.{ByteCall, deallocate, Asks, take, back, resize, give, follow}
use Rattle.calls.proofs.Bytes.{stands_offset}
use Rattle.calls.specs.Performs.{grains_of, most_of, outcome, stored, Performs, early, refused, granted, Stand}
use Rattle.calls.specs.Payload.{InPayloadBytes}
use Rattle.calls.proofs.Payload.{writes_outside}
use Rattle.calls.proofs.Resizes.{live, resize_others}
use Rattle.calls.specs.Refines.{Spare}
use Rattle.calls.proofs.Refines.{asks_fair}
use Rattle.calls.proofs.Room.{room_or_full}
use Rattle.calls.specs.Untouched.{Other}

other_asked : (k : ByteCall) (K : Call) (v : ℕ) → Asks k K → Other k v → NotOf K v
other_asked k K v (take r) o = tt
other_asked k K v (back s) o = λ e. o (omega (arith, e, stands_offset s))
other_asked k K v (resize r s) o = λ e. o (omega (arith, e, stands_offset s))
other_asked k K v give o = tt
other_asked k K v follow o = tt

module _ (S : Slices) (h : Heap) (o : Stand S h) (y s d : ℕ) (b : BlockAt y (used s d) 0 h.blocks) (j : ℕ) (i : InPayloadBytes j y s d) where
  -- what is stored leaves it
  spared : (K : Call) (p : Plan) → Fair (memory_of 8 S) (most_of S) K → outcome S K ≡ ok p → NotOf K (2 * y + d)
      → get_or (stores 8 S p.writes).arena j 0 ≡ get_or S.arena j 0
  spared K p f e n = stores_byte 8 S p.writes j (writes_outside j y s d i p.writes
      (call_spares (grains_of S) 12 (most_of S) (memory_of 8 S) h o (omega arith) K f p e y s d b n))

  -- and so does a move
  stored_spares : (K : Call) (p : Plan) → Fair (memory_of 8 S) (most_of S) K → outcome S K ≡ ok p → NotOf K (2 * y + d)
      → get_or (stored S K p).arena j 0 ≡ get_or S.arena j 0
  stored_spares (Take v a) p f e n = spared (Take v a) p f e n
  stored_spares (Return q) p f e n = spared (Return q) p f e n
  stored_spares (Resize q v a) p f e n =
      let w = live S h o q v a f p e in
      resize_others S h o q v a f p e w.x w.s w.d w.here w.payload y s d b n j i
  stored_spares (Give g v) p f e n = spared (Give g v) p f e n
  stored_spares (Append g v) p f e n = spared (Append g v) p f e n

-- T7
pub performs_spares : (S : Slices) (k : ByteCall) (r : Reply) (T : Slices) (h : Heap) → Stand S h → Performs S k r T
    → (y s d : ℕ) → BlockAt y (used s d) 0 h.blocks → Other k (2 * y + d) → (j : ℕ) → InPayloadBytes j y s d → get_or T.arena j 0 ≡ get_or S.arena j 0
performs_spares S k r T h o (early v g) y s d b e j i = refl
performs_spares S k r T h o (refused K v g q) y s d b e j i = refl
performs_spares S k r T h o (granted K p g q) y s d b e j i = ⊎_elim
    (λ (f : Spare S k). stored_spares S h o y s d b j i K p (asks_fair S k K f g.asks) q (other_asked k K (2 * y + d) g.asks e))
    (λ (f : outcome S K ≡ no 6). let z : ◌≡◌ {A = ℕ} 0 1 = cc in absurd (omega arith))
    (room_or_full S h o k K g.asks)
