-- What follows from specs/Payloads.antt.
use Rattle.std.specs.Prelude.{ℕ, ◌+◌, ◌*◌, ◌≤◌, ◌<◌, ◌≡◌, List, [], ◌∷◌}
use Rattle.definition.specs.Blocks.{used}
use Rattle.definition.specs.Calls.{Heap}
use Rattle.invariants.specs.Order.{BlockAt}
use Rattle.script.specs.Memory.{Memory, Write, apply, Spared}
use Rattle.script.proofs.Memory.{apply_spared}
use Rattle.script.specs.Script.{ok, run}
use Rattle.sound.specs.Sound.{Sound}
use Rattle.sound.specs.Plans.{Plan}
use Rattle.sound.specs.Calls.{Call, Take, Return, Resize, Give, Append, script_of, Fair}
use Rattle.sound.specs.PayloadWrites.{InPayload, Spares}
pub use Rattle.sound.proofs.PayloadTake.{take_spares}
pub use Rattle.sound.proofs.PayloadReturn.{back_spares}
pub use Rattle.sound.proofs.PayloadResize.{resize_spares, resize_spares_own}
pub use Rattle.sound.proofs.PayloadMoved.{resize_carries}
pub use Rattle.sound.proofs.PayloadRegions.{region_spares}
use Rattle.sound.specs.Payloads.{NotOf}

-- what is not written stays
pub spares_same : (y s d : ℕ) (m : Memory) (l : List Write) (f x : ℕ) → Spares y s d l → f < 4 → InPayload f x y s d → apply m l f x ≡ m f x
spares_same y s d m l f x a b i = apply_spared m l f x (go l a)
  where
    go : (l : List Write) → Spares y s d l → Spared f x l
    go [] a = tt
    go (w ∷ l) a = ((λ e q. a.0 (rw e b) (rw (e, q) i)), go l a.1)

module _ (n c most : ℕ) (m : Memory) (h : Heap) (o : Sound n c m h) (big : 1 ≤ c) (k : Call) (fair : Fair m most k) (t : Plan) (g : run m (script_of n c most k) ≡ ok t)
    (y s d : ℕ) (b : BlockAt y (used s d) 0 h.blocks) (other : NotOf k (2 * y + d)) where
  -- no call writes into a payload that it is not about
  pub call_spares : Spares y s d t.writes
  call_spares = go k fair g other
    where
      go : (k : Call) → Fair m most k → run m (script_of n c most k) ≡ ok t → NotOf k (2 * y + d) → Spares y s d t.writes
      go (Take p a) f g e = take_spares n c p a m h f o t y s d g b
      go (Return q) f g e = back_spares n c m h q t y s d o g b e
      go (Resize q p a) f g e = resize_spares n c q p a m h t y s d f o g b e
      go (Give u len) f g e = region_spares n c u len m h o most 0 t y s d big g b
      go (Append u len) f g e = region_spares n c u len m h o most 1 t y s d big g b

  -- so no word of it changes
  pub payload_stays : (f x : ℕ) → f < 4 → InPayload f x y s d → apply m t.writes f x ≡ m f x
  payload_stays f x = spares_same y s d m t.writes f x call_spares
