-- What is granted of a region, on any memory: two grains at the least.
use Prim.Native.Nat.{ℕ, zero, suc, ◌+◌, ◌-◌, ◌^◌, ◌≤◌, min}
use Rattle.std.proofs.Common.{arith, subst}
use Rattle.std.specs.Prelude.{◌≡◌, List, []}
use Rattle.std.proofs.Math.Path.{ap}
use Rattle.std.proofs.Math.Logic.{⊎_elim}
use Rattle.class.specs.Class.{list_of}
use Rattle.invariants.proofs.Regions.{two_grains}
use Rattle.script.specs.Memory.{Memory, Write}
use Rattle.script.specs.Script.{ok, Gives}
use Rattle.script.proofs.Script.{inv_bind, inv_done}
use Rattle.script.specs.Script.{over as overlaid}
use Rattle.sound.specs.Checks.{see_head}
use Rattle.sound.specs.Plans.{Plan}
use Rattle.sound.specs.RegionPlan.{Layout, lay_script}
use Rattle.sound.specs.RegionChecked.{RegionChecked}
use Rattle.sound.proofs.RegionChecked.{region_checked}
use Rattle.sound.proofs.Inverted.{inv_if_le}
use Rattle.sound.specs.Calls.{Call}
use Rattle.sound.specs.Runs.{Reply, yes}
use Rattle.slices.specs.Slices.{Slices, memory_of}
use Rattle.calls.specs.Bytes.{ByteCall, insert, append, Asks, give, follow, bytes}
use Rattle.calls.specs.Performs.{grains_of, most_of, outcome, Performs, early, refused, granted}

module _ (n c : ℕ) (m : Memory) where
  -- laying pieces leaves no more over than there was
  over_most : (i : ℕ) (w : List Write) (x len : ℕ) (v : Layout) → Gives m (lay_script n c i w x len) v → v.over ≤ len
  unfolding lay_script
  over_most zero w x len v h = omega (arith, ap (λ (u : Layout). u.over) (inv_done m _ v h))
  over_most (suc i) w x len v h = ⊎_elim
      (λ a. omega (arith, ap (λ (u : Layout). u.over) (inv_done m _ v a.1)))
      (λ a. omega (arith, over_most i _ _ _ v (inv_bind m (overlaid w (see_head n (list_of (min len (2 ^ c) - 1)))) _ a.1).2))
      (inv_if_le m len 1 _ _ h)

  -- of two grains or more two are laid
  over_two : (i : ℕ) (w : List Write) (x len : ℕ) (v : Layout) → 1 ≤ c → 1 ≤ i → 2 ≤ len → Gives m (lay_script n c i w x len) v → v.over + 2 ≤ len
  unfolding lay_script
  over_two zero w x len v big p l h = absurd (omega arith)
  over_two (suc i) w x len v big p l h = ⊎_elim
      (λ a. absurd (omega (arith, a.0)))
      (λ a. omega (arith, two_grains c big, over_most i _ _ _ v (inv_bind m (overlaid w (see_head n (list_of (min len (2 ^ c) - 1)))) _ a.1).2))
      (inv_if_le m len 1 _ _ h)

-- so the plan of a region answers two at the least
checked_two : (most behind n g len : ℕ) (m : Memory) (t : Plan) → RegionChecked most behind n 12 g len m t → 2 ≤ t.answer
checked_two most behind n g len m t k =
    let o = over_two n 12 m len [] g len k.w (omega arith) (omega (arith, k.long)) k.long k.laid in
    omega (arith, o, ap (λ (p : Plan). p.answer) k.plan)

-- the calls that give a region
pub data Giving : ByteCall → Type 0 where
  inserts : (x n : ℕ) → Giving (insert x n)
  appends : (x n : ℕ) → Giving (append x n)

asked_two : (S : Slices) (k : ByteCall) (K : Call) (p : Plan) → Giving k → Asks k K → outcome S K ≡ ok p → 64 ≤ bytes k p.answer
asked_two S k K p (inserts x n) give f = omega (arith, checked_two (most_of S) 0 (grains_of S) _ _ (memory_of 8 S) p (region_checked (most_of S) 0 (grains_of S) 12 _ _ (memory_of 8 S) p f))
asked_two S k K p (appends x n) follow f = omega (arith, checked_two (most_of S) 1 (grains_of S) _ _ (memory_of 8 S) p (region_checked (most_of S) 1 (grains_of S) 12 _ _ (memory_of 8 S) p f))

-- and its call 64 bytes
pub region_least : (S : Slices) (k : ByteCall) (r : Reply) (T : Slices) → Giving k → Performs S k r T → (x : ℕ) → r ≡ yes x → 64 ≤ x
region_least S k r T g (early i b) x e = let z : ◌≡◌ {A = ℕ} 0 1 = cc in absurd (omega arith)
region_least S k r T g (refused K i q f) x e = let z : ◌≡◌ {A = ℕ} 0 1 = cc in absurd (omega arith)
region_least S k r T g (granted K p q f) x e = let z : bytes k p.answer ≡ x = cc in subst (λ (y : ℕ). 64 ≤ y) z (asked_two S k K p g q.asks f)
