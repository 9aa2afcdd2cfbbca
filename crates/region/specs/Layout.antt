-- The script that lays out a region, one piece at a time: it ends where less than two grains are left, and else goes on behind
-- the piece or refuses, as the check of the piece's list does on the memory that the pieces before it leave.
use Prim.Native.Nat.{ℕ, zero, suc, ◌+◌, ◌-◌, ◌^◌, ◌≤◌, min}
use Rattle.std.proofs.Common.{arith, ◌∙◌}
use Rattle.std.specs.Prelude.{◌≡◌, List, ◌++◌}
use Rattle.std.proofs.Math.Path.{ap}
use Rattle.choice.specs.Choice.{le_yes, le_no}
use Rattle.class.specs.Class.{list_of}
use Rattle.script.specs.Memory.{Memory, Write, apply}
use Rattle.script.specs.Script.{no, run, Gives, over}
use Rattle.script.proofs.Script.{goes, halts, gives_done, over_run}
use Rattle.sound.specs.Checks.{see_head}
use Rattle.sound.proofs.Checks.{few_head}
use Rattle.sound.specs.RegionPlan.{piece_writes, lay_script}

module _ (m : Memory) (n c : ℕ) where
  -- too little is left
  pub lay_end : (i : ℕ) (w : List Write) (x len : ℕ) → len ≤ 1 → Gives m (lay_script n c i w x len) (record { writes = w; over = len })
  unfolding lay_script
  lay_end zero w x len h = gives_done m _
  lay_end (suc i) w x len h = ap (run m) (le_yes len 1 _ _ h) ∙ gives_done m _

  module _ (i : ℕ) (w : List Write) (x len : ℕ) (some : 2 ≤ len) where
    -- the check of the next piece's list, behind the writes so far
    checked : run m (over w (see_head n (list_of (min len (2 ^ c) - 1)))) ≡ run (apply m w) (see_head n (list_of (min len (2 ^ c) - 1)))
    checked = over_run m w (see_head n (list_of (min len (2 ^ c) - 1))) 3 (few_head n (list_of (min len (2 ^ c) - 1)))

    -- it gives the head, and the script goes on behind the piece
    pub lay_more : (h : ℕ) → Gives (apply m w) (see_head n (list_of (min len (2 ^ c) - 1))) h
        → run m (lay_script n c (suc i) w x len) ≡ run m (lay_script n c i (w ++ piece_writes x (min len (2 ^ c)) h) (x + min len (2 ^ c)) (len - min len (2 ^ c)))
    unfolding lay_script
    lay_more h g = ap (run m) (le_no len 1 _ _ (λ q. omega arith)) ∙ goes m (over w (see_head n (list_of (min len (2 ^ c) - 1)))) _ (checked ∙ g)

    -- or it refuses
    pub lay_stop : (r : ℕ) → run (apply m w) (see_head n (list_of (min len (2 ^ c) - 1))) ≡ no r → run m (lay_script n c (suc i) w x len) ≡ no r
    unfolding lay_script
    lay_stop r g = ap (run m) (le_no len 1 _ _ (λ q. omega arith)) ∙ halts m (over w (see_head n (list_of (min len (2 ^ c) - 1)))) _ (checked ∙ g)
