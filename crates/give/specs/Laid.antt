-- The script that lays out a region, as far as the code plans it in one go: pieces of full length, a last piece behind them,
-- and the plan that is made of both.
use Rattle.std.specs.Prelude.{ℕ, zero, suc, ◌+◌, ◌-◌, ◌*◌, ◌^◌, ◌≤◌, min, ◌≡◌, List, [], ◌++◌}
use Rattle.std.proofs.Common.{arith, ◌∙◌}
use Rattle.class.specs.Class.{list_of}
use Rattle.script.specs.Memory.{Memory, none, Write, apply}
use Rattle.script.specs.Script.{ok, no, run, Gives}
use Rattle.script.proofs.Script.{goes, halts, gives_done}
use Rattle.sound.specs.Checks.{see_head}
use Rattle.sound.specs.RegionPlan.{entry_writes, piece_writes, lay_script}
use Rattle.region.specs.Admit.{laying}
use Rattle.region.specs.Layout.{lay_end, lay_more, lay_stop}
use Rattle.region.specs.Pieces.{full_writes}
use Rattle.region.specs.Row.{row_laid}

-- ---- the plan

module _ (m : Memory) (n g len c : ℕ) where
  -- the region laid out by w, with o grains left over
  pub laid_planned : (w : List Write) (o : ℕ) → Gives m (lay_script n 12 len [] g len) (record { writes = w; over = o })
      → run m (laying n 12 g len c) ≡ ok (record { answer = len - o; moved = 0; early = 0; writes = w ++ entry_writes c g (g + (len - o)) })
  laid_planned w o q = goes m (lay_script n 12 len [] g len) _ q ∙ gives_done m _

  pub laid_refused : (r : ℕ) → run m (lay_script n 12 len [] g len) ≡ no r → run m (laying n 12 g len c) ≡ no r
  laid_refused r q = halts m (lay_script n 12 len [] g len) _ q

-- ---- pieces

-- a piece of p of q grains at x, behind the writes w: its list is not as it should be
pub piece_refused : (m : Memory) (n : ℕ) (w : List Write) (x q p : ℕ) → 2 ≤ q → min q (2 ^ 12) ≡ p → (f : ℕ) → 1 ≤ f
    → (r : ℕ) → run (apply m w) (see_head n (list_of (p - 1))) ≡ no r → run m (lay_script n 12 f w x q) ≡ no r
piece_refused m n w x q p long e zero b r s = absurd (omega arith)
piece_refused m n w x q p long e (suc f) b r s = lay_stop m n 12 f w x q long r (rw e s)

-- a last piece of q grains at x, behind the writes w
module _ (m : Memory) (n : ℕ) (w : List Write) (x q : ℕ) (long : 2 ≤ q) (short : q ≤ 4096) where
  whole : min q (2 ^ 12) ≡ q
  whole = omega arith

  pub last_laid : (f : ℕ) → 1 ≤ f → (h : ℕ) → Gives (apply m w) (see_head n (list_of (q - 1))) h
      → Gives m (lay_script n 12 f w x q) (record { writes = w ++ piece_writes x q h; over = 0 })
  last_laid zero p h e = absurd (omega arith)
  last_laid (suc f) p h e =
      let z : q - q ≡ 0 = omega arith in
      rw (whole, z) at (lay_more m n 12 f w x q long h (rw whole e)) ∙ lay_end m n 12 f (w ++ piece_writes x q h) (x + q) 0 (omega arith)

  pub last_refused : (f : ℕ) → 1 ≤ f → (r : ℕ) → run (apply m w) (see_head n (list_of (q - 1))) ≡ no r → run m (lay_script n 12 f w x q) ≡ no r
  last_refused f p r e = piece_refused m n w x q q long whole f p r e

-- i pieces of full length, and a rest of q grains
pub row_behind : (m : Memory) (n g h len : ℕ) → n ≤ none → Gives m (see_head n (list_of 4095)) h → g + len ≤ n → (i q : ℕ) → 4096 * i + q ≡ len
    → run m (lay_script n 12 len [] g len) ≡ run m (lay_script n 12 (len - i) (full_writes g h i) (g + 4096 * i) q)
row_behind m n g h len small seen inside i q e =
    let f : len - i + i ≡ len = omega arith in
    rw (f, e) at (row_laid m n g h small seen i (len - i) q (omega arith))
