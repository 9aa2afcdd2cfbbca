-- Giving a region writes only what can be stored, on any memory: its pieces are inside it, and each has a list. With no
-- first-level class at all a piece would have no room for a block, so there must be one.
use Prim.Native.Nat.{ℕ, zero, suc, ◌+◌, ◌-◌, ◌^◌, ◌≤◌, min}
use Rattle.std.proofs.Common.{arith, sym, ◌∙◌, inl, inr}
use Rattle.std.proofs.Math.Pow.{pow_mono}
use Rattle.std.specs.Prelude.{refl, List, [], ◌++◌}
use Rattle.std.proofs.Math.Path.{subst}
use Rattle.std.proofs.Math.Logic.{⊎_elim}
use Rattle.class.specs.Class.{list_of}
use Rattle.class.proofs.Class.{list_small}
use Rattle.script.specs.Memory.{Memory, none, free_word, last_word, Write, apply}
use Rattle.script.specs.Script.{over, Gives}
use Rattle.script.proofs.Script.{over_run, inv_bind, inv_done}
use Rattle.sound.specs.Checks.{see_head}
use Rattle.sound.proofs.Checks.{few_head}
use Rattle.sound.specs.Plans.{Plan}
use Rattle.sound.specs.RegionPlan.{piece_writes, Layout, lay_script}
use Rattle.sound.proofs.Inverted.{inv_if_le}
use Rattle.sound.proofs.Checked.{head_checked}
use Rattle.sound.specs.RegionChecked.{RegionChecked}
use Rattle.sound.specs.Writable.{Link, free_size, sentinel, at_size, at_before, AllWritable}
use Rattle.sound.proofs.Writable.{all_append, push_writable, head_link}

module _ (n c : ℕ) (some : 1 ≤ c) where
  -- a piece of k grains at x
  piece_writable : (x k h : ℕ) → 2 ≤ k → k ≤ 2 ^ c → x + k ≤ n → Link n h → AllWritable n c (piece_writes x k h)
  piece_writable x k h a b e l = (
    at_size {x = x} {v = free_word (k - 1)} (omega arith) (free_size (k - 1) refl (omega arith) (omega arith)),
    (
      at_before {x = x} {v = none} (omega arith) (inl refl),
      (
        at_size {x = x + (k - 1)} {v = last_word} (omega arith) (sentinel refl),
        (
          at_before {x = x + (k - 1)} {v = x} (omega arith) (inr (omega arith)),
          push_writable n c (list_of (k - 1)) x h (list_small (k - 1) (omega arith) c (omega arith)) (omega arith) l,
        ),
      ),
    ),
  )

  -- all pieces
  lay_writable : (m : Memory) (i : ℕ) (w : List Write) (x len : ℕ) (v : Layout) → AllWritable n c w → x + len ≤ n → Gives m (lay_script n c i w x len) v → AllWritable n c v.writes
  unfolding lay_script
  lay_writable m zero w x len v a e g = subst (λ (u : Layout). AllWritable n c u.writes) (inv_done m _ v g) a
  lay_writable m (suc i) w x len v a e g = ⊎_elim
      (λ d. subst (λ (u : Layout). AllWritable n c u.writes) (inv_done m _ v d.1) a)
      (λ d.
      let k = min len (2 ^ c) in
      let two : 2 ≤ 2 ^ c = pow_mono {i = 1} {j = c} some in
      let s = list_of (k - 1) in
      let j = inv_bind m (over w (see_head n s)) _ d.1 in
      let h = head_link n c (apply m w) s j.0 (head_checked n (apply m w) s j.0 (sym (over_run m w (see_head n s) 3 (few_head n s)) ∙ j.1)) in
      lay_writable m i (w ++ piece_writes x k j.0) (x + k) (len - k) v
      (all_append n c w (piece_writes x k j.0) a (piece_writable x k j.0 (omega (arith, d.0)) (omega arith) (omega arith) h)) (omega arith) j.2)
      (inv_if_le m len 1 _ _ g)

  -- every write of a region can be stored; those in the table come behind these
  pub region_writable : (most behind g len : ℕ) (m : Memory) (t : Plan) (r : RegionChecked most behind n c g len m t) → AllWritable n c r.w.writes
  region_writable most behind g len m t r = lay_writable m len [] g len r.w tt r.inside r.laid
