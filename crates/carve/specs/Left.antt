-- What a block that keeps some of its grains leaves, as the script answers it: nothing, or a free block at the head of its
-- list, as that head is after the writes w. Each law is one return of the code.
use Rattle.std.specs.Prelude.{ℕ, suc, ◌+◌, ◌-◌, ◌≤◌, ◌<◌, ◌≡◌}
use Rattle.std.proofs.Common.{arith, ◌∙◌}
use Rattle.std.proofs.Math.Path.{ap, sym}
use mathlib.Core.List.{List, ◌++◌, append_assoc}
use Rattle.choice.specs.Choice.{eq_yes, eq_no}
use Rattle.bits.specs.Map.{lists}
use Rattle.class.specs.Class.{list_of}
use Rattle.script.specs.Memory.{Next, root, Write, latest}
use Rattle.script.specs.Script.{Script, ok, no, run, done, ◌>>=◌, ◌>>◌}
use Rattle.script.proofs.Script.{goes, halts, gives_done, gives_le, halts_le}
use Rattle.sound.specs.Checks.{must_list, see_head}
use Rattle.sound.specs.Links.{push_writes}
use Rattle.sound.specs.Plans.{split_writes, leave_script}
use Rattle.slices.specs.Decode.{grains}
use Rattle.free_list.specs.Lent.{held, classes, link}
use Rattle.carve.specs.Made.{left_behind}

-- the block of t grains at x keeps m, after the writes w
module _ (a l v o : List ℕ) (w : List Write) (x t m : ℕ) where
  -- nothing is left
  pub left_nothing : m ≡ t → (k h : ℕ) → ok (w ++ left_behind x t m k h) ≡ run (held a l v o) (leave_script (grains 8 a) classes w x t m)
  unfolding leave_script
  left_nothing e k h =
      let c = held a l v o in
      ap (λ (u : List Write). ok (w ++ u)) (eq_yes m t _ _ e) ∙ sym (ap (run c) (eq_yes m t _ _ e) ∙ gives_done c _)

  -- what is left goes to list k
  module _ (n : m ≡ t → ⊥) (k : ℕ) (e : k ≡ list_of (t - m)) where
    -- before the head h
    abbrev split : ℕ → ℕ → List Write
    split k h = (w ++ push_writes k (x + m) h) ++ split_writes x t m

    abbrev headed : ℕ → Script (List Write)
    headed k = see_head (grains 8 a) k >>= λ h. done (split k (latest w Next (root k) h))

    some : run (held a l v o) (leave_script (grains 8 a) classes w x t m) ≡ run (held a l v o) (must_list classes (t - m) >> headed (list_of (t - m)))
    unfolding leave_script
    some = ap (run (held a l v o)) (eq_no m t _ _ n)

    -- which is none
    pub left_unlisted : lists ≤ k → no 5 ≡ run (held a l v o) (leave_script (grains 8 a) classes w x t m)
    left_unlisted h =
        let c = held a l v o in
        sym (some ∙ halts c (must_list classes (t - m)) _ (halts_le c 5 (suc (list_of (t - m))) lists (omega arith)))

    module _ (h : k < lists) where
      listed : run (held a l v o) (leave_script (grains 8 a) classes w x t m) ≡ run (held a l v o) (headed k)
      listed =
          let c = held a l v o in
          some ∙ goes c (must_list classes (t - m)) _ (gives_le c 5 (suc (list_of (t - m))) lists (omega arith)) ∙ ap (λ (i : ℕ). run c (headed i)) (sym e)

      -- what is beside its head doesn't agree
      pub left_headless : (r : ℕ) → no r ≡ run (held a l v o) (see_head (grains 8 a) k) → no r ≡ run (held a l v o) (leave_script (grains 8 a) classes w x t m)
      left_headless r f = sym (listed ∙ halts (held a l v o) (see_head (grains 8 a) k) _ (sym f))

      -- all agrees: the head is z, and y after the writes
      pub left_listed : (z y : ℕ) → ok (link a z) ≡ run (held a l v o) (see_head (grains 8 a) k) → link a y ≡ latest w Next (root k) (link a z)
          → ok (w ++ left_behind x t m k (link a y)) ≡ run (held a l v o) (leave_script (grains 8 a) classes w x t m)
      left_listed z y f d =
          let c = held a l v o in
          ap (λ (u : List Write). ok (w ++ u)) (eq_no m t _ _ n) ∙ ap ok (sym (append_assoc w (push_writes k (x + m) (link a y)) (split_writes x t m)))
          ∙ ap (λ (i : ℕ). ok (split k i)) d
          ∙ sym (listed ∙ goes c (see_head (grains 8 a) k) _ (sym f) ∙ gives_done c _)
