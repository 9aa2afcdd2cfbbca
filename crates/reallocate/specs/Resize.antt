-- The whole resize: the block of the payload, then in place, where it can be, and else the payload moves.
use Rattle.std.specs.Prelude.{ℕ, ◌+◌, ◌-◌, ◌*◌, ◌^◌, ◌≤◌, ◌<◌, ◌≡◌, refl, List, [], length, Option, Result, Ok, Err}
use Rattle.std.proofs.Common.{arith, sym, ◌∙◌, subst}
use Rattle.definition.specs.Calls.{keeps}
use Rattle.script.specs.Script.{Script, run}
use Rattle.script.specs.Script.{Result as Answer}
use Rattle.script.proofs.Script.{goes, halts}
use Rattle.sound.specs.Checks.{see_owner}
use Rattle.sound.proofs.Checked.{owner_checked}
use Rattle.sound.proofs.WritableResize.{after_start}
use Rattle.sound.specs.Plans.{Plan, grow_script, resize_script}
use Rattle.sound.specs.Runs.{Reply, yes, not}
use Rattle.slices.specs.Decode.{grains}
use Rattle.header.specs.Turned.{grains_few}
use Rattle.carry.proofs.Carry.{carried_still}
use Rattle.tables.specs.Length.{LongEnough}
use Rattle.free_list.specs.Lent.{lent, held, classes}
use Rattle.refusal.specs.Number.{number}
use Rattle.refusal.specs.declared.Refusal.{Refusal}
use Rattle.free_list.specs.Written.{Written}
use Rattle.neighbours.specs.declared.Owner.{Owner as OwnerAnswer}
use Rattle.neighbours.specs.declared.Neighbour.{Neighbour}
use Rattle.neighbours.specs.Shown.{owned, SeenOwner}
use Rattle.neighbours.specs.Within.{owner_within}
use Rattle.stretch.specs.declared.Plan.{Plan as StretchPlan}
use Rattle.stretch.specs.declared.Plan.TheVariants.{Same, Fitted, Short}
use Rattle.stretch.specs.declared.Fit.{Fit}
use Rattle.stretch.specs.Shown.{stays, stretch_writes, shown, Planned}
use Rattle.reallocate.specs.Does.{Does, refused, granted, Moves, Resizes}

-- ---- the block

-- a payload in the arena has a live bit
pub live_bit : (a l v : List ℕ) (q : ℕ) → LongEnough (length a) (length l) (length v) → q < 2 * grains 8 a → q < 64 * length v
unfolding grains
live_bit a l v q e h = omega (arith, e.bits)

-- its payload stands behind its start, and not behind its end, which is in the arena
pub record Seated (a : List ℕ) (q x s : ℕ) : Type 0 where
  pub inside : x + s < grains 8 a
  pub starts : 2 * x < q
  pub ends : q ≤ 2 * (x + s)

pub owner_holds : (a v : List ℕ) (q : ℕ) (o : OwnerAnswer) → SeenOwner a v q (Ok o) → Seated a q o.at o.grains
owner_holds a v q o h =
    let c = owner_checked (held a [] v []) q (owned o) (sym (h [] [])) in
    record {
      inside = (owner_within a [] v [] q o (h [] [])).1;
      starts = omega (arith, after_start (held a [] v []) q o.at c.found);
      ends = c.inside;
    }

module _ (a : List ℕ) (q x s : ℕ) (h : Seated a q x s) where
  -- what it keeps can be counted
  pub keep_counts : (p : ℕ) → length a < 18446744073709551616 → p < 2 ^ 63 → q - 2 * x + p + 1 < 2 ^ 64
  keep_counts p f g = omega (arith, h.inside, h.ends, grains_few a f)

  -- where that is more than it has, no more is carried than the payload is to have
  pub carries_less : (p m g : ℕ) → m ≡ keeps (q - 2 * x) p → s + g < m → 2 * (x + s) ≤ q + p
  carries_less p m g e f = omega (arith, h.starts)

-- ---- the call

module _ (a l v : List ℕ) (q p n : ℕ) where
  -- no live payload is there, or its block is damaged
  pub resize_unowned : (r : Refusal) → SeenOwner a v q (Err r) → Resizes a l v q p n (not (number r)) a l v
  unfolding resize_script
  resize_unowned r h t = refused (number r) (halts (held a l v t) (see_owner q) _ (sym (h l t)))

  module _ (o : OwnerAnswer) (h : SeenOwner a v q (Ok o)) (m : ℕ) (k : m ≡ keeps (q - 2 * o.at) p) where
    -- the script from the block on
    abbrev growing : ℕ → ℕ → ℕ → ℕ → Script Plan
    growing q p n d = grow_script (grains 8 a) classes q p n d o.at o.grains

    abbrev asked : List ℕ → Answer Plan
    asked t = run (held a l v t) (resize_script (grains 8 a) classes q p n)

    found : (t : List ℕ) → asked t ≡ run (held a l v t) (growing q p n (q - 2 * o.at))
    unfolding resize_script
    found t = goes (held a l v t) (see_owner q) _ (sym (h l t))

    -- it says what the stretch's plan shows
    planned : (r : Result StretchPlan Refusal) → Planned a l growing o.at o.grains m r → (t : List ℕ) → asked t ≡ shown a (held a l v t) q p n o.at o.grains m r
    planned r g t = found t ∙ sym (g.answers q p n (q - 2 * o.at) (sym k) v t)

    -- refused
    pub resize_refused : (r : Refusal) → Planned a l growing o.at o.grains m (Err r) → Resizes a l v q p n (not (number r)) a l v
    resize_refused r g t = refused (number r) (planned (Err r) g t)

    -- nothing to do
    pub resize_same : Planned a l growing o.at o.grains m (Ok Same) → Resizes a l v q p n (yes q) a l v
    resize_same g t =
        subst (Does (lent a l v t) q (asked t) (yes q)) (carried_still (lent a l v t) q (stays q []) refl)
        (granted (stays q []) (planned (Ok Same) g t))

    -- in place
    pub resize_fitted : (f : Fit) → Planned a l growing o.at o.grains m (Ok (Fitted f)) → (b c : List ℕ) → Written a l (stretch_writes a o.at o.grains m f) b c → Resizes a l v q p n (yes q) b c v
    resize_fitted f g b c w t =
        let s = stays q (stretch_writes a o.at o.grains m f) in
        subst (Does (lent a l v t) q (asked t) (yes q)) (carried_still (lent a l v t) q s refl ∙ sym (w.slices v t))
        (granted s (planned (Ok (Fitted f)) g t))

    -- the payload moves
    pub resize_moved : (e : Option Neighbour) → Planned a l growing o.at o.grains m (Ok (Short e)) → (b c d : List ℕ) (y : Reply) → Moves a l v q o.at o.grains e p n y b c d → Resizes a l v q p n y b c d
    resize_moved e g b c d y f t = rw (planned (Ok (Short e)) g t) (f t)
