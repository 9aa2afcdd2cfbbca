-- What follows from specs/ResizeInPlace.antt.
use Rattle.std.specs.Prelude.{ℕ, ◌+◌, ◌-◌, ◌*◌, ◌≤◌, ◌<◌, ◌≡◌, refl, List, ◌∷◌}
use Rattle.std.proofs.Common.{arith, sym, ◌∙◌}
use Rattle.std.proofs.Math.Path.{ap, subst}
use Rattle.choice.specs.Choice.{le_yes, eq_case}
use Rattle.class.specs.Class.{list_of}
use Rattle.class.proofs.Class.{list_small}
use Rattle.definition.specs.Blocks.{Block, used, total, ◌⟨⟩◌, room, past}
use Rattle.definition.specs.Lists.{Lists, skip}
use Rattle.definition.specs.Calls.{Heap, leave, keeps}
use Rattle.invariants.specs.Order.{Inside, order_split, at_here}
use Rattle.invariants.proofs.Order.{total_zip}
use Rattle.invariants.specs.Moves.{Ok}
use Rattle.invariants.proofs.Neighbours.{total_past, order_past, swallow_behind, leave_ok}
use Rattle.invariants.specs.Placing.{Align}
use Rattle.invariants.proofs.Placing.{keeps_holds, keeps_some}
use Rattle.invariants.proofs.Kept.{kept_stretch, kept_stretch_back, kept_stretch_split, kept_stretch_split_back}
use Rattle.invariants.proofs.Promises.{leave_here}
use Rattle.script.specs.Memory.{Memory, Size, Before, apply}
use Rattle.script.specs.Script.{run, done, Gives, ◌>>=◌}
use Rattle.script.proofs.Script.{gives_bind, gives_done}
use Rattle.sound.specs.Sound.{Sound}
use Rattle.sound.specs.Plans.{room_of, leaves, leave_script, stretch_script}
use Rattle.sound.specs.Meets.{Grants}
use Rattle.sound.proofs.Core.{core_behind}
use Rattle.sound.specs.Leave.{leave_writes}
use Rattle.sound.proofs.Leave.{leave_gives, leave_memory}
use Rattle.sound.specs.Swaps.{Swaps}
use Rattle.sound.proofs.Settle.{settle_same, leave_total}
use Rattle.sound.proofs.Seen.{head_seen}
use Rattle.sound.specs.SeenBeside.{Here, beside}
use Rattle.sound.proofs.SeenBeside.{room_seen, used_short}
use Rattle.sound.proofs.Skips.{skips_behind, fewer_behind, not_in_behind}
use Rattle.sound.specs.ResizeInPlace.{in_place}

-- ---- a used block, its neighbours, and what it keeps

module _ (n c p a : ℕ) (m : Memory) (f : Lists) (l r : List Block) (s d : ℕ) (al : Align a) (o : Sound n c m (Here f l (used s d) r)) where
  -- its size and its payload's place
  pub whole : (1 ≤ s) × Inside s d
  whole = (order_split l (used s d ∷ r) o.heap.order).1.1

  -- all grains of the arena
  pub size_all : total l + (total r + s) ≡ n
  size_all = sym (total_zip l (used s d ∷ r)) ∙ o.whole

  -- what is left over has a list
  pub rest_list : (t k : ℕ) → t ≤ room l + (s + room r) → k ≤ t → (k ≡ t → ⊥) → list_of (t - k) < 16 * c
  rest_list t k h g ne = list_small (t - k) (omega (arith, ne)) c (omega (arith, used_short n c m f l r s d o))

  -- ---- steps 1 and 2

  module _ (le : keeps d p ≤ s + room r) where
    keep_some : 1 ≤ keeps d p
    keep_some = keeps_some d p whole.1.some

    keep_inside : Inside (keeps d p) d
    keep_inside = record { some = whole.1.some; within = omega (arith, keeps_holds d p); kind = whole.1.kind }

    stretch_ok : Ok c (leave (skip r (total l + s) f) l (past r) (s + room r) (keeps d p) d)
    stretch_ok = leave_ok c (skip r (total l + s) f) l (past r) (s + room r) d (keeps d p) d keep_some le keep_inside
        (order_past r (order_split l (used s d ∷ r) o.heap.order).1.2) (swallow_behind c f l r s d o.heap)

    stretch_swaps : Swaps (l ⟨⟩ used s d ∷ r) (leave (skip r (total l + s) f) l (past r) (s + room r) (keeps d p) d).blocks (total l) (used s d) (total l) (used (keeps d p) d)
    unfolding leave
    stretch_swaps = eq_case (λ (g : Heap). Swaps (l ⟨⟩ used s d ∷ r) g.blocks (total l) (used s d) (total l) (used (keeps d p) d)) (keeps d p) (s + room r) _ _
        (λ e. subst (λ (k : ℕ). Swaps (l ⟨⟩ used s d ∷ r) (l ⟨⟩ used k d ∷ past r) (total l) (used s d) (total l) (used (keeps d p) d)) e
        (record {
          forth = λ y b v i. kept_stretch_back y b v l r s d (keeps d p) d e i;
          back = λ y b v i. kept_stretch y b v l r s d (keeps d p) d e i;
        }))
        (λ ne. record {
          forth = λ y b v i. kept_stretch_split_back y b v l r s d (keeps d p) d (s + room r - keeps d p) (omega arith) i;
          back = λ y b v i. kept_stretch_split y b v l r s d (keeps d p) d (s + room r - keeps d p) (omega arith) i;
        })

    stretch_sound : Sound n c (apply m (leave_writes m (leaves (beside m r (total l + s))) (total l) (s + room r) (keeps d p))) (leave (skip r (total l + s) f) l (past r) (s + room r) (keeps d p) d)
    stretch_sound =
        let i = order_split l (used s d ∷ r) o.heap.order in
        let lv = leave_memory m f (skip r (total l + s) f) (leaves (beside m r (total l + s))) (fewer_behind n c m f l r s d o) (skips_behind n c m f l r s d o) l (past r) (s + room r)
        (core_behind (m Size) (m Before) l r s d o.row) i.0 (order_past r i.1.2) (omega (arith, whole.0)) (keeps d p) d keep_some le
        (omega (arith, size_all, total_past r, o.small)) (λ y g h. not_in_behind n c m f l r s d o y (omega arith) h) in
        settle_same n c m _ (Here f l (used s d) r) _ o stretch_ok (total l) s (keeps d p) d stretch_swaps (at_here l r (used s d))
        (leave_here (skip r (total l + s) f) l (past r) (s + room r) (keeps d p) d le)
        (leave_total (skip r (total l + s) f) l (past r) (s + room r) (keeps d p) d le ∙ omega (arith, total_zip l (used s d ∷ r), total_past r)) lv

    pub stretch_grants : (q : ℕ) → Grants n c m (stretch_script n c q p a d (total l) s (beside m r (total l + s))) q (leave (skip r (total l + s) f) l (past r) (s + room r) (keeps d p) d)
    unfolding stretch_script
    stretch_grants q =
        let b = beside m r (total l + s) in
        let e : room_of b ≡ room r = room_seen m r (total l + s) in
        let w = leave_writes m (leaves b) (total l) (s + room r) (keeps d p) in
        record {
          plan = in_place q w;
          gives = ap (run m) (le_yes (keeps d p) (s + room_of b) _ _ (omega arith))
              ∙ subst (λ (t : ℕ). Gives m (leave_script n c (leaves b) (total l) (s + t) (keeps d p) >>= (λ v. done (in_place q v))) (in_place q w)) (sym e)
              (gives_bind m (leave_script n c (leaves b) (total l) (s + room r) (keeps d p)) _
              (leave_gives n c m (leaves b) (total l) (s + room r) (keeps d p) (head_seen n c m (Here f l (used s d) r) o) (rest_list (s + room r) (keeps d p) (omega arith) le)) (gives_done m _));
          answer = refl;
          sound = stretch_sound;
        }
