-- The steps of the script of a return, as the code takes them: at each return one law says what the script answers.
use Prim.Native.Nat.{ℕ, suc, ◌+◌, ◌-◌, ◌≤◌, ◌<◌}
use Rattle.std.proofs.Common.{arith, ◌∙◌}
use Rattle.std.specs.Prelude.{◌≡◌, List, [], ◌++◌, length, Option, Some, None, Ok, Err}
use Rattle.std.proofs.Math.Path.{refl, ap, sym}
use Rattle.bits.specs.Map.{lists}
use Rattle.class.specs.Class.{list_of}
use Rattle.script.specs.Memory.{Next, root, Write, latest}
use Rattle.script.specs.Script.{done, ok, no, run, ◌>>=◌}
use Rattle.script.proofs.Script.{goes, halts, gives_done, gives_le, halts_le}
use Rattle.refusal.specs.Number.{number}
use Rattle.refusal.specs.declared.Refusal.{Refusal}
use Rattle.sound.specs.Checks.{must_list, see_head, see_behind, see_before, see_owner}
use Rattle.sound.specs.Links.{push_writes}
use Rattle.sound.specs.Plans.{room_of, both_leave, free_writes, join_script, give_back_script}
use Rattle.sound.proofs.Refused.{stops_with, stops_then, stops_behind, stops_before}
use Rattle.slices.specs.Decode.{grains}
use Rattle.free_list.specs.Lent.{held, classes, link}
use Rattle.neighbours.specs.Shown.{seen_of, grains_of, SeenOwner, SeenBehind, SeenBefore}
use Rattle.neighbours.specs.declared.Owner.{Owner as OwnerAnswer}
use Rattle.neighbours.specs.declared.Neighbour.{Neighbour}
use Rattle.neighbours.specs.Leaving.{both_leaving, second_of, room_is, leaves_is, both_leave_lem}
use Rattle.neighbours.specs.Within.{Behind}
use Rattle.deallocate.specs.Shown.{before_script, merge_script}

-- ---- the list of the joined block, of g grains at z

module _ (a l v t : List ℕ) (q z g k : ℕ) (w : List Write) (e : k ≡ list_of g) where
  -- its size has no list
  pub join_unlisted : lists ≤ k → no 5 ≡ run (held a l v t) (join_script (grains 8 a) classes q z g w)
  unfolding join_script
  join_unlisted h = let m = held a l v t in sym (halts m (must_list classes g) _ (halts_le m 5 (suc (list_of g)) lists (omega arith)))

  module _ (h : k < lists) where
    join_listed : run (held a l v t) (join_script (grains 8 a) classes q z g w) ≡ run (held a l v t) (see_head (grains 8 a) k >>= (λ h.
        done (record { answer = 0; moved = 0; early = 0; writes = (w ++ push_writes k z (latest w Next (root k) h)) ++ free_writes q z g })))
    unfolding join_script
    join_listed =
        let m = held a l v t in
        goes m (must_list classes g) _ (gives_le m 5 (suc (list_of g)) lists (omega arith))
        ∙ ap (λ (i : ℕ). run m (see_head (grains 8 a) i >>= (λ h. done (record { answer = 0; moved = 0; early = 0; writes = (w ++ push_writes i z (latest w Next (root i) h)) ++ free_writes q z g })))) (sym e)

    -- what is beside its head doesn't agree
    pub join_headless : (r : ℕ) → no r ≡ run (held a l v t) (see_head (grains 8 a) k) → no r ≡ run (held a l v t) (join_script (grains 8 a) classes q z g w)
    join_headless r f = sym (join_listed ∙ halts (held a l v t) (see_head (grains 8 a) k) _ (sym f))

    -- all agrees
    pub joined : (y x : ℕ) → ok (link a y) ≡ run (held a l v t) (see_head (grains 8 a) k) → link a x ≡ latest w Next (root k) (link a y)
        → ok (record { answer = 0; moved = 0; early = 0; writes = (w ++ push_writes k z (link a x)) ++ free_writes q z g }) ≡ run (held a l v t) (join_script (grains 8 a) classes q z g w)
    joined y x f d = sym (
        join_listed ∙ goes (held a l v t) (see_head (grains 8 a) k) _ (sym f)
        ∙ gives_done (held a l v t) _ ∙ ap (λ (y : ℕ). ok (record { answer = 0; moved = 0; early = 0; writes = (w ++ push_writes k z y) ++ free_writes q z g })) (sym d))

-- ---- the neighbours

module _ (a l v t : List ℕ) (q x s : ℕ) where
  -- what stands behind doesn't agree
  pub merge_out : (r : Refusal) → SeenBehind a l (x + s) (Err r) → no (number r) ≡ run (held a l v t) (merge_script (grains 8 a) q x s)
  merge_out r p = sym (halts (held a l v t) (see_behind (grains 8 a) classes (x + s)) _ (sym (p.answer v t)))

  -- it does
  pub merge_seen : (e : Option Neighbour) → SeenBehind a l (x + s) (Ok e) → run (held a l v t) (before_script (grains 8 a) q x s (seen_of a e)) ≡ run (held a l v t) (merge_script (grains 8 a) q x s)
  merge_seen e p = sym (goes (held a l v t) (see_behind (grains 8 a) classes (x + s)) _ (sym (p.answer v t)))

  -- what was seen before doesn't agree: so the script refuses, which sees what stands behind first
  pub merge_cut : (r : Refusal) → SeenBefore a l x (Err r) → no (number r) ≡ run (held a l v t) (merge_script (grains 8 a) q x s)
  merge_cut r d = ap no five ∙ sym (stops_then (held a l v t) 5 (see_behind (grains 8 a) classes (x + s)) (before_script (grains 8 a) q x s)
      (stops_behind (λ (r : ℕ). r ≡ 5) refl (grains 8 a) classes (x + s))
      (λ b. halts (held a l v t) (see_before (grains 8 a) classes x) _ (sym (d.answer v t) ∙ ap no five)))
    where
      five : number r ≡ 5
      five = stops_with (λ (r : ℕ). r ≡ 5) (held a l v t) (see_before (grains 8 a) classes x) (stops_before (λ (r : ℕ). r ≡ 5) refl (grains 8 a) classes x) (sym (d.answer v t))

-- e stands behind, and f was seen before
module _ (a l v t : List ℕ) (q x s : ℕ) (e : Option Neighbour) (b : Behind a x s e) where
  before_seen : (f : Option Neighbour) → SeenBefore a l x (Ok f) → run (held a l v t) (before_script (grains 8 a) q x s (seen_of a e))
      ≡ run (held a l v t) (join_script (grains 8 a) classes q (x - grains_of f) (grains_of f + (s + grains_of e)) (both_leave (seen_of a e) (x - grains_of f) (seen_of a f)))
  before_seen f d =
      goes (held a l v t) (see_before (grains 8 a) classes x) _ (sym (d.answer v t))
      ∙ ap (λ (r : ℕ). run (held a l v t) (join_script (grains 8 a) classes q (x - r) (r + (s + room_of (seen_of a e))) (both_leave (seen_of a e) (x - r) (seen_of a f)))) (room_is a f)
      ∙ ap (λ (r : ℕ). run (held a l v t) (join_script (grains 8 a) classes q (x - grains_of f) (grains_of f + (s + r)) (both_leave (seen_of a e) (x - grains_of f) (seen_of a f)))) (room_is a e)

  -- a free block
  pub before_joined : (f : Neighbour) → SeenBefore a l x (Ok (Some f)) → length a < 18446744073709551616
      → run (held a l v t) (join_script (grains 8 a) classes q (x - f.grains) (f.grains + (s + grains_of e)) (both_leaving a e (Some (second_of e (x - f.grains) f))))
      ≡ run (held a l v t) (before_script (grains 8 a) q x s (seen_of a e))
  before_joined f d few = sym (before_seen (Some f) d
      ∙ ap (λ (w : List Write). run (held a l v t) (join_script (grains 8 a) classes q (x - f.grains) (f.grains + (s + grains_of e)) w))
      (both_leave_lem a e f (x - f.grains) few (omega (arith, b.inside)) b.list d.block.list))

  -- nobody
  pub before_alone : SeenBefore a l x (Ok None)
      → run (held a l v t) (join_script (grains 8 a) classes q x (s + grains_of e) (both_leaving a e None)) ≡ run (held a l v t) (before_script (grains 8 a) q x s (seen_of a e))
  before_alone d =
      let start : x - 0 ≡ x = omega arith in
      let size : 0 + (s + grains_of e) ≡ s + grains_of e = omega arith in
      sym (before_seen None d
      ∙ ap (λ (w : List Write). run (held a l v t) (join_script (grains 8 a) classes q (x - 0) (0 + (s + grains_of e)) (w ++ []))) (leaves_is a e b.list)
      ∙ ap (λ (z : ℕ). run (held a l v t) (join_script (grains 8 a) classes q z (0 + (s + grains_of e)) (both_leaving a e None))) start
      ∙ ap (λ (r : ℕ). run (held a l v t) (join_script (grains 8 a) classes q x r (both_leaving a e None))) size)

-- ---- the owner

module _ (a l v t : List ℕ) (q : ℕ) where
  -- refused
  pub back_refused : (r : Refusal) → SeenOwner a v q (Err r) → no (number r) ≡ run (held a l v t) (give_back_script (grains 8 a) classes q)
  unfolding give_back_script
  back_refused r p = sym (halts (held a l v t) (see_owner q) _ (sym (p l t)))

  -- found
  pub back_found : (o : OwnerAnswer) → SeenOwner a v q (Ok o) → run (held a l v t) (merge_script (grains 8 a) q o.at o.grains) ≡ run (held a l v t) (give_back_script (grains 8 a) classes q)
  unfolding give_back_script
  back_found o p = sym (goes (held a l v t) (see_owner q) _ (sym (p l t)))
