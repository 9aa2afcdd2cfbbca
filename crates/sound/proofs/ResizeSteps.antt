-- What a resize plans, on a sound memory: one of its four steps, told by what it writes and answers.
use Rattle.std.specs.Prelude.{ℕ, ◌+◌, ◌-◌, ◌*◌, ◌≤◌, ◌<◌, ◌≡◌, refl, length}
use native.Mathlib.Omega.{arith}
use Rattle.std.proofs.Math.Path.{ap, sym, subst}
use Rattle.std.proofs.Common.{◌∙◌}
use mathlib.Core.List.{List, [], ◌∷◌, ◌++◌}
use Rattle.std.proofs.Math.Logic.{⊎_elim}
use Rattle.choice.specs.Choice.{eq_yes, eq_no, le_yes, le_no, same?, le?}
use Rattle.definition.specs.Blocks.{Block, used, total, room, past}
use Rattle.definition.specs.Lists.{Lists}
use Rattle.definition.specs.Calls.{Heap, Answer, refused, granted, take, place, keeps}
use Rattle.invariants.proofs.Neighbours.{total_past}
use Rattle.invariants.specs.Placing.{Align}
use Rattle.invariants.specs.Promises.{Granted}
use Rattle.invariants.proofs.Promises.{take_granted}
use Rattle.script.specs.Memory.{Memory, Live, Write, ◌at◌≔◌, apply}
use Rattle.script.specs.Script.{run, Gives, over}
use Rattle.script.proofs.Script.{goes, inv_bind, inv_done, over_run}
use Rattle.sound.specs.Sound.{Sound}
use Rattle.sound.specs.Checks.{Beside, see_owner, see_behind, see_before}
use Rattle.sound.specs.Plans.{Plan, room_of, leaves, both_leave, pad_writes, leave_script, take_script, give_back_script, elsewhere_script, down_script, move_script, stretch_script, grow_script, resize_script}
use Rattle.sound.specs.Meets.{Meets}
use Rattle.sound.proofs.Constant.{back_reads}
use Rattle.sound.specs.Leave.{leave_writes}
use Rattle.sound.proofs.Seen.{head_seen}
use Rattle.sound.specs.SeenBeside.{Here, beside}
use Rattle.sound.proofs.SeenBeside.{room_seen, owner_seen, behind_seen, before_seen}
use Rattle.sound.proofs.TakeSound.{take_meets}
use Rattle.sound.proofs.PayloadTake.{leave_planned}

-- ---- step 4: a take, and then a return

module _ (n c p a : ℕ) (m : Memory) where
  -- the two plans
  pub record Both (q u : ℕ) (t : Plan) : Type 0 where
    pub first : Plan
    pub second : Plan
    pub takes : Gives m (take_script n c p a) first
    pub returns : Gives (apply m first.writes) (give_back_script n c q) second
    pub answer : t.answer ≡ first.answer
    pub moved : t.moved ≡ u
    pub early : t.early ≡ length first.writes
    pub writes : t.writes ≡ first.writes ++ second.writes

  -- step 4 is made of them
  pub both : (q u : ℕ) (t : Plan) → Gives m (elsewhere_script n c q p a u) t → Both q u t
  unfolding elsewhere_script
  both q u t g =
      let i = inv_bind m (take_script n c p a) _ g in
      let j = inv_bind m (over i.0.writes (give_back_script n c q)) _ i.2 in
      let e = inv_done m _ t j.2 in
      record {
        first = i.0;
        second = j.0;
        takes = i.1;
        returns = sym (over_run m i.0.writes (give_back_script n c q) 24 (back_reads n c q)) ∙ j.1;
        answer = ap (λ (v : Plan). v.answer) (sym e);
        moved = ap (λ (v : Plan). v.moved) (sym e);
        early = ap (λ (v : Plan). v.early) (sym e);
        writes = ap (λ (v : Plan). v.writes) (sym e);
      }

module _ (n c p a : ℕ) (m : Memory) (h : Heap) (al : Align a) (o : Sound n c m h) where
  -- the memory between the two is sound, for a heap in which the new block is granted
  pub record Between (v : Plan) : Type 0 where
    pub heap : Heap
    pub sound : Sound n c (apply m v.writes) heap
    pub grants : Granted c h p a v.answer heap

  -- so it is after a take
  pub between : (v : Plan) → Gives m (take_script n c p a) v → Between v
  between v g = go (take c h p a) refl (take_meets n c p a m h al o)
    where
      go : (w : Answer) → take c h p a ≡ w → Meets n c m (take_script n c p a) w → Between v
      go (refused w) e k = let z : ◌≡◌ {A = ℕ} 0 1 = cc in absurd (omega arith)
      go (granted q u) e k =
          let i : k.plan ≡ v = (let j = k.gives in cc) in
          record {
            heap = u;
            sound = subst (λ (t : Plan). Sound n c (apply m t.writes) u) i k.sound;
            grants = subst (λ (z : ℕ). Granted c h p a z u) (sym k.answer ∙ ap (λ (t : Plan). t.answer) i) (take_granted c h p a q u o.heap al e);
          }

-- ---- the block found, and which step it is

module _ (n c p a : ℕ) (m : Memory) (f : Lists) (l r : List Block) (s d : ℕ) (al : Align a) (o : Sound n c m (Here f l (used s d) r)) where
  -- its payload; what stands behind it, as it is seen; the grains from its free neighbours' start to their end; and the
  -- writes by which those leave their lists
  abbrev q : ℕ
  q = 2 * total l + d

  abbrev next : Beside
  next = beside m r (total l + s)

  abbrev start : ℕ
  start = total (past l)

  abbrev all : ℕ
  all = room l + (s + room r)

  abbrev out_both : List Write
  out_both = both_leave next start (beside m l start)

  -- what is planned: nothing; in place; from the free block before on; elsewhere
  pub data Step (t : Plan) : Type 0 where
    stays : t.answer ≡ q → t.writes ≡ [] → Step t
    stretches : keeps d p ≤ s + room r → t.answer ≡ q → t.writes ≡ leave_writes m (leaves next) (total l) (s + room r) (keeps d p) → Step t
    sinks : 1 ≤ room l → s + room r < keeps d p → keeps (place a start) p ≤ all → t.answer ≡ 2 * start + place a start → t.moved ≡ 2 * s - d → t.early ≡ length out_both
        → t.writes ≡ leave_writes m out_both start all (keeps (place a start) p) ++ (pad_writes start (place a start) ++ ((Live at q ≔ 0) ∷ (Live at 2 * start + place a start ≔ 1) ∷ [])) → Step t
    moves : (u : ℕ) → u ≡ 2 * s - d → s + room r < keeps d p → Gives m (elsewhere_script n c q p a u) t → Step t

  -- step 3
  sinking : (t : Plan) (u : ℕ) → u ≡ 2 * s - d → 1 ≤ room l → s + room r < keeps d p → Gives m (down_script n c q p a u start all out_both) t → Step t
  unfolding down_script
  sinking t u eu some big g = ⊎_elim
      (λ (h : keeps (place a start) p ≤ all).
      let i = inv_bind m (leave_script n c out_both start all (keeps (place a start) p)) _ (sym (ap (run m) (le_yes (keeps (place a start) p) all _ _ h)) ∙ g) in
      let e = inv_done m _ t i.2 in
      sinks some big h (ap (λ (v : Plan). v.answer) (sym e)) (ap (λ (v : Plan). v.moved) (sym e) ∙ eu) (ap (λ (v : Plan). v.early) (sym e)) (ap (λ (v : Plan). v.writes) (sym e)
      ∙ ap (λ (v : List Write). v ++ (pad_writes start (place a start) ++ ((Live at q ≔ 0) ∷ (Live at 2 * start + place a start ≔ 1) ∷ [])))
      (leave_planned n c m out_both i.0 start all (keeps (place a start) p) (head_seen n c m (Here f l (used s d) r) o) i.1)))
      (λ (h : all < keeps (place a start) p). moves u eu big (sym (ap (run m) (le_no (keeps (place a start) p) all _ _ (omega arith))) ∙ g))
      (le? (keeps (place a start) p) all)

  -- step 3 or 4
  moving : (t : Plan) → s + room r < keeps d p → Gives m (move_script n c q p a (total l) s next) t → Step t
  unfolding move_script
  moving t big g =
      let u = 2 * (total l + s) - q in
      let eu : u ≡ 2 * s - d = omega arith in
      let b = beside m l start in
      let e : room_of b ≡ room l = room_seen m l start in
      let i : total l - room_of b ≡ start = omega (arith, total_past l) in
      let j : room_of b + (s + room_of next) ≡ all = omega (arith, room_seen m r (total l + s)) in
      let k = sym (goes m (see_before n c (total l)) _ (before_seen n c m f l r s d o)) ∙ g in
      ⊎_elim
      (λ (z : room_of b ≡ 0). moves u eu big (sym (ap (run m) (eq_yes (room_of b) 0 _ _ z)) ∙ k))
      (λ (z : room_of b ≡ 0 → ⊥). sinking t u eu (omega (arith, z)) big
      (subst (λ (x : ℕ). Gives m (down_script n c q p a u start x out_both) t) j
      (subst (λ (x : ℕ). Gives m (down_script n c q p a u x (room_of b + (s + room_of next)) (both_leave next x b)) t) i (sym (ap (run m) (eq_no (room_of b) 0 _ _ z)) ∙ k))))
      (same? (room_of b) 0)

  -- steps 1 and 2, or a later one
  stretching : (t : Plan) → Gives m (stretch_script n c q p a d (total l) s next) t → Step t
  unfolding stretch_script
  stretching t g =
      let e : room_of next ≡ room r = room_seen m r (total l + s) in
      ⊎_elim
      (λ (h : keeps d p ≤ s + room_of next).
      let i = inv_bind m (leave_script n c (leaves next) (total l) (s + room_of next) (keeps d p)) _ (sym (ap (run m) (le_yes (keeps d p) (s + room_of next) _ _ h)) ∙ g) in
      let j = inv_done m _ t i.2 in
      stretches (omega arith) (ap (λ (v : Plan). v.answer) (sym j)) (ap (λ (v : Plan). v.writes) (sym j)
      ∙ subst (λ (u : ℕ). i.0 ≡ leave_writes m (leaves next) (total l) (s + u) (keeps d p)) e
      (leave_planned n c m (leaves next) i.0 (total l) (s + room_of next) (keeps d p) (head_seen n c m (Here f l (used s d) r) o) i.1)))
      (λ (h : s + room_of next < keeps d p). moving t (omega arith) (sym (ap (run m) (le_no (keeps d p) (s + room_of next) _ _ (omega arith))) ∙ g))
      (le? (keeps d p) (s + room_of next))

  -- any step
  pub step : (t : Plan) → Gives m (resize_script n c q p a) t → Step t
  unfolding resize_script grow_script
  step t g =
      let i : q - 2 * total l ≡ d = omega arith in
      let k : Gives m (grow_script n c q p a d (total l) s) t = subst (λ (j : ℕ). Gives m (grow_script n c q p a j (total l) s) t) i (sym (goes m (see_owner q) _ (owner_seen n c m f l r s d o)) ∙ g) in
      ⊎_elim
      (λ (e : keeps d p ≡ s). let j = inv_done m _ t (sym (ap (run m) (eq_yes (keeps d p) s _ _ e)) ∙ k) in
      stays (ap (λ (v : Plan). v.answer) (sym j)) (ap (λ (v : Plan). v.writes) (sym j)))
      (λ (e : keeps d p ≡ s → ⊥). stretching t (sym (ap (run m) (eq_no (keeps d p) s _ _ e) ∙ goes m (see_behind n c (total l + s)) _ (behind_seen n c m f l r s d o)) ∙ k))
      (same? (keeps d p) s)
