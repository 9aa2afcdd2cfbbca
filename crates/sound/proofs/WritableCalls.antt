-- What follows from specs/WritableCalls.antt.
use Rattle.std.specs.Prelude.{ℕ, suc, ◌+◌, ◌-◌, ◌*◌, ◌≤◌, ◌<◌, ◌≡◌, List, ◌++◌}
use Rattle.std.proofs.Common.{arith, sym, inl, inr, ⊎_elim}
use Rattle.std.proofs.Math.Path.{refl, subst}
use Rattle.class.specs.Class.{list_of}
use Rattle.definition.specs.Calls.{place, keeps}
use Rattle.invariants.specs.Placing.{Align}
use Rattle.invariants.proofs.Placing.{align_pos, place_some, keeps_some, keeps_holds, keeps_wanted}
use Rattle.script.specs.Memory.{Memory, Before, Next, none, root, free_word, Write, latest}
use Rattle.script.specs.Script.{Gives}
use Rattle.script.proofs.Script.{inv_bind, inv_done, inv_le}
use Rattle.sound.specs.Links.{push_writes}
use Rattle.sound.specs.Checks.{is_used, must_list, Entry, see_head, Beside, nobody, somebody, see_behind, see_before, see_owner}
use Rattle.sound.specs.Plans.{Plan, pad_writes, free_writes, room_of, leaves, afterwards, both_leave, take_script, join_script, give_back_script}
use Rattle.sound.specs.Checked.{EntryChecked, BehindChecked, BeforeChecked}
use Rattle.sound.proofs.Checked.{head_checked, behind_checked, before_checked, owner_checked}
use Rattle.sound.specs.TakeChecked.{TakeChecked}
use Rattle.sound.proofs.TakeChecked.{take_checked}
use Rattle.sound.specs.Writable.{Fits, Decoded, free_size, at_size, at_before, at_live, AllWritable}
use Rattle.sound.proofs.Writable.{all_append, next_after, prev_after, unlink_writable, push_writable, head_link, leave_writable, pad_writable}
use Rattle.sound.specs.WritableCalls.{Counted, Joined}

-- ---- take

module _ (n c p a : ℕ) (m : Memory) (t : Plan) (d : Decoded n m) (al : Align a) (g : Gives m (take_script n c p a) t) where
  -- the payload is in its block, and the block in the arena
  record Placed (y s e : ℕ) : Type 0 where
    inside : y + s + 1 ≤ n
    some : 1 ≤ e
    keeps_one : 1 ≤ keeps e p
    within : keeps e p ≤ s
    long : e + p ≤ 2 * s

  -- the block that it gets
  seen : TakeChecked n c p a m t
  seen = take_checked n c p a m t g

  placed : Placed seen.y seen.s (place a seen.y)
  placed =
      let h = align_pos a al in
      let y = seen.y in
      let w : keeps (place a y) p ≤ seen.s = omega (arith, keeps_wanted a y p h, seen.enough h) in
      record {
        inside = (subst (Fits n y) seen.word (d y)).1;
        some = place_some a y h;
        keeps_one = keeps_some (place a y) p (place_some a y h);
        within = w;
        long = omega (arith, keeps_holds (place a y) p);
      }

  -- every write of a take can be stored
  pub take_writable : AllWritable n c t.writes
  take_writable =
      let y = seen.y in
      let e = place a y in
      subst (λ (u : Plan). AllWritable n c u.writes) (sym seen.plan)
      (all_append n c seen.w _
      (leave_writable n c m _ y seen.s (keeps e p) seen.w
      (unlink_writable n c seen.k (m Next y) none seen.listed (⊎_elim (λ i. inl i) (λ i. inr i.0) seen.back) (inl refl))
      placed.keeps_one placed.within placed.inside seen.left)
      (all_append n c (pad_writes y e) _
      (pad_writable n c y e seen.s placed.some (omega (arith, placed.long)) placed.inside)
      (at_live {q = 2 * y + e} (omega (arith, placed.long, placed.inside)) (omega arith), tt)))

  -- and what it answers is a payload at its place, with all its half grains inside the arena
  pub take_answer : (1 ≤ t.answer) × (t.answer + p ≤ 2 * n) × Counted a t.answer
  take_answer = subst (λ (u : Plan). (1 ≤ u.answer) × (u.answer + p ≤ 2 * n) × Counted a u.answer) (sym seen.plan)
      (omega (arith, placed.some), omega (arith, placed.long, placed.inside), (seen.y, refl))

-- ---- what stands beside a used block

module _ (n c : ℕ) where
  -- an entry that was checked is
  entry_joined : (m : Memory) (y t : ℕ) (e : Entry) → list_of t < 16 * c → EntryChecked n m (list_of t) y e → Joined n c (somebody t e)
  entry_joined m y t e h i = (h, ⊎_elim (λ a. inl a) (λ a. inr a.0) i.back, ⊎_elim (λ a. inl a.0) (λ a. inr a.2) i.head)

  pub behind_joined : (m : Memory) (y : ℕ) (b : Beside) → BehindChecked n c m y b → Joined n c b
  behind_joined m y nobody i = tt
  behind_joined m y (somebody t e) i = entry_joined m y t e i.list i.entry

  pub before_joined : (m : Memory) (x : ℕ) (b : Beside) → BeforeChecked n c m x b → Joined n c b
  before_joined m x nobody i = tt
  before_joined m x (somebody t e) i = entry_joined m (m Before x) t e i.list i.entry

  -- a neighbour behind ends before the arena does
  pub behind_inside : (m : Memory) → Decoded n m → (y : ℕ) (b : Beside) → y + 1 ≤ n → BehindChecked n c m y b → y + room_of b + 1 ≤ n
  behind_inside m d y nobody h i = omega arith
  behind_inside m d y (somebody t e) h i = (subst (Fits n y) i.word (d y)).1

  -- a neighbour before ends where the block starts
  pub before_meets : (m : Memory) (x : ℕ) (b : Beside) → BeforeChecked n c m x b → x - room_of b + room_of b ≡ x
  before_meets m x nobody i = omega arith
  before_meets m x (somebody t e) i = omega (arith, i.meets)

  -- a neighbour leaves its list
  pub leaves_writable : (b : Beside) → Joined n c b → AllWritable n c (leaves b)
  leaves_writable nobody i = tt
  leaves_writable (somebody t e) i = unlink_writable n c (list_of t) e.next e.prev i.0 i.1 i.2

  -- also after some writes
  still_joined : (w : List Write) (z : ℕ) (b : Beside) → AllWritable n c w → Joined n c b → Joined n c (afterwards w z b)
  still_joined w z nobody a i = tt
  still_joined w z (somebody t e) a i = (i.0, next_after n c w z e.next a i.1, prev_after n c w z e.prev a i.2)

  -- both neighbours leave their lists
  pub both_writable : (a : Beside) (z : ℕ) (b : Beside) → Joined n c a → Joined n c b → AllWritable n c (both_leave a z b)
  both_writable a z b i j =
      let w = leaves_writable a i in
      all_append n c (leaves a) _ w (leaves_writable (afterwards (leaves a) z b) (still_joined (leaves a) z b w j))

  -- ---- return

  -- the block that comes to be, t grains at z
  join_writable : (m : Memory) (q z t : ℕ) (w : List Write) (v : Plan) → AllWritable n c w → 1 ≤ t → z + t + 1 ≤ n → q < 2 * n
      → Gives m (join_script n c q z t w) v → AllWritable n c v.writes
  unfolding join_script
  join_writable m q z t w v a p h l g =
      let i = inv_bind m (must_list c t) _ g in
      let j = inv_bind m (see_head n (list_of t)) _ i.2 in
      let f = next_after n c w (root (list_of t)) j.0 a (head_link n c m (list_of t) j.0 (head_checked n m (list_of t) j.0 j.1)) in
      let k : list_of t < 16 * c = omega (arith, inv_le m 5 (suc (list_of t)) (16 * c) i.1) in
      subst (λ (u : Plan). AllWritable n c u.writes) (inv_done m _ v j.2)
      (all_append n c (w ++ push_writes (list_of t) z (latest w Next (root (list_of t)) j.0)) (free_writes q z t)
      (all_append n c w _ a (push_writable n c (list_of t) z _ k (omega arith) f))
      (at_size {x = z} {v = free_word t} (omega arith) (free_size t refl p h), (at_before {x = z + t} {v = z} (omega arith) (inr (omega arith)), (at_live {q = q} l (omega arith), tt))))

  -- every write of a return can be stored
  pub back_writable : (q : ℕ) (m : Memory) (t : Plan) → Decoded n m → Gives m (give_back_script n c q) t → AllWritable n c t.writes
  unfolding give_back_script
  back_writable q m t d g =
      let i = inv_bind m (see_owner q) _ g in
      let x = i.0.at in
      let s = i.0.grains in
      let o = owner_checked m q i.0 i.1 in
      let j = inv_bind m (see_behind n c (x + s)) _ i.2 in
      let k = inv_bind m (see_before n c x) _ j.2 in
      let a = behind_checked n c m (x + s) j.0 j.1 in
      let b = before_checked n c m x k.0 k.1 in
      let f : Fits n x (is_used s) = subst (Fits n x) o.word (d x) in
      let u = behind_inside m d (x + s) j.0 f.1 a in
      let v = before_meets m x k.0 b in
      join_writable m q (x - room_of k.0) (room_of k.0 + (s + room_of j.0)) (both_leave j.0 (x - room_of k.0) k.0) t
      (both_writable j.0 (x - room_of k.0) k.0 (behind_joined m (x + s) j.0 a) (before_joined m x k.0 b))
      (omega (arith, f.0)) (omega (arith, u, v)) (omega (arith, o.inside, f.1)) k.2
