-- What follows from specs/WritableResize.antt.
use Rattle.std.specs.Prelude.{ℕ, ◌+◌, ◌-◌, ◌*◌, ◌≤◌, ◌<◌, ◌≡◌, refl, List}
use Rattle.std.proofs.Common.{arith, sym, ◌∙◌}
use Rattle.std.proofs.Math.Path.{subst}
use Rattle.std.proofs.Math.Logic.{inl, inr, ⊎_elim}
use Rattle.definition.specs.Calls.{place, keeps}
use Rattle.invariants.specs.Placing.{Align}
use Rattle.invariants.proofs.Placing.{align_pos, place_some, keeps_some, keeps_holds}
use Rattle.script.specs.Memory.{Memory, Write, apply}
use Rattle.script.specs.Script.{over, Gives}
use Rattle.script.proofs.Script.{over_run, inv_bind, inv_done}
use Rattle.sound.specs.Checks.{is_used, Beside, see_behind, see_before, see_owner}
use Rattle.sound.specs.Plans.{Plan, pad_writes, room_of, leaves, both_leave, leave_script, take_script, give_back_script, elsewhere_script, down_script, move_script, stretch_script, grow_script, resize_script}
use Rattle.sound.proofs.Constant.{back_reads}
use Rattle.sound.proofs.Inverted.{inv_if_eq, inv_if_le}
use Rattle.sound.specs.Checked.{FoundAt}
use Rattle.sound.proofs.Checked.{behind_checked, before_checked, owner_checked}
use Rattle.sound.specs.Writable.{Fits, Decoded, at_live, AllWritable}
use Rattle.sound.proofs.Writable.{all_append, decoded_after, leave_writable, pad_writable}
use Rattle.sound.specs.WritableCalls.{Joined}
use Rattle.sound.proofs.WritableCalls.{take_writable, take_answer, behind_joined, before_joined, behind_inside, before_meets, leaves_writable, both_writable, back_writable}
use Rattle.sound.specs.WritableResize.{Movable, Storable}

-- a payload stands behind its block's start
pub after_start : (m : Memory) (q x : ℕ) → FoundAt m q x → 2 * x + 1 ≤ q
after_start m q x (inl e) = omega (arith, e.0, e.1)
after_start m q x (inr e) = omega (arith, e.2)

module _ (n c q p a : ℕ) (m : Memory) (d : Decoded n m) (al : Align a) (t : Plan) where
  -- step 4: a return on the memory that the take leaves
  elsewhere_storable : (u : ℕ) → Movable n m q p u → Gives m (elsewhere_script n c q p a u) t → Storable n c m q p a t
  unfolding elsewhere_script
  elsewhere_storable u v g =
      let i = inv_bind m (take_script n c p a) _ g in
      let w = i.0.writes in
      let j = inv_bind m (over w (give_back_script n c q)) _ i.2 in
      let k = take_writable n c p a m i.0 d al i.1 in
      let b = back_writable n c q (apply m w) j.0 (decoded_after n c m w d k) (sym (over_run m w (give_back_script n c q) 24 (back_reads n c q)) ∙ j.1) in
      let e = take_answer n c p a m i.0 d al i.1 in
      subst (Storable n c m q p a) (inv_done m _ t j.2) (record {
        writes = all_append n c w j.0.writes k b;
        some = e.0;
        long = e.1;
        from = inr e.2;
        moved = inr v;
      })

  module _ (inside : q < 2 * n) where
    -- step 3: the block comes to stand at z, with s grains
    down_storable : (u z s : ℕ) (w : List Write) → Movable n m q p u → AllWritable n c w → z + s + 1 ≤ n → Gives m (down_script n c q p a u z s w) t
        → Storable n c m q p a t
    unfolding down_script
    down_storable u z s w v b h g = ⊎_elim
        (λ i.
        let e = place a z in
        let some : 1 ≤ e = place_some a z (align_pos a al) in
        let long : e + p ≤ 2 * s = omega (arith, keeps_holds e p, i.0) in
        let j = inv_bind m (leave_script n c w z s (keeps e p)) _ i.1 in
        subst (Storable n c m q p a) (inv_done m _ t j.2) (record {
          writes = all_append n c j.0 _ (leave_writable n c m w z s (keeps e p) j.0 b (keeps_some e p some) i.0 h j.1)
              (all_append n c (pad_writes z e) _ (pad_writable n c z e s some (omega arith) h)
              (at_live {q = q} inside (omega arith), (at_live {q = 2 * z + e} (omega arith) (omega arith), tt)));
          some = omega arith;
          long = omega arith;
          from = inr (z, refl);
          moved = inr v;
        }))
        (λ i. elsewhere_storable u v i.1)
        (inv_if_le m (keeps (place a z) p) s _ _ g)

    -- the block of s grains at x, with b behind it
    module _ (x s : ℕ) (own : Gives m (see_owner q) (record { at = x; grains = s })) (b : Beside) (end : x + s + room_of b + 1 ≤ n) (jb : Joined n c b) where
      -- step 3 or 4
      move_storable : Movable n m q p (2 * (x + s) - q) → Gives m (move_script n c q p a x s b) t → Storable n c m q p a t
      unfolding move_script
      move_storable v g =
          let i = inv_bind m (see_before n c x) _ g in
          let f = i.0 in
          let k = before_checked n c m x f i.1 in
          let e = before_meets n c m x f k in
          ⊎_elim
          (λ j. elsewhere_storable (2 * (x + s) - q) v j.1)
          (λ j. down_storable (2 * (x + s) - q) (x - room_of f) (room_of f + (s + room_of b)) (both_leave b (x - room_of f) f) v
          (both_writable n c b (x - room_of f) f jb (before_joined n c m x f k)) (omega arith) j.1)
          (inv_if_eq m (room_of f) 0 _ _ i.2)

      -- steps 1 and 2; a payload that doesn't fit there any more is moved, and is shorter than the new one
      stretch_storable : (e : ℕ) → 1 ≤ e → 2 * x + e ≡ q → q ≤ 2 * (x + s) → Gives m (stretch_script n c q p a e x s b) t → Storable n c m q p a t
      unfolding stretch_script
      stretch_storable e h l k g = ⊎_elim
          (λ i.
          let j = inv_bind m (leave_script n c (leaves b) x (s + room_of b) (keeps e p)) _ i.1 in
          subst (Storable n c m q p a) (inv_done m _ t j.2) (record {
            writes = leave_writable n c m (leaves b) x (s + room_of b) (keeps e p) j.0 (leaves_writable n c b jb) (keeps_some e p h) i.0 (omega arith) j.1;
            some = omega arith;
            long = omega (arith, keeps_holds e p, i.0);
            from = inl refl;
            moved = inl refl;
          }))
          (λ i. move_storable (record { owner = record { at = x; grains = s }; seen = own; end = omega arith; inside = omega arith; fewer = omega (arith, i.0) }) i.1)
          (inv_if_le m (keeps e p) (s + room_of b) _ _ g)

  -- all steps
  pub resize_storable : Gives m (resize_script n c q p a) t → Storable n c m q p a t
  unfolding resize_script grow_script
  resize_storable g =
      let i = inv_bind m (see_owner q) _ g in
      let x = i.0.at in
      let s = i.0.grains in
      let o = owner_checked m q i.0 i.1 in
      let l = after_start m q x o.found in
      let f : Fits n x (is_used s) = subst (Fits n x) o.word (d x) in
      let r : q < 2 * n = omega (arith, o.inside, f.1) in
      ⊎_elim
      (λ j. subst (Storable n c m q p a) (inv_done m _ t j.1) (record {
        writes = tt;
        some = omega arith;
        long = omega (arith, keeps_holds (q - 2 * x) p, j.0, o.inside, f.1);
        from = inl refl;
        moved = inl refl;
      }))
      (λ j.
      let k = inv_bind m (see_behind n c (x + s)) _ j.1 in
      let b = behind_checked n c m (x + s) k.0 k.1 in
      stretch_storable r x s i.1 k.0 (behind_inside n c m d (x + s) k.0 f.1 b) (behind_joined n c m (x + s) k.0 b) (q - 2 * x) (omega arith) (omega arith) o.inside k.2)
      (inv_if_eq m (keeps (q - 2 * x) p) s _ _ i.2)

  -- every write can be stored
  pub resize_writable : Gives m (resize_script n c q p a) t → AllWritable n c t.writes
  resize_writable g = (resize_storable g).writes
