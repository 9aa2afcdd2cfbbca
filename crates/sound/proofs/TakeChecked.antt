-- What follows from specs/TakeChecked.antt.
use Rattle.std.specs.Prelude.{ℕ, suc, ◌+◌, ◌-◌, ◌*◌, ◌≤◌, ◌<◌, ◌≡◌, refl}
use Rattle.std.proofs.Common.{arith, sym, subst}
use Rattle.bits.specs.First.{first_set}
use Rattle.bits.proofs.First.{first_from, first_is_set}
use Rattle.class.specs.Class.{list_of, start_of}
use Rattle.class.proofs.Class.{start_fits}
use Rattle.definition.specs.Calls.{wanted, place, keeps}
use Rattle.invariants.proofs.Placing.{wanted_some}
use Rattle.script.specs.Memory.{Memory, Size, Before, Next, Prev, Mark, none, root}
use Rattle.script.specs.Script.{unless_le, must_eq, Gives}
use Rattle.script.proofs.Script.{inv_bind, inv_get, inv_done, inv_eq, inv_le}
use Rattle.sound.specs.Links.{unlink_writes}
use Rattle.sound.specs.Checks.{word_of, must_grain, must_back, as_busy, as_free}
use Rattle.sound.specs.Plans.{Plan, leave_script, take_script}
use Rattle.sound.specs.Inverted.{Some}
use Rattle.sound.proofs.Inverted.{inv_first, word_some, busy_checked, free_checked, grain_checked}
use Rattle.sound.proofs.Checked.{back_checked}
use Rattle.sound.specs.TakeChecked.{TakeChecked}

-- every block of a list that the search can find is large enough
fits : (m : Memory) (c u s : ℕ) → 1 ≤ u → 1 ≤ s → list_of s ≡ first_set (m Mark) (16 * c - start_of u) (start_of u) → u ≤ s
fits m c u s h g e = start_fits u s (omega arith) (omega arith) (omega (arith, first_from (m Mark) (16 * c - start_of u) (start_of u)))

-- the block that a take gets
pub take_checked : (n c p a : ℕ) (m : Memory) (t : Plan) → Gives m (take_script n c p a) t → TakeChecked n c p a m t
unfolding take_script
take_checked n c p a m t g =
    let u = start_of (wanted p a) in
    let k = first_set (m Mark) (16 * c - u) u in
    let y = m Next (root k) in
    let i1 = inv_bind m (unless_le 1 (suc k) (16 * c)) _ (inv_first m (16 * c - u) u _ g) in
    let i2 = inv_bind m (must_grain n y) _ (inv_get m Next (root k) _ i1.2) in
    let i3 = inv_bind m (as_free (word_of (m Size y))) _ (inv_get m Size y _ i2.2) in
    let s = i3.0 in
    let i4 = inv_bind m (must_eq (list_of s) k) _ i3.2 in
    let i5 = inv_bind m (must_eq (m Prev y) none) _ (inv_get m Prev y _ i4.2) in
    let i6 = inv_bind m (must_back n Prev (m Next y) y) _ (inv_get m Next y _ i5.2) in
    let i7 = inv_bind m (as_busy (word_of (m Size (y + s)))) _ (inv_get m Size (y + s) _ i6.2) in
    let i8 = inv_bind m (must_eq (m Before (y + s)) y) _ (inv_get m Before (y + s) _ i7.2) in
    let i9 = inv_bind m (leave_script n c (unlink_writes k (m Next y) none) y s (keeps (place a y) p)) _ i8.2 in
    let word = free_checked m (word_of (m Size y)) i3.1 in
    let list = inv_eq m 5 (list_of s) k i4.1 in
    let small : k < 16 * c = omega (arith, inv_le m 1 (suc k) (16 * c) i1.1) in
    record {
      k = k;
      y = y;
      s = s;
      w = i9.0;
      sought = refl;
      listed = small;
      marked = first_is_set (m Mark) (16 * c - u) u (omega arith);
      head = refl;
      inside = grain_checked m n y i2.1;
      word = word;
      list = list;
      enough = λ h. fits m c (wanted p a) s (wanted_some p a h) (subst Some word (word_some (m Size y))) list;
      first = inv_eq m 5 (m Prev y) none i5.1;
      back = back_checked n m Prev (m Next y) y i6.1;
      busy = busy_checked m (word_of (m Size (y + s))) i7.1;
      link = inv_eq m 5 (m Before (y + s)) y i8.1;
      left = i9.1;
      plan = sym (inv_done m _ t i9.2);
    }
