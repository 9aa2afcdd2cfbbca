-- What is written when the bytes were carried: the block is made, and then its payload is live where it is now, and not
-- where it was.
use Rattle.std.specs.Prelude.{ℕ, ◌+◌, ◌*◌, ◌<◌, ◌≡◌, refl, List, [], ◌∷◌, length}
use Rattle.std.proofs.Common.{arith, ap, sym, ◌∙◌, subst, append_assoc}
use Rattle.choice.specs.Choice.{eq_yes, eq_no}
use Rattle.bits.specs.TableBit.{clear_table_bit, set_table_bit}
use Rattle.bits.proofs.TableBit.{clear_table_length}
use Rattle.script.specs.Memory.{Live, Write, ◌at◌≔◌}
use Rattle.sound.specs.Plans.{pad_writes}
use Rattle.slices.specs.Slices.{stores}
use Rattle.free_list.specs.Lent.{lent, link}
use Rattle.free_list.specs.Written.{Written, WrittenLive, live_then, written_then}
use Rattle.carve.specs.Made.{WrittenInArena, left_behind}
use Rattle.slide.specs.declared.Plan.{Plan as PlanAnswer}
use Rattle.slide.specs.Shown.{down_writes}

-- a bit that is cleared leaves room for all others
pub cleared_room : (v o : List ℕ) (q i : ℕ) → o ≡ clear_table_bit v q → i < 64 * length v → i < 64 * length o
cleared_room v o q i e h = rw (ap length e ∙ clear_table_length v q) h

-- all of it
pub moved_down : (a l v b m c o i : List ℕ) (q : ℕ) (r : PlanAnswer) → Written a l (left_behind r.at r.grains r.keep r.list (link a r.head)) b m
    → WrittenInArena b (pad_writes r.at r.place) c → o ≡ clear_table_bit v q → i ≡ set_table_bit o (2 * r.at + r.place) → WrittenLive a l v (down_writes a q r) c m i
moved_down a l v b m c o i q r f g d e =
    subst (λ (w : List Write). WrittenLive a l v w c m i) (append_assoc left (pad_writes r.at r.place) bits) (live_then bits (written_then f (g m)) lit)
  where
    left : List Write
    left = left_behind r.at r.grains r.keep r.list (link a r.head)

    bits : List Write
    bits = (Live at q ≔ 0) ∷ (Live at 2 * r.at + r.place ≔ 1) ∷ []

    lit : (t : List ℕ) → lent c m i t ≡ stores 8 (lent c m v t) bits
    lit t =
        let n = 2 * r.at + r.place in
        let old = sym (eq_yes 0 0 (clear_table_bit v q) (set_table_bit v q) refl) in
        ap (λ (z : List ℕ). lent c m z t)
        (e ∙ ap (λ (z : List ℕ). set_table_bit z n) (d ∙ old) ∙ sym (eq_no 1 0 (clear_table_bit _ n) (set_table_bit _ n) (λ z. omega arith)))
