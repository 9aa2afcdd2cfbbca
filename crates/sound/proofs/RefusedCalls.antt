-- What follows from specs/RefusedCalls.antt.
use Prim.Native.Nat.{ℕ, zero, suc, ◌+◌, ◌-◌, ◌*◌}
use Rattle.std.specs.Prelude.{◌≡◌, refl}
use mathlib.Core.List.{List, [], ◌∷◌}
use Rattle.std.proofs.Common.{inl, inr}
use Rattle.choice.specs.Choice.{if_eq, if_le, eq_case, le_case}
use Rattle.class.specs.Class.{list_of}
use Rattle.definition.specs.Calls.{place, keeps}
use Rattle.script.specs.Memory.{Memory, Prev, Write}
use Rattle.script.specs.Script.{no, run, unless_le, must_eq, must_le, over}
use Rattle.sound.specs.Checks.{word_of, as_busy, as_free, must_grain, must_back, must_list, see_head, see_behind, see_before, Owner, see_owner}
use Rattle.sound.specs.Plans.{Plan, leave_script, take_script, join_script, give_back_script, elsewhere_script, down_script, move_script, stretch_script, grow_script, resize_script}
use Rattle.sound.specs.RegionPlan.{Looked, see_regions, lay_script, region_script}
use Rattle.sound.specs.Refused.{Stops}
use Rattle.sound.proofs.Refused.{contrary, stops_bind, stops_eq, stops_le, stops_over, stops_busy, stops_free, stops_back, stops_head, stops_behind, stops_before, stops_owner}
use Rattle.sound.specs.Checked.{OwnerChecked}
use Rattle.sound.proofs.Checked.{owner_checked}
use Rattle.sound.specs.TakeChecked.{TakeChecked}
use Rattle.sound.proofs.TakeChecked.{take_checked}
use Rattle.sound.specs.RegionChecked.{RegionChecked}
use Rattle.sound.proofs.RegionChecked.{region_checked}
use Rattle.sound.specs.RefusedCalls.{Among}

module _ (P : ℕ → Type 0) (five : P 5) where
  -- what is left of a block
  stops_leave : (n c : ℕ) (w : List Write) (x t k : ℕ) → Stops P (leave_script n c w x t k)
  unfolding leave_script
  stops_leave n c w x t k = eq_case (Stops P) k t _ _ (λ _. tt)
      (λ _. stops_bind P (must_list c (t - k)) _ (stops_le P 5 _ _ five) λ _. stops_bind P (see_head n (list_of (t - k))) _ (stops_head P five n (list_of (t - k))) λ _. tt)

  -- a take: no list
  stops_take : P 1 → (n c p a : ℕ) → Stops P (take_script n c p a)
  unfolding take_script
  stops_take one n c p a k =
      stops_bind P (unless_le 1 (suc k) (16 * c)) _ (stops_le P 1 _ _ one) λ _ y.
      stops_bind P (must_grain n y) _ (stops_le P 5 _ _ five) λ _ v.
      stops_bind P (as_free (word_of v)) _ (stops_free P five (word_of v)) λ s.
      stops_bind P (must_eq (list_of s) k) _ (stops_eq P 5 _ _ five) λ _ u.
      stops_bind P (must_eq u _) _ (stops_eq P 5 _ _ five) λ _ x.
      stops_bind P (must_back n Prev x y) _ (stops_back P five n Prev x y) λ _ b.
      stops_bind P (as_busy (word_of b)) _ (stops_busy P five (word_of b)) λ _ e.
      stops_bind P (must_eq e y) _ (stops_eq P 5 _ _ five) λ _.
      stops_bind P (leave_script n c _ y s (keeps (place a y) p)) _ (stops_leave n c _ y s (keeps (place a y) p)) λ _. tt

  module _ (three : P 3) where
    -- a return: not live
    stops_give : (n c q : ℕ) → Stops P (give_back_script n c q)
    unfolding give_back_script join_script
    stops_give n c q =
        stops_bind P (see_owner q) _ (stops_owner P five three q) λ o.
        stops_bind P (see_behind n c _) _ (stops_behind P five n c _) λ a.
        stops_bind P (see_before n c _) _ (stops_before P five n c _) λ b.
        stops_bind P (must_list c _) _ (stops_le P 5 _ _ five) λ _.
        stops_bind P (see_head n _) _ (stops_head P five n _) λ _. tt

    module _ (one : P 1) (n c q p a : ℕ) where
      -- a resize, in its last step and in all
      stops_elsewhere : (u : ℕ) → Stops P (elsewhere_script n c q p a u)
      unfolding elsewhere_script
      stops_elsewhere u =
          stops_bind P (take_script n c p a) _ (stops_take one n c p a) λ t.
          stops_bind P (over t.writes (give_back_script n c q)) _ (stops_over P five t.writes (give_back_script n c q) (stops_give n c q)) λ _. tt

      stops_resize : Stops P (resize_script n c q p a)
      unfolding resize_script grow_script stretch_script move_script down_script
      stops_resize =
          stops_bind P (see_owner q) _ (stops_owner P five three q) λ o.
          eq_case (Stops P) (keeps (q - 2 * o.at) p) o.grains _ _ (λ _. tt) λ _.
          stops_bind P (see_behind n c (o.at + o.grains)) _ (stops_behind P five n c (o.at + o.grains)) λ b.
          le_case (Stops P) (keeps (q - 2 * o.at) p) _ _ _
          (λ _. stops_bind P (leave_script n c _ _ _ _) _ (stops_leave n c _ _ _ _) λ _. tt)
          (λ _. stops_bind P (see_before n c o.at) _ (stops_before P five n c o.at) λ f.
          eq_case (Stops P) _ 0 _ _ (λ _. stops_elsewhere _) λ _.
          le_case (Stops P) _ _ _ _ (λ _. stops_bind P (leave_script n c _ _ _ _) _ (stops_leave n c _ _ _ _) λ _. tt) (λ _. stops_elsewhere _))

  module _ (four : P 4) (six : P 6) (n c g len : ℕ) where
    -- a region: the table's entries, the pieces, and all
    stops_regions : (r i : ℕ) (l : Looked) → Stops P (see_regions n g len r i l)
    unfolding see_regions
    stops_regions zero i l = tt
    stops_regions (suc r) i l = λ s e.
        stops_bind P (if_le e g _ _) _ (le_case (Stops P) e g _ _ (λ _. tt) (λ _. stops_le P 4 (g + len) s four)) λ _. stops_regions r (suc i) _

    stops_lay : (i : ℕ) (w : List Write) (x k : ℕ) → Stops P (lay_script n c i w x k)
    unfolding lay_script
    stops_lay zero w x k = tt
    stops_lay (suc i) w x k = le_case (Stops P) k 1 _ _ (λ _. tt) (λ _. stops_bind P (over w (see_head n _)) _ (stops_over P five w (see_head n _) (stops_head P five n _)) λ h. stops_lay i _ _ _)

    stops_region : (most behind : ℕ) → Stops P (region_script most behind n c g len)
    unfolding region_script
    stops_region most behind r =
        stops_bind P (if_eq r most _ _) _ (eq_case (Stops P) r most _ _ (λ _. six) (λ _. tt)) λ _.
        stops_bind P (unless_le 4 2 len) _ (stops_le P 4 _ _ four) λ _.
        stops_bind P (unless_le 4 (g + len) n) _ (stops_le P 4 _ _ four) λ _.
        stops_bind P (must_le r most) _ (stops_le P 5 _ _ five) λ _.
        stops_bind P (see_regions n g len r 0 _) _ (stops_regions r 0 _) λ l.
        stops_bind P (unless_le 4 behind l.meets) _ (stops_le P 4 _ _ four) λ _.
        stops_bind P (must_eq l.wrong 0) _ (stops_eq P 5 _ _ five) λ _.
        stops_bind P (lay_script n c len [] g len) _ (stops_lay len [] g len) λ _. tt

-- ---- the numbers of each call

-- a take: no list, or damaged
pub take_refusals : (n c p a : ℕ) → Stops (Among (1 ∷ 5 ∷ [])) (take_script n c p a)
take_refusals n c p a = stops_take (Among (1 ∷ 5 ∷ [])) (inr (inl refl)) (inl refl) n c p a

-- a return: not live, or damaged
pub back_refusals : (n c q : ℕ) → Stops (Among (3 ∷ 5 ∷ [])) (give_back_script n c q)
back_refusals n c q = stops_give (Among (3 ∷ 5 ∷ [])) (inr (inl refl)) (inl refl) n c q

-- a resize: each of the three
pub resize_refusals : (n c q p a : ℕ) → Stops (Among (1 ∷ 3 ∷ 5 ∷ [])) (resize_script n c q p a)
resize_refusals n c q p a = stops_resize (Among (1 ∷ 3 ∷ 5 ∷ [])) (inr (inr (inl refl))) (inr (inl refl)) (inl refl) n c q p a

-- a region: not one that can be given, damaged, or the table is full
pub region_refusals : (most behind n c g len : ℕ) → Stops (Among (4 ∷ 5 ∷ 6 ∷ [])) (region_script most behind n c g len)
region_refusals most behind n c g len = stops_region (Among (4 ∷ 5 ∷ 6 ∷ [])) (inr (inl refl)) (inl refl) (inr (inr (inl refl))) n c g len most behind

-- ---- where what a call tells can't be

-- the head of the list that a take finds
pub take_refused : (n c p a : ℕ) (m : Memory) → ((t : Plan) → TakeChecked n c p a m t → ⊥) → (r : ℕ) × (run m (take_script n c p a) ≡ no r) × Among (1 ∷ 5 ∷ []) r
take_refused n c p a m = contrary (Among (1 ∷ 5 ∷ [])) (TakeChecked n c p a m) m (take_script n c p a) (take_refusals n c p a) (take_checked n c p a m)

-- the block of a payload
pub owner_refused : (m : Memory) (q : ℕ) → ((o : Owner) → OwnerChecked m q o → ⊥) → (r : ℕ) × (run m (see_owner q) ≡ no r) × Among (3 ∷ 5 ∷ []) r
owner_refused m q = contrary (Among (3 ∷ 5 ∷ [])) (OwnerChecked m q) m (see_owner q) (stops_owner (Among (3 ∷ 5 ∷ [])) (inr (inl refl)) (inl refl) q) (owner_checked m q)

-- a region beside those of the table
pub region_refused : (most behind n c g len : ℕ) (m : Memory) → ((t : Plan) → RegionChecked most behind n c g len m t → ⊥)
    → (r : ℕ) × (run m (region_script most behind n c g len) ≡ no r) × Among (4 ∷ 5 ∷ 6 ∷ []) r
region_refused most behind n c g len m = contrary (Among (4 ∷ 5 ∷ 6 ∷ [])) (RegionChecked most behind n c g len m) m (region_script most behind n c g len)
    (region_refusals most behind n c g len) (region_checked most behind n c g len m)
