-- With which numbers the scripts refuse, on any memory: a contradiction with 5, a payload that is not live with 3, no list with
-- 1, a region that can't be given with 4, and a full table with 6.
use Prim.Native.Nat.{ℕ, zero, suc, ◌+◌, ◌-◌, ◌*◌, ◌/◌, ◌%◌, ◌^◌}
use mathlib.Core.List.{List, [], ◌∷◌}
use Rattle.choice.specs.Choice.{if_eq, if_le, eq_case, le_case}
use Rattle.class.specs.Class.{list_of}
use Rattle.definition.specs.Calls.{place, keeps}
use Rattle.script.specs.Memory.{Next, Prev, Mark}
use Rattle.script.specs.Script.{done, stop, ◌>>=◌, ◌>>◌, unless_eq, unless_le, must_eq, must_le, over}
use Rattle.sound.specs.Refused.{Stops}
use Rattle.sound.proofs.Refused.{stops_bind, stops_eq, stops_le, stops_over}
use Rattle.sound.specs.RegionPlan.{Looked, see_regions}
use Rattle.machine.specs.Machine.{guard_next}
use Rattle.tags.specs.Tag.{Tag, flags, START, FREE, SMALL, LARGE, free_tag}
use Rattle.chains.specs.Steps.{Step, leave, enter, step_script, steps_script}
use Rattle.plans.specs.Deeds.{Deed, plan_script}
use Rattle.plans.specs.Checks.{must_grain, must_list, must_be, must_busy, must_free, see_free, see_entry, see_head, see_guard, owned, owner_small, owner_wide, owner_large, see_owner, listed, see_after, free_before, see_before, see_rest, see_join}
use Rattle.plans.specs.Allocate.{see_first, see_taken, allocate_script}
use Rattle.plans.specs.Deallocate.{deallocate_script}
use Rattle.plans.specs.Reallocate.{elsewhere_script, down_script, move_script, stretch_script, resize_script, reallocate_script}
use Rattle.plans.specs.Regions.{region_deed, see_pieces, region_script}

module _ (P : ℕ → Type 0) (five : P 5) where
  -- ---- checks

  stops_be : (f x y : ℕ) → Stops P (must_be f x y)
  stops_be f x y = λ v. stops_eq P 5 v y five

  stops_busy : (v : ℕ) → Stops P (must_busy v)
  stops_busy v = stops_bind P (must_le START (v % flags)) _ (stops_le P 5 _ _ five) λ _. stops_le P 5 _ _ five

  stops_free : (n x : ℕ) → Stops P (must_free n x)
  unfolding must_free
  stops_free n x =
      stops_bind P (must_grain n x) _ (stops_le P 5 _ _ five) λ _ v.
      stops_bind P (must_eq (v % flags) (START + FREE)) _ (stops_eq P 5 _ _ five) λ _.
      stops_bind P (must_le 1 (v / flags)) _ (stops_le P 5 _ _ five) λ _. tt

  stops_whole : (n x : ℕ) → Stops P (see_free n x)
  unfolding see_free
  stops_whole n x =
      stops_bind P (must_free n x) _ (stops_free n x) λ s.
      stops_bind P (must_grain n (x + s)) _ (stops_le P 5 _ _ five) λ _ e.
      stops_bind P (must_eq (e % START) FREE) _ (stops_eq P 5 _ _ five) λ _.
      stops_bind P (must_eq (e / flags) s) _ (stops_eq P 5 _ _ five) λ _ v.
      stops_bind P (must_busy v) _ (stops_busy v) λ _. tt

  stops_entry : (n k y : ℕ) → Stops P (see_entry n k y)
  unfolding see_entry
  stops_entry n k y = λ x p.
      stops_bind P (must_free n x) _ (stops_free n x) λ _.
      stops_bind P (must_be Prev x (if_eq x y p y)) _ (stops_be Prev x _) λ _.
      stops_bind P (must_free n p) _ (stops_free n p) λ _.
      stops_bind P (must_be Next p (if_eq p y x y)) _ (stops_be Next p _) λ _.
      stops_bind P (must_be Mark k 1) _ (stops_be Mark k 1) λ _ h. stops_eq P 5 _ _ five

  stops_head : (n k : ℕ) → Stops P (see_head n k)
  unfolding see_head
  stops_head n k = λ b h. eq_case (Stops P) b 0 _ _ (λ _. tt) (λ _. stops_bind P (must_free n h) _ (stops_free n h) λ _. stops_be Prev h h)

  pub stops_guard : (x : ℕ) → Stops P (see_guard x)
  unfolding see_guard
  stops_guard x = stops_bind P (must_be Next x (guard_next x)) _ (stops_be Next x _) λ _. stops_be Prev x _

  stops_listed : (n c y s : ℕ) → Stops P (listed n c y s)
  stops_listed n c y s = stops_bind P (must_list c s) _ (stops_le P 5 _ _ five) λ _. stops_bind P (see_entry n (list_of s) y) _ (stops_entry n (list_of s) y) λ _. tt

  pub stops_after : (n c y : ℕ) → Stops P (see_after n c y)
  unfolding see_after
  stops_after n c y = stops_bind P (must_grain n y) _ (stops_le P 5 _ _ five) λ _ v. eq_case (Stops P) (v % flags) (START + FREE) _ _
      (λ _. stops_bind P (see_free n y) _ (stops_whole n y) λ s. stops_listed n c y s)
      (λ _. stops_bind P (must_busy v) _ (stops_busy v) λ _. tt)

  before_it : (n c x s : ℕ) → Stops P (free_before n c x s)
  before_it n c x s =
      stops_bind P (must_le 1 s) _ (stops_le P 5 _ _ five) λ _.
      stops_bind P (must_le s x) _ (stops_le P 5 _ _ five) λ _.
      stops_bind P (must_be Tag (x - s) (free_tag s)) _ (stops_be Tag (x - s) _) λ _. stops_listed n c (x - s) s

  pub stops_before : (n c x : ℕ) → Stops P (see_before n c x)
  unfolding see_before
  stops_before n c x = eq_case (Stops P) x 0 _ _ (λ _. tt) (λ _ v. eq_case (Stops P) (v % START) FREE _ _ (λ _. before_it n c x (v / flags)) (λ _. tt))

  stops_rest : (n c t k : ℕ) → Stops P (see_rest n c t k)
  unfolding see_rest
  stops_rest n c t k = stops_bind P (must_list c t) _ (stops_le P 5 _ _ five) λ _. eq_case (Stops P) k t _ _ (λ _. tt) (λ _. stops_head n (list_of (t - k)))

  pub stops_join : (n c t : ℕ) → Stops P (see_join n c t)
  unfolding see_join
  stops_join n c t = stops_bind P (must_list c t) _ (stops_le P 5 _ _ five) λ _. stops_head n (list_of t)

  -- ---- a plan is only read

  stops_step : (s : Step) → Stops P (step_script s)
  stops_step (leave k y) = λ x p h b. tt
  stops_step (enter k y) = λ b h. tt

  stops_steps : (l : List Step) → Stops P (steps_script l)
  unfolding steps_script
  stops_steps [] = tt
  stops_steps (s ∷ l) =
      stops_bind P (step_script s) _ (stops_step s) λ w.
      stops_bind P (over w (steps_script l)) _ (stops_over P five w (steps_script l) (stops_steps l)) λ v. tt

  pub stops_plan : (t : Deed) → Stops P (plan_script t)
  unfolding plan_script
  stops_plan t =
      stops_bind P (steps_script t.early) _ (stops_steps t.early) λ w.
      stops_bind P (over w (steps_script t.late)) _ (stops_over P five w (steps_script t.late) (stops_steps t.late)) λ v. tt

  -- ---- allocate

  stops_first : (n k y : ℕ) → Stops P (see_first n k y)
  unfolding see_first
  stops_first n k y =
      stops_bind P (see_free n y) _ (stops_whole n y) λ s.
      stops_bind P (must_eq (list_of s) k) _ (stops_eq P 5 _ _ five) λ _.
      stops_bind P (must_be Prev y y) _ (stops_be Prev y y) λ _ x.
      stops_bind P (must_free n x) _ (stops_free n x) λ _.
      stops_bind P (must_be Prev x y) _ (stops_be Prev x y) λ _. tt

  module _ (one : P 1) where
    stops_taken : (n c p a : ℕ) → Stops P (see_taken n c p a)
    unfolding see_taken
    stops_taken n c p a = λ k.
        stops_bind P (unless_le 1 (suc k) (16 * c)) _ (stops_le P 1 _ _ one) λ _ y.
        stops_bind P (see_first n k y) _ (stops_first n k y) λ s.
        stops_bind P (see_rest n c s (keeps (place a y) p)) _ (stops_rest n c s _) λ _. tt

    pub stops_allocate : (n c p a : ℕ) → Stops P (allocate_script n c p a)
    unfolding allocate_script
    stops_allocate n c p a = stops_bind P (see_taken n c p a) _ (stops_taken n c p a) λ t. stops_plan _

    -- ---- reallocate, when the payload's block is known

    stops_elsewhere : (n c p m x s d a b : ℕ) → Stops P (elsewhere_script n c p m x s d a b)
    unfolding elsewhere_script
    stops_elsewhere n c p m x s d a b = stops_bind P (see_taken n c p m) _ (stops_taken n c p m) λ t. stops_bind P (see_join n c (a + (s + b))) _ (stops_join n c _) λ _. tt

    pub stops_resize : (n c q p m x s d : ℕ) → Stops P (resize_script n c q p m x s d)
    unfolding resize_script stretch_script move_script down_script
    stops_resize n c q p m x s d = eq_case (Stops P) (keeps d p) s _ _ (λ _. tt) λ _.
        stops_bind P (see_after n c (x + s)) _ (stops_after n c (x + s)) λ b.
        le_case (Stops P) (keeps d p) (s + b) _ _
        (λ _. stops_bind P (see_rest n c (s + b) (keeps d p)) _ (stops_rest n c _ _) λ _. tt)
        (λ _. stops_bind P (see_before n c x) _ (stops_before n c x) λ a.
        eq_case (Stops P) a 0 _ _ (λ _. stops_elsewhere n c p m x s d 0 b) λ _.
        le_case (Stops P) (keeps (place m (x - a)) p) (a + (s + b)) _ _
        (λ _. stops_bind P (see_rest n c (a + (s + b)) (keeps (place m (x - a)) p)) _ (stops_rest n c _ _) λ _. tt)
        (λ _. stops_elsewhere n c p m x s d a b))

  -- ---- the block of a payload

  module _ (three : P 3) where
    stops_owned : (n x s p : ℕ) → Stops P (owned n x s p)
    stops_owned n x s p =
        stops_bind P (must_le 1 s) _ (stops_le P 5 _ _ five) λ _.
        stops_bind P (must_le p s) _ (stops_le P 5 _ _ five) λ _.
        stops_bind P (must_grain n (x + s)) _ (stops_le P 5 _ _ five) λ _. tt

    stops_small : (n g : ℕ) → Stops P (owner_small n g)
    stops_small n g = λ v. stops_bind P (unless_eq 3 (v % flags) (START + SMALL)) _ (stops_eq P 3 _ _ three) λ _. stops_owned n g (v / flags) 0

    stops_wide : (n g v : ℕ) → Stops P (owner_wide n g v)
    stops_wide n g v =
        stops_bind P (unless_eq 3 (v % flags) LARGE) _ (stops_eq P 3 _ _ three) λ _.
        stops_bind P (must_le 2 (v / flags)) _ (stops_le P 5 _ _ five) λ _.
        stops_bind P (must_le (v / flags) g) _ (stops_le P 5 _ _ five) λ _ u.
        stops_bind P (must_eq (u % flags) START) _ (stops_eq P 5 _ _ five) λ _. stops_owned n (g - v / flags) (u / flags) (v / flags)

    stops_large : (n g : ℕ) → Stops P (owner_large n g)
    stops_large n g = stops_bind P (unless_le 3 1 g) _ (stops_le P 3 _ _ three) λ _ v.
        eq_case (Stops P) (v % flags) (START + LARGE) _ _ (λ _. stops_owned n (g - 1) (v / flags) 1) (λ _. stops_wide n g v)

    pub stops_owner : (n q : ℕ) → Stops P (see_owner n q)
    unfolding see_owner
    stops_owner n q = stops_bind P (unless_le 3 (suc q) (2 * n)) _ (stops_le P 3 _ _ three) λ _.
        eq_case (Stops P) (q % 2) 1 _ _ (λ _. stops_small n (q / 2)) (λ _. stops_large n (q / 2))

    pub stops_deallocate : (n c q : ℕ) → Stops P (deallocate_script n c q)
    unfolding deallocate_script
    stops_deallocate n c q =
        stops_bind P (see_owner n q) _ (stops_owner n q) λ o.
        stops_bind P (see_guard o.at) _ (stops_guard o.at) λ _.
        stops_bind P (see_after n c (o.at + o.grains)) _ (stops_after n c _) λ b.
        stops_bind P (see_before n c o.at) _ (stops_before n c _) λ a.
        stops_bind P (see_join n c (a + (o.grains + b))) _ (stops_join n c _) λ _. stops_plan _

    pub stops_reallocate : P 1 → (n c q p a : ℕ) → Stops P (reallocate_script n c q p a)
    unfolding reallocate_script
    stops_reallocate one n c q p a =
        stops_bind P (see_owner n q) _ (stops_owner n q) λ o.
        stops_bind P (see_guard o.at) _ (stops_guard o.at) λ _.
        stops_bind P (resize_script n c q p a o.at o.grains (q - 2 * o.at)) _ (stops_resize one n c q p a _ _ _) λ t. stops_plan t

  -- ---- a region

  module _ (four : P 4) (n c g len : ℕ) where
    stops_regions : (r i : ℕ) (l : Looked) → Stops P (see_regions n g len r i l)
    unfolding see_regions
    stops_regions zero i l = tt
    stops_regions (suc r) i l = λ s e.
        stops_bind P (if_le e g _ _) _ (le_case (Stops P) e g _ _ (λ _. tt) (λ _. stops_le P 4 (g + len) s four)) λ _. stops_regions r (suc i) _

    stops_pieces : Stops P (see_pieces n c len)
    unfolding see_pieces
    stops_pieces =
        stops_bind P (if_le (2 ^ c) len (see_head n (list_of (2 ^ c - 1))) (done (tt {0}))) _ (le_case (Stops P) (2 ^ c) len _ _ (λ _. stops_head n _) (λ _. tt)) λ _.
        le_case (Stops P) 2 (len % 2 ^ c) _ _ (λ _. stops_head n _) (λ _. tt)

    -- after the table was seen to have room
    pub stops_given : (most behind r : ℕ) → Stops P (unless_le 4 2 len >> (unless_le 4 (g + len) n >> (must_le r most >> (see_regions n g len r 0 (record { meets = 0; wrong = 0 })
        >>= (λ l. unless_le 4 behind l.meets >> (must_eq l.wrong 0 >> (see_pieces n c len >> plan_script (region_deed c r g len))))))))
    stops_given most behind r =
        stops_bind P (unless_le 4 2 len) _ (stops_le P 4 _ _ four) λ _.
        stops_bind P (unless_le 4 (g + len) n) _ (stops_le P 4 _ _ four) λ _.
        stops_bind P (must_le r most) _ (stops_le P 5 _ _ five) λ _.
        stops_bind P (see_regions n g len r 0 _) _ (stops_regions r 0 _) λ l.
        stops_bind P (unless_le 4 behind l.meets) _ (stops_le P 4 _ _ four) λ _.
        stops_bind P (must_eq l.wrong 0) _ (stops_eq P 5 _ _ five) λ _.
        stops_bind P (see_pieces n c len) _ stops_pieces λ _. stops_plan _

    pub stops_region : P 6 → (most behind : ℕ) → Stops P (region_script most behind n c g len)
    unfolding region_script
    stops_region six most behind = λ r. stops_bind P (if_eq r most (stop 6) (done (tt {0}))) _ (eq_case (Stops P) r most _ _ (λ _. six) (λ _. tt)) λ _. stops_given most behind r
