-- What follows from specs/Class.antt.
use Rattle.std.specs.Prelude.{ℕ, ◌+◌, ◌-◌, ◌*◌, ◌/◌, ◌%◌, ◌^◌, ◌≤◌, ◌<◌, ◌≡◌}
use Rattle.std.proofs.Math.Nat.{add-mul, lt-div-mul-add}
use Rattle.std.proofs.Common.{le_refl, div-mul-le_self, le-div_iff_mul-le, div-lt_iff_lt-mul, add-one, ◌∙◌, ⊎_elim, pow_pos, pow-add}
use Rattle.std.proofs.Math.Decide.{le_ind}
use native.Mathlib.Omega.{arith}
use Rattle.std.proofs.Math.Path.{ap}
use Rattle.choice.specs.Choice.{le?}
use Rattle.class.specs.Log.{log}
pub use Rattle.class.proofs.Log.{log_top, log_is, log_lt}
use Rattle.class.specs.Class.{floor, list_of, start_of}

-- ---- least sizes

floor_is : (k f r : ℕ) → k / 16 ≡ f → k % 16 ≡ r → floor k ≡ (16 + r) * 2 ^ f
unfolding floor
floor_is k f r p q = rw (p, q)

-- the least size of list 16 * f + r, also at r = 16, which is the first list of the next class
pub floor_at : (f r : ℕ) → r ≤ 16 → floor (16 * f + r) ≡ (16 + r) * 2 ^ f
floor_at f r h = ⊎_elim
    (λ (p : r ≤ 15). floor_is (16 * f + r) f r (omega arith) (omega arith))
    (λ (p : 15 < r). let e : r ≡ 16 = omega arith in
    floor_is (16 * f + r) (f + 1) 0 (omega arith) (omega arith) ∙ rw e (omega (arith, pow-add 2 f 1)))
    (le? r 15)

-- from one list to the next the least size grows by a sixteenth of the class's first size
pub floor_step : (k : ℕ) → floor (k + 1) ≡ floor k + 2 ^ (k / 16)
floor_step k =
    let f = k / 16 in
    let r = k % 16 in
    let e : k ≡ 16 * f + r = omega arith in
    let e' : k + 1 ≡ 16 * f + (r + 1) = omega arith in
    let a : floor k ≡ (16 + r) * 2 ^ f = ap floor e ∙ floor_at f r (omega arith) in
    let b : floor (k + 1) ≡ (16 + (r + 1)) * 2 ^ f = ap floor e' ∙ floor_at f (r + 1) (omega arith) in
    omega (arith, a, b, add-mul 16 r (2 ^ f), add-mul 16 (r + 1) (2 ^ f), add-mul r 1 (2 ^ f))

-- lists are in order of size
pub floor_mono : (j k : ℕ) → j ≤ k → floor j ≤ floor k
floor_mono j k h =
    le_ind (λ m. floor j ≤ floor m) (le_refl _)
    (λ m hm ih. rw (← add-one) (omega (arith, floor_step m, ih))) k h

-- and no two have the same least size
pub floor_lt : (j k : ℕ) → j < k → floor j < floor k
floor_lt j k h = omega (arith, floor_step j, pow_pos (j / 16), floor_mono (j + 1) k (omega arith))

-- so the least sizes of two lists say which comes first
pub floor_order : (j k : ℕ) → floor j < floor k → j < k
floor_order j k h = ⊎_elim (λ (p : k ≤ j). omega (arith, floor_mono k j p)) (λ (q : j < k). q) (le? k j)

-- the least size where 16 * s / 2 ^ f was rounded to q: it is from 16 to 32
floor_of : (f q : ℕ) → 16 ≤ q → q ≤ 32 → floor (16 * f + q - 16) ≡ q * 2 ^ f
floor_of f q a b =
    let e : 16 * f + q - 16 ≡ 16 * f + (q - 16) = omega arith in
    let e' : 16 + (q - 16) ≡ q = omega arith in
    ap floor e ∙ floor_at f (q - 16) (omega arith) ∙ rw e'

module _ (s : ℕ) (h : 0 < s) where
  -- ---- the list of s

  pub down_bounds : (16 ≤ 16 * s / 2 ^ log s) × (16 * s / 2 ^ log s < 32)
  down_bounds =
      let t = log_top s h in (
        (le-div_iff_mul-le (pow_pos (log s))).1 (omega (arith, t.0)),
        (div-lt_iff_lt-mul (pow_pos (log s))).1 (omega (arith, t.1, pow-add 2 (log s) 1)),
      )

  -- s is not below its list
  pub list_low : floor (list_of s) ≤ 16 * s
  unfolding list_of
  list_low =
      rw (floor_of (log s) (16 * s / 2 ^ log s) down_bounds.0 (omega (arith, down_bounds.1)))
      (div-mul-le_self (16 * s) (2 ^ log s))

  -- s is below the next list
  pub list_high : 16 * s < floor (list_of s + 1)
  unfolding list_of
  list_high =
      let q = 16 * s / 2 ^ log s in
      let e : 16 * log s + q - 16 + 1 ≡ 16 * log s + (q + 1) - 16 = omega (arith, down_bounds.0) in
      rw (e, floor_of (log s) (q + 1) (omega (arith, down_bounds.0)) (omega (arith, down_bounds.1)))
      (omega (arith, lt-div-mul-add {a = 16 * s} (pow_pos (log s)), add-mul q 1 (2 ^ log s)))

  -- with n classes, every size below 2 ^ n grains has a list
  pub list_small : (n : ℕ) → s < 2 ^ n → list_of s < 16 * n
  unfolding list_of
  list_small n f = omega (arith, log_lt n s h f, down_bounds)

  -- ---- where a search for s starts

  pub up_bounds : (16 ≤ (16 * s + (2 ^ log s - 1)) / 2 ^ log s) × ((16 * s + (2 ^ log s - 1)) / 2 ^ log s ≤ 32)
  up_bounds =
      let t = log_top s h in
      let p = pow_pos (log s) in
      let b : (16 * s + (2 ^ log s - 1)) / 2 ^ log s < 33 = (div-lt_iff_lt-mul p).1 (omega (arith, t.1, pow-add 2 (log s) 1)) in
      ((le-div_iff_mul-le p).1 (omega (arith, t.0)), omega arith)

  start_floor : floor (start_of s) ≡ (16 * s + (2 ^ log s - 1)) / 2 ^ log s * 2 ^ log s
  unfolding start_of
  start_floor = floor_of (log s) ((16 * s + (2 ^ log s - 1)) / 2 ^ log s) up_bounds.0 up_bounds.1

  start_before :
      16 < (16 * s + (2 ^ log s - 1)) / 2 ^ log s
      → floor (start_of s - 1) ≡ ((16 * s + (2 ^ log s - 1)) / 2 ^ log s - 1) * 2 ^ log s
  unfolding start_of
  start_before p =
      let q = (16 * s + (2 ^ log s - 1)) / 2 ^ log s in
      let e : 16 * log s + q - 16 - 1 ≡ 16 * log s + (q - 1) - 16 = omega arith in
      ap floor e ∙ floor_of (log s) (q - 1) (omega arith) (omega (arith, up_bounds.1))

  -- the list where it starts has only blocks of s or more
  pub start_enough : 16 * s ≤ floor (start_of s)
  start_enough = rw start_floor (omega (arith, lt-div-mul-add {a = 16 * s + (2 ^ log s - 1)} (pow_pos (log s))))

  -- and it is the first such list
  pub start_first : (j : ℕ) → j < start_of s → floor j < 16 * s
  start_first j l = ⊎_elim (λ (p : up ≤ 16). least p) (λ (p : 16 < up). less p) (le? up 16)
    where
      up : ℕ
      up = (16 * s + (2 ^ log s - 1)) / 2 ^ log s

      at_up : floor (start_of s) ≡ up * 2 ^ log s
      at_up = start_floor

      least : up ≤ 16 → floor j < 16 * s
      least p =
          let e : up ≡ 16 = omega (arith, up_bounds.0) in
          let f : floor (start_of s) ≡ 16 * 2 ^ log s = rw e at at_up in
          omega (arith, f, floor_lt j (start_of s) l, log_top s h)

      less : 16 < up → floor j < 16 * s
      less p =
          let f : floor (start_of s - 1) ≡ (up - 1) * 2 ^ log s = start_before p in
          let d : (up - 1 + 1) * 2 ^ log s ≡ up * 2 ^ log s = ap (λ (x : ℕ). x * 2 ^ log s) (omega arith) in
          omega (
            arith,
            f,
            floor_mono j (start_of s - 1) (omega arith),
            div-mul-le_self (16 * s + (2 ^ log s - 1)) (2 ^ log s),
            add-mul (up - 1) 1 (2 ^ log s),
            d,
            pow_pos (log s),
          )

  -- it passes over less than one more sixteenth of s
  pub start_near : floor (start_of s) < 17 * s
  start_near = rw start_floor (omega (arith, div-mul-le_self (16 * s + (2 ^ log s - 1)) (2 ^ log s), log_top s h, pow_pos (log s)))

  -- with n classes, a search for less than 2 ^ n grains starts at a list or at none
  pub start_small : (n : ℕ) → s < 2 ^ n → start_of s ≤ 16 * n
  unfolding start_of
  start_small n f = omega (arith, log_lt n s h f, up_bounds)

-- ---- two sizes

-- each size has exactly one list: the one whose bounds it is in
pub list_is_lem : (s k : ℕ) → 0 < s → floor k ≤ 16 * s → 16 * s < floor (k + 1) → k ≡ list_of s
list_is_lem s k h a b =
    let p = floor_order k (list_of s + 1) (omega (arith, list_high s h)) in
    let q = floor_order (list_of s) (k + 1) (omega (arith, list_low s h)) in
    omega arith

-- the larger of two sizes is not in an earlier list
pub list_mono : (s t : ℕ) → 0 < s → s ≤ t → list_of s ≤ list_of t
list_mono s t h l =
    let p = floor_order (list_of s) (list_of t + 1) (omega (arith, list_low s h, list_high t (omega arith))) in
    omega arith

-- a size with no list is told: with n classes, 2 ^ n grains or more have a number that is no list's
pub list_large : (s n : ℕ) → 0 < s → 2 ^ n ≤ s → 16 * n ≤ list_of s
list_large s n h l =
    let e : floor (16 * n) ≡ 16 * 2 ^ n = ap floor (omega arith) ∙ floor_at n 0 (omega arith) in
    let p = floor_order (16 * n) (list_of s + 1) (omega (arith, e, list_high s h)) in
    omega arith

-- every block of a list at or after where the search starts fits
pub start_fits : (s t : ℕ) → 0 < s → 0 < t → start_of s ≤ list_of t → s ≤ t
start_fits s t h k l = omega (arith, start_enough s h, floor_mono (start_of s) (list_of t) l, list_low t k)

-- a search for 2 ^ n grains or more starts after the lists of n classes
pub start_large : (s n : ℕ) → 0 < s → 2 ^ n ≤ s → 16 * n ≤ start_of s
start_large s n h l =
    let e : floor (16 * n) ≡ 16 * 2 ^ n = ap floor (omega arith) ∙ floor_at n 0 (omega arith) in
    let p = floor_order (16 * n) (start_of s + 1) (omega (arith, e, start_enough s h, floor_lt (start_of s) (start_of s + 1) (omega arith))) in
    omega arith

-- good fit: a block of 17/16 of the size or more is in a list that the search looks at
pub good_fit : (s t : ℕ) → 0 < s → 17 * s ≤ 16 * t → start_of s ≤ list_of t
good_fit s t h l =
    let p = floor_order (start_of s) (list_of t + 1) (omega (arith, start_near s h, list_high t (omega arith))) in
    omega arith
