-- The block of a payload, as the tags say. Each law is one return of the code.
use Rattle.std.specs.Prelude.{ℕ, suc, ◌+◌, ◌-◌, ◌*◌, ◌/◌, ◌%◌, ◌≤◌, ◌<◌, ◌≡◌, List}
use Rattle.std.proofs.Common.{arith, sym, ◌∙◌}
use Rattle.std.proofs.Math.Path.{ap}
use Rattle.choice.specs.Choice.{eq_yes, eq_no}
use Rattle.table.specs.Table.{entry}
use Rattle.script.specs.Memory.{Memory, Next, Prev}
use Rattle.script.specs.Script.{no, run, unless_eq, unless_le, must_eq, must_le}
use Rattle.script.proofs.Script.{goes, halts, reads, gives_eq, gives_le, halts_eq, halts_le}
use Rattle.machine.specs.Machine.{guard_next, guard_prev}
use Rattle.tags.specs.Tag.{Tag, flags, START, SMALL, LARGE}
use Rattle.plans.specs.Checks.{must_grain, must_be, see_guard, owned, owner_small, owner_wide, owner_large, see_owner}
use Rattle.lent.specs.Slices.{grains, tag_of, memory_of, next_at, prev_at}
use Rattle.entries.specs.Answers.{held}
use Rattle.entries.specs.Decides.{Decides, decides_eq, decides_le, decides_lt, decides_read, decides_then, decides_last}

-- the size of a block of s grains at x, of which p are padding
abbrev pub Sized : ℕ → ℕ → ℕ → ℕ → Type 0
Sized n x s p = (1 ≤ s) × ((p ≤ s) × (x + s < n))

pub owned_decides : (m : Memory) (n x s p : ℕ) → Decides m (owned n x s p) (record { at = x; grains = s }) (Sized n x s p)
owned_decides m n x s p =
    decides_then m (must_le 1 s) _ (decides_le m 1 s)
    (decides_then m (must_le p s) _ (decides_le m p s)
    (decides_last m (must_grain n (x + s)) _ (decides_lt m (x + s) n)))

module _ (a l t g : List ℕ) where
  abbrev m : Memory
  m = held a l t g

  abbrev n : ℕ
  n = grains a

  -- ---- the guard

  pub guard_decides : (x : ℕ) → Decides m (see_guard x) (tt {0}) ((next_at a x ≡ guard_next x) × (prev_at a x ≡ guard_prev x))
  unfolding memory_of see_guard
  guard_decides x =
      decides_then m (must_be Next x (guard_next x)) _ (decides_read m Next x _ (decides_eq m (next_at a x) (guard_next x)))
      (decides_read m Prev x _ (decides_eq m (prev_at a x) (guard_prev x)))

  -- ---- where the payload is

  module _ (q : ℕ) where
    pub owner_outside : n ≤ q / 2 → run m (see_owner n q) ≡ no 3
    unfolding see_owner
    owner_outside h = halts m (unless_le 3 (suc q) (2 * n)) _ (halts_le m 3 (suc q) (2 * n) (omega arith))

    module _ (h : q / 2 < n) where
      pub owner_small_lem : q % 2 ≡ 1 → run m (see_owner n q) ≡ run m (owner_small n (q / 2))
      unfolding see_owner
      owner_small_lem e = goes m (unless_le 3 (suc q) (2 * n)) _ (gives_le m 3 (suc q) (2 * n) (omega arith)) ∙ ap (run m) (eq_yes (q % 2) 1 _ _ e)

      pub owner_large_lem : (q % 2 ≡ 1 → ⊥) → run m (see_owner n q) ≡ run m (owner_large n (q / 2))
      unfolding see_owner
      owner_large_lem e = goes m (unless_le 3 (suc q) (2 * n)) _ (gives_le m 3 (suc q) (2 * n) (omega arith)) ∙ ap (run m) (eq_no (q % 2) 1 _ _ e)

  -- ---- in the middle of grain x, whose entry v has the flags f

  module _ (x v f : ℕ) (v_is : v ≡ entry t x) (f_is : f ≡ tag_of v % flags) where
    pub small_dead : (f ≡ START + SMALL → ⊥) → run m (owner_small n x) ≡ no 3
    unfolding memory_of
    small_dead e = reads m Tag x _ (ap tag_of (sym v_is)) ∙ halts m (unless_eq 3 (tag_of v % flags) (START + SMALL)) _ (halts_eq m 3 _ _ (λ z. e (f_is ∙ z)))

    pub small_live : (s : ℕ) → s ≡ tag_of v / flags → f ≡ START + SMALL → run m (owner_small n x) ≡ run m (owned n x s 0)
    unfolding memory_of
    small_live s s_is e =
        reads m Tag x _ (ap tag_of (sym v_is)) ∙ goes m (unless_eq 3 (tag_of v % flags) (START + SMALL)) _ (gives_eq m 3 _ _ (sym f_is ∙ e))
        ∙ ap (λ (z : ℕ). run m (owned n x z 0)) (sym s_is)

  -- ---- at grain x

  pub large_first : (x : ℕ) → x ≡ 0 → run m (owner_large n x) ≡ no 3
  large_first x e = halts m (unless_le 3 1 x) _ (halts_le m 3 1 x (omega arith))

  -- the entry v of the grain before has the flags f
  module _ (x v f : ℕ) (some : x ≡ 0 → ⊥) (v_is : v ≡ entry t (x - 1)) (f_is : f ≡ tag_of v % flags) where
    pub large_near : (s : ℕ) → s ≡ tag_of v / flags → f ≡ START + LARGE → run m (owner_large n x) ≡ run m (owned n (x - 1) s 1)
    unfolding memory_of
    large_near s s_is e =
        goes m (unless_le 3 1 x) _ (gives_le m 3 1 x (omega (arith, some))) ∙ reads m Tag (x - 1) _ (ap tag_of (sym v_is))
        ∙ ap (run m) (eq_yes (tag_of v % flags) (START + LARGE) _ _ (sym f_is ∙ e)) ∙ ap (λ (z : ℕ). run m (owned n (x - 1) z 1)) (sym s_is)

    pub large_wide : (f ≡ START + LARGE → ⊥) → run m (owner_large n x) ≡ run m (owner_wide n x (tag_of v))
    unfolding memory_of
    large_wide e =
        goes m (unless_le 3 1 x) _ (gives_le m 3 1 x (omega (arith, some))) ∙ reads m Tag (x - 1) _ (ap tag_of (sym v_is))
        ∙ ap (run m) (eq_no (tag_of v % flags) (START + LARGE) _ _ (λ z. e (f_is ∙ z)))

  -- ---- with more padding: p grains, as the entry v says

  module _ (x v f : ℕ) (f_is : f ≡ tag_of v % flags) where
    pub wide_dead : (f ≡ LARGE → ⊥) → run m (owner_wide n x (tag_of v)) ≡ no 3
    wide_dead e = halts m (unless_eq 3 (tag_of v % flags) LARGE) _ (halts_eq m 3 _ _ (λ z. e (f_is ∙ z)))

    module _ (p : ℕ) (p_is : p ≡ tag_of v / flags) (e : f ≡ LARGE) where
      pub wide_short : p < 2 → run m (owner_wide n x (tag_of v)) ≡ no 5
      wide_short h =
          goes m (unless_eq 3 (tag_of v % flags) LARGE) _ (gives_eq m 3 _ _ (sym f_is ∙ e))
          ∙ halts m (must_le 2 (tag_of v / flags)) _ (halts_le m 5 2 _ (omega arith))

      module _ (h : 2 ≤ p) where
        pub wide_below : x < p → run m (owner_wide n x (tag_of v)) ≡ no 5
        wide_below k =
            goes m (unless_eq 3 (tag_of v % flags) LARGE) _ (gives_eq m 3 _ _ (sym f_is ∙ e))
            ∙ goes m (must_le 2 (tag_of v / flags)) _ (gives_le m 5 2 _ (omega arith))
            ∙ halts m (must_le (tag_of v / flags) x) _ (halts_le m 5 _ x (omega arith))

        -- the block starts at the entry u, with the flags d
        module _ (k : p ≤ x) (u d : ℕ) (u_is : u ≡ entry t (x - p)) (d_is : d ≡ tag_of u % flags) where
          there : tag_of (entry t (x - tag_of v / flags)) ≡ tag_of u
          there = ap tag_of (ap (λ (z : ℕ). entry t (x - z)) (sym p_is) ∙ sym u_is)

          pub wide_torn : (d ≡ START → ⊥) → run m (owner_wide n x (tag_of v)) ≡ no 5
          unfolding memory_of
          wide_torn z =
              goes m (unless_eq 3 (tag_of v % flags) LARGE) _ (gives_eq m 3 _ _ (sym f_is ∙ e))
              ∙ goes m (must_le 2 (tag_of v / flags)) _ (gives_le m 5 2 _ (omega arith))
              ∙ goes m (must_le (tag_of v / flags) x) _ (gives_le m 5 _ x (omega arith))
              ∙ reads m Tag (x - tag_of v / flags) _ there
              ∙ halts m (must_eq (tag_of u % flags) START) _ (halts_eq m 5 _ _ (λ y. z (d_is ∙ y)))

          pub wide_live : (s : ℕ) → s ≡ tag_of u / flags → d ≡ START → run m (owner_wide n x (tag_of v)) ≡ run m (owned n (x - p) s p)
          unfolding memory_of
          wide_live s s_is z =
              goes m (unless_eq 3 (tag_of v % flags) LARGE) _ (gives_eq m 3 _ _ (sym f_is ∙ e))
              ∙ goes m (must_le 2 (tag_of v / flags)) _ (gives_le m 5 2 _ (omega arith))
              ∙ goes m (must_le (tag_of v / flags) x) _ (gives_le m 5 _ x (omega arith))
              ∙ reads m Tag (x - tag_of v / flags) _ there
              ∙ goes m (must_eq (tag_of u % flags) START) _ (gives_eq m 5 _ _ (sym d_is ∙ z))
              ∙ ap (λ (w : ℕ). run m (owned n (x - w) (tag_of u / flags) w)) (sym p_is)
              ∙ ap (λ (w : ℕ). run m (owned n (x - p) w p)) (sym s_is)
