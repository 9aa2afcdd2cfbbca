-- The free blocks beside a used one, as the tags and the lists say. Each law is one return of the code.
use Rattle.std.specs.Prelude.{ℕ, suc, ◌+◌, ◌-◌, ◌/◌, ◌%◌, ◌≤◌, ◌<◌, ◌≡◌, Bool, List}
use Rattle.std.proofs.Common.{arith, ◌∙◌}
use Rattle.std.proofs.Math.Path.{ap, sym}
use Rattle.choice.specs.Choice.{eq_yes, eq_no}
use Rattle.choice.specs.Says.{Says}
use Rattle.table.specs.Table.{entry}
use Rattle.class.specs.Class.{list_of}
use Rattle.script.specs.Memory.{Memory}
use Rattle.script.specs.Script.{ok, no, run, must_le}
use Rattle.script.proofs.Script.{goes, halts, reads, gives_done, gives_eq, gives_le, halts_eq, halts_le}
use Rattle.machine.specs.Machine.{classes, piece}
use Rattle.tags.specs.Tag.{Tag, flags, START, FREE, free_tag}
use Rattle.tags.specs.Decode.{Busy}
use Rattle.plans.specs.Checks.{must_grain, must_list, must_be, must_busy, see_free, see_entry, listed, free_after, see_after, free_before, see_before}
use Rattle.lent.specs.Slices.{grains, tag_words, tag_of, tag_word, memory_of}
use Rattle.lent.proofs.TagWords.{tag_is}
use Rattle.entries.specs.Answers.{held, answer}
use Rattle.entries.specs.Decides.{decided, decides_last}
use Rattle.entries.specs.Seen.{decides_busy}
use Rattle.entries.specs.Sizes.{list_there, list_missing}

module _ (a l t g : List ℕ) where
  abbrev m : Memory
  m = held a l t g

  abbrev n : ℕ
  n = grains a

  -- ---- the free block of s grains at y, in its list k

  module _ (y s : ℕ) (some : 0 < s) where
    pub listed_long : piece ≤ s → run m (listed n classes y s) ≡ no 5
    listed_long h = halts m (must_list classes s) _ (list_missing m s some h)

    pub listed_torn : s < piece → (k i : ℕ) → k ≡ list_of s → run m (see_entry n k y) ≡ no i → run m (listed n classes y s) ≡ no i
    listed_torn h k i e w = goes m (must_list classes s) _ (list_there m s some h) ∙ halts m (see_entry n (list_of s) y) _ (ap (λ (j : ℕ). run m (see_entry n j y)) (sym e) ∙ w)

    pub listed_seen : s < piece → (k : ℕ) → k ≡ list_of s → run m (see_entry n k y) ≡ ok (tt {0}) → run m (listed n classes y s) ≡ ok s
    listed_seen h k e w =
        goes m (must_list classes s) _ (list_there m s some h) ∙ goes m (see_entry n (list_of s) y) _ (ap (λ (j : ℕ). run m (see_entry n j y)) (sym e) ∙ w)
        ∙ gives_done m s

  -- ---- after a used block, from y on

  module _ (y : ℕ) where
    pub after_torn : (i : ℕ) → run m (see_free n y) ≡ no i → run m (free_after n classes y) ≡ no i
    after_torn i h = halts m (see_free n y) _ h

    pub after_whole : (s : ℕ) → run m (see_free n y) ≡ ok s → run m (free_after n classes y) ≡ run m (listed n classes y s)
    after_whole s h = goes m (see_free n y) _ h

    pub after_outside : n ≤ y → run m (see_after n classes y) ≡ no 5
    unfolding see_after
    after_outside h = halts m (must_grain n y) _ (halts_le m 5 (suc y) n (omega arith))

    -- the entry v has the flags f
    module _ (h : y < n) (v f : ℕ) (v_is : v ≡ entry t y) (f_is : f ≡ tag_of v % flags) where
      pub after_free : f ≡ START + FREE → run m (see_after n classes y) ≡ run m (free_after n classes y)
      unfolding memory_of see_after
      after_free e =
          goes m (must_grain n y) _ (gives_le m 5 (suc y) n (omega arith)) ∙ reads m Tag y _ (ap tag_of (sym v_is))
          ∙ ap (run m) (eq_yes (tag_of v % flags) (START + FREE) _ _ (sym f_is ∙ e))

      pub after_used : (f ≡ START + FREE → ⊥) → (r : Bool) → Says (Busy (tag_of v)) r → run m (see_after n classes y) ≡ answer r 0
      unfolding memory_of see_after
      after_used e r w =
          goes m (must_grain n y) _ (gives_le m 5 (suc y) n (omega arith)) ∙ reads m Tag y _ (ap tag_of (sym v_is))
          ∙ ap (run m) (eq_no (tag_of v % flags) (START + FREE) _ _ (λ z. e (f_is ∙ z)))
          ∙ decided (decides_last m (must_busy (tag_of v)) 0 (decides_busy m (tag_of v))) r w

  -- ---- before a used block, up to x

  module _ (x : ℕ) where
    pub before_first : x ≡ 0 → run m (see_before n classes x) ≡ ok 0
    unfolding see_before
    before_first e = ap (run m) (eq_yes x 0 _ _ e) ∙ gives_done m 0

    -- the entry v of the grain before
    module _ (some : x ≡ 0 → ⊥) (v : ℕ) (v_is : v ≡ entry t (x - 1)) where
      pub before_used : (tag_of v % START ≡ FREE → ⊥) → run m (see_before n classes x) ≡ ok 0
      unfolding memory_of see_before
      before_used e =
          ap (run m) (eq_no x 0 _ _ some) ∙ reads m Tag (x - 1) _ (ap tag_of (sym v_is)) ∙ ap (run m) (eq_no (tag_of v % START) FREE _ _ e) ∙ gives_done m 0

      pub before_free : tag_of v % START ≡ FREE → (s : ℕ) → s ≡ tag_of v / flags → run m (see_before n classes x) ≡ run m (free_before n classes x s)
      unfolding memory_of see_before
      before_free e s s_is =
          ap (run m) (eq_no x 0 _ _ some) ∙ reads m Tag (x - 1) _ (ap tag_of (sym v_is)) ∙ ap (run m) (eq_yes (tag_of v % START) FREE _ _ e)
          ∙ ap (λ (z : ℕ). run m (free_before n classes x z)) (sym s_is)

    -- s grains of it
    module _ (s : ℕ) where
      pub before_none : s < 1 → run m (free_before n classes x s) ≡ no 5
      before_none h = halts m (must_le 1 s) _ (halts_le m 5 1 s h)

      module _ (some : 1 ≤ s) where
        pub before_outside : x < s → run m (free_before n classes x s) ≡ no 5
        before_outside h = goes m (must_le 1 s) _ (gives_le m 5 1 s some) ∙ halts m (must_le s x) _ (halts_le m 5 s x h)

        -- the entry v where it starts, and the one w that is due
        module _ (h : s ≤ x) (k : s < piece) (v w : ℕ) (fits : v < tag_words) (v_is : v ≡ entry t (x - s)) (w_is : w ≡ tag_word (free_tag s)) where
          pub before_other : (v ≡ w → ⊥) → run m (free_before n classes x s) ≡ no 5
          unfolding memory_of
          before_other e =
              goes m (must_le 1 s) _ (gives_le m 5 1 s some) ∙ goes m (must_le s x) _ (gives_le m 5 s x h)
              ∙ halts m (must_be Tag (x - s) (free_tag s)) _
              (reads m Tag (x - s) _ (ap tag_of (sym v_is)) ∙ halts_eq m 5 (tag_of v) (free_tag s) (λ z. e ((tag_is v fits (free_tag s) (omega arith)).0 z ∙ sym w_is)))

          pub before_listed : v ≡ w → run m (free_before n classes x s) ≡ run m (listed n classes (x - s) s)
          unfolding memory_of
          before_listed e =
              goes m (must_le 1 s) _ (gives_le m 5 1 s some) ∙ goes m (must_le s x) _ (gives_le m 5 s x h)
              ∙ goes m (must_be Tag (x - s) (free_tag s)) _
              (reads m Tag (x - s) _ (ap tag_of (sym v_is)) ∙ gives_eq m 5 (tag_of v) (free_tag s) ((tag_is v fits (free_tag s) (omega arith)).1 (e ∙ w_is)))
