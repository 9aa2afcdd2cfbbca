-- What follows from specs/Fields.antt.
use Rattle.std.specs.Prelude.{ℕ, zero, suc, ◌*◌, ◌≤◌, ◌<◌, ◌≡◌, refl, List, length}
use Rattle.std.proofs.Common.{arith, sym, ◌∙◌, inl, inr}
use Rattle.std.proofs.Math.Path.{ap, subst}
use Rattle.choice.specs.Choice.{eq_case, upd}
use Rattle.table.specs.Table.{entry, enter, entry_enter, entry_other}
use Rattle.bits.specs.TableBit.{table_bit, set_table_bit, clear_table_bit}
use Rattle.bits.proofs.TableBit.{set_table_same, set_table_other, clear_table_same, clear_table_other}
use Rattle.bits.specs.Map.{map_words, map_bit, mark_bit, unmark_bit}
use Rattle.bits.proofs.Map.{mark_is_lem, unmark_is, mark_entry, unmark_entry}
use Rattle.script.specs.Memory.{Size, Before, Next, Prev, Mark, Live, Table, none}
use Rattle.slices.specs.Decode.{wrong_link, grains, Wide}
use Rattle.slices.proofs.Decode.{grains_none}
use Rattle.slices.specs.Arena.{put_size, put_link}
use Rattle.slices.proofs.Arena.{put_size_grains, put_link_grains, changed_at, size_is, size_link, link_size, link_field, link_is}
use Rattle.slices.specs.Heads.{put_head}
use Rattle.slices.proofs.Heads.{head_map, root_is, next_is_lem, next_keep, heads_keep}
use Rattle.slices.specs.Slices.{Slices, memory_of, with_arena, with_lists, with_live, with_next, store_at, Bit, Fits}
use Rattle.slices.proofs.Slices.{store_root, store_next}
use Rattle.slices.specs.Fields.{Becomes}

-- what holds of each field, and of the numbers that are none
pub by_field : (P : ℕ → Type 0) → P Size → P Before → P Next → P Prev → P Mark → P Live → P Table
    → ((f : ℕ) → P (suc (suc (suc (suc (suc (suc (suc f)))))))) → (f : ℕ) → P f
by_field P a b c d e l t o zero = a
by_field P a b c d e l t o (suc zero) = b
by_field P a b c d e l t o (suc (suc zero)) = c
by_field P a b c d e l t o (suc (suc (suc zero))) = d
by_field P a b c d e l t o (suc (suc (suc (suc zero)))) = e
by_field P a b c d e l t o (suc (suc (suc (suc (suc zero))))) = l
by_field P a b c d e l t o (suc (suc (suc (suc (suc (suc zero)))))) = t
by_field P a b c d e l t o (suc (suc (suc (suc (suc (suc (suc f))))))) = o f

-- a bit that is not 0
not_zero : {v : ℕ} → (v ≡ 0 → ⊥) → Bit v → v ≡ 1
not_zero n (inl e) = absurd (n e)
not_zero n (inr e) = e

module _ (w : ℕ) (S : Slices) (wide : Wide w S.arena) (p v : ℕ) where
  -- v can be stored in field f at p
  abbrev Fit : ℕ → Type 0
  Fit f = Fits (grains w S.arena) (length S.lists) (length S.live) (length S.regions) f p v

  -- field g of T is that of S, if f is another field
  abbrev Same : Slices → ℕ → ℕ → Type 0
  Same T f g = (f ≡ g → ⊥) → (y : ℕ) → memory_of w T g y ≡ memory_of w S g y

  -- ---- in the arena

  -- a size
  size_stored : Fit Size → Becomes w S Size p v (store_at w S Size p v)
  unfolding memory_of
  size_stored h = record {
    here = size_is w S.arena p v wide h.0 h.1;
    elsewhere = by_field (Same (store_at w S Size p v) Size)
        (λ n. absurd (n refl))
        (λ n y. size_link w S.arena p v Before wrong_link y (omega arith) (omega arith))
        (λ n y. next_keep w S.arena (put_size w S.arena p v) S.lists y (put_size_grains w S.arena p v)
        (size_link w S.arena p v Next none y (omega arith) (omega arith)))
        (λ n y. size_link w S.arena p v Prev wrong_link y (omega arith) (omega arith))
        (λ n y. refl) (λ n y. refl) (λ n y. refl) (λ g n y. refl);
  }

  -- a link in field f leaves the other fields alone
  link_elsewhere : (f : ℕ) → 1 ≤ f → f < 4 → (g : ℕ) → Same (with_arena S (put_link w S.arena f p v)) f g
  unfolding memory_of
  link_elsewhere f l k = by_field (Same (with_arena S (put_link w S.arena f p v)) f)
      (λ n y. link_size w S.arena f p v y l k)
      (λ n y. link_field w S.arena f p v Before wrong_link y k (omega arith) n)
      (λ n y. next_keep w S.arena (put_link w S.arena f p v) S.lists y (put_link_grains w S.arena f p v)
      (link_field w S.arena f p v Next none y k (omega arith) n))
      (λ n y. link_field w S.arena f p v Prev wrong_link y k (omega arith) n)
      (λ n y. refl) (λ n y. refl) (λ n y. refl) (λ g n y. refl)

  -- the block before
  before_stored : Fit Before → Becomes w S Before p v (store_at w S Before p v)
  unfolding memory_of
  before_stored h = record {
    here = link_is w S.arena Before p v wide h.0 (omega arith) h.1 wrong_link;
    elsewhere = link_elsewhere Before (omega arith) (omega arith);
  }

  -- the previous free block
  prev_stored : Fit Prev → Becomes w S Prev p v (store_at w S Prev p v)
  unfolding memory_of
  prev_stored h = record {
    here = link_is w S.arena Prev p v wide h.0 (omega arith) h.1 wrong_link;
    elsewhere = link_elsewhere Prev (omega arith) (omega arith);
  }

  -- the next of a grain, and of a root
  next_stored : Fit Next → Becomes w S Next p v (store_at w S Next p v)
  unfolding memory_of
  next_stored (inl h, l) = subst (Becomes w S Next p v) (sym (store_next w S p v (omega (arith, grains_none wide)))) (record {
    here = next_is_lem w S.arena S.lists p v wide h l;
    elsewhere = link_elsewhere Next (omega arith) (omega arith);
  })
  next_stored (inr r, l) = subst (Becomes w S Next p v) (sym (ap (λ (q : ℕ). with_next w S q v) r.place ∙ store_root w S r.list v)) (record {
    here = λ y. root_is w S.arena S.lists r.list v wide r.known r.room l y
        ∙ ap (λ (q : ℕ). upd (memory_of w S Next) q v y) (sym r.place);
    elsewhere = by_field (Same (with_lists S (put_head (4 * w) S.lists r.list v)) Next)
        (λ n y. refl) (λ n y. refl) (λ n. absurd (n refl)) (λ n y. refl)
        (λ n. head_map (4 * w) S.lists r.list v)
        (λ n y. refl) (λ n y. refl) (λ g n y. refl);
  })

  -- ---- in the tables

  -- a map that changed at p, and nothing behind it
  map_stored : (t : List ℕ) → ((y : ℕ) → map_bit t y ≡ upd (map_bit S.lists) p v y)
      → ((j : ℕ) → map_words ≤ j → entry t j ≡ entry S.lists j) → Becomes w S Mark p v (with_lists S t)
  unfolding memory_of
  map_stored t m e = record {
    here = m;
    elsewhere = by_field (Same (with_lists S t) Mark)
        (λ n y. refl) (λ n y. refl)
        (λ n y. heads_keep w S.arena S.lists t y e)
        (λ n y. refl) (λ n. absurd (n refl)) (λ n y. refl) (λ n y. refl) (λ g n y. refl);
  }

  -- a mark
  mark_stored : Fit Mark → Becomes w S Mark p v (store_at w S Mark p v)
  mark_stored h = eq_case (λ (t : List ℕ). Becomes w S Mark p v (with_lists S t)) v 0 _ _
      (λ e. map_stored (unmark_bit S.lists p) (λ y. unmark_is S.lists p h.1 h.0 y ∙ marked y (sym e)) (unmark_entry S.lists p h.0))
      (λ n. map_stored (mark_bit S.lists p) (λ y. mark_is_lem S.lists p h.1 h.0 y ∙ marked y (sym (not_zero n h.2))) (mark_entry S.lists p h.0))
    where
      marked : (y : ℕ) {b : ℕ} → b ≡ v → upd (map_bit S.lists) p b y ≡ upd (map_bit S.lists) p v y
      marked y e = ap (λ (q : ℕ). upd (map_bit S.lists) p q y) e

  -- live bits that changed at p
  bits_stored : (t : List ℕ) → table_bit t p ≡ v → ((y : ℕ) → (p ≡ y → ⊥) → table_bit t y ≡ table_bit S.live y) → Becomes w S Live p v (with_live S t)
  unfolding memory_of
  bits_stored t e o = record {
    here = changed_at (table_bit S.live) (table_bit t) p v e o;
    elsewhere = by_field (Same (with_live S t) Live)
        (λ n y. refl) (λ n y. refl) (λ n y. refl) (λ n y. refl) (λ n y. refl) (λ n. absurd (n refl)) (λ n y. refl) (λ g n y. refl);
  }

  -- a live bit
  live_stored : Fit Live → Becomes w S Live p v (store_at w S Live p v)
  live_stored h = eq_case (λ (t : List ℕ). Becomes w S Live p v (with_live S t)) v 0 _ _
      (λ e. bits_stored (clear_table_bit S.live p) (clear_table_same S.live p h.0 ∙ sym e) (clear_table_other S.live p h.0))
      (λ n. bits_stored (set_table_bit S.live p) (set_table_same S.live p h.0 ∙ sym (not_zero n h.1)) (set_table_other S.live p h.0))

  -- an entry of the regions
  table_stored : Fit Table → Becomes w S Table p v (store_at w S Table p v)
  unfolding memory_of
  table_stored h = record {
    here = changed_at (entry S.regions) (entry (enter S.regions p v)) p v (entry_enter S.regions p v h.0) (entry_other S.regions p v);
    elsewhere = by_field (Same (store_at w S Table p v) Table)
        (λ n y. refl) (λ n y. refl) (λ n y. refl) (λ n y. refl) (λ n y. refl) (λ n y. refl) (λ n. absurd (n refl)) (λ g n y. refl);
  }

  -- whatever the field
  pub field_stored : (f : ℕ) → Fit f → Becomes w S f p v (store_at w S f p v)
  field_stored = by_field (λ f. Fit f → Becomes w S f p v (store_at w S f p v))
      size_stored before_stored next_stored prev_stored mark_stored live_stored table_stored (λ f h. absurd h)
