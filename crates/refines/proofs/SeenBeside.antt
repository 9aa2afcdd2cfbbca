-- On a memory that stands for a heap the checks beside a used block pass, and tell how many grains are free there.
use Rattle.std.specs.Prelude.{ℕ, ◌+◌, ◌-◌, ◌/◌, ◌%◌, ◌^◌, ◌≤◌, ◌<◌, ◌≡◌, List, [], ◌∷◌, ◌⊎◌}
use Rattle.std.proofs.Common.{arith, sym, ◌∙◌, inl, inr}
use Rattle.std.proofs.Math.Path.{refl, ap, subst}
use Rattle.choice.specs.Choice.{if_eq, eq_yes, eq_no, eq_case}
use Rattle.class.specs.Class.{list_of}
use Rattle.definition.specs.Blocks.{Block, free, used, last, gap, total, ◌⟨⟩◌, room, past}
use Rattle.definition.specs.Lists.{Lists}
use Rattle.definition.specs.Calls.{Heap}
use Rattle.invariants.specs.Order.{busy, Ordered, OrderedL, order_split, BlockAt, LeftAt, at_join, at_here}
use Rattle.invariants.proofs.Pieces.{used_listed}
use Rattle.invariants.proofs.Neighbours.{total_past, swallow}
use Rattle.script.specs.Memory.{Memory}
use Rattle.script.specs.Script.{Script, done, ◌>>◌, must_le, run, Gives}
use Rattle.script.proofs.Script.{gives_bind, gives_get, gives_le, gives_done}
use Rattle.tags.specs.Tag.{Tag, flags, START, FREE, free_tag, Tagged, TaggedL}
use Rattle.tags.proofs.Tagged.{tagged_split}
use Rattle.tags.proofs.Decode.{first_free, free_here, behind_tag, before_tag, busy_tag}
use Rattle.plans.specs.Checks.{must_grain, must_list, must_be, must_busy, see_free, see_entry, listed, free_after, see_after, free_before, see_before}
use Rattle.armour.specs.Row.{Sound}
use Rattle.refines.proofs.Seen.{gives_be, gives_grain, gives_busy, used_inside, sound_ok, free_some, free_below, whole_gives, entry_gives, list_gives}

-- a free block is in the list of its size
pub listed_gives : (n c : ℕ) (m : Memory) (h : Heap) → Sound n c m h → (y s : ℕ) → BlockAt y (free s) 0 h.blocks → Gives m (listed n c y s) s
listed_gives n c m h o y s b =
    gives_bind m (must_list c s) _ (list_gives n c m h o s (free_some n c m h o y s b) (free_below n c m h o y s b))
    (gives_bind m (see_entry n (list_of s) y) _ (entry_gives n c m h o (list_of s) y (o.exact.listed y s b)) (gives_done m s))

-- the free block before a place
before_free : (l : List Block) → 1 ≤ room l → LeftAt (total l - room l) (free (room l)) l
before_free [] h = absurd (omega arith)
before_free (free s ∷ l) h = inl (omega arith, refl)
before_free (used s d ∷ l) h = absurd (omega arith)
before_free (last ∷ l) h = absurd (omega arith)
before_free (gap ∷ l) h = absurd (omega arith)

module _ (n c : ℕ) (m : Memory) (f : Lists) (l r : List Block) (s d : ℕ) (o : Sound n c m (record { blocks = l ⟨⟩ used s d ∷ r; lists = f })) where
  abbrev heap : Heap
  heap = record { blocks = l ⟨⟩ used s d ∷ r; lists = f }

  parts : OrderedL l × Ordered busy r
  parts = let i = order_split l (used s d ∷ r) o.row.order in (i.0, i.1.2)

  rows : TaggedL (m Tag) l × Tagged (m Tag) (total l) (used s d ∷ r)
  rows = tagged_split (m Tag) l (used s d ∷ r) o.row.tags

  inside : total l + s < n
  inside = used_inside n c m (l ⟨⟩ used s d ∷ r) o.row (total l) s d (at_here l r (used s d))

  pub after_gives : Gives m (see_after n c (total l + s)) (room r)
  unfolding see_after
  after_gives = gives_bind m (must_grain n (total l + s)) _ (gives_grain m n (total l + s) inside)
      (gives_get m Tag (total l + s) _ refl (go (behind_tag (m Tag) (total l + s) r parts.1 rows.1.1).room))
    where
      go : ((m Tag (total l + s) % flags ≡ START + FREE) × (m Tag (total l + s) / flags ≡ room r) × (1 ≤ room r)) ⊎ ((m Tag (total l + s) % flags ≡ START + FREE → ⊥) × (room r ≡ 0))
          → Gives m (if_eq (m Tag (total l + s) % flags) (START + FREE) (free_after n c (total l + s)) (must_busy (m Tag (total l + s)) >> done 0)) (room r)
      go (inl k) =
          let b : BlockAt (total l + s) (free (room r)) 0 (l ⟨⟩ used s d ∷ r) = subst (λ (t : ℕ). BlockAt (total l + s) (free t) 0 (l ⟨⟩ used s d ∷ r)) k.1
          (free_here (m Tag) (l ⟨⟩ used s d ∷ r) o.row.order o.row.tags (total l + s) (omega (arith, inside, o.row.whole)) k.0) in
          ap (run m) (eq_yes (m Tag (total l + s) % flags) (START + FREE) _ _ k.0)
          ∙ gives_bind m (see_free n (total l + s)) _ (whole_gives n c m heap o (total l + s) (room r) b) (listed_gives n c m heap o (total l + s) (room r) b)
      go (inr k) =
          ap (run m) (eq_no (m Tag (total l + s) % flags) (START + FREE) _ _ k.0)
          ∙ gives_bind m (must_busy (m Tag (total l + s))) _ (gives_busy m _ (busy_tag (m Tag) (total l + s) busy r tt parts.1 rows.1.1 k.1))
          (subst (Gives m (done 0)) (sym k.1) (gives_done m 0))

  pub before_gives : Gives m (see_before n c (total l)) (room l)
  unfolding see_before
  before_gives = eq_case (λ (t : Script ℕ). Gives m t (room l)) (total l) 0 _ _
      (λ e. none (omega (arith, total_past l, e)))
      (λ e. gives_get m Tag (total l - 1) _ refl (go (before_tag (m Tag) l parts.0 rows.0 (omega (arith, e))).room))
    where
      none : room l ≡ 0 → Gives m (done 0) (room l)
      none e = subst (Gives m (done 0)) (sym e) (gives_done m 0)

      some : 1 ≤ room l → Gives m (free_before n c (total l) (room l)) (room l)
      some h =
          let b : BlockAt (total l - room l) (free (room l)) 0 (l ⟨⟩ used s d ∷ r) = at_join (total l - room l) (free (room l)) l (used s d ∷ r) (inl (before_free l h)) in
          gives_bind m (must_le 1 (room l)) _ (gives_le m 5 1 (room l) h)
          (gives_bind m (must_le (room l) (total l)) _ (gives_le m 5 (room l) (total l) (omega (arith, total_past l)))
          (gives_bind m (must_be Tag (total l - room l) (free_tag (room l))) _
          (gives_be m Tag (total l - room l) (free_tag (room l)) (first_free (m Tag) (l ⟨⟩ used s d ∷ r) o.row.order o.row.tags (total l - room l) (room l) b))
          (listed_gives n c m heap o (total l - room l) (room l) b)))

      go : ((m Tag (total l - 1) % START ≡ FREE) × (m Tag (total l - 1) / flags ≡ room l) × (1 ≤ room l)) ⊎ ((m Tag (total l - 1) % START ≡ FREE → ⊥) × (room l ≡ 0))
          → Gives m (if_eq (m Tag (total l - 1) % START) FREE (free_before n c (total l) (m Tag (total l - 1) / flags)) (done 0)) (room l)
      go (inl k) =
          ap (run m) (eq_yes (m Tag (total l - 1) % START) FREE _ _ k.0)
          ∙ subst (λ (t : ℕ). Gives m (free_before n c (total l) t) (room l)) (sym k.1) (some k.2)
      go (inr k) = ap (run m) (eq_no (m Tag (total l - 1) % START) FREE _ _ k.0) ∙ none k.1

  -- the block and what is free beside it are part of one piece: together they have a list
  pub around_short : room l + (s + room r) < 2 ^ c
  around_short =
      let w = swallow c f l r s d (sound_ok n c m heap o) in
      let t = room l + (s + room r) in
      used_listed c (past l) (past r) t 1 (order_split (past l) (used t 1 ∷ past r) w.order).1.2 w.short
