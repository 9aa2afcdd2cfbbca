-- What follows from specs/ElsewhereMeets.antt.
use Rattle.std.specs.Prelude.{ℕ, ◌+◌, ◌-◌, ◌≤◌, ◌<◌, ◌≡◌, List, [], ◌∷◌, ◌++◌}
use Rattle.std.proofs.Common.{arith, sym, ◌∙◌, subst, ⊎_elim}
use Rattle.std.proofs.Math.Path.{ap}
use Rattle.choice.specs.Choice.{eq_case}
use Rattle.class.specs.Class.{list_of}
use Rattle.definition.specs.Blocks.{Block, free, used, total, ◌⟨⟩◌, room, past}
use Rattle.definition.specs.Lists.{Lists, push, drop, skip, found}
use Rattle.definition.specs.Calls.{Heap, wanted, place, keeps, join}
use Rattle.invariants.specs.Members.{Mem, Apiece, apiece_drop}
use Rattle.invariants.specs.Moves.{Ok, Sane}
use Rattle.invariants.proofs.Neighbours.{total_past, join_ok}
use Rattle.invariants.specs.Placing.{Align}
use Rattle.invariants.specs.Promises.{sought}
use Rattle.script.specs.Memory.{Memory, Next, Prev}
use Rattle.chains.specs.Steps.{Step, leave, steps_lists}
use Rattle.chains.proofs.Steps.{lists_append}
use Rattle.chains.specs.Legal.{NotIn, Legal}
use Rattle.chains.proofs.Legal.{legal_append}
use Rattle.chains.specs.Closed.{Headed}
use Rattle.plans.specs.Deeds.{after}
use Rattle.plans.proofs.Checked.{join_checked}
use Rattle.plans.proofs.Planned.{taken_checked}
use Rattle.plans.specs.Allocate.{taken_steps}
use Rattle.plans.specs.Deallocate.{leave_steps, beside_steps, join_steps}
use Rattle.plans.specs.Reallocate.{elsewhere_deed}
use Rattle.armour.specs.Row.{Sound, Free}
use Rattle.armour.proofs.Known.{headed_known, whole_block}
use Rattle.armour.specs.Apart.{Cramped}
use Rattle.armour.specs.Allocates.{first_at}
use Rattle.armour.proofs.Allocates.{handed, kept_some, kept_fits, taken_found}
use Rattle.armour.proofs.Elsewhere.{apart_old, clear_old, rooms, away_defined, away_turns, Parted, parted}
use Rattle.refines.proofs.Sounds.{sound_after}
use Rattle.refines.proofs.Seen.{sound_ok}
use Rattle.refines.proofs.Listed.{both_lists, both_legal, both_none, rest_legal}
use Rattle.refines.specs.Commute.{Absent}
use Rattle.refines.proofs.Commute.{skip_through, skip_keeps, skip_fewer, skip_apiece}
use Rattle.refines.proofs.AllocateMeets.{taken_here, head_member, rest_none, taken_lists}
use Rattle.refines.specs.DeallocateMeets.{Here}
use Rattle.refines.proofs.DeallocateMeets.{seen_after, seen_before, joins}
use Rattle.refines.specs.ElsewhereMeets.{Away}

module _ (n c p a : ℕ) (m : Memory) (f : Lists) (al : Align a) (k q : List Block) (g : ℕ) (o : Sound n c m (record { blocks = k ⟨⟩ free g ∷ q; lists = f })) (enough : wanted p a ≤ g)
    (found_it : sought c (record { blocks = k ⟨⟩ free g ∷ q; lists = f }) p a ≡ found (list_of g) (total k))
    (good : Ok c (handed n c p a m f k q g al o.row enough))
    (l r : List Block) (s d : ℕ) (e : k ⟨⟩ free g ∷ q ≡ l ⟨⟩ used s d ∷ r) (cramped : Cramped p a l r s d) where
  abbrev kept : ℕ
  kept = keeps (place a (total k)) p

  old : Sound n c m (Here f l r s d)
  old = subst (λ (zs : List Block). Sound n c m (record { blocks = zs; lists = f })) e o

  part : Parted n c p a m f al k q g o.row enough l s d
  part = parted n c p a m f al k q g o.row enough l r s d e

  abbrev l' : List Block
  l' = part.before

  abbrev r' : List Block
  r' = part.behind

  abbrev took : Heap
  took = handed n c p a m f k q g al o.row enough

  abbrev result : Heap
  result = join took.lists l' s r'

  same_rooms : (room l ≡ room l') × (room r ≡ room r')
  same_rooms = rooms n c p a m f al k q g o.row enough l r s d e cramped l' r' part.whole part.place

  fits : kept ≤ g
  fits = kept_fits n c p a m f k q g al o.row enough

  some : 1 ≤ kept
  some = kept_some n c p a m f k q g al o.row enough

  -- ---- what is taken is no neighbour, and neither is its rest

  not_after : (u : ℕ) → total k ≤ u → u < total k + g → u ≡ total l + s → ⊥
  not_after u lo hi z = ⊎_elim (λ (h : total k + g < total l). omega arith) (λ (h : total l + s < total k). omega arith)
      (apart_old n c p a m f al k q g o.row enough l r s d e cramped l' r' part.whole part.place)

  not_before : (u : ℕ) → total k ≤ u → u < total k + g → u ≡ total l - room l → ⊥
  not_before u lo hi z = ⊎_elim (λ (h : total k + g ≤ total (past l)). omega (arith, total_past l)) (λ (h : total l + (s + room r) ≤ total k). omega (arith, (whole_block n c m l r s d old.row).0))
      (clear_old n c p a m f al k q g o.row enough l r s d e cramped l' r' part.whole part.place)

  absent : (z : ℕ) → ((u : ℕ) → total k ≤ u → u < total k + g → u ≡ z → ⊥) → Absent z (taken_steps p a (first_at (total k) g))
  absent z h = (h (total k) (omega arith) (omega (arith, some, fits)), eq_case (Absent z) kept g _ _ (λ _. tt) (λ ne. (h (total k + kept) (omega arith) (omega (arith, fits, ne)), tt)))

  -- ---- the lists

  abbrev taken : List Step
  taken = taken_steps p a (first_at (total k) g)

  abbrev side_steps : List Step
  side_steps = beside_steps (total l) s (room l) (room r)

  -- the neighbours may leave first
  swapped : steps_lists (steps_lists f side_steps) taken ≡ steps_lists (steps_lists f taken) side_steps
  swapped =
      let a1 = leave_steps (room r) (total l + s) in
      let a2 = leave_steps (room l) (total l - room l) in
      ap (λ (h : Lists). steps_lists h taken) (lists_append f a1 a2)
      ∙ skip_through (steps_lists f a1) (room l) (total l - room l) taken (absent (total l - room l) not_before)
      ∙ ap (λ (h : Lists). steps_lists h a2) (skip_through f (room r) (total l + s) taken (absent (total l + s) not_after))
      ∙ sym (lists_append (steps_lists f taken) a1 a2)

  same_steps : side_steps ≡ beside_steps (total l') s (room l') (room r')
  same_steps = ap (λ (x : ℕ). beside_steps x s (room l) (room r)) part.place ∙ ap (λ (i : ℕ). beside_steps (total l') s i (room r)) same_rooms.0 ∙ ap (λ (j : ℕ). beside_steps (total l') s (room l') j) same_rooms.1

  took_ok : Sane c (l' ⟨⟩ used s d ∷ r') took.lists
  took_ok = subst (λ (zs : List Block). Sane c zs took.lists) part.whole good

  before_join : steps_lists f (side_steps ++ taken) ≡ skip l' (total (past l')) (skip r' (total l' + s) took.lists)
  before_join = lists_append f side_steps taken ∙ swapped
      ∙ ap (λ (h : Lists). steps_lists h side_steps) (taken_lists n c p a m f k q g al o enough found_it)
      ∙ ap (steps_lists took.lists) same_steps ∙ both_lists c took.lists l' r' s d took_ok

  start_same : total l - room l ≡ total (past l')
  start_same = omega (arith, part.place, same_rooms.0, total_past l')

  size_same : room l + (s + room r) ≡ room l' + (s + room r')
  size_same = omega (arith, same_rooms.0, same_rooms.1)

  end_lists : steps_lists f ((side_steps ++ taken) ++ join_steps (total l) s (room l) (room r)) ≡ result.lists
  unfolding join
  end_lists = lists_append f (side_steps ++ taken) (join_steps (total l) s (room l) (room r))
      ∙ ap (λ (h : Lists). push (list_of (room l + (s + room r))) (total l - room l) h) before_join
      ∙ ap (λ (z : ℕ). push (list_of (room l + (s + room r))) z (skip l' (total (past l')) (skip r' (total l' + s) took.lists))) start_same
      ∙ ap (λ (t : ℕ). push (list_of t) (total (past l')) (skip l' (total (past l')) (skip r' (total l' + s) took.lists))) size_same

  -- ---- the steps are legal

  side_apiece : Apiece (steps_lists f side_steps)
  side_apiece = let a1 = leave_steps (room r) (total l + s) in
      subst Apiece (sym (lists_append f a1 (leave_steps (room l) (total l - room l)))) (skip_apiece (steps_lists f a1) (skip_apiece f o.exact.apiece (room r) (total l + s)) (room l) (total l - room l))

  side_keeps : Mem (total k) (steps_lists f side_steps (list_of g))
  side_keeps =
      let a1 = leave_steps (room r) (total l + s) in
      let i = list_of g in
      subst (λ (h : Lists). Mem (total k) (h i)) (sym (lists_append f a1 (leave_steps (room l) (total l - room l))))
      (skip_keeps (steps_lists f a1) (skip_apiece f o.exact.apiece (room r) (total l + s)) (room l) (total l - room l) i (total k) (not_before (total k) (omega arith) (omega (arith, some, fits)))
      (skip_keeps f o.exact.apiece (room r) (total l + s) i (total k) (not_after (total k) (omega arith) (omega (arith, some, fits))) (head_member n c p a m f k q g al o enough found_it)))

  -- the lists without the block that is taken, then without the neighbours
  rest_new : (kept ≡ g → ⊥) → NotIn (drop (list_of g) (total k) (steps_lists f side_steps)) (total k + kept)
  rest_new ne i h =
      let a1 = leave_steps (room r) (total l + s) in
      let a2 = leave_steps (room l) (total l - room l) in
      let b = drop (list_of g) (total k) f in
      let ob = apiece_drop f o.exact.apiece (list_of g) (total k) in
      let z : drop (list_of g) (total k) (steps_lists f side_steps) ≡ steps_lists (steps_lists b a1) a2 =
      ap (drop (list_of g) (total k)) (lists_append f a1 a2)
      ∙ skip_through (steps_lists f a1) (room l) (total l - room l) (leave (list_of g) (total k) ∷ []) (not_before (total k) (omega arith) (omega (arith, some, fits)), tt)
      ∙ ap (λ (v : Lists). steps_lists v a2) (skip_through f (room r) (total l + s) (leave (list_of g) (total k) ∷ []) (not_after (total k) (omega arith) (omega (arith, some, fits)), tt)) in
      rest_none n c p a m f k q g al o enough found_it ne i
      (skip_fewer b ob (room r) (total l + s) i (total k + kept)
      (skip_fewer (steps_lists b a1) (skip_apiece b ob (room r) (total l + s)) (room l) (total l - room l) i (total k + kept) (subst (λ (v : Lists). Mem (total k + kept) (v i)) z h)))

  joined_new : NotIn (steps_lists f (side_steps ++ taken)) (total l - room l)
  joined_new = subst (λ (h : Lists). NotIn h (total l - room l)) (sym before_join) (subst (NotIn (skip l' (total (past l')) (skip r' (total l' + s) took.lists))) (sym start_same)
      (both_none c took.lists l' r' s d took_ok (total (past l')) (omega arith) (omega (arith, (whole_block n c m l r s d old.row).0))))

  legal : Legal f ((side_steps ++ taken) ++ join_steps (total l) s (room l) (room r))
  legal = legal_append f (side_steps ++ taken) (join_steps (total l) s (room l) (room r))
      (legal_append f side_steps taken (both_legal c f l r s d (sound_ok n c m (Here f l r s d) old))
      (side_keeps, rest_legal (drop (list_of g) (total k) (steps_lists f side_steps)) (total k) g kept rest_new))
      (joined_new, tt)

  pub away_meets : Away n c p a m f l r s d (total k) g
  away_meets =
      let h = Here f l r s d in
      let v = taken_found n c p a m (k ⟨⟩ free g ∷ q) (first_at (total k) g) al o.row (taken_checked n c p a m (taken_here n c p a m f k q g al o enough found_it)) in
      let j = join_checked m n c (room l + (s + room r)) (joins n c m f l r s d old) in
      record {
        heap = result;
        defined = away_defined n c p a m f al k q g o.row enough l r s d e cramped l' r' part.whole part.place;
        sound = sound_after n c m h result (elsewhere_deed p a (total l) s d (room l) (room r) (first_at (total k) g)) old
            (away_turns n c p a m f al k q g o.row enough l r s d e cramped l' r' part.whole part.place (record {
              small = v.small;
              next = subst (λ (zs : List Block). Free zs (m Next (total k))) e v.next;
              prev = subst (λ (zs : List Block). Free zs (m Prev (total k))) e v.prev;
              rest = λ ne. subst (λ (zs : List Block). Headed (Free zs) m (list_of (g - kept))) e (v.rest ne);
              after = seen_after n c m f l r s d old;
              before = seen_before n c m f l r s d old;
              joins = (j.0, headed_known n c m (l ⟨⟩ used s d ∷ r) old.row (list_of (room l + (s + room r))) j.1);
            }))
            (join_ok c took.lists l' r' s d took_ok) legal (λ i. ap (λ (v : Lists). v i) end_lists);
      }
