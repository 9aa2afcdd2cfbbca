-- What follows from specs/ReallocateMeets.antt.
use Rattle.std.specs.Prelude.{ℕ, ◌+◌, ◌-◌, ◌*◌, ◌^◌, ◌≤◌, ◌<◌, ◌≡◌, refl, List, [], ◌∷◌, ◌++◌}
use Rattle.std.proofs.Common.{arith, sym, ◌∙◌}
use Rattle.std.proofs.Math.Path.{ap, subst}
use Rattle.choice.specs.Choice.{if_le, le_yes}
use Rattle.class.specs.Class.{list_of}
use Rattle.definition.specs.Blocks.{Block, used, total, ◌⟨⟩◌, room, past}
use Rattle.definition.specs.Lists.{Lists, skip}
use Rattle.definition.specs.Calls.{Heap, Answer, refused, granted, place, keeps, leave as leave_rest}
use Rattle.invariants.specs.Order.{Inside, order_split}
use Rattle.invariants.specs.Moves.{Ok}
use Rattle.invariants.proofs.Neighbours.{total_past, order_past, swallow_behind, swallow, leave_ok}
use Rattle.invariants.specs.Placing.{Align}
use Rattle.invariants.proofs.Placing.{align_pos, place_some, keeps_some, keeps_holds, place_inside}
use Rattle.script.specs.Memory.{Memory}
use Rattle.script.specs.Script.{Script, done, ◌>>=◌, run, Gives}
use Rattle.script.proofs.Script.{gives_bind, gives_done}
use Rattle.chains.specs.Steps.{Step, steps_lists}
use Rattle.chains.proofs.Steps.{lists_append}
use Rattle.chains.specs.Legal.{Legal}
use Rattle.chains.proofs.Legal.{legal_append}
use Rattle.plans.specs.Deeds.{Deed, after}
use Rattle.plans.specs.Checks.{see_rest}
use Rattle.plans.proofs.Checked.{rest_checked}
use Rattle.plans.specs.Allocate.{rest_steps}
use Rattle.plans.specs.Deallocate.{leave_steps, beside_steps}
use Rattle.plans.specs.Reallocate.{stay_deed, stretch_deed, down_deed, elsewhere_script, down_script, stretch_script}
use Rattle.armour.specs.Row.{Sound}
use Rattle.armour.proofs.Known.{headed_known, whole_block}
use Rattle.armour.proofs.InPlace.{stay_turns}
use Rattle.armour.specs.Resizes.{Rests}
use Rattle.armour.proofs.Resizes.{Both}
use Rattle.armour.proofs.Reallocates.{stretch_turned, down_turned}
use Rattle.refines.proofs.Sounds.{sound_after}
use Rattle.refines.proofs.Seen.{sound_ok, rest_gives}
use Rattle.refines.proofs.SeenBeside.{around_short}
use Rattle.refines.proofs.Listed.{after_lists, after_legal, after_none, both_lists, both_legal, both_none, rest_lists, rest_legal}
use Rattle.refines.specs.DeallocateMeets.{Here}
use Rattle.refines.proofs.DeallocateMeets.{seen_after, seen_before}
use Rattle.refines.specs.ReallocateMeets.{Deeds, Finds}

pub finds_as : (n c : ℕ) (m : Memory) (s t : Script Deed) (w : Answer) → run m s ≡ run m t → Finds n c m t w → Finds n c m s w
finds_as n c m s t (refused w) e h = e ∙ h
finds_as n c m s t (granted v g) e h = record { deed = h.deed; gives = e ∙ h.gives; answer = h.answer; sound = h.sound }

module _ (n c p a : ℕ) (m : Memory) (f : Lists) (l r : List Block) (s d : ℕ) (al : Align a) (o : Sound n c m (Here f l r s d)) where
  abbrev h : Heap
  h = Here f l r s d

  abbrev q : ℕ
  q = 2 * total l + d

  heap_ok : Ok c (Here f l r s d)
  heap_ok = sound_ok n c m h o

  inside : (1 ≤ s) × Inside s d
  inside = whole_block n c m l r s d o.row

  both : Both n c p a m l r s d
  both = record { after = seen_after n c m f l r s d o; before = seen_before n c m f l r s d o }

  rests : (t k : ℕ) → 1 ≤ t → t < 2 ^ c → Rests c m (l ⟨⟩ used s d ∷ r) t k
  rests t k some small = let w = rest_checked m n c t k (rest_gives n c m h o t k some small) in (w.0, λ e. headed_known n c m (l ⟨⟩ used s d ∷ r) o.row (list_of (t - k)) (w.1 e))

  -- ---- 1

  pub stay_finds : keeps d p ≡ s → Deeds n c m (done (stay_deed q)) q h
  stay_finds e = record {
    deed = stay_deed q;
    gives = gives_done m (stay_deed q);
    answer = refl;
    sound = sound_after n c m h h (stay_deed q) o (stay_turns n c p a m f l r s d al o.row) heap_ok tt (λ k. refl);
  }

  -- ---- 2

  module _ (ne : keeps d p ≡ s → ⊥) (le : keeps d p ≤ s + room r) where
    small : s + room r < 2 ^ c
    small = omega (arith, around_short n c m f l r s d o)

    abbrev grown : Heap
    grown = leave_rest (skip r (total l + s) f) l (past r) (s + room r) (keeps d p) d

    some : 1 ≤ keeps d p
    some = keeps_some d p inside.1.some

    grown_ok : Ok c grown
    grown_ok = leave_ok c (skip r (total l + s) f) l (past r) (s + room r) d (keeps d p) d some le
        (record { some = inside.1.some; within = omega (arith, keeps_holds d p); kind = inside.1.kind }) (order_past r (order_split l (used s d ∷ r) o.row.order).1.2) (swallow_behind c f l r s d heap_ok)

    abbrev stretch_steps : List Step
    stretch_steps = leave_steps (room r) (total l + s) ++ rest_steps (total l) (s + room r) (keeps d p)

    stretch_legal : Legal f (stretch_steps ++ [])
    stretch_legal = legal_append f stretch_steps [] (legal_append f (leave_steps (room r) (total l + s)) (rest_steps (total l) (s + room r) (keeps d p)) (after_legal c f l r s d heap_ok)
        (subst (λ (g : Lists). Legal g (rest_steps (total l) (s + room r) (keeps d p))) (sym (after_lists c f l r s d heap_ok))
        (rest_legal (skip r (total l + s) f) (total l) (s + room r) (keeps d p) (λ n. after_none c f l r s d heap_ok (total l + keeps d p) (omega arith) (omega (arith, n)))))) tt

    stretch_lists : steps_lists f (stretch_steps ++ []) ≡ grown.lists
    stretch_lists = lists_append f stretch_steps [] ∙ lists_append f (leave_steps (room r) (total l + s)) (rest_steps (total l) (s + room r) (keeps d p))
        ∙ ap (λ (g : Lists). steps_lists g (rest_steps (total l) (s + room r) (keeps d p))) (after_lists c f l r s d heap_ok) ∙ rest_lists (skip r (total l + s) f) l (past r) (s + room r) (keeps d p) d

    pub stretch_finds : Deeds n c m (stretch_script n c q p a (total l) s d (room r)) q grown
    unfolding stretch_script
    stretch_finds =
        let t = stretch_deed q (total l) s d (room r) (keeps d p) in
        record {
          deed = t;
          gives = ap (run m) (le_yes (keeps d p) (s + room r) _ _ le)
              ∙ gives_bind m (see_rest n c (s + room r) (keeps d p)) _ (rest_gives n c m h o (s + room r) (keeps d p) (omega (arith, inside.0)) small) (gives_done m t);
          answer = refl;
          sound = sound_after n c m h grown t o (stretch_turned n c p a m f l r s d al o.row le both.after (rests (s + room r) (keeps d p) (omega (arith, inside.0)) small)) grown_ok stretch_legal (λ k. ap (λ (g : Lists). g k) stretch_lists);
        }

  -- ---- 3

  module _ (gt : s + room r < keeps d p) (nr : room l ≡ 0 → ⊥) (le : keeps (place a (total (past l))) p ≤ room l + (s + room r)) where
    abbrev low : ℕ
    low = total (past l)

    abbrev all : ℕ
    all = room l + (s + room r)

    abbrev k : ℕ
    k = keeps (place a (total (past l))) p

    abbrev sunk : Heap
    sunk = leave_rest (skip l (total (past l)) (skip r (total l + s) f)) (past l) (past r) (room l + (s + room r)) (keeps (place a (total (past l))) p) (place a (total (past l)))

    sunk_ok : Ok c sunk
    sunk_ok = leave_ok c (skip l low (skip r (total l + s) f)) (past l) (past r) all 1 k (place a low) (keeps_some (place a low) p (place_some a low (align_pos a al))) le (place_inside a low p al)
        (order_past r (order_split l (used s d ∷ r) o.row.order).1.2) (swallow c f l r s d heap_ok)

    abbrev side_steps : List Step
    side_steps = beside_steps (total l) s (room l) (room r)

    z_is : low ≡ total l - room l
    z_is = omega (arith, total_past l)

    down_legal : Legal f (side_steps ++ rest_steps (total l - room l) all k)
    down_legal = legal_append f side_steps (rest_steps (total l - room l) all k) (both_legal c f l r s d heap_ok)
        (subst (λ (g : Lists). Legal g (rest_steps (total l - room l) all k)) (sym (both_lists c f l r s d heap_ok))
        (subst (λ (z : ℕ). Legal (skip l low (skip r (total l + s) f)) (rest_steps z all k)) z_is
        (rest_legal (skip l low (skip r (total l + s) f)) low all k (λ n. both_none c f l r s d heap_ok (low + k) (omega arith) (omega (arith, n))))))

    down_lists : steps_lists f (side_steps ++ rest_steps (total l - room l) all k) ≡ sunk.lists
    down_lists = lists_append f side_steps (rest_steps (total l - room l) all k)
        ∙ ap (λ (g : Lists). steps_lists g (rest_steps (total l - room l) all k)) (both_lists c f l r s d heap_ok)
        ∙ ap (λ (z : ℕ). steps_lists (skip l low (skip r (total l + s) f)) (rest_steps z all k)) (sym z_is)
        ∙ rest_lists (skip l low (skip r (total l + s) f)) (past l) (past r) all k (place a low)

    pub down_finds : Deeds n c m (down_script n c p a (total l) s d (room l) (room r)) (2 * low + place a low) sunk
    unfolding down_script
    down_finds =
        let t = down_deed (total l) s d (room l) (room r) k (place a low) in
        record {
          deed = t;
          gives = subst (λ (z : ℕ). Gives m (if_le (keeps (place a z) p) all (see_rest n c all (keeps (place a z) p) >>= (λ _. done (down_deed (total l) s d (room l) (room r) (keeps (place a z) p) (place a z)))) (elsewhere_script n c p a (total l) s d (room l) (room r))) t) z_is
              (ap (run m) (le_yes k all _ _ le) ∙ gives_bind m (see_rest n c all k) _ (rest_gives n c m h o all k (omega (arith, inside.0)) (around_short n c m f l r s d o)) (gives_done m t));
          answer = ap (λ (z : ℕ). 2 * z + place a low) (sym z_is);
          sound = sound_after n c m h sunk t o (down_turned n c p a m f l r s d al o.row nr le both (rests all k (omega (arith, inside.0)) (around_short n c m f l r s d o)))
              sunk_ok down_legal (λ i. ap (λ (g : Lists). g i) down_lists);
        }
