-- What follows from specs/DeallocateMeets.antt.
use Rattle.std.specs.Prelude.{ℕ, ◌+◌, ◌-◌, ◌*◌, ◌≤◌, ◌≡◌, refl, List, ◌∷◌, ◌++◌}
use native.Mathlib.Omega.{arith}
use Rattle.std.proofs.Math.Path.{ap}
use Rattle.std.proofs.Common.{sym, ◌∙◌, subst, ⊎_elim}
use Rattle.class.specs.Class.{list_of}
use Rattle.definition.specs.Blocks.{Block, used, total, ◌⟨⟩◌, room, past}
use Rattle.definition.specs.Lists.{Lists, push, skip}
use Rattle.definition.specs.Calls.{Heap, join, give_back}
use Rattle.invariants.specs.Order.{BlockAt, at_here, stands_at}
use Rattle.invariants.proofs.Neighbours.{total_past, join_ok}
use Rattle.invariants.proofs.NotLive.{not_live_back}
use Rattle.script.specs.Memory.{Memory}
use Rattle.script.specs.Script.{Gives, run}
use Rattle.script.proofs.Script.{goes}
use Rattle.chains.specs.Steps.{steps_lists}
use Rattle.chains.proofs.Steps.{lists_append}
use Rattle.chains.specs.Legal.{NotIn, Legal}
use Rattle.chains.proofs.Legal.{legal_append}
use Rattle.chains.proofs.Closed.{ready_append}
use Rattle.plans.specs.Deeds.{plan_of, plan_script}
use Rattle.plans.specs.Checks.{see_owner, see_guard, see_after, see_before, see_join}
use Rattle.plans.proofs.Checked.{join_checked}
use Rattle.plans.proofs.Planned.{plan_gives}
use Rattle.plans.specs.Deallocate.{beside_steps, join_steps, deallocate_deed, deallocate_script}
use Rattle.armour.specs.Row.{Sound}
use Rattle.armour.specs.Turns.{link_bounds}
use Rattle.armour.specs.Known.{Beside}
use Rattle.armour.proofs.Known.{headed_known, after_known, before_known, whole_block}
use Rattle.armour.proofs.Changed.{join_ready}
use Rattle.armour.proofs.Deallocates.{return_defined, return_turns, joined_free, beside_ready}
use Rattle.armour.proofs.Dead.{deallocate_dead}
use Rattle.refines.specs.Sounds.{Grants, Meets}
use Rattle.refines.proofs.Sounds.{sound_after}
use Rattle.refines.proofs.Seen.{sound_ok, join_gives, guard_gives}
use Rattle.refines.proofs.SeenOwner.{owner_gives, live?}
use Rattle.refines.proofs.SeenBeside.{after_gives, before_gives, around_short}
use Rattle.refines.proofs.Listed.{both_lists, both_legal, both_none}
use Rattle.refines.specs.DeallocateMeets.{Here}

module _ (n c : ℕ) (m : Memory) (f : Lists) (l r : List Block) (s d : ℕ) (o : Sound n c m (Here f l r s d)) where
  abbrev all : ℕ
  all = room l + (s + room r)

  some_grains : 1 ≤ room l + (s + room r)
  some_grains = omega (arith, (whole_block n c m l r s d o.row).0)

  -- what was seen of the neighbours
  pub seen_after : Beside c m (l ⟨⟩ used s d ∷ r) (total l + s) (room r)
  seen_after = (after_known n c m l r s d o.row (after_gives n c m f l r s d o)).1

  pub seen_before : Beside c m (l ⟨⟩ used s d ∷ r) (total l - room l) (room l)
  seen_before = (before_known n c m l r s d o.row (before_gives n c m f l r s d o)).1

  pub joins : Gives m (see_join n c (room l + (s + room r))) (tt {0})
  joins = join_gives n c m (Here f l r s d) o all some_grains (around_short n c m f l r s d o)

  -- the joined block is in no list before
  pub joined_none : NotIn (skip l (total (past l)) (skip r (total l + s) f)) (total l - room l)
  joined_none = let z : total (past l) ≡ total l - room l = omega (arith, total_past l) in
      subst (NotIn (skip l (total (past l)) (skip r (total l + s) f))) z (both_none c f l r s d (sound_ok n c m (Here f l r s d) o) (total (past l)) (omega arith) (omega (arith, some_grains)))

  return_legal : Legal f (beside_steps (total l) s (room l) (room r) ++ join_steps (total l) s (room l) (room r))
  return_legal =
      let ok = sound_ok n c m (Here f l r s d) o in
      legal_append f (beside_steps (total l) s (room l) (room r)) (join_steps (total l) s (room l) (room r)) (both_legal c f l r s d ok)
      (subst (λ (g : Lists). Legal g (join_steps (total l) s (room l) (room r))) (sym (both_lists c f l r s d ok)) (joined_none, tt))

  return_lists : steps_lists f (beside_steps (total l) s (room l) (room r) ++ join_steps (total l) s (room l) (room r)) ≡ (join f l s r).lists
  unfolding join
  return_lists =
      let z : total l - room l ≡ total (past l) = omega (arith, total_past l) in
      lists_append f (beside_steps (total l) s (room l) (room r)) (join_steps (total l) s (room l) (room r))
      ∙ ap (λ (g : Lists). push (list_of all) (total l - room l) g) (both_lists c f l r s d (sound_ok n c m (Here f l r s d) o))
      ∙ ap (λ (z : ℕ). push (list_of all) z (skip l (total (past l)) (skip r (total l + s) f))) z

  return_sound : Grants n c m (plan_script (deallocate_deed (total l) s d (room l) (room r))) 0 (join f l s r)
  return_sound =
      let t = deallocate_deed (total l) s d (room l) (room r) in
      let j = join_checked m n c all joins in
      let xs = l ⟨⟩ used s d ∷ r in
      let ys = (join f l s r).blocks in
      record {
        plan = plan_of m t;
        gives = plan_gives m t;
        answer = refl;
        sound = sound_after n c m (Here f l r s d) (join f l s r) t o
            (return_turns n c m f l r s d o.row (ready_append (link_bounds c xs ys) m (beside_steps (total l) s (room l) (room r)) (join_steps (total l) s (room l) (room r))
            (beside_ready n c m f l r s d o.row ys seen_after seen_before)
            (join_ready c m xs ys (total l - room l) all j.0 (joined_free n c m f l r s d o.row) (headed_known n c m xs o.row (list_of all) j.1))))
            (join_ok c f l r s d (sound_ok n c m (Here f l r s d) o)) return_legal (λ k. ap (λ (g : Lists). g k) return_lists);
      }

  pub return_grants : Grants n c m (deallocate_script n c (2 * total l + d)) 0 (join f l s r)
  unfolding deallocate_script
  return_grants =
      let e : 2 * total l + d - 2 * total l ≡ d = omega arith in
      let g = return_sound in
      record {
        plan = g.plan;
        gives = goes m (see_owner n (2 * total l + d)) _ (owner_gives n c m (l ⟨⟩ used s d ∷ r) o.row (total l) s d (at_here l r (used s d)))
            ∙ goes m (see_guard (total l)) _ (guard_gives n c m (Here f l r s d) o (total l) s d (at_here l r (used s d)))
            ∙ goes m (see_after n c (total l + s)) _ (after_gives n c m f l r s d o)
            ∙ goes m (see_before n c (total l)) _ (before_gives n c m f l r s d o)
            ∙ goes m (see_join n c all) _ joins
            ∙ ap (λ (d : ℕ). run m (plan_script (deallocate_deed (total l) s d (room l) (room r)))) e ∙ g.gives;
        answer = g.answer;
        sound = g.sound;
      }

pub deallocate_meets : (n c : ℕ) (m : Memory) (h : Heap) → Sound n c m h → (q : ℕ) → Meets n c m (deallocate_script n c q) (give_back h q)
deallocate_meets n c m h o q = ⊎_elim
    (λ (b : (x : ℕ) × (s : ℕ) × (d : ℕ) × BlockAt x (used s d) 0 h.blocks × (q ≡ 2 * x + d)). live b.0 b.1 b.2 b.3 b.4)
    (λ (e : (x s d : ℕ) → BlockAt x (used s d) 0 h.blocks → q ≡ 2 * x + d → ⊥). subst (Meets n c m (deallocate_script n c q)) (sym (not_live_back h q e))
    (deallocate_dead n c m h.blocks o.row q e))
    (live? q h.blocks)
  where
    there : (l r : List Block) (s d : ℕ) → h.blocks ≡ l ⟨⟩ used s d ∷ r → Meets n c m (deallocate_script n c (2 * total l + d)) (give_back h (2 * total l + d))
    there l r s d e =
        let v : Sound n c m (Here h.lists l r s d) = subst (λ (zs : List Block). Sound n c m (record { blocks = zs; lists = h.lists })) e o in
        subst (λ (zs : List Block). Meets n c m (deallocate_script n c (2 * total l + d)) (give_back (record { blocks = zs; lists = h.lists }) (2 * total l + d))) (sym e)
        (subst (Meets n c m (deallocate_script n c (2 * total l + d))) (sym (return_defined n c m h.lists l r s d v.row)) (return_grants n c m h.lists l r s d v))

    live : (x s d : ℕ) → BlockAt x (used s d) 0 h.blocks → q ≡ 2 * x + d → Meets n c m (deallocate_script n c q) (give_back h q)
    live x s d b e =
        let t = stands_at x (used s d) h.blocks b in
        subst (λ (q : ℕ). Meets n c m (deallocate_script n c q) (give_back h q)) (sym (e ∙ ap (λ (x : ℕ). 2 * x + d) t.place)) (there t.before t.behind s d t.whole)
