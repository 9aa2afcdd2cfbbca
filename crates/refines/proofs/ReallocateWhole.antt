-- T4, reallocate as a whole: the four steps in their order.
use Rattle.std.specs.Prelude.{ℕ, ◌+◌, ◌-◌, ◌*◌, ◌≤◌, ◌<◌, ◌≡◌, refl, ◌⊎◌}
use native.Mathlib.Omega.{arith}
use Rattle.std.proofs.Math.Path.{ap, subst}
use Rattle.std.proofs.Common.{sym, ◌∙◌, inl, inr}
use mathlib.Core.List.{List, ◌∷◌}
use Rattle.std.proofs.Math.Logic.{⊎_elim}
use Rattle.choice.specs.Choice.{if_eq, eq_yes, eq_no, le?, le_no, same?}
use Rattle.class.specs.Class.{list_of, start_of}
use Rattle.definition.specs.Blocks.{Block, free, used, total, ◌⟨⟩◌, room, past}
use Rattle.definition.specs.Lists.{Lists, drop, Found, nothing, found}
use Rattle.definition.specs.Calls.{Heap, no_list, Answer, refused, granted, wanted, place, keeps, leave as leave_rest, take, take_at, back_after, elsewhere, resize}
use Rattle.invariants.specs.Order.{BlockAt, at_here, stands_at}
use Rattle.invariants.specs.Moves.{Ok}
use Rattle.invariants.proofs.Neighbours.{total_past}
use Rattle.invariants.proofs.NotLive.{not_live_resize}
use Rattle.invariants.specs.Placing.{Align}
use Rattle.invariants.specs.Promises.{search_empty, sought, refused_exactly}
use Rattle.invariants.proofs.Promises.{take_found}
use Rattle.script.specs.Memory.{Memory}
use Rattle.script.specs.Script.{Script, done, ◌>>=◌, no, run}
use Rattle.script.proofs.Script.{goes, halts, gives_bind, gives_done}
use Rattle.plans.specs.Deeds.{Deed, plan_of, plan_script}
use Rattle.plans.specs.Checks.{see_owner, see_guard, see_after, see_before, see_join}
use Rattle.plans.proofs.Planned.{plan_gives}
use Rattle.plans.specs.Allocate.{see_taken}
use Rattle.plans.specs.Reallocate.{stay_deed, elsewhere_deed, elsewhere_script, down_script, move_script, stretch_script, resize_script, reallocate_script}
use Rattle.armour.specs.Row.{Sound}
use Rattle.armour.specs.Apart.{Cramped}
use Rattle.armour.specs.Allocates.{first_at}
use Rattle.armour.proofs.Dead.{reallocate_dead}
use Rattle.armour.proofs.InPlace.{stay_defined, stretch_defined, down_defined, elsewhere_defined}
use Rattle.refines.specs.Sounds.{Meets}
use Rattle.refines.proofs.Seen.{sound_ok, guard_gives}
use Rattle.refines.proofs.SeenOwner.{owner_gives, live?}
use Rattle.refines.proofs.SeenBeside.{after_gives, before_gives}
use Rattle.refines.proofs.SeenTaken.{taken_refused}
use Rattle.refines.proofs.AllocateMeets.{taken_here}
use Rattle.refines.specs.DeallocateMeets.{Here}
use Rattle.refines.proofs.DeallocateMeets.{joins}
use Rattle.refines.proofs.ElsewhereMeets.{away_meets}
use Rattle.refines.specs.ReallocateMeets.{Finds}
use Rattle.refines.proofs.ReallocateMeets.{finds_as, stay_finds, stretch_finds, down_finds}

-- ---- 4

-- the definition's way
elsewhere_is : (c : ℕ) (h : Heap) (q p a : ℕ) (w : Found) → sought c h p a ≡ w → elsewhere c h q p a ≡ back_after (take_at h p a w) q
unfolding elsewhere take
elsewhere_is c h q p a w e = ap (λ (w : Found). back_after (take_at h p a w) q) e

none_back : (c : ℕ) (h : Heap) (q p a : ℕ) → take c h p a ≡ refused no_list → elsewhere c h q p a ≡ refused no_list
unfolding elsewhere back_after
none_back c h q p a e = ap (λ (w : Answer). back_after w q) e

module _ (n c p a : ℕ) (m : Memory) (f : Lists) (l r : List Block) (s d : ℕ) (al : Align a) (o : Sound n c m (Here f l r s d)) where
  abbrev h : Heap
  h = Here f l r s d

  abbrev q : ℕ
  q = 2 * total l + d

  abbrev afar : Script Deed
  afar = elsewhere_script n c p a (total l) s d (room l) (room r)

  -- the block that the search finds
  taken_finds : Cramped p a l r s d → (k u : List Block) (g : ℕ) → l ⟨⟩ used s d ∷ r ≡ k ⟨⟩ free g ∷ u → wanted p a ≤ g → sought c (Here f l r s d) p a ≡ found (list_of g) (total k)
      → Ok c (leave_rest (drop (list_of g) (total k) f) k u g (keeps (place a (total k)) p) (place a (total k))) → Finds n c m afar (elsewhere c (Here f l r s d) (2 * total l + d) p a)
  unfolding elsewhere_script
  taken_finds cramped k u g e enough fd good =
      let o' : Sound n c m (record { blocks = k ⟨⟩ free g ∷ u; lists = f }) = subst (λ (zs : List Block). Sound n c m (record { blocks = zs; lists = f })) e o in
      let fd' : sought c (record { blocks = k ⟨⟩ free g ∷ u; lists = f }) p a ≡ found (list_of g) (total k) = subst (λ (zs : List Block). sought c (record { blocks = zs; lists = f }) p a ≡ found (list_of g) (total k)) e fd in
      let w = away_meets n c p a m f al k u g o' enough fd' good l r s d (sym e) cramped in
      let t = elsewhere_deed p a (total l) s d (room l) (room r) (first_at (total k) g) in
      subst (Finds n c m afar) (sym (elsewhere_is c h q p a (found (list_of g) (total k)) fd ∙ w.defined)) (record {
        deed = t;
        gives = goes m (see_taken n c p a) _ (taken_here n c p a m f k u g al o' enough fd') ∙ gives_bind m (see_join n c (room l + (s + room r))) _ (joins n c m f l r s d o) (gives_done m t);
        answer = refl;
        sound = w.sound;
      })

  refuses : run m (see_taken n c p a) ≡ no 1 → run m afar ≡ no 1
  unfolding elsewhere_script
  refuses e = halts m (see_taken n c p a) _ e

  elsewhere_finds : Cramped p a l r s d → Finds n c m (elsewhere_script n c p a (total l) s d (room l) (room r)) (elsewhere c (Here f l r s d) (2 * total l + d) p a)
  elsewhere_finds cramped = go (sought c h p a) refl
    where
      go : (w : Found) → sought c (Here f l r s d) p a ≡ w → Finds n c m afar (elsewhere c (Here f l r s d) (2 * total l + d) p a)
      go nothing e = subst (Finds n c m afar) (sym (none_back c h q p a ((refused_exactly c h p a).1 (λ j lo hi. search_empty f (16 * c - start_of (wanted p a)) (start_of (wanted p a)) e j lo (omega arith)))))
          (refuses (taken_refused n c p a m h o e))
      go (found k y) e =
          let t = take_found c h p a k y (sound_ok n c m h o) al e in
          taken_finds cramped t.l t.r t.s t.whole t.enough
          (subst (λ (y : ℕ). sought c h p a ≡ found (list_of t.s) y) t.stands (subst (λ (k : ℕ). sought c h p a ≡ found k y) (sym t.list) e))
          (subst (λ (y : ℕ). Ok c (leave_rest (drop (list_of t.s) y f) t.l t.r t.s (keeps (place a y) p) (place a y))) t.stands
          (subst (λ (k : ℕ). Ok c (leave_rest (drop k y f) t.l t.r t.s (keeps (place a y) p) (place a y))) (sym t.list) t.ok))

  -- ---- the steps in their order

  module _ (ne : keeps d p ≡ s → ⊥) (gt : s + room r < keeps d p) where
    move_run : run m (move_script n c p a (total l) s d (room r)) ≡ run m (if_eq (room l) 0 (elsewhere_script n c p a (total l) s d 0 (room r)) (down_script n c p a (total l) s d (room l) (room r)))
    unfolding move_script
    move_run = goes m (see_before n c (total l)) _ (before_gives n c m f l r s d o)

    afar_when : (room l ≡ 0) ⊎ (room l + (s + room r) < keeps (place a (total (past l))) p) → run m (move_script n c p a (total l) s d (room r)) ≡ run m afar
    unfolding down_script
    afar_when (inl e) = move_run ∙ ap (run m) (eq_yes (room l) 0 _ _ e) ∙ ap (λ (i : ℕ). run m (elsewhere_script n c p a (total l) s d i (room r))) (sym e)
    afar_when (inr k) = ⊎_elim
        (λ (e : room l ≡ 0). move_run ∙ ap (run m) (eq_yes (room l) 0 _ _ e) ∙ ap (λ (i : ℕ). run m (elsewhere_script n c p a (total l) s d i (room r))) (sym e))
        (λ (e : room l ≡ 0 → ⊥). let z : total (past l) ≡ total l - room l = omega (arith, total_past l) in
        let v : room l + (s + room r) < keeps (place a (total l - room l)) p = subst (λ (z : ℕ). room l + (s + room r) < keeps (place a z) p) z k in
        move_run ∙ ap (run m) (eq_no (room l) 0 _ _ e) ∙ ap (run m) (le_no (keeps (place a (total l - room l)) p) (room l + (s + room r)) _ _ (omega arith)))
        (same? (room l) 0)

    move_finds : Finds n c m (move_script n c p a (total l) s d (room r)) (resize c (Here f l r s d) (2 * total l + d) p a)
    move_finds = ⊎_elim
        (λ (e : room l ≡ 0). away (inl e))
        (λ (e : room l ≡ 0 → ⊥). ⊎_elim
        (λ (le : keeps (place a (total (past l))) p ≤ room l + (s + room r)). subst (Finds n c m (move_script n c p a (total l) s d (room r))) (sym (down_defined n c p a m f l r s d al o.row ne gt e le))
        (finds_as n c m (move_script n c p a (total l) s d (room r)) (down_script n c p a (total l) s d (room l) (room r)) (granted _ _) (move_run ∙ ap (run m) (eq_no (room l) 0 _ _ e))
        (down_finds n c p a m f l r s d al o gt e le)))
        (λ (le : room l + (s + room r) < keeps (place a (total (past l))) p). away (inr le))
        (le? (keeps (place a (total (past l))) p) (room l + (s + room r))))
        (same? (room l) 0)
      where
        away : (room l ≡ 0) ⊎ (room l + (s + room r) < keeps (place a (total (past l))) p) → Finds n c m (move_script n c p a (total l) s d (room r)) (resize c (Here f l r s d) (2 * total l + d) p a)
        away k = subst (Finds n c m (move_script n c p a (total l) s d (room r))) (sym (elsewhere_defined n c p a m f l r s d al o.row ne gt k))
            (finds_as n c m (move_script n c p a (total l) s d (room r)) afar (elsewhere c (Here f l r s d) (2 * total l + d) p a) (afar_when k) (elsewhere_finds (record { after = gt; before = k })))

  stretch_run : (keeps d p ≡ s → ⊥) → run m (resize_script n c (2 * total l + d) p a (total l) s d) ≡ run m (stretch_script n c (2 * total l + d) p a (total l) s d (room r))
  unfolding resize_script
  stretch_run ne = ap (run m) (eq_no (keeps d p) s _ _ ne) ∙ goes m (see_after n c (total l + s)) _ (after_gives n c m f l r s d o)

  move_run' : s + room r < keeps d p → run m (stretch_script n c (2 * total l + d) p a (total l) s d (room r)) ≡ run m (move_script n c p a (total l) s d (room r))
  unfolding stretch_script
  move_run' gt = ap (run m) (le_no (keeps d p) (s + room r) _ _ (omega arith))

  stay_run : keeps d p ≡ s → run m (resize_script n c (2 * total l + d) p a (total l) s d) ≡ run m (done (stay_deed (2 * total l + d)))
  unfolding resize_script
  stay_run e = ap (run m) (eq_yes (keeps d p) s _ _ e)

  pub resize_finds : Finds n c m (resize_script n c (2 * total l + d) p a (total l) s d) (resize c (Here f l r s d) (2 * total l + d) p a)
  resize_finds =
      let sc = resize_script n c (2 * total l + d) p a (total l) s d in
      ⊎_elim
      (λ (e : keeps d p ≡ s). subst (Finds n c m sc) (sym (stay_defined n c p a m f l r s d al o.row e))
      (finds_as n c m sc (done (stay_deed (2 * total l + d))) (granted _ _) (stay_run e) (stay_finds n c p a m f l r s d al o e)))
      (λ (ne : keeps d p ≡ s → ⊥). ⊎_elim
      (λ (le : keeps d p ≤ s + room r). subst (Finds n c m sc) (sym (stretch_defined n c p a m f l r s d al o.row ne le))
      (finds_as n c m sc (stretch_script n c (2 * total l + d) p a (total l) s d (room r)) (granted _ _) (stretch_run ne) (stretch_finds n c p a m f l r s d al o ne le)))
      (λ (gt : s + room r < keeps d p). finds_as n c m sc (move_script n c p a (total l) s d (room r)) (resize c (Here f l r s d) (2 * total l + d) p a) (stretch_run ne ∙ move_run' gt) (move_finds ne gt))
      (le? (keeps d p) (s + room r)))
      (same? (keeps d p) s)

  -- with the payload's block found, and the plan made
  whole_run : run m (reallocate_script n c (2 * total l + d) p a) ≡ run m (resize_script n c (2 * total l + d) p a (total l) s d >>= plan_script)
  unfolding reallocate_script
  whole_run =
      let e : 2 * total l + d - 2 * total l ≡ d = omega arith in
      goes m (see_owner n (2 * total l + d)) _ (owner_gives n c m (l ⟨⟩ used s d ∷ r) o.row (total l) s d (at_here l r (used s d)))
      ∙ goes m (see_guard (total l)) _ (guard_gives n c m h o (total l) s d (at_here l r (used s d)))
      ∙ ap (λ (d : ℕ). run m (resize_script n c q p a (total l) s d >>= plan_script)) e

  meets : (w : Answer) → Finds n c m (resize_script n c (2 * total l + d) p a (total l) s d) w → Meets n c m (reallocate_script n c (2 * total l + d) p a) w
  meets (refused w) e = whole_run ∙ halts m (resize_script n c q p a (total l) s d) plan_script e
  meets (granted v g) k = record {
    plan = plan_of m k.deed;
    gives = whole_run ∙ gives_bind m (resize_script n c q p a (total l) s d) plan_script k.gives (plan_gives m k.deed);
    answer = k.answer;
    sound = k.sound;
  }

  pub live_meets : Meets n c m (reallocate_script n c (2 * total l + d) p a) (resize c (Here f l r s d) (2 * total l + d) p a)
  live_meets = meets (resize c (Here f l r s d) (2 * total l + d) p a) resize_finds

pub reallocate_meets : (n c p a : ℕ) (m : Memory) (h : Heap) → Align a → Sound n c m h → (q : ℕ) → Meets n c m (reallocate_script n c q p a) (resize c h q p a)
reallocate_meets n c p a m h al o q = ⊎_elim
    (λ (b : (x : ℕ) × (s : ℕ) × (d : ℕ) × BlockAt x (used s d) 0 h.blocks × (q ≡ 2 * x + d)). live b.0 b.1 b.2 b.3 b.4)
    (λ (e : (x s d : ℕ) → BlockAt x (used s d) 0 h.blocks → q ≡ 2 * x + d → ⊥). subst (Meets n c m (reallocate_script n c q p a)) (sym (not_live_resize c h q p a e))
    (reallocate_dead n c m h.blocks o.row q e p a))
    (live? q h.blocks)
  where
    there : (l r : List Block) (s d : ℕ) → h.blocks ≡ l ⟨⟩ used s d ∷ r → Meets n c m (reallocate_script n c (2 * total l + d) p a) (resize c h (2 * total l + d) p a)
    there l r s d e =
        let v : Sound n c m (Here h.lists l r s d) = subst (λ (zs : List Block). Sound n c m (record { blocks = zs; lists = h.lists })) e o in
        subst (λ (zs : List Block). Meets n c m (reallocate_script n c (2 * total l + d) p a) (resize c (record { blocks = zs; lists = h.lists }) (2 * total l + d) p a)) (sym e)
        (live_meets n c p a m h.lists l r s d al v)

    live : (x s d : ℕ) → BlockAt x (used s d) 0 h.blocks → q ≡ 2 * x + d → Meets n c m (reallocate_script n c q p a) (resize c h q p a)
    live x s d b e =
        let t = stands_at x (used s d) h.blocks b in
        subst (λ (q : ℕ). Meets n c m (reallocate_script n c q p a) (resize c h q p a)) (sym (e ∙ ap (λ (x : ℕ). 2 * x + d) t.place)) (there t.before t.behind s d t.whole)
