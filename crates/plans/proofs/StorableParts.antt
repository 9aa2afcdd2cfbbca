-- What follows from specs/StorableParts.antt.
use Rattle.std.specs.Prelude.{ℕ, ◌+◌, ◌-◌, ◌*◌, ◌^◌, ◌≤◌, ◌<◌, ◌≡◌, List, [], ◌∷◌, ◌++◌}
use Rattle.std.proofs.Math.Nat.{mod-lt}
use Rattle.std.proofs.Common.{arith, sym, subst, inl, inr, ⊎_elim}
use Rattle.choice.specs.Choice.{eq_case, le?}
use Rattle.class.specs.Class.{list_of}
use Rattle.class.proofs.Class.{list_large, list_mono}
use Rattle.script.specs.Memory.{Memory, Mark, Write, ◌at◌≔◌, apply}
use Rattle.script.specs.Script.{Gives}
use Rattle.machine.specs.Machine.{words, guard_next, guard_prev}
use Rattle.tags.specs.Each.{Each}
use Rattle.tags.proofs.Each.{each_append, each_weaker, each_both}
use Rattle.tags.specs.Within.{ToTag, Within}
use Rattle.chains.specs.Links.{Head}
use Rattle.chains.specs.Steps.{Step, enter, steps_writes}
use Rattle.chains.proofs.Steps.{steps_append}
use Rattle.chains.specs.Closed.{LinkWrite, at_next as link_next, at_prev as link_prev, at_head as link_head, at_mark as link_mark, Headed, Ready, Fit}
use Rattle.chains.proofs.Closed.{steps_done, ready_append}
use Rattle.plans.specs.Deeds.{Deed, guard_writes, early_writes, plan_of, writes}
use Rattle.plans.specs.Checks.{see_after, see_before, see_rest, see_join}
use Rattle.plans.specs.Checked.{FreeTag}
use Rattle.plans.proofs.Checked.{ListedFree, rest_checked, join_checked, after_checked, before_checked}
use Rattle.plans.specs.Allocate.{rest_steps}
use Rattle.plans.specs.Deallocate.{leave_steps, beside_steps}
use Rattle.plans.specs.Storable.{Shows, Storable, at_tag, at_next, at_prev, at_head, at_mark}
use Rattle.plans.specs.StorableParts.{Below, bounds, Bounded}

each_split : (P : Write → Type 0) (a b : List Write) → Each P (a ++ b) → Each P a × Each P b
each_split P [] b h = (tt, h)
each_split P (w ∷ a) b h = let i = each_split P a b h.1 in ((h.0, i.0), i.1)

module _ (n c top most : ℕ) where
  abbrev S : Write → Type 0
  S = Storable n c top most

  -- ---- the writes of a deed

  link_storable : n < top → (w : Write) → LinkWrite (bounds n c top) w → S w
  link_storable l w (link_next {x} {v} a b) = at_next {x = x} {v = v} a (omega (arith, b))
  link_storable l w (link_prev {x} {v} a b) = at_prev {x = x} {v = v} a (omega (arith, b))
  link_storable l w (link_head {k} {v} a b) = at_head {k = k} {v = v} a b
  link_storable l w (link_mark {k} {v} a b) = at_mark {k = k} {v = v} a b

  guard_words : (x : ℕ) → (guard_next x < words) × (guard_prev x < words)
  unfolding guard_next guard_prev
  guard_words x = (mod-lt _ (omega arith), mod-lt _ (omega arith))

  guard_storable : words ≤ top → (l : List ℕ) → Below n l → Each S (guard_writes l)
  guard_storable h [] b = tt
  guard_storable h (x ∷ l) b =
      let g = guard_words x in
      (at_next {x = x} {v = guard_next x} b.0 (omega (arith, g.0)), (at_prev {x = x} {v = guard_prev x} b.0 (omega (arith, g.1)), guard_storable h l b.1))

  pub deed_storable : (m : Memory) (t : Deed) → Shows n c top m → Bounded n c top most m t → Each S (writes (plan_of m t))
  deed_storable m t s b =
      let o = bounds n c top in
      let fit : Fit o = record { head = λ v l. omega (arith, l, s.grains); clear = omega arith; set = omega arith } in
      let d = steps_done o fit m (t.early ++ t.late) (record { heads = s.heads; marks = s.marks }) b.steps in
      let late = steps_writes (apply m (early_writes m t)) t.late in
      let w = each_weaker (LinkWrite o) S (link_storable s.grains) (early_writes m t ++ late) (subst (Each (LinkWrite o)) (steps_append m t.early t.late) d.writes) in
      let e = each_split S (early_writes m t) late w in
      each_append S (early_writes m t) _ e.0
      (each_append S late _ e.1 (each_append S (guard_writes t.guards) t.records (guard_storable s.guards t.guards b.guards) b.records))

  -- ---- tags, inside s grains at x

  tag_storable : (x s : ℕ) → x + s ≤ n → s < 2 ^ c → (w : Write) → ToTag w × Within x s w → S w
  tag_storable x s h l w i = subst (λ (f : ℕ). S (f at w.place ≔ w.value)) (sym i.0) (at_tag {x = w.place} {v = w.value} (omega (arith, i.1)) (omega (arith, i.1)))

  pub tags_storable : (x s : ℕ) (l : List Write) → x + s ≤ n → s < 2 ^ c → Each ToTag l → Each (Within x s) l → Each S l
  tags_storable x s l h k f i = each_weaker (λ w. ToTag w × Within x s w) S (tag_storable x s h k) l (each_both ToTag (Within x s) l f i)

-- ---- what the checks tell

-- a size that has a list is a count of c bits
pub size_short : (c s : ℕ) → 1 ≤ s → list_of s < 16 * c → s < 2 ^ c
size_short c s p h = ⊎_elim (λ (l : 2 ^ c ≤ s). absurd (omega (arith, list_large s c p l))) (λ (l : s < 2 ^ c). l) (le? (2 ^ c) s)

module _ (n c top : ℕ) (m : Memory) where
  abbrev R : List Step → Type 0
  R = Ready (bounds n c top) m

  pub headed : (k : ℕ) → Headed (FreeTag n m) m k → Headed (λ y. y < n) m k
  headed k h = ⊎_elim (λ (e : m Mark k ≡ 0). inl e) (λ (f : FreeTag n m (m Head k)). inr f.1.inside) h

  -- a free neighbour of s grains leaves its list
  leave_ready : (y s : ℕ) → ((s ≡ 0 → ⊥) → ListedFree m n c y s) → R (leave_steps s y)
  leave_ready y s f = eq_case R s 0 _ _ (λ _. tt) (λ e. let l = f e in ((l.list, l.entry.next.1.inside, l.entry.prev.1.inside), tt))

  pub after_ready : (y : ℕ) {b : ℕ} → Gives m (see_after n c y) b → (y + b < n) × R (leave_steps b y)
  after_ready y {b} g =
      let i = after_checked m n c y g in
      ⊎_elim
      (λ j. (j.1.ends, leave_ready y b (λ _. j.1)))
      (λ j. (omega (arith, i.0, j.1), leave_ready y b (λ e. absurd (e j.1))))
      i.1

  pub before_ready : (x : ℕ) {a : ℕ} → x < n → Gives m (see_before n c x) a → (a ≤ x) × R (leave_steps a (x - a))
  before_ready x {a} l g = ⊎_elim
      (λ j. (j.3, leave_ready (x - a) a (λ _. j.4)))
      (λ j. (omega (arith, j.1), leave_ready (x - a) a (λ e. absurd (e j.1))))
      (before_checked m n c x l g)

  pub beside_ready : (x s a b : ℕ) → R (leave_steps b (x + s)) → R (leave_steps a (x - a)) → R (beside_steps x s a b)
  beside_ready x s a b u v = ready_append (bounds n c top) m (leave_steps b (x + s)) (leave_steps a (x - a)) u v

  -- of t grains at x, k are kept
  pub rest_steps_lem : (x t k : ℕ) → 1 ≤ k → k ≤ t → x + t < n → list_of t < 16 * c → ((k ≡ t → ⊥) → Headed (FreeTag n m) m (list_of (t - k))) → R (rest_steps x t k)
  rest_steps_lem x t k p l h i f = eq_case R k t _ _ (λ _. tt) (λ e.
      let some : 1 ≤ t - k = omega (arith, e) in
      ((omega (arith, list_mono (t - k) t some (omega arith)), omega arith, headed (list_of (t - k)) (f e)), tt))

  pub rest_ready : (x t k : ℕ) {u : Unit {0}} → 1 ≤ k → k ≤ t → x + t < n → Gives m (see_rest n c t k) u → (t < 2 ^ c) × R (rest_steps x t k)
  rest_ready x t k p l h g = let i = rest_checked m n c t k g in (size_short c t (omega arith) i.0, rest_steps_lem x t k p l h i.0 i.1)

  -- t grains at z enter their list
  pub join_ready : (z t : ℕ) {u : Unit {0}} → 1 ≤ t → z < n → Gives m (see_join n c t) u → (t < 2 ^ c) × R (enter (list_of t) z ∷ [])
  join_ready z t p h g = let i = join_checked m n c t g in (size_short c t p i.0, ((i.0, h, headed (list_of t) i.1), tt))
