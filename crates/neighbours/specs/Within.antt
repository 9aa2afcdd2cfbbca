-- What was seen of the block of a payload, and of its neighbours, lies in the arena, and their links lead: so what they are
-- together can be counted and all that is planned can be written.
use Rattle.std.specs.Prelude.{ℕ, ◌+◌, ◌*◌, ◌≤◌, ◌<◌, ◌≡◌, List, [], length, Option, Some, None, IfSome, IfNone, Ok}
use Rattle.std.proofs.Common.{arith, ap, sym, ◌∙◌, subst, inl, inr, ⊎_elim}
use Rattle.choice.specs.Choice.{if_eq, eq_case}
use Rattle.bits.specs.Map.{lists}
use Rattle.class.specs.Class.{list_of}
use Rattle.script.specs.Memory.{Size}
use Rattle.script.specs.Script.{run}
use Rattle.refusal.specs.Answered.{answered_as}
use Rattle.sound.specs.Checks.{Word, is_free, is_used, word_of, see_owner}
use Rattle.sound.specs.Checked.{EntryChecked}
use Rattle.sound.proofs.Checked.{behind_checked, before_checked, owner_checked}
use Rattle.slices.specs.Decode.{grains, Inside}
use Rattle.slices.proofs.Arena.{size_inside}
use Rattle.slices.proofs.Slices.{memory_size}
use Rattle.free_list.specs.Lent.{lent, held, classes, no_link, link, Leads, Holds}
use Rattle.free_list.specs.Leading.{leads_valid}
use Rattle.neighbours.specs.Shown.{owned, linked, grains_of, SeenBehind, SeenBefore}
use Rattle.neighbours.specs.declared.Owner.{Owner as OwnerAnswer}
use Rattle.neighbours.specs.declared.Neighbour.{Neighbour}
use Rattle.neighbours.specs.After.{headed}
use Rattle.neighbours.specs.Leaving.{Linked, Known, Listed, Stands, headed_both, second_of}

-- what the memory says a block is, lies in the arena
size_within : (a l v t : List ℕ) (g : ℕ) (w : Word) → word_of (held a l v t Size g) ≡ w → Inside (grains 8 a) g w
size_within a l v t g w e = subst (Inside (grains 8 a) g) (ap word_of (sym (memory_size 8 (lent a l v t) g)) ∙ e) (size_inside 8 a g)

-- ---- the block

pub owner_within : (a l v t : List ℕ) (q : ℕ) (r : OwnerAnswer) → answered_as owned (Ok r) ≡ run (held a l v t) (see_owner q) → (1 ≤ r.grains) × (r.at + r.grains < grains 8 a)
owner_within a l v t q r h =
    let c = owner_checked (held a l v t) q (owned r) (sym h) in
    let i = size_within a l v t r.at (is_used r.grains) c.word in
    (i.0, omega (arith, i.1))

-- ---- its neighbours

module _ (a l : List ℕ) (s : length a < 18446744073709551616) where
  -- a list that is there, and links that lead
  sighted : (y : ℕ) (e : Neighbour) → e.list ≡ list_of e.grains → list_of e.grains < lists
      → EntryChecked (grains 8 a) (held a l [] []) (list_of e.grains) y (record { next = link a e.next; prev = link a e.prev }) → Linked a e
  sighted y e k h c = record {
    list = omega (arith, k);
    next = leads_valid a e.next s (⊎_elim (λ q. inl q) (λ q. inr q.0) c.back);
    prev = leads_valid a e.prev s (⊎_elim (λ q. inl q.0) (λ q. inr q.2) c.head);
  }

  -- behind it
  pub behind_within : (y : ℕ) (o : Option Neighbour) → y < grains 8 a → SeenBehind a l y (Ok o) → (y + grains_of o < grains 8 a) × Known a o
  behind_within y None i h = (omega arith, tt)
  behind_within y (Some e) i h =
      let c = behind_checked (grains 8 a) classes (held a l [] []) y (linked a e) (sym (h.answer [] [])) in
      let j = size_within a l [] [] y (is_free e.grains) c.word in
      (omega (arith, j.1), sighted y e h.block.list c.list c.entry)

  -- before it
  pub before_within : (x : ℕ) (o : Option Neighbour) → SeenBefore a l x (Ok o) → (grains_of o ≤ x) × Known a o
  before_within x None h = (omega arith, tt)
  before_within x (Some e) h =
      let c = before_checked (grains 8 a) classes (held a l [] []) x (linked a e) (sym (h.answer [] [])) in
      (omega (arith, c.meets), sighted _ e h.block.list c.list c.entry)

  -- a block there has grains
  pub before_some : (x : ℕ) (e : Neighbour) → SeenBefore a l x (Ok (Some e)) → 1 ≤ e.grains
  before_some x e h =
      let c = before_checked (grains 8 a) classes (held a l [] []) x (linked a e) (sym (h.answer [] [])) in
      omega (arith, c.low, c.meets)

-- ---- a head that was chosen

pub headed_leads : (a : List ℕ) (e : Option Neighbour) (j h : ℕ) → IfSome e (λ n. Leads a n.next) → Leads a h → Leads a (headed e j h)
headed_leads a None j h f i = i
headed_leads a (Some e) j h f i =
    eq_case (Leads a) e.prev no_link (if_eq e.list j e.next h) h (λ _. eq_case (Leads a) e.list j e.next h (λ _. f) (λ _. i)) (λ _. i)

-- what is next of a neighbour that can leave leads
pub known_next : (a : List ℕ) (e : Option Neighbour) → Known a e → IfSome e (λ n. Leads a n.next)
known_next a None k = tt
known_next a (Some e) k = k.next

-- ---- neighbours that can leave

-- one behind the block of s grains at x
pub record Behind (a : List ℕ) (x s : ℕ) (e : Option Neighbour) : Type 0 where
  pub inside : x + (s + grains_of e) < grains 8 a
  pub list : Listed e
  pub known : Known a e
  pub stands : Stands a (x + s) e

-- as it was seen there
pub behind_seen : (a l : List ℕ) (x s : ℕ) (o : Option Neighbour) → SeenBehind a l (x + s) (Ok o) → length a < 18446744073709551616 → x + s < grains 8 a → Behind a x s o
behind_seen a l x s None z t h = record { inside = omega arith; list = tt; known = tt; stands = tt }
behind_seen a l x s (Some e) z t h =
    let w = behind_within a l t (x + s) (Some e) h z in
    record { inside = omega (arith, w.0); list = z.block.list; known = w.1; stands = z.block.links }

-- the second, after the first
pub known_second : (a : List ℕ) (e : Option Neighbour) (f : Neighbour) (z : ℕ) → Known a e → Linked a f → Linked a (second_of e z f)
known_second a None f z i j = j
known_second a (Some e) f z i j = record {
  list = j.list;
  next = eq_case (Leads a) e.prev (32 * z) e.next f.next (λ _. i.next) (λ _. j.next);
  prev = eq_case (Leads a) e.next (32 * z) e.prev f.prev (λ _. i.prev) (λ _. j.prev);
}

-- where nobody left first, its links are as they were
pub second_stands : (a : List ℕ) (e : Option Neighbour) (f : Neighbour) (y z : ℕ) → Holds a y f.next f.prev → IfNone e (Stands a y (Some (second_of e z f)))
second_stands a None f y z h = h
second_stands a (Some e) f y z h = tt

-- the head of a list leads, when both left
pub both_leads : (a : List ℕ) (e f : Option Neighbour) (k h : ℕ) → Known a e → Known a f → Leads a h → Leads a (headed_both e f k h)
both_leads a e f k h i j o = headed_leads a f k _ (known_next a f j) (headed_leads a e k h (known_next a e i) o)
