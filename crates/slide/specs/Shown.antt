-- A plan of the code, as the script answers it: the writes, spelled from the plan's numbers, in two parts; or a refusal; or
-- that the payload has to go elsewhere; and what makes the writes possible.
use Rattle.std.specs.Prelude.{ℕ, ◌+◌, ◌-◌, ◌*◌, ◌/◌, ◌≤◌, ◌<◌, ◌≡◌, List, [], ◌∷◌, ◌++◌, length, Option, Some, None, IfSome, IsSome, Result, Ok, Err, IfOk, IfErr}
use Rattle.std.proofs.Common.{ap, sym}
use Rattle.bits.specs.Map.{lists}
use Rattle.definition.specs.Calls.{place, keeps}
use Rattle.script.specs.Memory.{Memory, Live, Write, ◌at◌≔◌}
use Rattle.script.specs.Script.{ok, no, run}
use Rattle.script.specs.Script.{Result as Answer}
use Rattle.refusal.specs.Number.{number}
use Rattle.refusal.specs.Answered.{answered_as}
use Rattle.refusal.specs.declared.Refusal.{Refusal}
use Rattle.sound.specs.Plans.{Plan, pad_writes, leave_script, elsewhere_script, down_script, move_script}
use Rattle.slices.specs.Decode.{grains}
use Rattle.slices.proofs.Decode.{grains_keep}
use Rattle.free_list.specs.Lent.{held, classes, link, Leads, link_keep, leads_keep}
use Rattle.neighbours.specs.declared.Neighbour.{Neighbour}
use Rattle.neighbours.specs.Shown.{seen_of, grains_of}
use Rattle.neighbours.specs.Leaving.{Known, both_leaving}
use Rattle.carve.specs.Made.{left_behind}
use Rattle.slide.specs.declared.Plan.{Plan as PlanAnswer}
use Rattle.carve.specs.declared.Rest.{Rest}

-- ---- what a plan says

-- the payload that was at q is live at place d of the block at z, and so is its pad
abbrev pub turn_writes : ℕ → ℕ → ℕ → List Write
turn_writes q z d = pad_writes z d ++ ((Live at q ≔ 0) ∷ (Live at 2 * z + d ≔ 1) ∷ [])

-- the second part: the block is made, and the payload that was at q is live in it
abbrev pub down_writes : List ℕ → ℕ → PlanAnswer → List Write
down_writes a q r = left_behind r.at r.grains r.keep r.list (link a r.head) ++ turn_writes q r.at r.place

-- both parts, where u half grains at q may have to be carried between them
abbrev pub both_left : List ℕ → PlanAnswer → List Write
both_left a r = both_leaving a r.behind r.before

abbrev pub slid : List ℕ → ℕ → ℕ → PlanAnswer → Plan
slid a q u r = record { answer = 2 * r.at + r.place; writes = both_left a r ++ down_writes a q r; moved = u; early = length (both_left a r) }

-- what a plan says on the memory c, for the payload at q, of which p half grains at a multiple of m are wanted: where there is
-- none the call goes on
abbrev pub shown : List ℕ → Memory → ℕ → ℕ → ℕ → ℕ → Result (Option PlanAnswer) Refusal → Answer Plan
shown a c q u p m (Ok None) = run c (elsewhere_script (grains 8 a) classes q p m u)
shown a c q u p m (Ok (Some r)) = ok (slid a q u r)
shown a c q u p m (Err r) = no (number r)

-- only the arena's length counts for the second part: the bytes may have been carried before it
pub down_keep : (a b : List ℕ) (q : ℕ) (r : PlanAnswer) → length b ≡ length a → down_writes b q r ≡ down_writes a q r
down_keep a b q r e = ap (λ (h : ℕ). left_behind r.at r.grains r.keep r.list h ++ turn_writes q r.at r.place) (link_keep a b r.head e)

-- ---- what is left of t grains where k are kept, after e and f left

-- it can be put before its head; it is refused with 5 alone
pub record SeenRest (a l : List ℕ) (t k : ℕ) (e f : Option Neighbour) (r : Result Rest Refusal) : Type 0 where
  pub seen : (v o : List ℕ) (z : ℕ) → answered_as (λ y. both_leaving a e f ++ left_behind z t k y.list (link a y.head)) r
      ≡ run (held a l v o) (leave_script (grains 8 a) classes (both_leaving a e f) z t k)
  pub ready : IfOk r (λ y. (k ≡ t → ⊥) → (y.list < lists) × Leads a y.head)
  pub five : IfErr r (λ i. number i ≡ 5)

-- ---- what is asked for writing the second part: room for the block, a list that is there, a head that leads, and a pad

pub record Makeable (a : List ℕ) (r : PlanAnswer) : Type 0 where
  pub inside : r.at + r.grains < grains 8 a
  pub kept : r.keep ≤ r.grains
  pub rest : (r.keep ≡ r.grains → ⊥) → (r.list < lists) × Leads a r.head
  pub some : 0 < r.place
  pub pad : r.at + r.place / 2 < grains 8 a

-- only the arena's length counts for that, too
pub makeable_keep : (a b : List ℕ) (r : PlanAnswer) → length b ≡ length a → Makeable a r → Makeable b r
makeable_keep a b r e h = record {
  inside = rw (grains_keep 8 a b e) h.inside;
  kept = h.kept;
  rest = λ n. ((h.rest n).0, leads_keep a b r.head e (h.rest n).1);
  some = h.some;
  pad = rw (grains_keep 8 a b e) h.pad;
}

-- and both, with what the block keeps for p half grains; there is a neighbour before it
pub record Able (a : List ℕ) (p : ℕ) (r : PlanAnswer) : Type 0 where
  pub behind : Known a r.behind
  pub before : Known a r.before
  pub there : IsSome r.before
  pub makeable : Makeable a r
  pub keep : r.keep ≡ keeps r.place p

-- ---- a plan r of the code, if it has one

-- where the block of t grains at z is joined, after e and f left, and the payload's place in it is d
pub record Downs (a l : List ℕ) (z t : ℕ) (e : Option Neighbour) (f : Neighbour) (d p : ℕ) (r : Result (Option PlanAnswer) Refusal) : Type 0 where
  pub answers : (q u m : ℕ) → d ≡ place m z → (v o : List ℕ) → shown a (held a l v o) q u p m r
      ≡ run (held a l v o) (down_script (grains 8 a) classes q p m u z t (both_leaving a e (Some f)))
  pub able : IfOk r (λ y. IfSome y (Able a p))
  pub joined : IfOk r (λ y. IfSome y (λ s. (s.at ≡ z) × (s.grains ≡ t) × (s.place ≡ d)))

-- for the used block of s grains at x, behind which e was seen: the joined block starts before x and ends where e does, and
-- the payload's place is counted from its start
abbrev pub Joined : ℕ → ℕ → Option Neighbour → ℕ → PlanAnswer → Type 0
Joined x s e m r = (r.at < x) × (r.at + r.grains ≡ x + (s + grains_of e)) × (r.place ≡ place m r.at)

pub record Slides (a l : List ℕ) (x s : ℕ) (e : Option Neighbour) (p m : ℕ) (r : Result (Option PlanAnswer) Refusal) : Type 0 where
  pub answers : (q : ℕ) (v o : List ℕ) → shown a (held a l v o) q (2 * (x + s) - q) p m r ≡ run (held a l v o) (move_script (grains 8 a) classes q p m x s (seen_of a e))
  pub able : IfOk r (λ y. IfSome y (Able a p))
  pub joined : IfOk r (λ y. IfSome y (Joined x s e m))

-- ---- as a call that was planned finds it

module _ (a l v o : List ℕ) (q x s : ℕ) (e : Option Neighbour) (p m : ℕ) where
  abbrev asked : Answer Plan
  asked = run (held a l v o) (move_script (grains 8 a) classes q p m x s (seen_of a e))

  -- refused
  pub slide_refused : (r : Refusal) → Slides a l x s e p m (Err r) → asked ≡ no (number r)
  slide_refused r h = sym (h.answers q v o)

  -- down into the free block before it
  pub slide_down : (r : PlanAnswer) → Slides a l x s e p m (Ok (Some r)) → asked ≡ ok (slid a q (2 * (x + s) - q) r)
  slide_down r h = sym (h.answers q v o)

  -- elsewhere
  pub slide_elsewhere : Slides a l x s e p m (Ok None) → asked ≡ run (held a l v o) (elsewhere_script (grains 8 a) classes q p m (2 * (x + s) - q))
  slide_elsewhere h = sym (h.answers q v o)
