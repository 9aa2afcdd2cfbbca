-- The third step of a resize: the neighbours leave their lists, the payload is carried down, and its block is made.
use Rattle.std.specs.Prelude.{ℕ, ◌+◌, ◌-◌, ◌*◌, ◌≤◌, ◌<◌, ◌≡◌, refl, List, length, Option, Some, None, Ok, Err}
use Rattle.std.proofs.Common.{arith, ap, sym, ◌∙◌, subst}
use Rattle.copy.specs.Moved.{moved}
use Rattle.invariants.proofs.Placing.{keeps_holds}
use Rattle.script.specs.Script.{run}
use Rattle.sound.specs.Plans.{move_script}
use Rattle.sound.specs.Runs.{Reply, yes, not}
use Rattle.slices.specs.Decode.{grains}
use Rattle.slices.specs.Slices.{Slices, stores}
use Rattle.carry.specs.Carry.{shifted, carried}
use Rattle.carry.proofs.Carry.{carried_parts}
use Rattle.tables.specs.Length.{LongEnough}
use Rattle.free_list.specs.Lent.{lent, held, classes, Long}
use Rattle.free_list.specs.Written.{Written, WrittenLive, written_length, written_room}
use Rattle.neighbours.specs.declared.Neighbour.{Neighbour}
use Rattle.refusal.specs.Number.{number}
use Rattle.refusal.specs.declared.Refusal.{Refusal}
use Rattle.neighbours.specs.Shown.{seen_of}
use Rattle.neighbours.specs.Leaving.{Known}
use Rattle.slide.specs.declared.Plan.{Plan as SlidePlan}
use Rattle.slide.specs.Shown.{Able, Makeable, Slides, both_left, down_writes, slid, down_keep, makeable_keep}
use Rattle.reallocate.specs.Left.{halves_inside}
use Rattle.reallocate.specs.Does.{Does, refused, granted, GoesElsewhere, Moves}

-- where the payload of the plan r is
abbrev pub place_of : SlidePlan → ℕ
place_of r = 2 * r.at + r.place

-- the slices have room for all that is written, and for the u half grains that are carried from q on
pub record Ready (a l v : List ℕ) (q u : ℕ) (r : SlidePlan) : Type 0 where
  pub behind : Known a r.behind
  pub before : Known a r.before
  pub makeable : Makeable a r
  pub lists : Long l
  pub old : q < 64 * length v
  pub new : place_of r < 64 * length v
  pub source : q + u ≤ 2 * grains 8 a
  pub target : place_of r + u ≤ 2 * grains 8 a

-- so have they where no more is carried than the payload is to have
pub slide_ready : (a l v : List ℕ) (q u p : ℕ) (r : SlidePlan) → LongEnough (length a) (length l) (length v) → Able a p r
    → q < 2 * grains 8 a → q + u ≤ 2 * grains 8 a → u ≤ p → Ready a l v q u r
unfolding grains
slide_ready a l v q u p r e h i j k = record {
  behind = h.behind;
  before = h.before;
  makeable = h.makeable;
  lists = e.heads;
  old = omega (arith, e.bits);
  new = omega (arith, e.bits, h.makeable.pad);
  source = j;
  target = omega (arith, keeps_holds r.place p, h.keep, h.makeable.kept, h.makeable.inside);
}

-- and so after the neighbours left
module _ (a l v : List ℕ) (q u : ℕ) (r : SlidePlan) (h : Ready a l v q u r) (b m : List ℕ) (w : Written a l (both_left a r) b m) where
  pub halves_left : (16 * (q + u) ≤ length b) × (16 * (place_of r + u) ≤ length b)
  halves_left =
      let e = written_length {w = both_left a r} w in
      (omega (arith, e, halves_inside a q u h.source), omega (arith, e, halves_inside a (place_of r) u h.target))

  pub down_ready : (c : List ℕ) → length c ≡ length b → Makeable c r × Long m × (q < 64 * length v) × (place_of r < 64 * length v)
  down_ready c k = (
    makeable_keep a c r (k ∙ written_length {w = both_left a r} w) h.makeable,
    (written_room {w = both_left a r} 0 w (record { known = omega arith; room = h.lists })).room,
    h.old,
    h.new,
  )

-- ---- what is left: the arena a, the lists l and the live bits v become b, m and o

abbrev pub Slid : List ℕ → List ℕ → List ℕ → ℕ → ℕ → SlidePlan → List ℕ → List ℕ → List ℕ → Type 0
Slid a l v q u r b m o = (t : List ℕ) → lent b m o t ≡ carried (lent a l v t) q (slid a q u r)

-- the writes before and after the carrying hang on the arena's length alone
pub slid_parts : (a l v b m c d n o : List ℕ) (q u : ℕ) (r : SlidePlan) → Written a l (both_left a r) b m
    → c ≡ moved b (16 * q) (16 * place_of r) (16 * u) → length c ≡ length b → WrittenLive c m v (down_writes c q r) d n o → Slid a l v q u r d n o
slid_parts a l v b m c d n o q u r f e k w t =
    w.slices t
    ∙ ap (stores 8 (lent c m v t)) (down_keep a c q r (k ∙ written_length {w = both_left a r} f))
    ∙ ap (λ (x : List ℕ). stores 8 (lent x m v t) (down_writes a q r)) e
    ∙ ap (λ (S : Slices). stores 8 (shifted S q (place_of r) u) (down_writes a q r)) (f.slices v t)
    ∙ sym (carried_parts (lent a l v t) q (slid a q u r) (both_left a r) (down_writes a q r) refl refl)

-- ---- the step, or the next one: the block of s grains at x, with e behind it

module _ (a l v : List ℕ) (q x s : ℕ) (e : Option Neighbour) (p n : ℕ) where
  -- refused
  pub moves_refused : (r : Refusal) → Slides a l x s e p n (Err r) → Moves a l v q x s e p n (not (number r)) a l v
  moves_refused r h t = refused (number r) (sym (h.answers q v t))

  module _ (b m o : List ℕ) where
    -- down
    pub moves_down : (r : SlidePlan) → Slides a l x s e p n (Ok (Some r)) → Slid a l v q (2 * (x + s) - q) r b m o → Moves a l v q x s e p n (yes (place_of r)) b m o
    moves_down r h f t = subst (Does (lent a l v t) q (run (held a l v t) (move_script (grains 8 a) classes q p n x s (seen_of a e))) (yes (place_of r))) (sym (f t))
        (granted (slid a q (2 * (x + s) - q) r) (sym (h.answers q v t)))

    -- elsewhere
    pub moves_elsewhere : Slides a l x s e p n (Ok None) → (i : Reply) → GoesElsewhere a l v q (2 * (x + s) - q) p n i b m o → Moves a l v q x s e p n i b m o
    moves_elsewhere h i f t = rw (sym (h.answers q v t)) (f t)
