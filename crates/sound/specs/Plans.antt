-- The scripts of take, return and resize: on any memory, what is read and checked, and then the answer with all that is to
-- be written. A refusal plans nothing. Numbers as in the definition: p half grains at a multiple of a, a payload at q.
use Rattle.std.specs.Prelude.{ℕ, zero, suc, ◌+◌, ◌-◌, ◌*◌, ◌/◌, ◌%◌, ◌≤◌, ◌<◌, List, [], ◌∷◌, ◌++◌, length}
use Rattle.choice.specs.Choice.{if_eq, if_le}
use Rattle.class.specs.Class.{list_of, start_of}
use Rattle.definition.specs.Calls.{wanted, place, keeps}
use Rattle.script.specs.Memory.{Size, Before, Next, Prev, Mark, Live, Table, none, root, free_word, used_word, Write, ◌at◌≔◌, latest}
use Rattle.script.specs.Script.{Script, read, first, done, stop, ◌>>=◌, ◌>>◌, get, unless_le, must_eq, must_le, over}
use Rattle.sound.specs.Checks.{word_of, must_grain, must_lead, must_back, must_busy, must_free, must_list, Entry, see_entry, see_head, Beside, nobody, somebody, see_behind, see_before, Owner, see_owner}
use Rattle.sound.specs.Links.{unlink_writes, push_writes}

-- the answer, what is written, and how many half grains at the old payload may have to be moved to the new one: after the
-- first `early` of the writes, and before the others
pub record Plan : Type 0 where
  pub answer : ℕ
  pub writes : List Write
  pub moved : ℕ
  pub early : ℕ

-- ---- parts of plans

-- the block of t grains at x, whose free parts leave their lists by w, keeps m; what is left goes to the head of its list
abbrev pub whole_writes : ℕ → ℕ → List Write
whole_writes x t = (Size at x ≔ used_word t) ∷ (Before at x + t ≔ x) ∷ []

abbrev pub split_writes : ℕ → ℕ → ℕ → List Write
split_writes x t m = (Size at x ≔ used_word m) ∷ (Size at x + m ≔ free_word (t - m)) ∷ (Before at x + m ≔ x) ∷ (Before at x + t ≔ x + m) ∷ []

unfoldable pub leave_script : ℕ → ℕ → List Write → ℕ → ℕ → ℕ → Script (List Write)
leave_script n c w x t m = if_eq m t (done (w ++ whole_writes x t)) (do
  must_list c (t - m)
  h ← see_head n (list_of (t - m))
  done ((w ++ push_writes (list_of (t - m)) (x + m) (latest w Next (root (list_of (t - m))) h)) ++ split_writes x t m))

-- the payload's place d in the block at x
abbrev pub pad_writes : ℕ → ℕ → List Write
pad_writes x d = if_eq (d % 2) 0 ((Prev at x + d / 2 - 1 ≔ x) ∷ []) []

-- a free neighbour leaves its list
abbrev pub room_of : Beside → ℕ
room_of nobody = 0
room_of (somebody t e) = t

abbrev pub leaves : Beside → List Write
leaves nobody = []
leaves (somebody t e) = unlink_writes (list_of t) e.next e.prev

-- its entry, at z, after the writes w: the two neighbours may have been neighbours in one list
abbrev pub afterwards : List Write → ℕ → Beside → Beside
afterwards w z nobody = nobody
afterwards w z (somebody t e) = somebody t (record { next = latest w Next z e.next; prev = latest w Prev z e.prev })

abbrev pub both_leave : Beside → ℕ → Beside → List Write
both_leave a z b = leaves a ++ leaves (afterwards (leaves a) z b)

-- ---- take

unfoldable pub take_script : ℕ → ℕ → ℕ → ℕ → Script Plan
take_script n c p a = do
  k ← first (16 * c - start_of (wanted p a)) (start_of (wanted p a)) (λ v. done v)
  unless_le 1 (suc k) (16 * c)
  y ← get Next (root k)
  must_grain n y
  s ← must_free y
  must_eq (list_of s) k
  must_lead Prev y none
  x ← get Next y
  must_back n Prev x y
  must_busy (y + s)
  must_lead Before (y + s) y
  w ← leave_script n c (unlink_writes k x none) y s (keeps (place a y) p)
  done (record { answer = 2 * y + place a y; writes = w ++ (pad_writes y (place a y) ++ ((Live at 2 * y + place a y ≔ 1) ∷ [])); moved = 0; early = 0 })

-- ---- return

abbrev pub free_writes : ℕ → ℕ → ℕ → List Write
free_writes q z t = (Size at z ≔ free_word t) ∷ (Before at z + t ≔ z) ∷ (Live at q ≔ 0) ∷ []

unfoldable pub join_script : ℕ → ℕ → ℕ → ℕ → ℕ → List Write → Script Plan
join_script n c q z t w = do
  must_list c t
  h ← see_head n (list_of t)
  done (record { answer = 0; moved = 0; early = 0; writes = (w ++ push_writes (list_of t) z (latest w Next (root (list_of t)) h)) ++ free_writes q z t })

unfoldable pub give_back_script : ℕ → ℕ → ℕ → Script Plan
give_back_script n c q = do
  o ← see_owner q
  a ← see_behind n c (o.at + o.grains)
  b ← see_before n c o.at
  join_script n c q (o.at - room_of b) (room_of b + (o.grains + room_of a)) (both_leave a (o.at - room_of b) b)

-- ---- resize

-- step 4: what the return needs is checked as it will be after the take
unfoldable pub elsewhere_script : ℕ → ℕ → ℕ → ℕ → ℕ → ℕ → Script Plan
elsewhere_script n c q p a u = do
  t ← take_script n c p a
  b ← over t.writes (give_back_script n c q)
  done (record { answer = t.answer; writes = t.writes ++ b.writes; moved = u; early = length t.writes })

-- step 3: the block becomes one of t grains at z
unfoldable pub down_script : ℕ → ℕ → ℕ → ℕ → ℕ → ℕ → ℕ → ℕ → List Write → Script Plan
down_script n c q p a u z t w = if_le (keeps (place a z) p) t (do
  v ← leave_script n c w z t (keeps (place a z) p)
  done (record { answer = 2 * z + place a z; moved = u; early = length w; writes = v ++ (pad_writes z (place a z) ++ ((Live at q ≔ 0) ∷ (Live at 2 * z + place a z ≔ 1) ∷ [])) }))
    (elsewhere_script n c q p a u)

-- step 3, where a free block stands before it; else step 4. The block of s grains at x, and what stands behind it
unfoldable pub move_script : ℕ → ℕ → ℕ → ℕ → ℕ → ℕ → ℕ → Beside → Script Plan
move_script n c q p a x s b = do
  f ← see_before n c x
  if_eq (room_of f) 0 (elsewhere_script n c q p a (2 * (x + s) - q))
      (down_script n c q p a (2 * (x + s) - q) (x - room_of f) (room_of f + (s + room_of b)) (both_leave b (x - room_of f) f))

-- steps 1 and 2, in place: the payload's place in its block is d
unfoldable pub stretch_script : ℕ → ℕ → ℕ → ℕ → ℕ → ℕ → ℕ → ℕ → Beside → Script Plan
stretch_script n c q p a d x s b = if_le (keeps d p) (s + room_of b)
    (do
      w ← leave_script n c (leaves b) x (s + room_of b) (keeps d p)
      done (record { answer = q; writes = w; moved = 0; early = 0 }))
    (move_script n c q p a x s b)

-- nothing to do, where the block keeps its size
unfoldable pub grow_script : ℕ → ℕ → ℕ → ℕ → ℕ → ℕ → ℕ → ℕ → Script Plan
grow_script n c q p a d x s = if_eq (keeps d p) s (done (record { answer = q; writes = []; moved = 0; early = 0 })) (do
  b ← see_behind n c (x + s)
  stretch_script n c q p a d x s b)

unfoldable pub resize_script : ℕ → ℕ → ℕ → ℕ → ℕ → Script Plan
resize_script n c q p a = do
  o ← see_owner q
  grow_script n c q p a (q - 2 * o.at) o.at o.grains
