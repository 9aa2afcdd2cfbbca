-- A free neighbour that leaves its list: what makes it possible, what the script writes for it, and what is written then.
-- After one neighbour the other leaves, from a list in which the first is no more.
use Rattle.std.specs.Prelude.{ℕ, ◌*◌, ◌<◌, ◌≡◌, refl, List, ◌++◌, length, Option, Some, None, IfSome}
use Rattle.std.proofs.Common.{ap, sym, ◌∙◌}
use Rattle.choice.specs.Choice.{if_eq}
use Rattle.bits.specs.Map.{lists}
use Rattle.class.specs.Class.{list_of}
use Rattle.script.specs.Memory.{Next, Prev, root, Write, latest}
use Rattle.sound.specs.Links.{unlink_writes}
use Rattle.sound.specs.Plans.{room_of, leaves, afterwards, both_leave}
use Rattle.slices.specs.Decode.{grains}
use Rattle.free_list.specs.Lent.{link, Leads, Long, Room, Holds, link_keep, leads_keep}
use Rattle.free_list.specs.Written.{Written, written_then, written_as, written_length}
use Rattle.neighbours.specs.declared.Neighbour.{Neighbour}
use Rattle.neighbours.specs.Shown.{linked, seen_of, grains_of}
use Rattle.neighbours.specs.After.{headed, leaving_of, latest_append, next_after, prev_after, head_after}

-- ---- what is asked for writing: a list that is there, links that lead

pub record Linked (a : List ℕ) (e : Neighbour) : Type 0 where
  pub list : e.list < lists
  pub next : Leads a e.next
  pub prev : Leads a e.prev

-- where there is a neighbour
abbrev pub Known : List ℕ → Option Neighbour → Type 0
Known a e = IfSome e (Linked a)

pub known_keep : (a b : List ℕ) (f : Option Neighbour) → length b ≡ length a → Known a f → Known b f
known_keep a b None e k = tt
known_keep a b (Some f) e k = record { list = k.list; next = leads_keep a b f.next e k.next; prev = leads_keep a b f.prev e k.prev }

-- so it can be unlinked
pub can_leave : (a l : List ℕ) (e : Neighbour) → Linked a e → Long l → Room e.list l × Leads a e.next × Leads a e.prev
can_leave a l e k o = (record { known = k.list; room = o }, k.next, k.prev)

-- if it is there it is at y, and its links are the words of y
abbrev pub Stands : List ℕ → ℕ → Option Neighbour → Type 0
Stands a y e = IfSome e (λ n. Holds a y n.next n.prev)

-- ---- one after the other

-- the free block f at z, after e left
abbrev pub second_of : Option Neighbour → ℕ → Neighbour → Neighbour
second_of None z f = f
second_of (Some e) z f = record {
  grains = f.grains;
  list = f.list;
  next = if_eq e.prev (32 * z) e.next f.next;
  prev = if_eq e.next (32 * z) e.prev f.prev;
}

-- the head h of list j, after e and then f left
abbrev pub headed_both : Option Neighbour → Option Neighbour → ℕ → ℕ → ℕ
headed_both e f j h = headed f j (headed e j h)

-- ---- the writes

abbrev pub both_leaving : List ℕ → Option Neighbour → Option Neighbour → List Write
both_leaving a e f = leaving_of a e ++ leaving_of a f

-- only the arena's length counts
pub leaving_keep : (a b : List ℕ) (e : Option Neighbour) → length b ≡ length a → leaving_of a e ≡ leaving_of b e
leaving_keep a b None h = refl
leaving_keep a b (Some e) h =
    ap (λ (y : ℕ). unlink_writes e.list y (link a e.prev)) (sym (link_keep a b e.next h)) ∙ ap (unlink_writes e.list (link b e.next)) (sym (link_keep a b e.prev h))

-- of both, too
pub both_keep : (a b : List ℕ) (e f : Option Neighbour) → length b ≡ length a → both_leaving b e f ≡ both_leaving a e f
both_keep a b e f h =
    ap (λ (w : List Write). w ++ leaving_of b f) (sym (leaving_keep a b e h))
    ∙ ap (λ (w : List Write). leaving_of a e ++ w) (sym (leaving_keep a b f h))

-- both leave
pub both_left : (e f : Option Neighbour) {a l b m c o : List ℕ} → Written a l (leaving_of a e) b m → Written b m (leaving_of b f) c o → Written a l (both_leaving a e f) c o
both_left e f {a} {b = b} i j = written_then {p = leaving_of a e} {q = leaving_of a f} i
    (written_as {p = leaving_of b f} (leaving_keep a b f (written_length {w = leaving_of a e} i)) j)

-- ---- as the script has them

pub room_is : (a : List ℕ) (e : Option Neighbour) → room_of (seen_of a e) ≡ grains_of e
room_is a None = refl
room_is a (Some e) = refl

-- its list is that of its size, if it is there
abbrev pub Listed : Option Neighbour → Type 0
Listed e = IfSome e (λ n. n.list ≡ list_of n.grains)

pub leaves_is : (a : List ℕ) (e : Option Neighbour) → Listed e → leaves (seen_of a e) ≡ leaving_of a e
leaves_is a None h = refl
leaves_is a (Some e) h = ap (λ (i : ℕ). unlink_writes i (link a e.next) (link a e.prev)) (sym h)

-- both leave, the second from a list in which the first is no more
pub both_leave_lem : (a : List ℕ) (e : Option Neighbour) (f : Neighbour) (z : ℕ) → length a < 18446744073709551616 → z < grains 8 a → Listed e → f.list ≡ list_of f.grains
    → both_leave (seen_of a e) z (linked a f) ≡ both_leaving a e (Some (second_of e z f))
both_leave_lem a None f z s h p q = leaves_is a (Some f) q
both_leave_lem a (Some e) f z s h p q =
    let w = leaving_of a (Some e) in
    let g = second_of (Some e) z f in
    ap (λ (w : List Write). w ++ leaves (afterwards w z (linked a f))) (leaves_is a (Some e) p)
    ∙ ap (λ (i : ℕ). w ++ unlink_writes i (latest w Next z (link a f.next)) (latest w Prev z (link a f.prev))) (sym q)
    ∙ ap (λ (y : ℕ). w ++ unlink_writes f.list y (latest w Prev z (link a f.prev))) (sym (next_after a e.list e.next e.prev s z f.next h))
    ∙ ap (λ (y : ℕ). w ++ unlink_writes f.list (link a g.next) y) (sym (prev_after a e.list e.next e.prev s z f.prev h))

-- and the head of list k when they did
known_prev : (a : List ℕ) (e : Option Neighbour) → Known a e → IfSome e (λ n. Leads a n.prev)
known_prev a None k = tt
known_prev a (Some e) k = k.prev

pub one_head : (a : List ℕ) (e : Option Neighbour) (k h : ℕ) → length a < 18446744073709551616 → Known a e → link a (headed e k h) ≡ latest (leaving_of a e) Next (root k) (link a h)
one_head a e k h s i = head_after a e k h s (known_prev a e i)

pub head_both : (a : List ℕ) (e f : Option Neighbour) (k h : ℕ) → length a < 18446744073709551616 → Known a e → Known a f
    → link a (headed_both e f k h) ≡ latest (both_leaving a e f) Next (root k) (link a h)
head_both a e f k h s i j =
    one_head a f k _ s j ∙ ap (latest (leaving_of a f) Next (root k)) (one_head a e k h s i)
    ∙ sym (latest_append (leaving_of a e) (leaving_of a f) Next (root k) (link a h))
