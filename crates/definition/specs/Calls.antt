-- The heap and its calls. Blocks and regions are counted in grains, payloads, their lengths and their alignments in half
-- grains: a request asks for p half grains at a multiple of a. c is the number of first-level classes.
use Rattle.std.specs.Prelude.{ℕ, zero, suc, ◌+◌, ◌-◌, ◌*◌, ◌/◌, ◌^◌, min, List, [], ◌∷◌}
use Rattle.choice.specs.Choice.{if_eq, if_le, upd}
use Rattle.class.specs.Class.{list_of, start_of}
use Rattle.definition.specs.Blocks.{Block, free, used, last, gap, total, ◌⟨⟩◌, find, offset, payload, room, past, gaps, bare, without}
use Rattle.definition.specs.Lists.{Lists, push, drop, skip, remove, Found, nothing, found, search}

pub record Heap : Type 0 where
  pub blocks : List Block
  pub lists : Lists

pub data Refusal : Type 0 where
  no_list not_live no_region : Refusal

-- a number with the heap after the call, or a refusal: then the heap stays as it was
pub data Answer : Type 0 where
  refused : Refusal → Answer
  granted : ℕ → Heap → Answer

-- nothing given yet, in an arena of n grains
unfoldable pub empty : ℕ → Heap
empty n = record { blocks = gaps n []; lists = λ k. [] }

-- ---- how much, and where

-- halves rounded up to grains
abbrev pub grains : ℕ → ℕ
grains h = (h + 1) / 2

-- the first multiple of a at or after n
abbrev pub up_to : ℕ → ℕ → ℕ
up_to a n = (n + (a - 1)) / a * a

-- what is looked for: wherever the block stands, payload and padding fit
abbrev pub wanted : ℕ → ℕ → ℕ
wanted p a = grains (p + a)

-- the payload's place in a block at x: the first multiple of a behind the header, which is half a grain
abbrev pub place : ℕ → ℕ → ℕ
place a x = up_to a (2 * x + 1) - 2 * x

-- what a block keeps for p behind its payload's place d
abbrev pub keeps : ℕ → ℕ → ℕ
keeps d p = grains (d + p)

-- between l and r stand t grains, in no list: m of them become a used block, and the rest, if any, a free one
unfoldable pub leave : Lists → List Block → List Block → ℕ → ℕ → ℕ → Heap
unfolding if_eq upd list_of
leave f l r t m d = if_eq m t
    (record { blocks = l ⟨⟩ used t d ∷ r; lists = f })
    (record { blocks = l ⟨⟩ used m d ∷ free (t - m) ∷ r; lists = push (list_of (t - m)) (total l + m) f })

-- ---- take

unfoldable pub take_at : Heap → ℕ → ℕ → Found → Answer
unfolding find leave remove
take_at h p a nothing = refused no_list
take_at h p a (found k x) =
    let d = place a x in
    let b = find offset x [] h.blocks in
    granted (2 * x + d) (leave (drop k x h.lists) b.before (past b.behind) (room b.behind) (keeps d p) d)

unfoldable pub take : ℕ → Heap → ℕ → ℕ → Answer
unfolding take_at search start_of
take c h p a = let k = start_of (wanted p a) in take_at h p a (search h.lists (16 * c - k) k)

-- ---- return: the block is joined with its free neighbours, and goes to the head of its list

unfoldable pub join : Lists → List Block → ℕ → List Block → Heap
unfolding upd remove list_of
join f l s r =
    let z = total (past l) in
    let t = room l + (s + room r) in
    record { blocks = past l ⟨⟩ free t ∷ past r; lists = push (list_of t) z (skip l z (skip r (total l + s) f)) }

unfoldable pub give_back_at : Lists → List Block → List Block → Answer
unfolding join
give_back_at f l [] = refused not_live
give_back_at f l (free s ∷ r) = refused not_live
give_back_at f l (used s d ∷ r) = granted 0 (join f l s r)
give_back_at f l (last ∷ r) = refused not_live
give_back_at f l (gap ∷ r) = refused not_live

unfoldable pub give_back : Heap → ℕ → Answer
unfolding find give_back_at
give_back h q = let b = find payload q [] h.blocks in give_back_at h.lists b.before b.behind

-- ---- resize, in four steps

-- 4: another block is taken, and the old one given back
unfoldable pub answering : ℕ → Answer → Answer
answering v (refused w) = refused w
answering v (granted z h) = granted v h

unfoldable pub back_after : Answer → ℕ → Answer
unfolding give_back answering
back_after (refused w) q = refused w
back_after (granted v h) q = answering v (give_back h q)

unfoldable pub elsewhere : ℕ → Heap → ℕ → ℕ → ℕ → Answer
unfolding take back_after
elsewhere c h q p a = back_after (take c h p a) q

-- 3: down into a free block before it, with the padding counted anew
unfoldable pub down : ℕ → Heap → ℕ → ℕ → ℕ → List Block → ℕ → List Block → Answer
unfolding if_eq if_le leave elsewhere upd remove list_of
down c h q p a l s r =
    let z = total (past l) in
    let t = room l + (s + room r) in
    let d = place a z in
    if_eq (room l) 0 (elsewhere c h q p a)
    (if_le (keeps d p) t
    (granted (2 * z + d) (leave (skip l z (skip r (total l + s) h.lists)) (past l) (past r) t (keeps d p) d))
    (elsewhere c h q p a))

-- 1 and 2: in place, with a free block behind
unfoldable pub resize_at : ℕ → Heap → ℕ → ℕ → ℕ → List Block → List Block → Answer
unfolding if_eq if_le leave down upd remove list_of
resize_at c h q p a l [] = refused not_live
resize_at c h q p a l (free s ∷ r) = refused not_live
resize_at c h q p a l (used s d ∷ r) =
    if_eq (keeps d p) s (granted q h)
    (if_le (keeps d p) (s + room r)
    (granted q (leave (skip r (total l + s) h.lists) l (past r) (s + room r) (keeps d p) d))
    (down c h q p a l s r))
resize_at c h q p a l (last ∷ r) = refused not_live
resize_at c h q p a l (gap ∷ r) = refused not_live

unfoldable pub resize : ℕ → Heap → ℕ → ℕ → ℕ → Answer
unfolding find resize_at
resize c h q p a = let b = find payload q [] h.blocks in resize_at c h q p a b.before b.behind

-- ---- giving a region of n grains: pieces of at most 2 ^ c, each a free block and its sentinel, first to last

pub record Laid : Type 0 where
  pub left : List Block
  pub over : ℕ
  pub lists : Lists

unfoldable pub lay : ℕ → ℕ → Lists → List Block → ℕ → Laid
unfolding if_le upd list_of
lay c zero f l n = record { left = l; over = n; lists = f }
lay c (suc i) f l n = if_le n 1 (record { left = l; over = n; lists = f })
    (let m = min n (2 ^ c) in lay c i (push (list_of (m - 1)) (total l) f) (last ∷ free (m - 1) ∷ l) (n - m))

unfoldable pub insert_at : ℕ → Heap → ℕ → List Block → List Block → Answer
unfolding if_le lay
insert_at c h n l r = if_le n 1 (refused no_region) (if_le n (bare r)
    (let w = lay c n h.lists l n in granted (n - w.over) (record { blocks = w.left ⟨⟩ gaps w.over (without n r); lists = w.lists }))
    (refused no_region))

unfoldable pub insert : ℕ → Heap → ℕ → ℕ → Answer
unfolding find insert_at
insert c h g n = let b = find offset g [] h.blocks in insert_at c h n b.before b.behind

-- a region that begins where another ended
unfoldable pub append_at : ℕ → Heap → ℕ → List Block → List Block → Answer
unfolding insert_at
append_at c h n [] r = refused no_region
append_at c h n (free s ∷ l) r = refused no_region
append_at c h n (used s d ∷ l) r = refused no_region
append_at c h n (last ∷ l) r = insert_at c h n (last ∷ l) r
append_at c h n (gap ∷ l) r = refused no_region

unfoldable pub append : ℕ → Heap → ℕ → ℕ → Answer
unfolding find append_at
append c h g n = let b = find offset g [] h.blocks in append_at c h n b.before b.behind
