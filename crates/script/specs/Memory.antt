-- A memory, decoded: a number for each field and place. The first four fields are the words of a grain's header, and
-- their place is the grain; the others are the tables'.
--   Size    four times the size in grains, and the two flags: 1 used, 3 the sentinel; 2 stands for what can't be right
--   Before  the block before: its grain, or none
--   Next    the next free block; at `root k` the head of list k
--   Prev    the previous free block; in a used block, before a payload that stands at a grain, the block's own grain
--   Mark    for each list, 1 where it is not empty
--   Live    for each half grain, 1 where a live payload starts
--   Table   the regions: their number, then a first grain and an end for each
-- A link that can't be right, outside the arena or between grains, is a number from the arena's length on, but not none.
use Rattle.std.specs.Prelude.{ℕ, zero, suc, ◌+◌, ◌*◌, ◌≡◌, List, [], ◌∷◌}
use Rattle.choice.specs.Choice.{if_eq, upd}

abbrev pub Memory : Type 0
Memory = ℕ → ℕ → ℕ

abbrev pub Size : ℕ
Size = 0

abbrev pub Before : ℕ
Before = 1

abbrev pub Next : ℕ
Next = 2

abbrev pub Prev : ℕ
Prev = 3

abbrev pub Mark : ℕ
Mark = 4

abbrev pub Live : ℕ
Live = 5

abbrev pub Table : ℕ
Table = 6

-- what a link says where it leads nowhere; no arena has so many grains
unfoldable pub none : ℕ
none = 18446744073709551615

-- the place of a list's head among the Next fields
abbrev pub root : ℕ → ℕ
root k = suc none + k

-- ---- size words

abbrev pub free_word : ℕ → ℕ
free_word s = 4 * s

abbrev pub used_word : ℕ → ℕ
used_word s = 4 * s + 1

abbrev pub last_word : ℕ
last_word = 7

-- ---- writes

-- x where the fields are one, else y: it computes for fields that are known
abbrev pub pick {ℓ} : {A : Type ℓ} → ℕ → ℕ → A → A → A
pick zero zero x y = x
pick zero (suc g) x y = y
pick (suc f) zero x y = y
pick (suc f) (suc g) x y = pick f g x y

pub record Write : Type 0 where
  pub field : ℕ
  pub place : ℕ
  pub value : ℕ

abbrev pub put : Memory → Write → Memory
put m w g = pick w.field g (upd (m g) w.place w.value) (m g)

abbrev pub apply : Memory → List Write → Memory
apply m [] = m
apply m (w ∷ l) = apply (put m w) l

infix 45 ◌at◌≔◌
abbrev pub ◌at◌≔◌ : ℕ → ℕ → ℕ → Write
◌at◌≔◌ f x v = record { field = f; place = x; value = v }

-- ---- what stands at one place after some writes, if v stood there before

abbrev pub latest : List Write → ℕ → ℕ → ℕ → ℕ
latest [] g y v = v
latest (w ∷ l) g y v = latest l g y (pick w.field g (if_eq y w.place w.value v) v)

-- ---- what some writes leave alone: a field, or a field at one place

abbrev pub Untouched : ℕ → List Write → Type 0
Untouched g [] = Unit {0}
Untouched g (w ∷ l) = (w.field ≡ g → ⊥) × Untouched g l

abbrev pub Spared : ℕ → ℕ → List Write → Type 0
Spared g y [] = Unit {0}
Spared g y (w ∷ l) = (w.field ≡ g → w.place ≡ y → ⊥) × Spared g y l
