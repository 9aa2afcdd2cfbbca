-- What leaving and entering a list makes of the arena and of the lists (`Stepped`): what is stored for the step's writes.
-- And what must be known of the words that a step writes through.
use Rattle.std.specs.Prelude.{ℕ, ◌<◌, ◌≡◌, List}
use Rattle.std.proofs.Common.{◌∙◌}
use Rattle.choice.specs.Choice.{if_eq}
use Rattle.bits.specs.Map.{map_bit}
use Rattle.chains.specs.Links.{mark_left, next_of}
use Rattle.chains.specs.Steps.{Step, leave, enter, step_writes}
use Rattle.lent.specs.Slices.{grains, next_at, prev_at, put_next, put_prev, head_at, put_head, put_mark, memory_of, stores}
use Rattle.entries.specs.Answers.{slices, held}

-- ---- one step

-- the arena after it
abbrev pub arena_after : Step → List ℕ → List ℕ → List ℕ
arena_after (leave k y) a l =
    let x = next_at a y in
    let p = prev_at a y in
    put_prev (put_next a p (if_eq x y p x)) x (if_eq p y x p)
arena_after (enter k y) a l =
    let h = next_of y (map_bit l k) (head_at l k) in
    put_next (put_prev (put_prev a h y) y y) y h

-- the lists after it
abbrev pub lists_after : Step → List ℕ → List ℕ → List ℕ
lists_after (leave k y) a l =
    let x = next_at a y in
    let p = prev_at a y in
    put_mark (put_head l k (if_eq p y x (head_at l k))) k (mark_left y x p (map_bit l k))
lists_after (enter k y) a l = put_mark (put_head l k y) k 1

pub record Stepped (s : Step) (a l b d : List ℕ) : Type 0 where
  pub arena : b ≡ arena_after s a l
  pub lists : d ≡ lists_after s a l

-- they are what is stored for the step's writes; the tags and the regions are as they were
pub stepped_stores : (s : Step) {a l b d : List ℕ} → Stepped s a l b d → (t g : List ℕ) → slices b d t g ≡ stores (slices a l t g) (step_writes (held a l t g) s)
unfolding memory_of
stepped_stores (leave k y) h t g = rw (h.arena, h.lists)
stepped_stores (enter k y) h t g = rw (h.arena, h.lists)

-- by its words, as they were read: x is next of y and p previous; h is what y is put before
pub left : {a l b d : List ℕ} (k y x p : ℕ) → x ≡ next_at a y → p ≡ prev_at a y → b ≡ put_prev (put_next a p (if_eq x y p x)) x (if_eq p y x p)
    → d ≡ put_mark (put_head l k (if_eq p y x (head_at l k))) k (mark_left y x p (map_bit l k)) → Stepped (leave k y) a l b d
left k y x p e q u v = record { arena = u ∙ rw (e, q); lists = v ∙ rw (e, q) }

pub entered : {a l b d : List ℕ} (k y h : ℕ) → h ≡ next_of y (map_bit l k) (head_at l k) → b ≡ put_next (put_prev (put_prev a h y) y y) y h
    → d ≡ put_mark (put_head l k y) k 1 → Stepped (enter k y) a l b d
entered k y h e u v = record { arena = u ∙ rw e; lists = v }

-- ---- what must be known before it

-- the words of a block that leaves are grains
pub record Leaves (a : List ℕ) (y : ℕ) : Type 0 where
  pub next : next_at a y < grains a
  pub prev : prev_at a y < grains a

-- a list that a block enters has no mark, or its head is a grain
abbrev pub Enters : List ℕ → List ℕ → ℕ → Type 0
Enters a l k = map_bit l k ≡ 1 → head_at l k < grains a
