-- The worked run of docs/HEAP.md, by computation. Calls and answers are in bytes, with half grains of 16.
use Rattle.std.specs.Prelude.{ℕ, ◌+◌, ◌-◌, ◌*◌, ◌/◌, List, [], ◌∷◌}
use Rattle.definition.specs.Blocks.{Block, free, used, last, gap}
use Rattle.definition.specs.Calls.{Heap, Refusal, Answer, refused, granted, take, give_back, resize, insert, append}
use Rattle.definition.specs.Units.{halves, multiple, first_grain, whole_grains}

pub data Call : Type 0 where
  Give Append Take : ℕ → ℕ → Call
  Return : ℕ → Call
  Resize : ℕ → ℕ → ℕ → Call

-- the free blocks, offset and size
unfoldable pub frees : ℕ → List Block → List (ℕ × ℕ)
frees x [] = []
frees x (free s ∷ l) = (32 * x, 32 * s) ∷ frees (x + s) l
frees x (used s d ∷ l) = frees (x + s) l
frees x (last ∷ l) = frees (x + 1) l
frees x (gap ∷ l) = frees (x + 1) l

-- a refusal's number, or the bytes of what was granted; and the free blocks
pub data Row : Type 0 where
  no : Refusal → Row
  row : ℕ → List (ℕ × ℕ) → Row

-- one call of the crane's heap, of 12 classes: how its number reads in bytes, and the answer
unfoldable pub call : Heap → Call → (ℕ → ℕ) × Answer
unfolding take give_back resize insert append
call h (Give b n) = ((λ v. 32 * (first_grain 16 b + v) - b), insert 12 h (first_grain 16 b) (whole_grains 16 b n))
call h (Append b n) = ((λ v. 32 * v), append 12 h (b / 32) (n / 32))
call h (Take n a) = ((λ v. 16 * v), take 12 h (halves 16 n) (multiple 16 a))
call h (Return q) = ((λ v. v), give_back h (q / 16))
call h (Resize q n a) = ((λ v. 16 * v), resize 12 h (q / 16) (halves 16 n) (multiple 16 a))

unfoldable pub heap_of : Heap → Answer → Heap
heap_of h (refused w) = h
heap_of h (granted v g) = g

unfoldable pub row_of : (ℕ → ℕ) → Answer → Row
unfolding frees
row_of f (refused w) = no w
row_of f (granted v g) = row (f v) (frees 0 g.blocks)

-- one call after another: the rows of the table, and the heap at the end
unfoldable pub run : Heap → List Call → List Row
unfolding call heap_of row_of
run h [] = []
run h (k ∷ l) = let a = call h k in row_of a.0 a.1 ∷ run (heap_of h a.1) l

unfoldable pub after : Heap → List Call → Heap
unfolding call heap_of
after h [] = h
after h (k ∷ l) = after (heap_of h (call h k).1) l
