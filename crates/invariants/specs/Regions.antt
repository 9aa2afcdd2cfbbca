-- Giving a region keeps what holds of every heap: gaps become pieces, one after the other, and no grain is lost.
use Rattle.std.specs.Prelude.{ℕ, ◌-◌, ◌^◌, min, ◌≡◌}
use mathlib.Core.List.{List, ◌∷◌}
use Rattle.class.specs.Class.{list_of}
use Rattle.definition.specs.Blocks.{Block, free, last, total, ◌⟨⟩◌, gaps}
use Rattle.definition.specs.Lists.{push}
use Rattle.definition.specs.Calls.{Heap, Answer, refused, granted, Laid}
use Rattle.invariants.specs.Moves.{Ok}

-- ---- all pieces

-- one more piece
abbrev pub another : ℕ → Laid → Laid
another c w = let m = min w.over (2 ^ c) in
    record { left = last ∷ free (m - 1) ∷ w.left; over = w.over - m; lists = push (list_of (m - 1)) (total w.left) w.lists }

-- ---- the calls

-- a region given leaves a heap of as many grains
abbrev pub Grown : ℕ → Heap → Answer → Type 0
Grown c h (refused w) = Unit {0}
Grown c h (granted v k) = Ok c k × (total k.blocks ≡ total h.blocks)

-- ---- where a region is granted

-- the answer for n grains, laid as w before r
abbrev pub laid_out : ℕ → Laid → List Block → Answer
laid_out n w r = granted (n - w.over) (record { blocks = w.left ⟨⟩ gaps w.over r; lists = w.lists })
