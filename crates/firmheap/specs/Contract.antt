-- The promises as contracts of the functions. A call lends the slices that it needs, and whatever the others are, they stay.
use Rattle.std.specs.Prelude.{ℕ, List}
use Rattle.sound.specs.Runs.{Reply}
use Rattle.free_list.specs.Lent.{lent}
use Rattle.calls.specs.Bytes.{insert, append}
use Rattle.calls.specs.Promises.{Promise, Allocated, Deallocated, Reallocated, Initialised}

-- ---- the arena a, the lists l and the live bits v become b, m and o

abbrev pub Allocates : List ℕ → List ℕ → List ℕ → ℕ → ℕ → Reply → List ℕ → List ℕ → List ℕ → Type 0
Allocates a l v n al r b m o = (t : List ℕ) → Allocated (lent a l v t) n al r (lent b m o t)

abbrev pub Deallocates : List ℕ → List ℕ → List ℕ → ℕ → ℕ → Reply → List ℕ → List ℕ → List ℕ → Type 0
Deallocates a l v x al r b m o = (t : List ℕ) → Deallocated (lent a l v t) x al r (lent b m o t)

abbrev pub Reallocates : List ℕ → List ℕ → List ℕ → ℕ → ℕ → ℕ → Reply → List ℕ → List ℕ → List ℕ → Type 0
Reallocates a l v x n al r b m o = (t : List ℕ) → Reallocated (lent a l v t) x n al r (lent b m o t)

-- ---- the arena a stays; the lists l, the live bits v and the regions t become m, o and u

abbrev pub Initialises : List ℕ → List ℕ → List ℕ → List ℕ → Reply → List ℕ → List ℕ → List ℕ → Type 0
Initialises a l v t r m o u = Initialised (lent a l v t) r (lent a m o u)

-- ---- the arena a, the lists l and the regions t become b, m and u

abbrev pub Inserts : List ℕ → List ℕ → List ℕ → ℕ → ℕ → Reply → List ℕ → List ℕ → List ℕ → Type 0
Inserts a l t x n r b m u = (v : List ℕ) → Promise (lent a l v t) (insert x n) r (lent b m v u)

abbrev pub Appends : List ℕ → List ℕ → List ℕ → ℕ → ℕ → Reply → List ℕ → List ℕ → List ℕ → Type 0
Appends a l t x n r b m u = (v : List ℕ) → Promise (lent a l v t) (append x n) r (lent b m v u)
