-- The contracts of the calls for C: each answers a number, with the whole promise of its call. The order of the arguments is
-- that of firmheap's contracts: slices, numbers, answer, slices afterwards.
use Rattle.std.specs.Prelude.{ℕ, ◌≤◌, ◌≡◌, List}
use Rattle.sound.specs.Runs.{Reply}
use Rattle.firmheap.specs.Contract.{Allocates, Deallocates, Reallocates, Initialises, Inserts, Appends}
use Rattle.exports.specs.Answers.{Answers}

-- ---- done: 0 is answered

abbrev pub Nothing : ℕ → Type 0
Nothing x = x ≡ 0

abbrev pub InitAnswers : List ℕ → List ℕ → List ℕ → List ℕ → ℕ → List ℕ → List ℕ → List ℕ → Type 0
InitAnswers a l v t k m o u = Answers (λ (r : Reply). Initialises a l v t r m o u) Nothing k

abbrev pub DeallocateAnswers : List ℕ → List ℕ → List ℕ → ℕ → ℕ → ℕ → List ℕ → List ℕ → List ℕ → Type 0
DeallocateAnswers a l v x al k b m o = Answers (λ (r : Reply). Deallocates a l v x al r b m o) Nothing k

-- ---- a payload: its offset is half a grain at the least

abbrev pub Offset : ℕ → Type 0
Offset x = 16 ≤ x

abbrev pub AllocateAnswers : List ℕ → List ℕ → List ℕ → ℕ → ℕ → ℕ → List ℕ → List ℕ → List ℕ → Type 0
AllocateAnswers a l v n al k b m o = Answers (λ (r : Reply). Allocates a l v n al r b m o) Offset k

abbrev pub ReallocateAnswers : List ℕ → List ℕ → List ℕ → ℕ → ℕ → ℕ → ℕ → List ℕ → List ℕ → List ℕ → Type 0
ReallocateAnswers a l v x n al k b m o = Answers (λ (r : Reply). Reallocates a l v x n al r b m o) Offset k

-- ---- a region: two grains at the least are used

abbrev pub Used : ℕ → Type 0
Used x = 64 ≤ x

abbrev pub InsertAnswers : List ℕ → List ℕ → List ℕ → ℕ → ℕ → ℕ → List ℕ → List ℕ → List ℕ → Type 0
InsertAnswers a l t x n k b m u = Answers (λ (r : Reply). Inserts a l t x n r b m u) Used k

abbrev pub AppendAnswers : List ℕ → List ℕ → List ℕ → ℕ → ℕ → ℕ → List ℕ → List ℕ → List ℕ → Type 0
AppendAnswers a l t x n k b m u = Answers (λ (r : Reply). Appends a l t x n r b m u) Used k
