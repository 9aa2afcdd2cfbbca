-- The first place from k on, of n places, where f is 1, and k + n where there is none (`first_set`). This is what every
-- search for a set bit answers, in a word and in a map of any shape: f says what a bit is, and nothing else does.
use Rattle.std.specs.Prelude.{ℕ, zero, suc, ◌<◌, ◌≡◌, Option, IfSome, unwrap_or}
use Rattle.choice.specs.Choice.{if_eq}

-- the first of the n places from k on where f is 1, else k + n
unfoldable pub first_set : (ℕ → ℕ) → ℕ → ℕ → ℕ
first_set f zero k = k
first_set f (suc n) k = if_eq (f k) 1 k (first_set f n (suc k))

-- what a search answers that ends at place n: place p where p is before n, and none where p is n
abbrev pub Finds : ℕ → Option ℕ → ℕ → Type 0
Finds n r p = (unwrap_or r n ≡ p) × IfSome r (λ (x : ℕ). x < n)
