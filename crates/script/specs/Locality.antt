-- Locality: a script's answer hangs on the words that it reads, and on no other. So damage stays where it is.
use Rattle.std.specs.Prelude.{ℕ, ◌+◌, ◌≤◌, ◌<◌, ◌≡◌, List, ◌⊎◌}
use Rattle.bits.specs.First.{first_set}
use Rattle.script.specs.Memory.{Memory, Mark, Write, apply}
use Rattle.script.specs.Script.{Script, read, first, done, stop, run}

-- on the memory m the script reads field g at y; a search reads the marks of all lists that it may pass
abbrev pub Reads : {A : Type 0} → Memory → Script A → ℕ → ℕ → Type 0
Reads m (read f x k) g y = ((g ≡ f) × (y ≡ x)) ⊎ Reads m (k (m f x)) g y
Reads m (first n x k) g y = ((g ≡ Mark) × (x ≤ y) × (y < x + n)) ⊎ Reads m (k (first_set (m Mark) n x)) g y
Reads m (done a) g y = ⊥
Reads m (stop r) g y = ⊥

-- D is a set of words, and d differs from m at most there
abbrev pub DiffersIn : (ℕ → ℕ → Type 0) → Memory → Memory → Type 0
DiffersIn D m d = (g y : ℕ) → (D g y → ⊥) → d g y ≡ m g y

-- what a script that reads no word of D answers, and what it leaves
pub record Contained {A : Type 0} (D : ℕ → ℕ → Type 0) (m d : Memory) (s : Script A) : Type 0 where
  pub answer : run d s ≡ run m s
  pub after : (l : List Write) → DiffersIn D (apply m l) (apply d l)
