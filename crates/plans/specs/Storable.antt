-- What a decoder shows of any arena and tables, damaged or not; and which writes can be stored there: the place is in the
-- arena or in a table, and the value fits. n is how many grains the arena has, c how many first-level classes there are, top
-- how many numbers a word can hold, and most how many regions the table can hold.
use Rattle.std.specs.Prelude.{ℕ, ◌+◌, ◌*◌, ◌/◌, ◌^◌, ◌≤◌, ◌<◌}
use Rattle.script.specs.Memory.{Memory, Next, Prev, Mark, Table, Write, ◌at◌≔◌}
use Rattle.machine.specs.Machine.{words}
use Rattle.tags.specs.Tag.{Tag, flags}
use Rattle.chains.specs.Links.{Head}

-- a tag's count has c bits, a link or a head is a word, a mark is a bit; guards are words too
pub record Shows (n c top : ℕ) (m : Memory) : Type 0 where
  pub counts : (x : ℕ) → m Tag x / flags < 2 ^ c
  pub nexts : (x : ℕ) → m Next x < top
  pub prevs : (x : ℕ) → m Prev x < top
  pub heads : (k : ℕ) → m Head k < top
  pub marks : (k : ℕ) → m Mark k ≤ 1
  pub grains : n < top
  pub guards : words ≤ top
  pub some : 1 ≤ c

-- by the field
pub data Storable (n c top most : ℕ) : Write → Type 0 where
  at_tag : {x v : ℕ} → x < n → v / flags < 2 ^ c → Storable n c top most (Tag at x ≔ v)
  at_next : {x v : ℕ} → x < n → v < top → Storable n c top most (Next at x ≔ v)
  at_prev : {x v : ℕ} → x < n → v < top → Storable n c top most (Prev at x ≔ v)
  at_head : {k v : ℕ} → k < 16 * c → v < top → Storable n c top most (Head at k ≔ v)
  at_mark : {k v : ℕ} → k < 16 * c → v ≤ 1 → Storable n c top most (Mark at k ≔ v)
  at_table : {i v : ℕ} → i < 2 * most + 1 → v < top → Storable n c top most (Table at i ≔ v)
