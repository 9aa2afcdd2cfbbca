-- What the elements of lent slices are: bytes, tags of 16 bits, words (`Held`). A function knows it of every slice that it was
-- lent, and storing what can be stored keeps it.
use Rattle.std.specs.Prelude.{ℕ, ◌<◌, List, get_or}
use Rattle.machine.specs.Machine.{words}
use Rattle.lent.specs.Slices.{Slices, tag_words}

-- how many values a byte has
abbrev pub byte_values : ℕ
byte_values = 256

-- every element is below b
abbrev pub Under : ℕ → List ℕ → Type 0
Under b l = (i : ℕ) → get_or l i 0 < b

pub record Held (S : Slices) : Type 0 where
  pub arena : Under byte_values S.arena
  pub lists : Under words S.lists
  pub tags : Under tag_words S.tags
  pub regions : Under words S.regions
