-- Payloads in memory. Field f < 4 of grain x is word number 4 * x + f of the arena, and a half grain is two words. The
-- payload of a used block of s grains at y, at the place d in it, are the words from 4 * y + 2 * d up to the block's end.
-- Here: what each part of a plan writes misses the payload, if the grains it goes to are not the block's.
use Rattle.std.specs.Prelude.{ℕ, ◌+◌, ◌*◌, ◌≤◌, ◌<◌, List, [], ◌∷◌, ◌⊎◌}
use Rattle.definition.specs.Lists.{Lists}
use Rattle.script.specs.Memory.{Write}
use Rattle.sound.specs.Relists.{NotIn}

-- the word of field f at grain x is one of the payload
abbrev pub InPayload : ℕ → ℕ → ℕ → ℕ → ℕ → Type 0
InPayload f x y s d = (4 * y + 2 * d ≤ 4 * x + f) × (4 * x + f < 4 * (y + s))

-- no write of a header word is in the payload; fields from 4 on are the tables', and roots lie behind every arena
abbrev pub Spares : ℕ → ℕ → ℕ → List Write → Type 0
Spares y s d [] = Unit {0}
Spares y s d (w ∷ l) = (w.field < 4 → InPayload w.field w.place y s d → ⊥) × Spares y s d l

-- grain x is not one of the block's; or it is its first
abbrev pub Off : ℕ → ℕ → ℕ → Type 0
Off y s x = y ≤ x → x < y + s → ⊥

abbrev pub Edge : ℕ → ℕ → ℕ → Type 0
Edge y s x = y < x → x < y + s → ⊥

-- ---- what goes by the lists: their members are the starts of free blocks

-- none of the block's grains is in a list
abbrev pub Unlisted : Lists → ℕ → ℕ → Type 0
Unlisted f y s = (u : ℕ) → y ≤ u → u < y + s → NotIn f u

-- ---- t grains at x that lie beside the block

abbrev pub Aside : ℕ → ℕ → ℕ → ℕ → Type 0
Aside y s x t = (y + s ≤ x) ⊎ (x + t ≤ y)
