-- What a plan leaves in the slices where a payload moves (`carried`): its first writes are stored, then the payload's half
-- grains are moved, then the other writes are stored. It is what storing all writes would leave, but for the bytes of the
-- new payload; and where nothing is moved it is just that.
use Rattle.std.specs.Prelude.{ℕ, ◌+◌, ◌*◌, ◌<◌, ◌≡◌, List, length, get_or, take, drop}
use Rattle.std.proofs.Common.{arith, ◌∙◌}
use Rattle.word.specs.Number.{Apart}
use Rattle.copy.specs.Moved.{moved, moved_arrived}
use Rattle.script.specs.Memory.{Write}
use Rattle.sound.specs.Plans.{Plan}
use Rattle.slices.specs.Slices.{Slices, with_arena, stores}
use Rattle.slices.specs.Kept.{AllOutside}
use Rattle.slices.proofs.Kept.{stores_lengths, stores_byte}

-- u half grains at q are moved to z
abbrev pub shifted : Slices → ℕ → ℕ → ℕ → Slices
shifted S q z u = with_arena S (moved S.arena (16 * q) (16 * z) (16 * u))

-- the writes before the move, and those after it
abbrev pub first_writes : Plan → List Write
first_writes p = take p.early p.writes

abbrev pub later_writes : Plan → List Write
later_writes p = drop p.early p.writes

-- what the plan p leaves, for the payload at q
abbrev pub carried : Slices → ℕ → Plan → Slices
carried S q p = stores 8 (shifted (stores 8 S (first_writes p)) q p.answer p.moved) (later_writes p)

-- byte j is not in what the plan moves to
abbrev pub NotMoved : Plan → ℕ → Type 0
NotMoved p j = Apart (16 * p.answer) (16 * p.moved) j 1

-- ---- what stays

module _ (S : Slices) (q : ℕ) (p : Plan) where
  abbrev pub begun : Slices
  begun = stores 8 S (first_writes p)

  abbrev pub between : Slices
  between = shifted begun q p.answer p.moved

  -- ---- what arrives

  -- byte i of the payload is written neither before the move nor after it
  pub carried_arrived : (i : ℕ) → i < 16 * p.moved → 16 * p.answer + i < length S.arena
      → AllOutside 8 (16 * q + i) (first_writes p) → AllOutside 8 (16 * p.answer + i) (later_writes p)
      → get_or (carried S q p).arena (16 * p.answer + i) 0 ≡ get_or S.arena (16 * q + i) 0
  carried_arrived i h l f g =
      stores_byte 8 between (later_writes p) (16 * p.answer + i) g
      ∙ moved_arrived begun.arena (16 * q) (16 * p.answer) (16 * p.moved) i h (omega (arith, (stores_lengths 8 S (first_writes p)).arena))
      ∙ stores_byte 8 S (first_writes p) (16 * q + i) f
