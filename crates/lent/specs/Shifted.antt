-- What a plan leaves that moves a payload.
use Rattle.std.specs.Prelude.{ℕ, ◌*◌}
use Rattle.copy.specs.Moved.{moved}
use Rattle.machine.specs.Machine.{half}
use Rattle.plans.specs.Deeds.{Plan}
use Rattle.lent.specs.Slices.{Slices, with_arena, stores}

-- u half grains at q are moved to z
abbrev pub shifted : Slices → ℕ → ℕ → ℕ → Slices
shifted S q z u = with_arena S (moved S.arena (half * q) (half * z) (half * u))

-- the plan t, for the payload at q: its early writes are stored, the payload is moved, its late writes are stored
abbrev pub carried_out : Slices → ℕ → Plan → Slices
carried_out S q t = stores (shifted (stores S t.early) q t.answer t.moved) t.late
