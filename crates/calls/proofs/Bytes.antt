-- What follows from specs/Bytes.antt.
use Rattle.std.specs.Prelude.{ℕ, ◌+◌, ◌*◌, ◌≡◌}
use Rattle.std.proofs.Common.{arith, ⊎_elim}
use Rattle.sound.specs.Calls.{Return}
use Rattle.request.specs.Returned.{Stands}
use Rattle.calls.specs.Bytes.{allocate, deallocate, Asks, back, bytes}

-- a payload's offset in bytes is its place in half grains
pub stands_offset : {x a q : ℕ} → Stands x a q → 16 * q ≡ x
stands_offset s = ⊎_elim (λ e. omega (arith, s.number)) (λ e. omega (arith, s.number)) s.kind
