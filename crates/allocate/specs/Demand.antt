-- What a take is asked for, in half grains: what the plan requires of it, and that a request in range meets this, so that
-- a call which asked once tests nothing again.
use Rattle.std.specs.Prelude.{ℕ, ◌+◌, ◌^◌, ◌≤◌, ◌<◌}
use Rattle.std.proofs.Common.{arith}
use Rattle.align.specs.Align.{Power}
use Rattle.request.specs.declared.Request.{Request}
use Rattle.request.specs.Alignment.{multiple_most}
use Rattle.request.specs.Asked.{Numbers}
use Rattle.request.specs.Range.{asked_power}

-- p half grains at a multiple of u
pub record Demand (p u : ℕ) : Type 0 where
  pub power : Power u
  pub most : u ≤ 256
  pub fits : p + u + 1 < 2 ^ 64

-- the request of n bytes at a multiple of a
pub asked_demand : (n a : ℕ) (r : Request) → Numbers n a r → Demand r.length r.multiple
asked_demand n a r h =
    let most = multiple_most a h.range.alignment.most in
    record {
      power = asked_power n a r h;
      most = omega (arith, most, h.multiple);
      fits = omega (arith, most, h.multiple, h.length, h.range.fits);
    }
