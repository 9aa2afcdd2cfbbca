-- What follows from specs/Fit.antt.
use Rattle.std.specs.Prelude.{ℕ, ◌^◌, ◌<◌}
use Rattle.std.proofs.Common.{one-mul, arith, ◌∙◌, pow_pos, shl_exact}
use Rattle.class.specs.Class.{log}
use Rattle.class.proofs.Class.{log_top, log_lt, down_bounds, up_bounds}
use Rattle.class.specs.Fit.{FitsDown, FitsUp}

pub fits_down : (s : ℕ) → 0 < s → s < 2 ^ 60 → FitsDown s (log s)
fits_down s h f = record { shift = log_lt 60 s h f; low = (down_bounds s h).0; high = (down_bounds s h).1 }

pub fits_up : (s : ℕ) → 0 < s → s < 2 ^ 59 → FitsUp s (log s)
fits_up s h f =
    let l = log_lt 59 s h f in
    record {
      shift = l;
      one = shl_exact {a = 1} 1 (log s) 64 (omega arith) (omega arith) ∙ one-mul (2 ^ log s);
      some = pow_pos (log s);
      within = (log_top s h).0;
      low = (up_bounds s h).0;
      high = (up_bounds s h).1;
    }
