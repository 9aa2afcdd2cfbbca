-- What follows from specs/Meets.antt.
use Rattle.std.specs.Prelude.{ℕ, ◌≡◌, refl}
use Rattle.std.proofs.Common.{arith}
use Rattle.definition.specs.Calls.{no_list, not_live, no_region, Answer, refused, granted}
use Rattle.script.specs.Memory.{Memory}
use Rattle.script.specs.Script.{Script, no, run}
use Rattle.sound.specs.Plans.{Plan}
use Rattle.sound.specs.Meets.{Meets}

-- a script that is refused with 1 has found no list
pub refused_1 : (n c : ℕ) (m : Memory) (s : Script Plan) (w : Answer) → Meets n c m s w → run m s ≡ no 1 → w ≡ refused no_list
refused_1 n c m s (refused no_list) k e = refl
refused_1 n c m s (refused not_live) k e = let z : ◌≡◌ {A = ℕ} 3 1 = cc in absurd (omega arith)
refused_1 n c m s (refused no_region) k e = let z : ◌≡◌ {A = ℕ} 4 1 = cc in absurd (omega arith)
refused_1 n c m s (granted v g) k e = let i = k.gives in let z : ◌≡◌ {A = ℕ} 0 1 = cc in absurd (omega arith)
