-- `region::put_header` meets its contract: two words put, one after the other. Assumes nothing.
use native.Mathlib.Omega.{arith}
use mathlib.Core.Path.{◌≡◌, ◌∙◌}
use Prim.Native.Nat.{◌+◌, ◌*◌}
use Rattle.free_list.specs.Lent.{grain_put}
use Rattle.region.proofs.put_header.Goals as goal

pub put_field-requires-2 : goal.put_field-requires-2
put_field-requires-2 c =
    (grain_put c.args.a.now _ _ _ c.args.g c.put_field.ensures c.requires, omega arith)

pub returns : goal.returns
returns c =
    let g = c.args.g in
    let z : 4 * g + 0 ≡ 4 * g = omega arith in
    c.put_field-2.ensures ∙ rw (c.put_field.ensures, z)
