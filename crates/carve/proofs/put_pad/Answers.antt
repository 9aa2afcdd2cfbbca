-- `carve::put_pad`: nothing for the small kind, one word for the large.
use native.Mathlib.Omega.{arith}
use Rattle.carve.specs.Made.{pad_none, pad_made}
use Rattle.carve.proofs.put_pad.Goals as goal

pub returns-then-d-ne0 : goal.returns-then-d-ne0
returns-then-d-ne0 c =
    pad_none c.args.a.now c.args.x c.args.d c.if-d-ne0.true

pub returns : goal.returns
returns c =
    pad_made c.args.a.now _ c.args.x c.args.d c.bytes_of.result c.well_formed.0.0 (omega (arith, c.requires.1)) c.if-d-ne0.false c.bytes_of.ensures c.put_field.ensures
