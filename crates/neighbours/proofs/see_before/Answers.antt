-- `neighbours::see_before`: each return is one step of the script.
use Prim.Native.Nat.{◌-◌}
use native.Mathlib.Omega.{arith}
use mathlib.Core.Path.{◌≡◌, subst}
use Rattle.std.proofs.lemmas.Result.{err_from_is_err_and}
use Rattle.header.specs.Turned.{grains_few}
use Rattle.neighbours.specs.Shown.{Block}
use Rattle.neighbours.specs.Beside.{before_none, before_out, before_used, before_apart, before_listed}
use Rattle.neighbours.proofs.see_before.Goals as goal

pub returns-then-word : goal.returns-then-word
returns-then-word c = record {
  answer = λ v t. before_none c.args.a.now c.args.lists.now v t c.args.x c.field-word.result c.well_formed.0.0 c.requires.0 c.field-word.ensures c.if-word.true;
  block = tt;
}

pub returns-then-x-z : goal.returns-then-x-z
returns-then-x-z c = record {
  answer = λ v t. before_out c.args.a.now c.args.lists.now v t c.args.x c.field-word.result c.well_formed.0.0 c.requires.0 c.field-word.ensures c.if-word.false
      c.grain_of-z.result c.grain_of-z.ensures c.if-x-z.true;
  block = tt;
}

pub bytes_of-bytes-requires : goal.bytes_of-bytes-requires
bytes_of-bytes-requires c =
    omega (arith, c.requires.0, grains_few c.args.a.now c.well_formed.0.0)

pub returns-then-size-bytes : goal.returns-then-size-bytes
returns-then-size-bytes c = record {
  answer = λ v t. before_used c.args.a.now c.args.lists.now v t c.args.x c.field-word.result c.well_formed.0.0 c.requires.0 c.field-word.ensures c.if-word.false
      c.grain_of-z.result c.grain_of-z.ensures c.if-x-z.false c.field-size.result c.bytes_of-bytes.result c.field-size.ensures c.bytes_of-bytes.ensures c.if-size-bytes.true;
  block = tt;
}

pub returns-then-size-bytes-2 : goal.returns-then-size-bytes-2
returns-then-size-bytes-2 c = record {
  answer = λ v t. before_apart c.args.a.now c.args.lists.now v t c.args.x c.field-word.result c.well_formed.0.0 c.requires.0 c.field-word.ensures c.if-word.false
      c.grain_of-z.result c.grain_of-z.ensures c.if-x-z.false c.field-size.result c.bytes_of-bytes.result c.field-size.ensures c.bytes_of-bytes.ensures c.if-size-bytes.false c.if-size-bytes-2.true;
  block = tt;
}

pub returns-in_err-e : goal.returns-in_err-e
returns-in_err-e c =
    let p = err_from_is_err_and c.from_residual.result c.from_residual.ensures.1 in
    rw (p.1, p.2) (record {
      answer = λ v t. before_listed c.args.a.now c.args.lists.now v t c.args.x c.field-word.result c.well_formed.0.0 c.requires.0 c.field-word.ensures c.if-word.false
          c.grain_of-z.result c.grain_of-z.ensures c.if-x-z.false c.field-size.result c.bytes_of-bytes.result c.field-size.ensures c.bytes_of-bytes.ensures c.if-size-bytes-2.false
          (c.in_err-e.ensures.answer v t);
      block = tt;
    })

pub returns : goal.returns
returns c = record {
  answer = λ v t. before_listed c.args.a.now c.args.lists.now v t c.args.x c.field-word.result c.well_formed.0.0 c.requires.0 c.field-word.ensures c.if-word.false
      c.grain_of-z.result c.grain_of-z.ensures c.if-x-z.false c.field-size.result c.bytes_of-bytes.result c.field-size.ensures c.bytes_of-bytes.ensures c.if-size-bytes-2.false
      (c.in_ok-e.ensures.answer v t);
  block =
      let b = c.in_ok-e.ensures.block in
      let e : c.grain_of-z.result ≡ c.args.x - c.in_ok-e.e.grains = omega (arith, b.0, c.if-x-z.false) in
      subst (λ y. Block c.args.a.now y c.in_ok-e.e) e b.1;
}
