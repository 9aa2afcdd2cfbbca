-- `header::field`: the word lies in the arena, and `word::get` reads it.
use native.Mathlib.Omega.{arith}
use Rattle.word.specs.Word.{word_at}
use Rattle.slices.proofs.Arena.{field_inside}
use Rattle.header.proofs.field.Goals as goal

pub overflow_mul-g : goal.overflow_mul-g
overflow_mul-g c = omega (arith, field_inside 8 c.args.a.now c.args.g c.args.f c.requires.0 c.requires.1)

pub overflow_add-g : goal.overflow_add-g
overflow_add-g c = omega (arith, field_inside 8 c.args.a.now c.args.g c.args.f c.requires.0 c.requires.1)

pub overflow_mul-g-2 : goal.overflow_mul-g-2
overflow_mul-g-2 c = omega (arith, field_inside 8 c.args.a.now c.args.g c.args.f c.requires.0 c.requires.1)

pub get-requires : goal.get-requires
get-requires c = field_inside 8 c.args.a.now c.args.g c.args.f c.requires.0 c.requires.1

pub returns : goal.returns
unfolding word_at
returns c = c.get.ensures
