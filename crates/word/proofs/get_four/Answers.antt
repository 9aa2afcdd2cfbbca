-- `word::get_four`: the four bytes are the first of what stands from i on, and their number is the sum.
use Rattle.std.specs.Int.{w32, from_le_bytes}
use Rattle.std.specs.Prelude.{◌+◌, ◌-◌, drop}
use Rattle.std.proofs.Common.{arith, ap, ◌∙◌}
use Rattle.std.proofs.lemmas.List.{take-take}
use Rattle.std.proofs.lemmas.Option.{MatchOption-at_some}
use Rattle.word.proofs.Bytes.{four_sum}
use Rattle.word.proofs.get_four.Goals as goal

pub returns : goal.returns
returns c =
    let a = c.args.a.now in
    let i = c.args.i in
    let first = MatchOption-at_some _ _ _ c.unwrap.ensures c.first_chunk.ensures.cases in
    c.from.ensures ∙ c.from_le_bytes.ensures ∙ ap (from_le_bytes w32) (first.same ∙ take-take 4 (i + 4 - i) (drop i a) (omega arith))
    ∙ four_sum a i
