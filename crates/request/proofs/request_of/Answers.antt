-- `request::request_of`: past the tests the request is in range, with its numbers.
use Rattle.request.specs.Asked.{asked_numbers}
use Rattle.request.proofs.request_of.Goals as goal

pub returns : goal.returns
returns c =
    asked_numbers c.args.size c.args.align c.multiple_of-multiple.result c.grains_of-wanted.result c.if-not-is_alignment.ensures c.multiple_of-multiple.ensures
    c.if-multiple-size.false c.grains_of-wanted.ensures
