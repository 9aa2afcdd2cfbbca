-- T6 for resize: the resize of a live payload is refused for want of a list alone, with 1, and exactly when there is no
-- room for it; one of a payload that is not live always, with 3.
use Rattle.std.specs.Prelude.{◌≡◌}
use Rattle.definition.specs.Calls.{Refusal, no_list, Answer, refused}

-- an answer that is refused for want of a list, if at all
abbrev pub OnlyNoList : Answer → Type 0
OnlyNoList w = (v : Refusal) → w ≡ refused v → v ≡ no_list
