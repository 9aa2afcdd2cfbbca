-- What an answer tells of the smallest steps, on any memory: the way taken at a choice, what a size word says, where a
-- link leads. The checks of `Checked` are inverted step by step with these.
use Rattle.std.specs.Prelude.{◌≤◌}
use Rattle.sound.specs.Checks.{Word, is_free, is_used, is_last, is_bad}

-- ---- words and links

-- a block has at least one grain
abbrev pub Some : Word → Type 0
Some (is_free s) = 1 ≤ s
Some (is_used s) = 1 ≤ s
Some is_last = Unit {0}
Some is_bad = Unit {0}

-- a used block's word, or a sentinel's
abbrev pub Busy : Word → Type 0
Busy (is_free s) = ⊥
Busy (is_used s) = Unit {0}
Busy is_last = Unit {0}
Busy is_bad = ⊥
