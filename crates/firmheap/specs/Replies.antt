-- The answers of the calls, read as replies: a number, or a refusal's number.
use Rattle.std.specs.Prelude.{ℕ, Result, ⊤}
use Rattle.refusal.specs.declared.Refusal.{Refusal}
use Rattle.sound.specs.Runs.{Reply}
use Rattle.reallocate.specs.Does.{replied}

-- a payload's offset, or the bytes used of a region
abbrev pub taken : Result ℕ Refusal → Reply
taken r = replied (λ x. x) r

abbrev pub done : Result ⊤ Refusal → Reply
done r = replied (λ u. 0) r
