-- All lists in memory (`Strung`): they stay strung when a block leaves one of them or enters one.
use Rattle.std.specs.Prelude.{ℕ}
use Rattle.definition.specs.Lists.{Lists}
use Rattle.script.specs.Memory.{Memory}
use Rattle.chains.specs.Chain.{Chain}

abbrev pub Strung : Memory → Lists → Type 0
Strung m f = (k : ℕ) → Chain m k (f k)
