-- T11 over runs: any calls, one after the other, and between them any damage to everything but the tags and the table of regions.
-- A caller who keeps a ledger of the answers sees that what is lent stays right: no two loans share a half grain, each is
-- long enough and at its alignment, and each lies in a used block of its own, in what was given. What is not lent is refused.
use Rattle.std.specs.Prelude.{ℕ, ◌≡◌, List, [], ◌∷◌}
use Rattle.definition.specs.Blocks.{Block}
use Rattle.script.specs.Memory.{Memory, Table}
use Rattle.script.specs.Script.{Result, ok, no, run}
use Rattle.tags.specs.Tag.{Tag}
use Rattle.plans.specs.Deeds.{Plan, after}
use Rattle.plans.specs.Calls.{Call, script_of, Fair}
use Rattle.armour.specs.Row.{Row}
use Rattle.armour.specs.Turns.{Armoured}
use Rattle.armour.specs.Ledger.{Loan, book, Booked}

-- ---- one call

-- the blocks afterwards
pub record Lent (n c : ℕ) (m : Memory) (xs : List Block) (t : Plan) (l : List Loan) : Type 0 where
  pub blocks : List Block
  pub armoured : Armoured n c m xs t blocks
  pub booked : Booked blocks l

-- ---- runs

-- damage, and then a call
pub record Turn : Type 0 where
  pub damage : Memory → Memory
  pub tags_stay : (m : Memory) → damage m Tag ≡ m Tag
  pub regions_stay : (m : Memory) → damage m Table ≡ m Table
  pub call : Call
  pub fair : Fair call

-- the memory and the ledger
pub record State : Type 0 where
  pub memory : Memory
  pub ledger : List Loan

-- a refusal changes neither
abbrev pub outcome : Call → State → Result Plan → State
outcome k s (ok t) = record { memory = after s.memory t; ledger = book k t.answer s.ledger }
outcome k s (no r) = s

abbrev pub struck : Turn → State → State
struck t s = record { memory = t.damage s.memory; ledger = s.ledger }

abbrev pub turn : (n c most : ℕ) → State → Turn → State
turn n c most s t = outcome t.call (struck t s) (run (t.damage s.memory) (script_of n c most t.call))

abbrev pub history : (n c most : ℕ) → State → List Turn → State
history n c most s [] = s
history n c most s (t ∷ l) = history n c most (turn n c most s t) l

-- the tags are those of blocks, and the ledger is booked against them
pub record Right (n c : ℕ) (s : State) : Type 0 where
  pub blocks : List Block
  pub row : Row n c s.memory blocks
  pub booked : Booked blocks s.ledger
