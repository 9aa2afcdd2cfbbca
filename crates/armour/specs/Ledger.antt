-- A ledger of the payloads that are lent: where each is, how long it was asked for, and at which alignment. It is kept by the
-- answers alone, as any caller could keep it. It is booked against blocks when each loan is backed by a used block, and each
-- used block by one loan.
use Rattle.std.specs.Prelude.{ℕ, ◌+◌, ◌*◌, ◌/◌, ◌%◌, ◌≤◌, ◌<◌, ◌≡◌, List, [], ◌∷◌, ◌⊎◌}
use Rattle.choice.specs.Choice.{if_eq}
use Rattle.definition.specs.Blocks.{Block, used, size}
use Rattle.invariants.specs.Order.{BlockAt}
use Rattle.script.specs.Memory.{Memory}
use Rattle.sound.specs.Sound.{InTable}
use Rattle.plans.specs.Calls.{Call, Allocate, Deallocate, Reallocate, Insert, Append}

pub record Loan : Type 0 where
  pub payload : ℕ
  pub halves : ℕ
  pub multiple : ℕ

abbrev pub In : Loan → List Loan → Type 0
In e [] = ⊥
In e (g ∷ l) = (e ≡ g) ⊎ In e l

-- the ledger without the payload at q
unfoldable pub strike : ℕ → List Loan → List Loan
strike q [] = []
strike q (e ∷ l) = if_eq e.payload q (strike q l) (e ∷ strike q l)

-- the ledger after a call that answered v
abbrev pub book : Call → ℕ → List Loan → List Loan
book (Allocate p a) v l = record { payload = v; halves = p; multiple = a } ∷ l
book (Deallocate q) v l = strike q l
book (Reallocate q p a) v l = record { payload = v; halves = p; multiple = a } ∷ strike q l
book (Insert g len) v l = l
book (Append g len) v l = l

-- a used block holds the loan: long enough, and at its alignment
pub record Backed (xs : List Block) (e : Loan) : Type 0 where
  pub x : ℕ
  pub s : ℕ
  pub d : ℕ
  pub block : BlockAt x (used s d) 0 xs
  pub place : e.payload ≡ 2 * x + d
  pub long : d + e.halves ≤ 2 * s
  pub aligned : e.payload % e.multiple ≡ 0

-- no payload stands in the ledger twice
abbrev pub Once : List Loan → Type 0
Once [] = Unit {0}
Once (e ∷ l) = ((g : Loan) → In g l → g.payload ≡ e.payload → ⊥) × Once l

pub record Booked (xs : List Block) (l : List Loan) : Type 0 where
  pub backed : (e : Loan) → In e l → Backed xs e
  pub all : (x s d : ℕ) → BlockAt x (used s d) 0 xs → (e : Loan) × In e l × (e.payload ≡ 2 * x + d)
  pub once : Once l

-- the half grain h belongs to the loan
abbrev pub HalfOf : Loan → ℕ → Type 0
HalfOf e h = (e.payload ≤ h) × (h < e.payload + e.halves)

-- Where a loan lies: in its used block, from the payload's place on, so after the guard and any padding. The grains of the loan
-- belong to that block alone: to no gap, no sentinel, no free block and no other used one. And each of them was given.
pub record Lies (m : Memory) (xs : List Block) (e : Loan) : Type 0 where
  pub own : Backed xs e
  pub past_guard : 2 * own.x < e.payload
  pub alone : (h : ℕ) → HalfOf e h → (y : ℕ) (b : Block) → BlockAt y b 0 xs → y ≤ h / 2 → h / 2 < y + size b → (own.x ≡ y) × (used own.s own.d ≡ b)
  pub given : (h : ℕ) → HalfOf e h → InTable m (h / 2)

-- the payload at q is not lent
abbrev pub Unlent : List Loan → ℕ → Type 0
Unlent l q = (e : Loan) → In e l → e.payload ≡ q → ⊥
