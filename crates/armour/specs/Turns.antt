-- A deed turns blocks xs into ys (`Turns`): its records make the tags those of ys, its links are written in free blocks alone,
-- and its guards are those of the new used blocks. What follows of the whole plan, for every call.
use Rattle.std.specs.Prelude.{ℕ, ◌*◌, ◌<◌, ◌≡◌, List, [], ◌∷◌, ◌++◌, ◌⊎◌}
use Rattle.definition.specs.Blocks.{Block, used}
use Rattle.invariants.specs.Order.{BlockAt}
use Rattle.invariants.specs.Members.{Mem}
use Rattle.script.specs.Memory.{Memory, Next, Prev, Table, Write, apply}
use Rattle.tags.specs.Tag.{Tag}
use Rattle.tags.specs.Each.{Each}
use Rattle.chains.specs.Closed.{Bounds, Ready}
use Rattle.plans.specs.Deeds.{Deed, Plan, writes, after}
use Rattle.armour.specs.Row.{Row, Free, Used, Either}

-- links in blocks that are free before the call or after it; lists there are
abbrev pub link_bounds : ℕ → List Block → List Block → Bounds
link_bounds c xs ys = record { F = Either xs ys; L = λ k. k < 16 * c; H = λ v. Unit {0}; B = λ v. Unit {0} }

-- a write of a tag or of the table of regions
abbrev pub Record : Write → Type 0
Record w = (w.field ≡ Tag) ⊎ (w.field ≡ Table)

-- each of some blocks
abbrev pub Every : (ℕ → Type 0) → List ℕ → Type 0
Every P [] = Unit {0}
Every P (x ∷ l) = P x × Every P l

pub record Turns (n c : ℕ) (m : Memory) (xs : List Block) (t : Deed) (ys : List Block) : Type 0 where
  pub row : Row n c (apply m t.records) ys
  pub records : Each Record t.records
  pub ready : Ready (link_bounds c xs ys) m (t.early ++ t.late)
  -- guards are those of used blocks, in the place of free ones
  pub guards : Every (Free xs) t.guards
  pub users : Every (Used ys) t.guards
  -- a used block has its guard from before, or is among those that get one
  pub used_before : (x s d : ℕ) → BlockAt x (used s d) 0 ys → Mem x t.guards ⊎ ((u : ℕ) × (e : ℕ) × BlockAt x (used u e) 0 xs)

-- T11 of a plan: the tags afterwards are those of ys, and links and guards are written only in the first half grain of
-- blocks that are free before the call or after it
abbrev pub Proper : List Block → List Block → Write → Type 0
Proper xs ys w = (w.field ≡ Next) ⊎ (w.field ≡ Prev) → Either xs ys w.place

pub record Armoured (n c : ℕ) (m : Memory) (xs : List Block) (t : Plan) (ys : List Block) : Type 0 where
  pub row : Row n c (after m t) ys
  pub proper : Each (Proper xs ys) (writes t)
