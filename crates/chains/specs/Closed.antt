-- Where steps write, on any memory. Let F be a set of blocks. Where the links of the blocks that leave lead into F, and what
-- enters and the heads before it are in F, all links are written in blocks of F, and lead into F again. So what was
-- checked before the first step holds at every later one. With "is a grain" for F this keeps the writes in bounds; with
-- "is free before the call or after it" it keeps them out of what is in use.
use Rattle.std.specs.Prelude.{ℕ, ◌≡◌, List, [], ◌∷◌, ◌⊎◌}
use Rattle.script.specs.Memory.{Memory, Next, Prev, Mark, Write, ◌at◌≔◌}
use Rattle.chains.specs.Links.{Head}
use Rattle.chains.specs.Steps.{Step, leave, enter}

-- blocks F, lists L, what a head may be H, what a mark may be B
pub record Bounds : Type 1 where
  pub F : ℕ → Type 0
  pub L : ℕ → Type 0
  pub H : ℕ → Type 0
  pub B : ℕ → Type 0

pub data LinkWrite (o : Bounds) : Write → Type 0 where
  at_next : {x v : ℕ} → o.F x → o.F v → LinkWrite o (Next at x ≔ v)
  at_prev : {x v : ℕ} → o.F x → o.F v → LinkWrite o (Prev at x ≔ v)
  at_head : {k v : ℕ} → o.L k → o.H v → LinkWrite o (Head at k ≔ v)
  at_mark : {k v : ℕ} → o.L k → o.B v → LinkWrite o (Mark at k ≔ v)

-- a list that has no block, or a head in F
abbrev pub Headed : (ℕ → Type 0) → Memory → ℕ → Type 0
Headed F m k = (m Mark k ≡ 0) ⊎ F (m Head k)

-- what is to be checked before the first step
abbrev pub Ready : Bounds → Memory → List Step → Type 0
Ready o m [] = Unit {0}
Ready o m (leave k y ∷ l) = (o.L k × o.F (m Next y) × o.F (m Prev y)) × Ready o m l
Ready o m (enter k y ∷ l) = (o.L k × o.F y × Headed o.F m k) × Ready o m l

-- what every head and mark is
pub record Shown (o : Bounds) (m : Memory) : Type 0 where
  pub heads : (k : ℕ) → o.H (m Head k)
  pub marks : (k : ℕ) → o.B (m Mark k)

-- what F, H and B must have in common
pub record Fit (o : Bounds) : Type 0 where
  pub head : (v : ℕ) → o.F v → o.H v
  pub clear : o.B 0
  pub set : o.B 1
