-- The code's answers as the scripts give them, and the slices that were lent as the scripts read them.
use Rattle.std.specs.Prelude.{ℕ, ◌+◌, ◌-◌, ◌*◌, ◌≤◌, ◌<◌, ◌≡◌, List, length, Option, Some, None, IfSome, Result, IfOk}
use Rattle.std.proofs.Common.{arith, ap, sym, ◌∙◌, ⊎_elim}
use Rattle.choice.specs.Choice.{le?}
use Rattle.class.specs.Class.{list_of}
use Rattle.word.specs.Word.{word_at}
use Rattle.script.specs.Memory.{Before}
use Rattle.script.specs.Script.{Script, run}
use Rattle.refusal.specs.Answered.{answered, answered_as}
use Rattle.refusal.specs.declared.Refusal.{Refusal}
use Rattle.sound.specs.Checks.{Owner, Beside, nobody, somebody, block_of, see_owner, see_behind, see_before}
use Rattle.slices.specs.Decode.{grains, wrong_link}
use Rattle.slices.specs.Arena.{link_at}
use Rattle.slices.proofs.Arena.{link_in}
use Rattle.slices.proofs.Slices.{memory_before}
use Rattle.header.specs.Turned.{turned}
use Rattle.free_list.specs.Lent.{lent, held, classes, link, Holds, link_grain, link_past}
use Rattle.neighbours.specs.declared.Owner.{Owner as OwnerAnswer}
use Rattle.neighbours.specs.declared.Neighbour.{Neighbour}

-- ---- the owner of a payload

-- the block, as the script has it
abbrev pub owned : OwnerAnswer → Owner
owned o = record { at = o.at; grains = o.grains }

-- the answers on the payload at q are the scripts', whatever the other slices hold
abbrev pub SeenOwner : List ℕ → List ℕ → ℕ → Result OwnerAnswer Refusal → Type 0
SeenOwner a v q r = (l t : List ℕ) → answered_as owned r ≡ run (held a l v t) (see_owner q)

-- and the grain is one of the arena
pub record SeenBlock (a : List ℕ) (q : ℕ) (r : Result ℕ Refusal) : Type 0 where
  pub answer : (l v t : List ℕ) → answered r ≡ run (held a l v t) (block_of q)
  pub inside : IfOk r (λ x. x < grains 8 a)

-- ---- a block beside a used one

-- the block with what its links say
abbrev pub linked : List ℕ → Neighbour → Beside
linked a e = somebody e.grains (record { next = link a e.next; prev = link a e.prev })

-- or nobody
abbrev pub seen_of : List ℕ → Option Neighbour → Beside
seen_of a None = nobody
seen_of a (Some e) = linked a e

-- its grains; nobody has none
abbrev pub grains_of : Option Neighbour → ℕ
grains_of None = 0
grains_of (Some e) = e.grains

-- a block that was seen at y: its list is that of its size, and its links are the words of y
pub record Block (a : List ℕ) (y : ℕ) (e : Neighbour) : Type 0 where
  pub list : e.list ≡ list_of e.grains
  pub links : Holds a y e.next e.prev

-- the answer is that of the script S, whatever the other slices hold; of a block that was seen P holds
pub record SeenBeside (a l : List ℕ) (S : Script Beside) (P : Neighbour → Type 0) (r : Result (Option Neighbour) Refusal) : Type 0 where
  pub answer : (v t : List ℕ) → answered_as (seen_of a) r ≡ run (held a l v t) S
  pub block : IfOk r (λ o. IfSome o P)

-- on what is behind, at y, and on what is before x
abbrev pub SeenBehind : List ℕ → List ℕ → ℕ → Result (Option Neighbour) Refusal → Type 0
SeenBehind a l y r = SeenBeside a l (see_behind (grains 8 a) classes y) (Block a y) r

abbrev pub SeenBefore : List ℕ → List ℕ → ℕ → Result (Option Neighbour) Refusal → Type 0
SeenBefore a l x r = SeenBeside a l (see_before (grains 8 a) classes x) (λ e. Block a (x - e.grains) e) r

-- ---- what is read

module _ (a l v t : List ℕ) (g : ℕ) (i : g < grains 8 a) where
  -- where the grain g says the block before it is
  pub before_read : held a l v t Before g ≡ link_at 8 a Before 0 g
  before_read = memory_before 8 (lent a l v t) g ∙ link_in 8 a g Before wrong_link i ∙ sym (link_in 8 a g Before 0 i)

  -- and the word that says so
  pub before_link : (w : ℕ) → w ≡ word_at 8 a (4 * g + Before) → held a l v t Before g ≡ link a w
  before_link w e = memory_before 8 (lent a l v t) g ∙ link_in 8 a g Before wrong_link i ∙ ap (link a) (sym e)

-- a word that leads to no grain before x
pub link_from : (a : List ℕ) (w x : ℕ) → length a < 18446744073709551616 → x < grains 8 a → x ≤ turned w → x ≤ link a w
link_from a w x s i h = ⊎_elim
    (λ (o : grains 8 a ≤ turned w). omega (arith, link_past a w s o))
    (λ (o : turned w < grains 8 a). omega (arith, link_grain a w s o))
    (le? (grains 8 a) (turned w))
