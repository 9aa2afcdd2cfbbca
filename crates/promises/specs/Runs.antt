-- What is run: calls one after the other on slices, and between them what the callers do. In a fair run (`Runs`) they write where
-- they may; in any run (`Havoc`) arena and lists become anything at all, and a ledger is kept by the replies.
use Rattle.std.specs.Prelude.{ℕ, ◌+◌, ◌*◌, ◌<◌, min, ◌≡◌, List, [], ◌∷◌, ◌⊎◌, length}
use Rattle.choice.specs.Choice.{if_eq}
use Rattle.definition.specs.Blocks.{Block, used}
use Rattle.definition.specs.Calls.{Heap}
use Rattle.invariants.specs.Order.{BlockAt}
use Rattle.machine.specs.Machine.{half}
use Rattle.refines.specs.Runs.{Reply, yes, not, Model}
use Rattle.lent.specs.Slices.{Slices}
use Rattle.lent.specs.Held.{Held}
use Rattle.promises.specs.Bytes.{ByteCall, allocate, deallocate, reallocate, insert, append}
use Rattle.promises.specs.Performs.{most_of, Performs, Rowed, Stand, model_of, Defines}
use Rattle.promises.specs.Terms.{SameAt, Fills, Lends}

-- ---- T5: fair runs

pub data Runs : Slices → List ByteCall → List Reply → Slices → Type 0 where
  stop : {S : Slices} → Runs S [] [] S
  call : {S T U : Slices} {k : ByteCall} {r : Reply} {ks : List ByteCall} {rs : List Reply} → Performs S k r T → Runs T ks rs U → Runs S (k ∷ ks) (r ∷ rs) U
  write : {S T U : Slices} {xs : List Block} {ks : List ByteCall} {rs : List Reply} → Rowed S xs → Fills xs S T → Held T → Runs T ks rs U → Runs S ks rs U

-- and in the definition, with a table of at most `most` regions
pub data DefinesAll (most : ℕ) : Model → List ByteCall → List Reply → Model → Type 0 where
  stop : {s : Model} → DefinesAll most s [] [] s
  call : {s u v : Model} {k : ByteCall} {r : Reply} {ks : List ByteCall} {rs : List Reply} → Defines most s k r u → DefinesAll most u ks rs v → DefinesAll most s (k ∷ ks) (r ∷ rs) v

-- the definition's replies, and slices that stand for its heap
pub record RunRefined (S : Slices) (h : Heap) (ks : List ByteCall) (rs : List Reply) (T : Slices) : Type 0 where
  pub heap : Heap
  pub defined : DefinesAll (most_of S) (model_of S h) ks rs (model_of T heap)
  pub stands : Stand T heap

-- ---- T11: any runs

-- a payload that is lent: its offset, as many bytes as were asked for, and at which alignment
pub record Loan : Type 0 where
  pub offset : ℕ
  pub bytes : ℕ
  pub alignment : ℕ

abbrev pub In : Loan → List Loan → Type 0
In e [] = ⊥
In e (g ∷ l) = (e ≡ g) ⊎ In e l

-- the ledger without the payload at x
unfoldable pub strike : ℕ → List Loan → List Loan
strike x [] = []
strike x (e ∷ l) = if_eq e.offset x (strike x l) (e ∷ strike x l)

-- the ledger after a call that was granted, and after any call
abbrev pub lent_now : ByteCall → ℕ → List Loan → List Loan
lent_now (allocate n a) x l = record { offset = x; bytes = n; alignment = a } ∷ l
lent_now (deallocate x) v l = strike x l
lent_now (reallocate x n a) z l = record { offset = z; bytes = n; alignment = a } ∷ strike x l
lent_now (insert b n) v l = l
lent_now (append b n) v l = l

abbrev pub book : ByteCall → Reply → List Loan → List Loan
book k (yes v) l = lent_now k v l
book k (not i) l = l

-- arena and lists become anything of the same length; tags and regions stay
pub record Struck (S T : Slices) : Type 0 where
  pub arena : length T.arena ≡ length S.arena
  pub lists : length T.lists ≡ length S.lists
  pub tags : T.tags ≡ S.tags
  pub regions : T.regions ≡ S.regions
  pub held : Held T

-- from slices with a ledger to slices with another
pub data Havoc : Slices → List Loan → Slices → List Loan → Type 0 where
  stop : {S : Slices} {l : List Loan} → Havoc S l S l
  call : {S T U : Slices} {l m : List Loan} {k : ByteCall} {r : Reply} → Performs S k r T → Havoc T (book k r l) U m → Havoc S l U m
  damage : {S T U : Slices} {l m : List Loan} → Struck S T → Havoc T l U m → Havoc S l U m

-- no offset stands in the ledger twice
abbrev pub Once : List Loan → Type 0
Once [] = Unit {0}
Once (e ∷ l) = ((g : Loan) → In g l → g.offset ≡ e.offset → ⊥) × Once l

-- the tags are those of blocks; each loan is in a block in use, and each block in use is lent
pub record Right (S : Slices) (l : List Loan) : Type 0 where
  pub blocks : List Block
  pub row : Rowed S blocks
  pub lends : (e : Loan) → In e l → Lends blocks e.bytes e.alignment e.offset
  pub all : (y s d : ℕ) → BlockAt y (used s d) 0 blocks → (e : Loan) × In e l × (e.offset ≡ half * (2 * y + d))
  pub once : Once l

-- the call does not give back or resize what is at the offset x
abbrev pub NotAbout : ByteCall → ℕ → Type 0
NotAbout (allocate n a) x = Unit {0}
NotAbout (deallocate z) x = z ≡ x → ⊥
NotAbout (reallocate z n a) x = z ≡ x → ⊥
NotAbout (insert b n) x = Unit {0}
NotAbout (append b n) x = Unit {0}

-- all bytes of the loan are the same in S and T
abbrev pub Kept : Slices → Slices → Loan → Type 0
Kept S T e = (i : ℕ) → i < e.bytes → SameAt S T (e.offset + i)

-- over a whole run: no call is about the loan, and no damage is done to its bytes
abbrev pub Spared : {S T : Slices} {l m : List Loan} → Loan → Havoc S l T m → Type 0
Spared e stop = Unit {0}
Spared e (call {k = k} p q) = NotAbout k e.offset × Spared e q
Spared e (damage {S = S} {T = T} d q) = Kept S T e × Spared e q

-- ---- one payload over a whole run, wherever it goes

-- what the loan is after a call that was granted, and after any call
abbrev pub moved_to : ByteCall → ℕ → Loan → Loan
moved_to (allocate n a) v e = e
moved_to (deallocate x) v e = e
moved_to (reallocate x n a) v e = if_eq x e.offset (record { offset = v; bytes = n; alignment = a }) e
moved_to (insert b n) v e = e
moved_to (append b n) v e = e

abbrev pub now_at : ByteCall → Reply → Loan → Loan
now_at k (yes v) e = moved_to k v e
now_at k (not i) e = e

-- the call does not give back what is at the offset x
abbrev pub NotReturned : ByteCall → ℕ → Type 0
NotReturned (allocate n a) x = Unit {0}
NotReturned (deallocate z) x = z ≡ x → ⊥
NotReturned (reallocate z n a) x = Unit {0}
NotReturned (insert b n) x = Unit {0}
NotReturned (append b n) x = Unit {0}

-- no call gives it back, and no damage is done to its bytes, where they then are
abbrev pub Followed : {S T : Slices} {l m : List Loan} → Loan → Havoc S l T m → Type 0
Followed e stop = Unit {0}
Followed e (call {k = k} {r = r} p q) = NotReturned k e.offset × Followed (now_at k r e) q
Followed e (damage {S = S} {T = T} d q) = Kept S T e × Followed e q

-- what it is at the end, and how many bytes it had at the least
abbrev pub at_end : {S T : Slices} {l m : List Loan} → Loan → Havoc S l T m → Loan
at_end e stop = e
at_end e (call {k = k} {r = r} p q) = at_end (now_at k r e) q
at_end e (damage d q) = at_end e q

abbrev pub least : {S T : Slices} {l m : List Loan} → Loan → Havoc S l T m → ℕ
least e stop = e.bytes
least e (call {k = k} {r = r} p q) = min e.bytes (least (now_at k r e) q)
least e (damage d q) = least e q
