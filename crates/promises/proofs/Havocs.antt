-- T11 over runs: right stays right, through any calls and any damage to arena and lists between them.
use Rattle.std.specs.Prelude.{ℕ, ◌+◌, ◌%◌, ◌≤◌, ◌≡◌, refl, List, [], ◌⊎◌, length}
use Rattle.std.proofs.Common.{ap, sym, ◌∙◌, subst, inr}
use Rattle.definition.specs.Blocks.{Block}
use Rattle.definition.specs.Calls.{empty}
use Rattle.machine.specs.Machine.{classes}
use Rattle.armour.specs.Row.{Row}
use Rattle.armour.proofs.Turns.{row_same}
use Rattle.refines.specs.Runs.{Reply, yes, not}
use Rattle.lent.specs.Slices.{Slices, memory_of}
use Rattle.lent.specs.Kept.{Lengths}
use Rattle.lent.proofs.Kept.{grains_keep}
use Rattle.lent.proofs.Empty.{empty_unused}
use Rattle.promises.specs.Bytes.{ByteCall, allocate, deallocate, reallocate, insert, append}
use Rattle.promises.specs.Performs.{grains_of, AllLong, Sized, Rowed}
use Rattle.promises.proofs.Sizes.{sized_keep, performs_sized}
use Rattle.promises.specs.Begins.{Begun}
use Rattle.promises.proofs.Fresh.{begun_sized, begun_stands}
use Rattle.promises.specs.Runs.{Loan, In, book, Struck, Havoc, Right, NotAbout, Kept, Spared}
use Rattle.promises.proofs.Ledgers.{strike_keeps, call_right, loans_apart, loan_right, loan_kept}

-- ---- damage

pub struck_lengths : (S T : Slices) → Struck S T → Lengths S T
struck_lengths S T d = record { arena = d.arena; lists = d.lists; tags = ap length d.tags; regions = ap length d.regions }

-- tags and regions say the same
pub struck_row : (S T : Slices) → Struck S T → (xs : List Block) → Rowed S xs → Rowed T xs
unfolding memory_of
struck_row S T d xs o = subst (λ (n : ℕ). Row n classes (memory_of T) xs) (sym (grains_keep S.arena T.arena d.arena))
    (row_same (grains_of S) classes (memory_of S) (memory_of T) xs (rw d.tags) (rw d.regions) o)

pub struck_right : (S T : Slices) (l : List Loan) → Struck S T → Right S l → Right T l
struck_right S T l d r = record { blocks = r.blocks; row = struck_row S T d r.blocks r.row; lends = r.lends; all = r.all; once = r.once }

-- ---- any run

pub havoc_right : (S : Slices) (l : List Loan) (T : Slices) (m : List Loan) → Havoc S l T m → Sized S → Right S l → Right T m
havoc_right S l T m Havoc.stop z r = r
havoc_right S l T m (Havoc.call {T = U} {k = k} {r = q} p h) z r =
    havoc_right U (book k q l) T m h (performs_sized S k q U z p) (call_right S k q U l z r p)
havoc_right S l T m (Havoc.damage {T = U} d h) z r =
    let e = struck_lengths S U d in
    havoc_right U l T m h (sized_keep S U e d.held z) (struck_right S U l d r)

-- from tables that were made empty, with an empty ledger
pub begun_right : (S T : Slices) → AllLong S → Begun S T → Right T []
begun_right S T l b = record {
  blocks = (empty (grains_of T)).blocks;
  row = (begun_stands S T l b).row;
  lends = λ e i. absurd i;
  all = λ y s d h. absurd (empty_unused (grains_of T) y s d h);
  once = tt;
}

pub havoc_from_init : (S T U : Slices) (m : List Loan) → Sized S → AllLong S → Begun S T → Havoc T [] U m → Right U m
havoc_from_init S T U m z l b h = havoc_right T [] U m h (begun_sized S T l b z) (begun_right S T l b)

-- two payloads that are lent share no byte
pub lent_apart : (S : Slices) (l : List Loan) (T : Slices) (m : List Loan) → Havoc S l T m → Sized S → Right S l
    → (e g : Loan) → In e m → In g m → (e.offset ≡ g.offset → ⊥) → (e.offset + e.bytes ≤ g.offset) ⊎ (g.offset + g.bytes ≤ e.offset)
lent_apart S l T m h z r = loans_apart T m (havoc_right S l T m h z r)

-- each is at its alignment, as long as was asked for, and inside the arena
pub lent_right : (S : Slices) (l : List Loan) (T : Slices) (m : List Loan) → Havoc S l T m → Sized S → Right S l
    → (e : Loan) → In e m → (e.offset % e.alignment ≡ 0) × (e.offset + e.bytes ≤ length T.arena)
lent_right S l T m h z r = loan_right T m (havoc_right S l T m h z r)

-- ---- a payload over a whole run

-- a loan that a call is not about stays in the ledger
pub still_lent : (k : ByteCall) (q : Reply) (l : List Loan) (e : Loan) → NotAbout k e.offset → In e l → In e (book k q l)
still_lent k (not i) l e n h = h
still_lent (allocate m a) (yes v) l e n h = inr h
still_lent (deallocate x) (yes v) l e n h = strike_keeps x e l (λ i. n (sym i)) h
still_lent (reallocate x m a) (yes v) l e n h = inr (strike_keeps x e l (λ i. n (sym i)) h)
still_lent (insert b m) (yes v) l e n h = h
still_lent (append b m) (yes v) l e n h = h

-- no call about it and no damage to it: then it has its bytes at the end, and is lent
pub lent_kept : (S : Slices) (l : List Loan) (T : Slices) (m : List Loan) (h : Havoc S l T m) → Sized S → Right S l
    → (e : Loan) → In e l → Spared e h → Kept S T e × In e m
lent_kept S l T m Havoc.stop z r e i s = ((λ j b. refl), i)
lent_kept S l T m (Havoc.call {T = U} {k = k} {r = q} p h) z r e i s =
    let w = lent_kept U (book k q l) T m h (performs_sized S k q U z p) (call_right S k q U l z r p) e
    (still_lent k q l e s.0 i) s.1 in
    ((λ j b. w.0 j b ∙ loan_kept S l r k q U p e i s.0 j b), w.1)
lent_kept S l T m (Havoc.damage {T = U} d h) z r e i s =
    let c = struck_lengths S U d in
    let w = lent_kept U l T m h (sized_keep S U c d.held z) (struck_right S U l d r) e i s.1 in
    ((λ j b. w.0 j b ∙ s.0 j b), w.1)
