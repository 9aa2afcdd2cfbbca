-- T15, for a module's author: bytes that stand in a payload are read back at any later time, through every call of anybody and every
-- resize, until it is given back, as long as nobody else writes there; whatever is written elsewhere.
use Rattle.std.specs.Prelude.{ℕ, ◌+◌, ◌≤◌, ◌<◌, ◌≡◌, refl, List, get_or}
use Rattle.std.proofs.Common.{arith, ◌∙◌, subst, inl}
use Rattle.choice.specs.Choice.{eq_case}
use Rattle.refines.specs.Runs.{Reply, yes, not}
use Rattle.lent.specs.Slices.{Slices}
use Rattle.promises.specs.Bytes.{ByteCall, allocate, deallocate, reallocate, insert, append}
use Rattle.promises.specs.Performs.{Sized, Performs}
use Rattle.promises.proofs.One.{refusal_unchanged}
use Rattle.promises.proofs.Sizes.{sized_keep, performs_sized}
use Rattle.promises.specs.Runs.{Loan, In, book, Havoc, Right, NotAbout, now_at, NotReturned, Followed, at_end, least}
use Rattle.promises.proofs.Ledgers.{call_right, loan_kept, loan_arrives}
use Rattle.promises.proofs.Havocs.{struck_lengths, struck_right, still_lent}

-- the loan f is in the ledger m, and in T it has the bytes that e has in S, as many as both have
abbrev Goes : Slices → Slices → List Loan → Loan → Loan → Type 0
Goes S T m e f = ((i : ℕ) → i < e.bytes → i < f.bytes → get_or T.arena (f.offset + i) 0 ≡ get_or S.arena (e.offset + i) 0) × In f m

module _ (S : Slices) (l : List Loan) (o : Right S l) (e : Loan) (h : In e l) where
  still : (k : ByteCall) (r : Reply) (T : Slices) → Performs S k r T → NotAbout k e.offset → Goes S T (book k r l) e e
  still k r T p n = ((λ i b _. loan_kept S l o k r T p e h n i b), still_lent k r l e n h)

  resized : (x n a v : ℕ) (T : Slices) → Performs S (reallocate x n a) (yes v) T → Goes S T (book (reallocate x n a) (yes v) l) e (now_at (reallocate x n a) (yes v) e)
  resized x n a v T p = eq_case (Goes S T (book (reallocate x n a) (yes v) l) e) x e.offset _ _
      (λ q. ((λ i b c. loan_arrives S l o n a v T e (subst (λ (x : ℕ). Performs S (reallocate x n a) (yes v) T) q p) h i b c), inl refl))
      (λ ne. still (reallocate x n a) (yes v) T p ne)

  -- a refusal changes nothing
  unmoved : (T : Slices) → T ≡ S → Goes S T l e e
  unmoved T q = ((λ j b _. rw q), h)

  goes : (k : ByteCall) (r : Reply) (T : Slices) → Performs S k r T → NotReturned k e.offset → Goes S T (book k r l) e (now_at k r e)
  goes (allocate n a) (yes v) T p c = still (allocate n a) (yes v) T p tt
  goes (deallocate x) (yes v) T p c = still (deallocate x) (yes v) T p c
  goes (reallocate x n a) (yes v) T p c = resized x n a v T p
  goes (insert b n) (yes v) T p c = still (insert b n) (yes v) T p tt
  goes (append b n) (yes v) T p c = still (append b n) (yes v) T p tt
  goes k (not i) T p c = unmoved T (refusal_unchanged S k (not i) T p i refl)

-- the least is no more than there was
least_below : (S : Slices) (l : List Loan) (T : Slices) (m : List Loan) (h : Havoc S l T m) (e : Loan) → least e h ≤ e.bytes
least_below S l T m Havoc.stop e = omega arith
least_below S l T m (Havoc.call p h) e = omega arith
least_below S l T m (Havoc.damage {T = U} d h) e = least_below U l T m h e

pub contents_kept : (S : Slices) (l : List Loan) (T : Slices) (m : List Loan) (h : Havoc S l T m) → Sized S → Right S l → (e : Loan) → In e l → Followed e h
    → ((i : ℕ) → i < least e h → get_or T.arena ((at_end e h).offset + i) 0 ≡ get_or S.arena (e.offset + i) 0) × (least e h ≤ (at_end e h).bytes) × In (at_end e h) m
contents_kept S l T m Havoc.stop z r e i f = ((λ j b. refl), omega arith, i)
contents_kept S l T m (Havoc.call {T = U} {k = k} {r = q} p h) z r e i f =
    let g = goes S l r e i k q U p f.0 in
    let w = contents_kept U (book k q l) T m h (performs_sized S k q U z p) (call_right S k q U l z r p) (now_at k q e) g.1 f.1 in
    let c = least_below U (book k q l) T m h (now_at k q e) in
    ((λ j b. w.0 j (omega arith) ∙ g.0 j (omega arith) (omega (arith, c))), omega (arith, w.1), w.2)
contents_kept S l T m (Havoc.damage {T = U} d h) z r e i f =
    let c = struck_lengths S U d in
    let w = contents_kept U l T m h (sized_keep S U c d.held z) (struck_right S U l d r) e i f.1 in
    let v = least_below U l T m h e in
    ((λ j b. w.0 j b ∙ f.0 j (omega (arith, v))), w.1, w.2)
