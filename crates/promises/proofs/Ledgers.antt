-- T11 over runs, for a crane engineer: whatever any module writes into the arena and the lists between the calls, payloads that are
-- lent share no byte, each is as long as was asked for, at its alignment and inside the arena, and no call changes a byte of
-- one, but of the one that it is about.
use Rattle.std.specs.Prelude.{ℕ, ◌+◌, ◌*◌, ◌%◌, ◌≤◌, ◌<◌, ◌≡◌, refl, List, [], ◌∷◌, ◌⊎◌, length, get_or}
use Rattle.std.proofs.Common.{arith, ap, sym, ◌∙◌, subst, inl, inr, ⊎_elim}
use Rattle.choice.specs.Choice.{eq_yes, eq_no, same?}
use Rattle.definition.specs.Blocks.{Block, used}
use Rattle.invariants.specs.Order.{BlockAt}
use Rattle.invariants.proofs.Order.{at_end_lem, one_block}
use Rattle.invariants.proofs.Promises.{used_apart}
use Rattle.sound.proofs.Swaps.{used_place}
use Rattle.machine.specs.Machine.{half}
use Rattle.refines.specs.Runs.{Reply, yes, not}
use Rattle.lent.specs.Slices.{Slices}
use Rattle.promises.specs.Bytes.{ByteCall, allocate, deallocate, reallocate, insert, append}
use Rattle.promises.specs.Performs.{Sized, Performs}
use Rattle.promises.specs.Terms.{Other, Lends, Armour}
use Rattle.promises.proofs.One.{refusal_unchanged}
use Rattle.promises.proofs.Armours.{performs_armour}
use Rattle.promises.proofs.Untouched.{performs_spares}
use Rattle.promises.proofs.Handed.{grains_le}
use Rattle.promises.proofs.Arrives.{reallocate_arrives}
use Rattle.promises.specs.Runs.{Loan, In, strike, lent_now, book, Once, Right, NotAbout, Kept}

-- ---- striking a loan

strike_in : (x : ℕ) (e : Loan) (l : List Loan) → In e (strike x l) → In e l × (e.offset ≡ x → ⊥)
unfolding strike
strike_in x e [] h = absurd h
strike_in x e (g ∷ l) h = ⊎_elim
    (λ (z : g.offset ≡ x). let k = strike_in x e l (subst (In e) (eq_yes g.offset x (strike x l) (g ∷ strike x l) z) h) in (inr k.0, k.1))
    (λ (z : g.offset ≡ x → ⊥). ⊎_elim
    (λ (k : e ≡ g). (inl k, λ i. z (ap (λ (u : Loan). u.offset) (sym k) ∙ i)))
    (λ (k : In e (strike x l)). let w = strike_in x e l k in (inr w.0, w.1))
    (subst (In e) (eq_no g.offset x (strike x l) (g ∷ strike x l) z) h))
    (same? g.offset x)

pub strike_keeps : (x : ℕ) (e : Loan) (l : List Loan) → (e.offset ≡ x → ⊥) → In e l → In e (strike x l)
unfolding strike
strike_keeps x e [] ne x3 = elim x3 [ ]
strike_keeps x e (g ∷ l) ne (inl k) = subst (In e) (sym (eq_no g.offset x (strike x l) (g ∷ strike x l) (λ z. ne (ap (λ (u : Loan). u.offset) k ∙ z)))) (inl k)
strike_keeps x e (g ∷ l) ne (inr k) = ⊎_elim
    (λ (z : g.offset ≡ x). subst (In e) (sym (eq_yes g.offset x (strike x l) (g ∷ strike x l) z)) (strike_keeps x e l ne k))
    (λ (z : g.offset ≡ x → ⊥). subst (In e) (sym (eq_no g.offset x (strike x l) (g ∷ strike x l) z)) (inr (strike_keeps x e l ne k)))
    (same? g.offset x)

strike_once : (x : ℕ) (l : List Loan) → Once l → Once (strike x l)
unfolding strike
strike_once x [] o = tt
strike_once x (e ∷ l) o = ⊎_elim
    (λ (z : e.offset ≡ x). subst Once (sym (eq_yes e.offset x (strike x l) (e ∷ strike x l) z)) (strike_once x l o.1))
    (λ (z : e.offset ≡ x → ⊥). subst Once (sym (eq_no e.offset x (strike x l) (e ∷ strike x l) z)) ((λ g i. o.0 g (strike_in x g l i).0), strike_once x l o.1))
    (same? e.offset x)

-- ---- a call

-- a block that stays holds what it held
lends_stay : (xs ys : List Block) (n a x : ℕ) (w : Lends xs n a x) → BlockAt w.block (used w.grains w.place) 0 ys → Lends ys n a x
lends_stay xs ys n a x w b = record {
  block = w.block;
  grains = w.grains;
  place = w.place;
  holds = record { block = b; offset = w.holds.offset };
  aligned = w.aligned;
  long = w.long;
}

-- what the call is not about is no part of it
about_other : (k : ByteCall) (x v : ℕ) → x ≡ half * v → NotAbout k x → Other k v
about_other (allocate n a) x v e n' = tt
about_other (deallocate z) x v e n = λ i. n (i ∙ sym e)
about_other (reallocate z n a) x v e n' = λ i. n' (i ∙ sym e)
about_other (insert b n) x v e n' = tt
about_other (append b n) x v e n' = tt

other_about : (k : ByteCall) (x v : ℕ) → x ≡ half * v → Other k v → NotAbout k x
other_about (allocate n a) x v e o = tt
other_about (deallocate z) x v e o = λ i. o (i ∙ e)
other_about (reallocate z n a) x v e o = λ i. o (i ∙ e)
other_about (insert b n) x v e o = tt
other_about (append b n) x v e o = tt

module _ (S : Slices) (k : ByteCall) (v : ℕ) (T : Slices) (l : List Loan) (r : Right S l) (w : Armour S k (yes v) T r.blocks (λ j. [])) where
  -- a loan that the call is not about
  stays : (e : Loan) → In e l → NotAbout k e.offset → Lends w.blocks e.bytes e.alignment e.offset
  stays e i n =
      let u = r.lends e i in
      lends_stay r.blocks w.blocks e.bytes e.alignment e.offset u
      (w.stays u.block u.grains u.place u.holds.block (about_other k e.offset (2 * u.block + u.place) u.holds.offset n))

  -- the loan of a block that was in use before
  known : (y s d : ℕ) → BlockAt y (used s d) 0 r.blocks → Other k (2 * y + d) → (e : Loan) × In e l × (e.offset ≡ half * (2 * y + d)) × NotAbout k e.offset
  known y s d b o = let u = r.all y s d b in (u.0, u.1, u.2, other_about k u.0.offset (2 * y + d) u.2 o)

granted_right : (S : Slices) (k : ByteCall) (v : ℕ) (T : Slices) (l : List Loan) (r : Right S l) → Armour S k (yes v) T r.blocks (λ j. []) → Right T (lent_now k v l)
granted_right S (allocate n a) v T l r w = record {
  blocks = w.blocks;
  row = w.row;
  lends = λ e i. ⊎_elim
      (λ (q : e ≡ record { offset = v; bytes = n; alignment = a }). subst (λ (e : Loan). Lends w.blocks e.bytes e.alignment e.offset) (sym q) (w.lends v refl))
      (λ (q : In e l). stays S (allocate n a) v T l r w e q tt) i;
  all = λ y s d b. ⊎_elim
      (λ (q : v ≡ half * (2 * y + d)). (record { offset = v; bytes = n; alignment = a }, inl refl, q))
      (λ (q : BlockAt y (used s d) 0 r.blocks × Unit {0}). let u = r.all y s d q.0 in (u.0, inr u.1, u.2))
      (w.only v refl y s d b);
  once = ((λ g i q. let u = r.lends g i in w.fresh v refl u.block u.grains u.place u.holds.block tt (sym q ∙ u.holds.offset)), r.once);
}
granted_right S (deallocate x) v T l r w = record {
  blocks = w.blocks;
  row = w.row;
  lends = λ e i. let q = strike_in x e l i in stays S (deallocate x) v T l r w e q.0 (λ j. q.1 (sym j));
  all = λ y s d b. ⊎_elim
      (λ (q : ⊥). absurd q)
      (λ (q : BlockAt y (used s d) 0 r.blocks × (x ≡ half * (2 * y + d) → ⊥)). let u = known S (deallocate x) v T l r w y s d q.0 q.1 in
      (u.0, strike_keeps x u.0 l (λ j. u.3 (sym j)) u.1, u.2))
      (w.only v refl y s d b);
  once = strike_once x l r.once;
}
granted_right S (reallocate x n a) v T l r w = record {
  blocks = w.blocks;
  row = w.row;
  lends = λ e i. ⊎_elim
      (λ (q : e ≡ record { offset = v; bytes = n; alignment = a }). subst (λ (e : Loan). Lends w.blocks e.bytes e.alignment e.offset) (sym q) (w.lends v refl))
      (λ (q : In e (strike x l)). let j = strike_in x e l q in stays S (reallocate x n a) v T l r w e j.0 (λ i. j.1 (sym i))) i;
  all = λ y s d b. ⊎_elim
      (λ (q : v ≡ half * (2 * y + d)). (record { offset = v; bytes = n; alignment = a }, inl refl, q))
      (λ (q : BlockAt y (used s d) 0 r.blocks × (x ≡ half * (2 * y + d) → ⊥)). let u = known S (reallocate x n a) v T l r w y s d q.0 q.1 in
      (u.0, inr (strike_keeps x u.0 l (λ j. u.3 (sym j)) u.1), u.2))
      (w.only v refl y s d b);
  once = (
    (λ g i q. let j = strike_in x g l i in let u = r.lends g j.0 in
        w.fresh v refl u.block u.grains u.place u.holds.block (λ e. j.1 (u.holds.offset ∙ sym e)) (sym q ∙ u.holds.offset)),
    strike_once x l r.once,
  );
}
granted_right S (insert b n) v T l r w = record {
  blocks = w.blocks;
  row = w.row;
  lends = λ e i. stays S (insert b n) v T l r w e i tt;
  all = λ y s d b'. ⊎_elim (λ (q : ⊥). absurd q) (λ (q : BlockAt y (used s d) 0 r.blocks × Unit {0}). r.all y s d q.0) (w.only v refl y s d b');
  once = r.once;
}
granted_right S (append b n) v T l r w = record {
  blocks = w.blocks;
  row = w.row;
  lends = λ e i. stays S (append b n) v T l r w e i tt;
  all = λ y s d b'. ⊎_elim (λ (q : ⊥). absurd q) (λ (q : BlockAt y (used s d) 0 r.blocks × Unit {0}). r.all y s d q.0) (w.only v refl y s d b');
  once = r.once;
}

pub call_right : (S : Slices) (k : ByteCall) (r : Reply) (T : Slices) (l : List Loan) → Sized S → Right S l → Performs S k r T → Right T (book k r l)
call_right S k (not i) T l z o p = subst (λ (T : Slices). Right T l) (sym (refusal_unchanged S k (not i) T p i refl)) o
call_right S k (yes v) T l z o p = granted_right S k v T l o (performs_armour S k (yes v) T z p o.blocks (λ j. []) o.row)

-- ---- what is right, in bytes

module _ (S : Slices) (l : List Loan) (r : Right S l) where
  -- two loans share no byte
  pub loans_apart : (e g : Loan) → In e l → In g l → (e.offset ≡ g.offset → ⊥) → (e.offset + e.bytes ≤ g.offset) ⊎ (g.offset + g.bytes ≤ e.offset)
  loans_apart e g i j ne =
      let u = r.lends e i in
      let v = r.lends g j in
      ⊎_elim
      (λ (q : u.block ≡ v.block).
      let z = one_block u.block (used u.grains u.place) (used v.grains v.place) r.blocks r.row.order u.holds.block
      (subst (λ (x : ℕ). BlockAt x (used v.grains v.place) 0 r.blocks) (sym q) v.holds.block) in
      absurd (ne (omega (arith, u.holds.offset, v.holds.offset, q, used_place z))))
      (λ (q : u.block ≡ v.block → ⊥). ⊎_elim
      (λ (h : u.block + u.grains ≤ v.block). inl (omega (arith, v.holds.offset, u.long)))
      (λ (h : v.block + v.grains ≤ u.block). inr (omega (arith, u.holds.offset, v.long)))
      (used_apart u.block u.grains u.place v.block v.grains v.place r.blocks u.holds.block v.holds.block q))
      (same? u.block v.block)

  -- each is at its alignment, and inside the arena
  pub loan_right : (e : Loan) → In e l → (e.offset % e.alignment ≡ 0) × (e.offset + e.bytes ≤ length S.arena)
  loan_right e i =
      let u = r.lends e i in
      (u.aligned, omega (arith, u.long, at_end_lem u.block (used u.grains u.place) 0 r.blocks u.holds.block, r.row.whole, grains_le S.arena))

  -- no call changes a byte of one that it is not about
  pub loan_kept : (k : ByteCall) (q : Reply) (T : Slices) → Performs S k q T → (e : Loan) → In e l → NotAbout k e.offset → Kept S T e
  loan_kept k q T p e i n j h =
      let u = r.lends e i in
      performs_spares S k q T p r.blocks r.row u.block u.grains u.place u.holds.block
      (about_other k e.offset (2 * u.block + u.place) u.holds.offset n) (e.offset + j) (omega (arith, u.holds.offset), omega (arith, u.long))

  -- and one that is resized arrives: as many bytes as it had and is to have
  pub loan_arrives : (n a z : ℕ) (T : Slices) (e : Loan) → Performs S (reallocate e.offset n a) (yes z) T → In e l → (i : ℕ) → i < e.bytes → i < n
      → get_or T.arena (z + i) 0 ≡ get_or S.arena (e.offset + i) 0
  loan_arrives n a z T e p i j h m =
      let u = r.lends e i in
      reallocate_arrives S e.offset n a (yes z) T p r.blocks r.row u.block u.grains u.place u.holds z refl j (omega (arith, u.long)) m
