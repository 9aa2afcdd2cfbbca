-- T11 of every call on slices: where the tags are right, they are right afterwards.
use Rattle.std.specs.Prelude.{ℕ, ◌+◌, ◌*◌, ◌≡◌, List}
use Rattle.std.proofs.Common.{arith, subst, inl, inr, ⊎_elim}
use Rattle.definition.specs.Blocks.{Block, used}
use Rattle.definition.specs.Units.{halves, multiple}
use Rattle.definition.specs.Lists.{Lists}
use Rattle.invariants.specs.Order.{BlockAt}
use Rattle.script.specs.Script.{ok}
use Rattle.request.specs.Asked.{InRange}
use Rattle.request.specs.Handed.{half_divides}
use Rattle.machine.specs.Machine.{half, classes}
use Rattle.plans.specs.Deeds.{Plan}
use Rattle.plans.specs.Calls.{Call}
use Rattle.armour.specs.Ledger.{Backed}
use Rattle.refines.specs.Runs.{Reply, yes, not}
use Rattle.lent.specs.Slices.{Slices, memory_of}
use Rattle.promises.specs.Bytes.{ByteCall, Asks, take, back, resize, give, follow, bytes}
use Rattle.promises.specs.Performs.{grains_of, most_of, Sized, outcome, Goes, stored, Performs, early, refused, granted, Rowed}
use Rattle.promises.specs.Terms.{Other, Lends, Lent, Leaves, New, Armour}
use Rattle.promises.proofs.Offsets.{stands_offset, half_offset, asks_fair}
use Rattle.promises.proofs.Storable.{goes_long, stored_row}
use Rattle.promises.specs.Survives.{NotOf, loan, LentAt, Answered}
use Rattle.promises.proofs.Survives.{call_survives}
use Rattle.promises.proofs.Untouched.{other_asked}

-- what a used block holds, in bytes
pub backed_lends : (ys : List Block) (n a v : ℕ) → InRange n a → Backed ys (loan v (halves half n) (multiple half a)) → Lends ys n a (half * v)
backed_lends ys n a v r w = record {
  block = w.x;
  grains = w.s;
  place = w.d;
  holds = record { block = w.block; offset = omega (arith, w.place) };
  aligned = half_divides a v r.alignment.power w.aligned;
  long = omega (arith, w.place, w.long);
}

lent_bytes : (k : ByteCall) (K : Call) (v : ℕ) (ys : List Block) → Asks k K → LentAt K v ys → Lent k (bytes k v) ys
lent_bytes k K v ys (take {n = n} {a = a} r) w = backed_lends ys n a v r w
lent_bytes k K v ys (back {x = x} e) w = λ y s d h. w y s d h.block (omega (arith, h.offset, half_offset x e))
lent_bytes k K v ys (resize {n = n} {a = a} r s) w = backed_lends ys n a v r w
lent_bytes k K v ys give w = tt
lent_bytes k K v ys follow w = tt

-- the payload that was answered, in bytes and in half grains
new_answered : (k : ByteCall) (K : Call) (v w x : ℕ) → Asks k K → bytes k v ≡ x → New k x w → Answered K v w
new_answered k K v w x (take r) e h = omega arith
new_answered k K v w x (back i) e h = h
new_answered k K v w x (resize r s) e h = omega arith
new_answered k K v w x give e h = h
new_answered k K v w x follow e h = h

answered_new : (k : ByteCall) (K : Call) (v w x : ℕ) → Asks k K → bytes k v ≡ x → Answered K v w → New k x w
answered_new k K v w x (take r) e h = omega arith
answered_new k K v w x (back i) e h = h
answered_new k K v w x (resize r s) e h = omega arith
answered_new k K v w x give e h = h
answered_new k K v w x follow e h = h

not_other : (k : ByteCall) (K : Call) (v : ℕ) → Asks k K → NotOf K v → Other k v
not_other k K v (take r) o = tt
not_other k K v (back {x = x} e) o = λ i. o (omega (arith, i))
not_other k K v (resize r s) o = λ i. o (omega (arith, i, stands_offset s))
not_other k K v give o = tt
not_other k K v follow o = tt

-- a refusal leaves all as it was
refused_armour : (S : Slices) (k : ByteCall) (i : ℕ) (xs : List Block) (f : Lists) → Rowed S xs → Armour S k (not i) S xs f
refused_armour S k i xs f o = record {
  blocks = xs;
  leaves = Leaves.same i;
  row = o;
  stays = λ y s d b _. b;
  lends = λ x e. let z : ◌≡◌ {A = ℕ} 0 1 = cc in absurd (omega arith);
  fresh = λ x e. let z : ◌≡◌ {A = ℕ} 0 1 = cc in absurd (omega arith);
  only = λ x e. let z : ◌≡◌ {A = ℕ} 0 1 = cc in absurd (omega arith);
}

granted_armour : (S : Slices) (k : ByteCall) (K : Call) (t : Plan) (xs : List Block) (f : Lists) → Sized S → Rowed S xs → Goes S k K → outcome S K ≡ ok t
    → Armour S k (yes (bytes k t.answer)) (stored S K t) xs f
granted_armour S k K t xs f z o g e =
    let fair = asks_fair k K g.asks in
    let w = call_survives (grains_of S) classes (most_of S) (memory_of S) xs f K t (omega arith) o fair e in
    record {
      blocks = w.heap.blocks;
      leaves = Leaves.other K t.answer w.heap g.asks w.possible;
      row = stored_row S z K t (goes_long S k K g.long g.asks) fair e xs w.heap.blocks w.armoured;
      stays = λ y s d b n. w.stays y s d b (other_asked k K (2 * y + d) g.asks n);
      lends = λ x i. let u : bytes k t.answer ≡ x = cc in subst (λ (v : ℕ). Lent k v w.heap.blocks) u (lent_bytes k K t.answer w.heap.blocks g.asks w.lent);
      fresh = λ x i y s d b n h. let u : bytes k t.answer ≡ x = cc in
          w.fresh y s d b (other_asked k K (2 * y + d) g.asks n) (new_answered k K t.answer (2 * y + d) x g.asks u h);
      only = λ x i y s d b. let u : bytes k t.answer ≡ x = cc in ⊎_elim
          (λ (h : Answered K t.answer (2 * y + d)). inl (answered_new k K t.answer (2 * y + d) x g.asks u h))
          (λ (h : BlockAt y (used s d) 0 xs × NotOf K (2 * y + d)). inr (h.0, not_other k K (2 * y + d) g.asks h.1))
          (w.only y s d b);
    }

pub performs_armour : (S : Slices) (k : ByteCall) (r : Reply) (T : Slices) → Sized S → Performs S k r T → (xs : List Block) (f : Lists) → Rowed S xs → Armour S k r T xs f
performs_armour S k r T z (early i e) xs f o = refused_armour S k i xs f o
performs_armour S k r T z (refused K i g e) xs f o = refused_armour S k i xs f o
performs_armour S k r T z (granted K t g e) xs f o = granted_armour S k K t xs f z o g e
