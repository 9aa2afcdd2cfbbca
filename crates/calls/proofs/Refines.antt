-- What follows from specs/Refines.antt.
use Rattle.std.specs.Prelude.{ℕ, ◌<◌, ◌≡◌, List}
use Rattle.std.proofs.Common.{arith, ap, sym, ◌∙◌, subst}
use Rattle.definition.specs.Calls.{Heap, Answer}
use Rattle.invariants.specs.NotLive.{NotLive}
use Rattle.invariants.proofs.NotLive.{not_live_back, not_live_resize}
use Rattle.script.specs.Memory.{Memory, Write}
use Rattle.script.specs.Script.{Result, ok, no}
use Rattle.sound.specs.Plans.{Plan}
use Rattle.sound.specs.Sound.{Sound}
use Rattle.sound.specs.Calls.{Call, Take, Return, Resize, Give, Append, script_of, answer_of, Fair}
use Rattle.sound.proofs.Calls.{call_meets}
use Rattle.sound.specs.Runs.{Reply, yes, not, said, left, reply, written, Aligned}
use Rattle.sound.proofs.Runs.{one}
use Rattle.slices.proofs.Decode.{grains_keep, wide_8}
use Rattle.slices.specs.Slices.{Slices, memory_of, stores}
use Rattle.slices.proofs.Slices.{memory_table}
use Rattle.slices.proofs.Kept.{stores_lengths}
use Rattle.slices.proofs.Stored.{sound_stored}
use Rattle.definition.specs.Units.{halves, multiple}
use Rattle.request.specs.Alignment.{multiple_align}
use Rattle.calls.specs.Bytes.{ByteCall, allocate, deallocate, reallocate, insert, append, Asks, take, back, resize, give, follow, bytes, in_bytes}
use Rattle.calls.specs.Performs.{Long, Inside, grains_of, most_of, outcome, Early, short, outside, stored, Performs, early, refused, granted, Defines, Stand}
use Rattle.calls.specs.Storable.{Sized, AllLong}
use Rattle.calls.proofs.Storable.{outcome_stored}
use Rattle.calls.proofs.Resizes.{live, resize_stands}
use Rattle.calls.specs.Refines.{Spare, behind_not_live, Refined}

-- the tables that a call needs are among all tables
pub long_each : (S : Slices) (k : ByteCall) → AllLong S → Long S k
long_each S (allocate n a) l = l.tables
long_each S (deallocate x a) l = l.tables
long_each S (reallocate x n a) l = l.tables
long_each S (insert x n) l = (l.tables.heads, l.some)
long_each S (append x n) l = (l.tables.heads, l.some)

-- what is asked for is at a multiple that is an alignment
pub asks_aligned : (k : ByteCall) (K : Call) → Asks k K → Aligned K
asks_aligned k K (take {a = a} r) = multiple_align a r.alignment.power
asks_aligned k K (back s) = tt
asks_aligned k K (resize {a = a} r s) = multiple_align a r.alignment.power
asks_aligned k K give = tt
asks_aligned k K follow = tt

-- and fair where the table has room
pub asks_fair : (S : Slices) (k : ByteCall) (K : Call) → Spare S k → Asks k K → Fair (memory_of 8 S) (most_of S) K
asks_fair S k K f (take {a = a} r) = multiple_align a r.alignment.power
asks_fair S k K f (back s) = tt
asks_fair S k K f (resize {a = a} r s) = multiple_align a r.alignment.power
asks_fair S k K f give = rw (memory_table 8 S 0) f
asks_fair S k K f follow = rw (memory_table 8 S 0) f

-- stored words keep the number of grains
pub stored_grains : (S : Slices) (w : List Write) → grains_of (stores 8 S w) ≡ grains_of S
stored_grains S w = grains_keep 8 S.arena (stores 8 S w).arena (stores_lengths 8 S w).arena

-- what stands when all writes are stored stands where a payload was moved among them, too
pub stored_stands : (S : Slices) (h : Heap) (o : Stand S h) (K : Call) (p : Plan) → Aligned K → outcome S K ≡ ok p
    → Stand (stores 8 S p.writes) (left h (answer_of 12 K h)) → Stand (stored S K p) (left h (answer_of 12 K h))
stored_stands S h o (Take n a) p al e k = k
stored_stands S h o (Return q) p al e k = k
stored_stands S h o (Resize q n a) p al e k =
    let w = live S h o q n a al p e in
    resize_stands S h o q n a al p e w.x w.s w.d w.here w.payload k
stored_stands S h o (Give g n) p al e k = k
stored_stands S h o (Append g n) p al e k = k

-- a payload behind the arena is refused by the definition, too
refined_outside : (S : Slices) (h : Heap) (k : ByteCall) (K : Call) → Stand S h → Asks k K → (Inside (grains_of S) K → ⊥) → Refined h k (not 3) S
refined_outside S h k K o (take r) f = absurd (f tt)
refined_outside S h k K o (back {x = x} {a = a} {q = q} s) f =
    let e = not_live_back h q (behind_not_live (grains_of S) 12 (memory_of 8 S) h o q f) in
    record {
      heap = h;
      defined = subst (λ (w : Answer). Defines h (deallocate x a) (in_bytes (deallocate x a) (said w)) (left h w)) e (Defines.asked (Return q) (back s));
      stands = o;
    }
refined_outside S h k K o (resize {x = x} {n = n} {a = a} {q = q} r s) f =
    let e = not_live_resize 12 h q (halves 16 n) (multiple 16 a) (behind_not_live (grains_of S) 12 (memory_of 8 S) h o q f) in
    record {
      heap = h;
      defined = subst (λ (w : Answer). Defines h (reallocate x n a) (in_bytes (reallocate x n a) (said w)) (left h w)) e (Defines.asked (Resize q (halves 16 n) (multiple 16 a)) (resize r s));
      stands = o;
    }
refined_outside S h k K o give f = absurd (f tt)
refined_outside S h k K o follow f = absurd (f tt)

module _ (S : Slices) (z : Sized S) (l : AllLong S) (h : Heap) (o : Stand S h) (k : ByteCall) (spare : Spare S k) where
  module _ (K : Call) (a : Asks k K) where
    abbrev answer : Answer
    answer = answer_of 12 K h

    -- what the script answers is what the definition does
    agrees : (reply (outcome S K) ≡ said answer) × Sound (grains_of S) 12 (written (memory_of 8 S) (outcome S K)) (left h answer)
    agrees = one (grains_of S) 12 (memory_of 8 S) h (script_of (grains_of S) 12 (most_of S) K) answer o
        (call_meets (grains_of S) 12 (most_of S) (memory_of 8 S) h o (omega arith) K (asks_fair S k K spare a))

    -- refused
    pub refined_no : (i : ℕ) → outcome S K ≡ no i → Refined h k (not i) S
    refined_no i e = record {
      heap = left h answer;
      defined = subst (λ (r : Reply). Defines h k r (left h answer)) (ap (in_bytes k) (sym agrees.0 ∙ ap reply e)) (Defines.asked K a);
      stands = subst (λ (r : Result Plan). Sound (grains_of S) 12 (written (memory_of 8 S) r) (left h answer)) e agrees.1;
    }

    -- granted
    pub refined_ok : (p : Plan) → outcome S K ≡ ok p → Refined h k (yes (bytes k p.answer)) (stored S K p)
    refined_ok p e = record {
      heap = left h answer;
      defined = subst (λ (r : Reply). Defines h k r (left h answer)) (ap (in_bytes k) (sym agrees.0 ∙ ap reply e)) (Defines.asked K a);
      stands = stored_stands S h o K p (asks_aligned k K a) e (subst (λ (n : ℕ). Sound n 12 (memory_of 8 (stores 8 S p.writes)) (left h answer)) (sym (stored_grains S p.writes))
          (sound_stored (grains_of S) 12 8 S p.writes (left h answer) (wide_8 S.arena z) (outcome_stored S z l K p (asks_aligned k K a) e)
          (subst (λ (r : Result Plan). Sound (grains_of S) 12 (written (memory_of 8 S) r) (left h answer)) e agrees.1)));
    }

  -- refused early
  refined_early : (i : ℕ) → Early S k i → Refined h k (not i) S
  refined_early i (short n) = absurd (n (long_each S k l))
  refined_early i (Early.wrong j g w) = record { heap = h; defined = Defines.wrong i w; stands = o }
  refined_early i (outside K g a f) = refined_outside S h k K o a f

  -- T4: every call does what the definition says
  pub performs_refines : (r : Reply) (T : Slices) → Performs S k r T → Refined h k r T
  performs_refines r T (early i e) = refined_early i e
  performs_refines r T (refused K i g e) = refined_no K g.asks i e
  performs_refines r T (granted K p g e) = refined_ok K g.asks p e
