-- T10 of the calls on slices: slices Q that differ from S at most in the words of D, by whatever overwrote them. A call that on S
-- reads no word of D, and moves no byte in which they differ, replies on Q as on S, and leaves slices that again differ at most
-- in D.
use Rattle.std.specs.Prelude.{ℕ, ◌≡◌}
use Rattle.std.proofs.Common.{sym, ◌∙◌, subst}
use Rattle.definition.specs.Units.{halves, multiple}
use Rattle.script.specs.Script.{ok}
use Rattle.script.specs.Locality.{DiffersIn, Contained}
use Rattle.machine.specs.Machine.{half, classes}
use Rattle.plans.specs.Deeds.{Plan, writes}
use Rattle.plans.specs.Calls.{Call, Reallocate, script_of}
use Rattle.refines.proofs.Calls.{damage_stays}
use Rattle.refines.specs.Runs.{Reply}
use Rattle.lent.specs.Slices.{Slices, memory_of, AllValid}
use Rattle.lent.specs.Kept.{Lengths}
use Rattle.lent.proofs.Kept.{grains_keep}
use Rattle.promises.specs.Bytes.{ByteCall, allocate, deallocate, reallocate, insert, append, Asks, take, back, resize, give, follow}
use Rattle.promises.specs.Performs.{grains_of, most_of, LongEnough, Long, AllLong, Sized, outcome, Early, short, Goes, stored, Performs, early, refused, granted}
use Rattle.promises.specs.Terms.{ReadsNone, MovesSame, Contains}
use Rattle.promises.proofs.Offsets.{asks_fair}
use Rattle.promises.proofs.Storable.{goes_long, outcome_valid}
use Rattle.promises.proofs.Differs.{stores_differs, carried_differs}

-- lengths alone count for what is refused early
pub enough_keep : (S Q : Slices) → Lengths S Q → LongEnough S → LongEnough Q
enough_keep S Q e l = record { lists = rw e.lists l.lists; tags = rw (grains_keep S.arena Q.arena e.arena, e.tags) l.tags }

pub long_keep : (S Q : Slices) → Lengths S Q → (k : ByteCall) → Long S k → Long Q k
long_keep S Q e (allocate n a) l = enough_keep S Q e l
long_keep S Q e (deallocate x) l = enough_keep S Q e l
long_keep S Q e (reallocate x n a) l = enough_keep S Q e l
long_keep S Q e (insert b n) l = (enough_keep S Q e l.0, rw e.regions l.1)
long_keep S Q e (append b n) l = (enough_keep S Q e l.0, rw e.regions l.1)

pub all_long_keep : (S Q : Slices) → Lengths S Q → AllLong S → AllLong Q
all_long_keep S Q e l = record { tables = enough_keep S Q e l.tables; some = rw e.regions l.some }

lengths_back : {S Q : Slices} → Lengths S Q → Lengths Q S
lengths_back e = record { arena = sym e.arena; lists = sym e.lists; tags = sym e.tags; regions = sym e.regions }

module _ (S Q : Slices) (e : Lengths S Q) where
  same_grains : grains_of Q ≡ grains_of S
  same_grains = grains_keep S.arena Q.arena e.arena

  early_keep : (k : ByteCall) (i : ℕ) → Early S k i → Early Q k i
  early_keep k i (short n) = short (λ l. n (long_keep Q S (lengths_back e) k l))
  early_keep k i (Early.wrong j l w) = Early.wrong i (long_keep S Q e k l) w

  goes_keep : (k : ByteCall) (K : Call) → Goes S k K → Goes Q k K
  goes_keep k K g = record { long = long_keep S Q e k g.long; asks = g.asks }

  module _ (D : ℕ → ℕ → Type 0) (d : DiffersIn D (memory_of S) (memory_of Q)) (k : ByteCall) (no_read : ReadsNone D S k) where
    stays : (K : Call) → Asks k K → Contained D (memory_of S) (memory_of Q) (script_of (grains_of S) classes (most_of S) K)
    stays K a = damage_stays (grains_of S) classes (most_of S) K D (memory_of S) (memory_of Q) d (no_read K a)

    -- the script answers the same
    same_outcome : (K : Call) → Asks k K → outcome Q K ≡ outcome S K
    same_outcome K a = rw (same_grains, e.regions) (stays K a).answer

    module _ (z : Sized S) (moves : MovesSame S Q k) where
      -- what is stored, and moved, is the same in both
      kept : (K : Call) (t : Plan) → Long S k → Asks k K → outcome S K ≡ ok t → DiffersIn D (memory_of (stored S K t)) (memory_of (stored Q K t))
      kept K t l a f = go k moves K a (outcome_valid S z K t (goes_long S k K l a) (asks_fair k K a) f) f
        where
          go : (k : ByteCall) → MovesSame S Q k → (K : Call) → Asks k K → AllValid S (writes t) → outcome S K ≡ ok t
              → DiffersIn D (memory_of (stored S K t)) (memory_of (stored Q K t))
          go k moves K (take r) v f = stores_differs D S Q (writes t) e v d
          go k moves K (back s) v f = stores_differs D S Q (writes t) e v d
          go k moves K (resize {n = n} {a = a} {q = q} r s) v f = carried_differs D S Q q t e v
              (rw s.number (moves t (subst (λ (u : ℕ). outcome S (Reallocate u (halves half n) (multiple half a)) ≡ ok t) s.number f))) d
          go k moves K give v f = stores_differs D S Q (writes t) e v d
          go k moves K follow v f = stores_differs D S Q (writes t) e v d

      pub performs_contained : (r : Reply) (T : Slices) → Performs S k r T → Contains D T Q k r
      performs_contained r T (early i a) = record { after = Q; same = early i (early_keep k i a); differs = d }
      performs_contained r T (refused K i g f) = record { after = Q; same = refused K i (goes_keep k K g) (same_outcome K g.asks ∙ f); differs = d }
      performs_contained r T (granted K t g f) = record {
        after = stored Q K t;
        same = granted K t (goes_keep k K g) (same_outcome K g.asks ∙ f);
        differs = kept K t g.long g.asks f;
      }
