-- What follows from specs/Damage.antt.
use Rattle.std.specs.Prelude.{ℕ, ◌/◌, ◌≡◌}
use Rattle.std.proofs.Common.{sym, ◌∙◌, subst}
use Rattle.definition.specs.Units.{halves, multiple}
use Rattle.script.specs.Script.{ok}
use Rattle.script.specs.Locality.{Reads, DiffersIn, Contained}
use Rattle.sound.specs.Plans.{Plan}
use Rattle.sound.specs.Calls.{Call, Resize, script_of}
use Rattle.sound.proofs.Calls.{damage_stays}
use Rattle.sound.specs.Runs.{Reply}
use Rattle.slices.proofs.Decode.{grains_keep}
use Rattle.slices.specs.Slices.{Slices, memory_of, AllValid}
use Rattle.slices.specs.Kept.{Lengths}
use Rattle.carry.specs.Differs.{SameBytes}
use Rattle.carry.proofs.Differs.{stores_differs, carried_differs}
use Rattle.calls.specs.Bytes.{ByteCall, allocate, deallocate, reallocate, insert, append, Asks, take, back, resize, give, follow}
use Rattle.calls.specs.Performs.{Long, Inside, grains_of, most_of, outcome, Early, short, outside, Goes, stored, Performs, early, refused, granted}
use Rattle.calls.specs.Storable.{Sized, AllLong}
use Rattle.calls.proofs.Storable.{outcome_stored}
use Rattle.calls.proofs.Refines.{asks_aligned}
use Rattle.calls.specs.Damage.{Contains, ReadsNone, MovesSame}

module _ (S Q : Slices) (e : Lengths S Q) where
  -- lengths alone count for what is refused early
  long_keep : (k : ByteCall) → Long S k → Long Q k
  long_keep (allocate n a) l = rw (e.arena, e.lists, e.live) l
  long_keep (deallocate x a) l = rw (e.arena, e.lists, e.live) l
  long_keep (reallocate x n a) l = rw (e.arena, e.lists, e.live) l
  long_keep (insert x n) l = rw (e.lists, e.regions) l
  long_keep (append x n) l = rw (e.lists, e.regions) l

  long_back : (k : ByteCall) → Long Q k → Long S k
  long_back (allocate n a) l = rw (sym e.arena, sym e.lists, sym e.live) l
  long_back (deallocate x a) l = rw (sym e.arena, sym e.lists, sym e.live) l
  long_back (reallocate x n a) l = rw (sym e.arena, sym e.lists, sym e.live) l
  long_back (insert x n) l = rw (sym e.lists, sym e.regions) l
  long_back (append x n) l = rw (sym e.lists, sym e.regions) l

  same_grains : grains_of Q ≡ grains_of S
  same_grains = grains_keep 8 S.arena Q.arena e.arena

  early_keep : (k : ByteCall) (i : ℕ) → Early S k i → Early Q k i
  early_keep k i (short n) = short (λ l. n (long_back k l))
  early_keep k i (Early.wrong j l w) = Early.wrong i (long_keep k l) w
  early_keep k i (outside K l a n) = outside K (long_keep k l) a (λ j. n (subst (λ (u : ℕ). Inside u K) same_grains j))

  goes_keep : (k : ByteCall) (K : Call) → Goes S k K → Goes Q k K
  goes_keep k K g = record { long = long_keep k g.long; asks = g.asks; inside = subst (λ (u : ℕ). Inside u K) (sym same_grains) g.inside }

  module _ (D : ℕ → ℕ → Type 0) (d : DiffersIn D (memory_of 8 S) (memory_of 8 Q)) (k : ByteCall) (no_read : ReadsNone D S k) where
    stays : (K : Call) → Asks k K → Contained D (memory_of 8 S) (memory_of 8 Q) (script_of (grains_of S) 12 (most_of S) K)
    stays K a = damage_stays (grains_of S) 12 (most_of S) K D (memory_of 8 S) (memory_of 8 Q) d (no_read K a)

    -- the script answers the same
    same_outcome : (K : Call) → Asks k K → outcome Q K ≡ outcome S K
    same_outcome K a = rw (same_grains, e.regions) (stays K a).answer

    module _ (z : Sized S) (l : AllLong S) (moves : MovesSame S Q k) where
      -- what is stored, and moved, is the same in both
      kept : (K : Call) (p : Plan) → Asks k K → outcome S K ≡ ok p → DiffersIn D (memory_of 8 (stored S K p)) (memory_of 8 (stored Q K p))
      kept K p a f = go k moves K a (outcome_stored S z l K p (asks_aligned k K a) f) f
        where
          go : (k : ByteCall) → MovesSame S Q k → (K : Call) → Asks k K → AllValid 8 S p.writes → outcome S K ≡ ok p
              → DiffersIn D (memory_of 8 (stored S K p)) (memory_of 8 (stored Q K p))
          go k moves K (take r) v f = stores_differs D S Q p.writes e z v d
          go k moves K (back s) v f = stores_differs D S Q p.writes e z v d
          go k moves K (resize {n = n} {a = a} {q = q} r s) v f = carried_differs D S Q q p e z v
              (rw s.number (moves p (subst (λ (u : ℕ). outcome S (Resize u (halves 16 n) (multiple 16 a)) ≡ ok p) s.number f))) d
          go k moves K give v f = stores_differs D S Q p.writes e z v d
          go k moves K follow v f = stores_differs D S Q p.writes e z v d

      pub performs_contained : (r : Reply) (T : Slices) → Performs S k r T → Contains D T Q k r
      performs_contained r T (early i a) = record { after = Q; same = early i (early_keep k i a); differs = d }
      performs_contained r T (refused K i g f) = record { after = Q; same = refused K i (goes_keep k K g) (same_outcome K g.asks ∙ f); differs = d }
      performs_contained r T (granted K p g f) = record {
        after = stored Q K p;
        same = granted K p (goes_keep k K g) (same_outcome K g.asks ∙ f);
        differs = kept K p g.asks f;
      }
