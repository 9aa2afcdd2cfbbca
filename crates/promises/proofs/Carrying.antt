-- What follows from specs/Carrying.antt.
use Rattle.std.specs.Prelude.{ℕ, ◌+◌, ◌*◌, ◌<◌, ◌≡◌, refl, List, length, get_or}
use Rattle.std.proofs.Common.{arith, ap, sym, ◌∙◌, subst}
use Rattle.copy.specs.Moved.{Moved, moved_kept, moved_arrived, moved_length, moved_none, moved_only}
use Rattle.machine.specs.Machine.{half}
use Rattle.plans.specs.Deeds.{Plan, writes}
use Rattle.plans.specs.Calls.{Call, Allocate, Deallocate, Reallocate, Insert, Append}
use Rattle.lent.specs.Slices.{Slices, with_arena, stores}
use Rattle.lent.specs.Kept.{Lengths, AllOutside}
use Rattle.lent.proofs.Kept.{stores_lengths, stores_append, stores_byte}
use Rattle.lent.specs.Shifted.{shifted, carried_out}
use Rattle.promises.specs.Performs.{stored}
use Rattle.promises.specs.Terms.{SameTables}
use Rattle.promises.specs.Alike.{SameByte}
use Rattle.promises.proofs.Alike.{stores_same_byte, stores_same_tables}
use Rattle.promises.specs.Carrying.{NotMoved}

module _ (S : Slices) (q : ℕ) (t : Plan) where
  abbrev begun : Slices
  begun = stores S t.early

  abbrev pub between : Slices
  between = shifted (stores S t.early) q t.answer t.moved

  all_stored : stores begun t.late ≡ stores S (writes t)
  all_stored = sym (stores_append S t.early t.late)

  -- where a move changes nothing, all writes are stored
  unmoved : ((a : List ℕ) → Moved a (half * q) (half * t.answer) (half * t.moved) a) → carried_out S q t ≡ stores S (writes t)
  unmoved f =
      let k = moved_only begun.arena (half * q) (half * t.answer) (half * t.moved) begun.arena (f begun.arena) in
      ap (λ (a : List ℕ). stores (with_arena begun a) t.late) (sym k) ∙ all_stored

  -- nothing is moved
  pub carried_still : t.moved ≡ 0 → carried_out S q t ≡ stores S (writes t)
  carried_still e = unmoved (λ a. moved_none a _ _ _ (omega arith))

  -- ---- what stays

  -- all lengths
  pub between_lengths : Lengths S between
  between_lengths =
      let a = stores_lengths S t.early in
      record { arena = moved_length begun.arena (half * q) (half * t.answer) (half * t.moved) ∙ a.arena; lists = a.lists; tags = a.tags; regions = a.regions }

  pub carried_lengths : Lengths S (carried_out S q t)
  carried_lengths =
      let a = between_lengths in
      let b = stores_lengths between t.late in
      record { arena = b.arena ∙ a.arena; lists = b.lists ∙ a.lists; tags = b.tags ∙ a.tags; regions = b.regions ∙ a.regions }

  -- the tables are those with all writes stored
  pub carried_tables : SameTables (stores S (writes t)) (carried_out S q t)
  carried_tables = subst (λ (T : Slices). SameTables T (carried_out S q t)) all_stored
      (stores_same_tables t.late begun between (record { lists = refl; tags = refl; regions = refl }))

  -- and so is the arena, but for the bytes of the new payload
  pub carried_byte : (j : ℕ) → NotMoved t j → SameByte j (stores S (writes t)).arena (carried_out S q t).arena
  carried_byte j n = subst (λ (T : Slices). SameByte j T.arena (carried_out S q t).arena) all_stored
      (stores_same_byte j t.late begun between
      (moved_length begun.arena _ _ _, moved_kept begun.arena (half * q) (half * t.answer) (half * t.moved) j n))

  -- a byte that is not moved to, and that no write is about, stays
  pub carried_kept : (j : ℕ) → NotMoved t j → AllOutside j (writes t) → get_or (carried_out S q t).arena j 0 ≡ get_or S.arena j 0
  carried_kept j n f = (carried_byte j n).1 ∙ stores_byte S (writes t) j f

  -- ---- what arrives

  -- byte i of the payload is written neither before the move nor after it
  pub carried_arrived : (i : ℕ) → i < half * t.moved → half * t.answer + i < length S.arena
      → AllOutside (half * q + i) t.early → AllOutside (half * t.answer + i) t.late
      → get_or (carried_out S q t).arena (half * t.answer + i) 0 ≡ get_or S.arena (half * q + i) 0
  carried_arrived i h l f g =
      stores_byte between t.late (half * t.answer + i) g
      ∙ moved_arrived begun.arena (half * q) (half * t.answer) (half * t.moved) i h (omega (arith, (stores_lengths S t.early).arena))
      ∙ stores_byte S t.early (half * q + i) f

-- ---- every call

-- all lengths stay
pub stored_lengths : (S : Slices) (K : Call) (t : Plan) → Lengths S (stored S K t)
stored_lengths S (Allocate p a) t = stores_lengths S (writes t)
stored_lengths S (Deallocate q) t = stores_lengths S (writes t)
stored_lengths S (Reallocate q p a) t = carried_lengths S q t
stored_lengths S (Insert g len) t = stores_lengths S (writes t)
stored_lengths S (Append g len) t = stores_lengths S (writes t)

-- and the tables are those with all writes stored
pub stored_tables : (S : Slices) (K : Call) (t : Plan) → SameTables (stores S (writes t)) (stored S K t)
stored_tables S (Allocate p a) t = record { lists = refl; tags = refl; regions = refl }
stored_tables S (Deallocate q) t = record { lists = refl; tags = refl; regions = refl }
stored_tables S (Reallocate q p a) t = carried_tables S q t
stored_tables S (Insert g len) t = record { lists = refl; tags = refl; regions = refl }
stored_tables S (Append g len) t = record { lists = refl; tags = refl; regions = refl }
