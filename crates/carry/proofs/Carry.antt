-- What follows from specs/Carry.antt.
use Rattle.std.specs.Prelude.{ℕ, ◌+◌, ◌*◌, ◌≡◌, refl, List, ◌++◌, length, get_or, take, drop}
use Rattle.std.proofs.Common.{arith, ap, sym, ◌∙◌, subst, take-append-drop, take_at, drop_at}
use Rattle.word.specs.Number.{Apart}
use Rattle.copy.specs.Moved.{Moved, moved, moved_kept, moved_length, moved_none, moved_nowhere, moved_only}
use Rattle.script.specs.Memory.{Write}
use Rattle.sound.specs.Plans.{Plan}
use Rattle.slices.specs.Slices.{Slices, with_arena, stores}
use Rattle.slices.specs.Kept.{Lengths, AllOutside}
use Rattle.slices.proofs.Kept.{stores_lengths, stores_append, stores_byte}
use Rattle.carry.specs.Alike.{SameByte, SameTables}
use Rattle.carry.proofs.Alike.{stores_same_byte, stores_same_tables}
use Rattle.carry.specs.Carry.{shifted, first_writes, later_writes, carried, NotMoved}

-- ---- in parts

-- the writes in their two parts
pub first_part : (p : Plan) (v w : List Write) → p.writes ≡ v ++ w → p.early ≡ length v → first_writes p ≡ v
first_part p v w e f = ap (take p.early) e ∙ take_at v w p.early (sym f)

pub later_part : (p : Plan) (v w : List Write) → p.writes ≡ v ++ w → p.early ≡ length v → later_writes p ≡ w
later_part p v w e f = ap (drop p.early) e ∙ drop_at v w p.early (sym f)

pub carried_parts : (S : Slices) (q : ℕ) (p : Plan) (v w : List Write) → p.writes ≡ v ++ w → p.early ≡ length v
    → carried S q p ≡ stores 8 (shifted (stores 8 S v) q p.answer p.moved) w
carried_parts S q p v w e f = rw (first_part p v w e f, later_part p v w e f)

-- where a move changes nothing, all writes are stored
unmoved : (S : Slices) (q : ℕ) (p : Plan) → ((a : List ℕ) → Moved a (16 * q) (16 * p.answer) (16 * p.moved) a) → carried S q p ≡ stores 8 S p.writes
unmoved S q p f =
    let T = stores 8 S (first_writes p) in
    let k = moved_only T.arena (16 * q) (16 * p.answer) (16 * p.moved) T.arena (f T.arena) in
    ap (λ (a : List ℕ). stores 8 (with_arena T a) (later_writes p)) (sym k)
    ∙ sym (stores_append 8 S (first_writes p) (later_writes p))
    ∙ ap (stores 8 S) (take-append-drop p.early p.writes)

-- nothing is moved
pub carried_still : (S : Slices) (q : ℕ) (p : Plan) → p.moved ≡ 0 → carried S q p ≡ stores 8 S p.writes
carried_still S q p e = unmoved S q p (λ a. moved_none a _ _ _ (omega arith))

-- the payload stays where it is
pub carried_same : (S : Slices) (q : ℕ) (p : Plan) → p.answer ≡ q → carried S q p ≡ stores 8 S p.writes
carried_same S q p e = unmoved S q p (λ a. moved_nowhere a _ _ _ (omega arith))

-- ---- what stays

module _ (S : Slices) (q : ℕ) (p : Plan) where
  abbrev begun : Slices
  begun = Rattle.carry.specs.Carry.begun S q p

  abbrev between : Slices
  between = Rattle.carry.specs.Carry.between S q p

  -- all lengths
  pub between_lengths : Lengths S between
  between_lengths =
      let a = stores_lengths 8 S (first_writes p) in
      record { arena = moved_length begun.arena (16 * q) (16 * p.answer) (16 * p.moved) ∙ a.arena; lists = a.lists; live = a.live; regions = a.regions }

  pub carried_lengths : Lengths S (carried S q p)
  carried_lengths =
      let a = between_lengths in
      let b = stores_lengths 8 between (later_writes p) in
      record { arena = b.arena ∙ a.arena; lists = b.lists ∙ a.lists; live = b.live ∙ a.live; regions = b.regions ∙ a.regions }

  all_stored : stores 8 begun (later_writes p) ≡ stores 8 S p.writes
  all_stored = sym (stores_append 8 S (first_writes p) (later_writes p)) ∙ ap (stores 8 S) (take-append-drop p.early p.writes)

  -- the tables are those with all writes stored
  pub carried_tables : SameTables (stores 8 S p.writes) (carried S q p)
  carried_tables = subst (λ (T : Slices). SameTables T (carried S q p)) all_stored
      (stores_same_tables 8 (later_writes p) begun between (record { lists = refl; live = refl; regions = refl }))

  -- and so is the arena, but for the bytes of the new payload
  pub carried_byte : (j : ℕ) → NotMoved p j → SameByte j (stores 8 S p.writes).arena (carried S q p).arena
  carried_byte j n = subst (λ (T : Slices). SameByte j T.arena (carried S q p).arena) all_stored
      (stores_same_byte 8 j (later_writes p) begun between
      (moved_length begun.arena _ _ _, moved_kept begun.arena (16 * q) (16 * p.answer) (16 * p.moved) j n))

  -- ---- what arrives

  -- a byte that is not moved to, and that no write is about, stays
  pub carried_kept : (j : ℕ) → NotMoved p j → AllOutside 8 j p.writes → get_or (carried S q p).arena j 0 ≡ get_or S.arena j 0
  carried_kept j n f = (carried_byte j n).1 ∙ stores_byte 8 S p.writes j f
