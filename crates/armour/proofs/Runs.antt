-- What follows from specs/Runs.antt.
use Rattle.std.specs.Prelude.{ℕ, ◌+◌, ◌*◌, ◌%◌, ◌≤◌, ◌≡◌, refl, List, [], ◌∷◌, ◌⊎◌}
use Rattle.std.proofs.Common.{arith, sym, ◌∙◌, subst, ⊎_elim}
use Rattle.definition.specs.Blocks.{Block}
use Rattle.script.specs.Memory.{Memory}
use Rattle.script.specs.Script.{Result, ok, no, run, Gives}
use Rattle.tags.specs.Tag.{Tag}
use Rattle.plans.specs.Deeds.{Plan}
use Rattle.plans.specs.Calls.{Call, Allocate, Deallocate, Reallocate, Insert, Append, script_of, Fair}
use Rattle.armour.specs.Row.{Row}
use Rattle.armour.proofs.Turns.{row_same}
use Rattle.armour.proofs.Allocates.{allocate_armoured}
use Rattle.armour.proofs.Deallocates.{deallocate_armoured}
use Rattle.armour.specs.Dead.{Names}
use Rattle.armour.proofs.Dead.{call_dead}
use Rattle.armour.proofs.Reallocates.{reallocate_armoured}
use Rattle.armour.specs.Regions.{RegionArmoured}
use Rattle.armour.proofs.Regions.{insert_armoured, append_armoured}
use Rattle.armour.specs.Ledger.{Loan, In, strike, book, Booked, Lies, Unlent}
use Rattle.armour.proofs.Ledger.{booked_more, booked_less, booked_other, loans_apart, loan_inside, loan_lies, unlent_dead}
use Rattle.armour.specs.Runs.{Lent, Turn, State, outcome, struck, turn, history, Right}

-- ---- one call

region_lent : (n c : ℕ) (m : Memory) (xs : List Block) (t : Plan) (l : List Loan) {h : _} → Booked xs l → RegionArmoured n c m xs h t → Lent n c m xs t l
region_lent n c m xs t l b w = record {
  blocks = w.heap.blocks;
  armoured = w.armoured;
  booked = record {
    backed = λ e i. let v = b.backed e i in record { x = v.x; s = v.s; d = v.d; block = w.stays v.x v.s v.d v.block; place = v.place; long = v.long; aligned = v.aligned };
    all = λ x s d h. b.all x s d (w.only x s d h);
    once = b.once;
  };
}

pub call_lent : (n c most : ℕ) (m : Memory) (xs : List Block) (k : Call) (t : Plan) (l : List Loan) → 1 ≤ c → Row n c m xs → Fair k → Booked xs l → Gives m (script_of n c most k) t → Lent n c m xs t (book k t.answer l)
call_lent n c most m xs (Allocate p a) t l big o fair b g =
    let w = allocate_armoured n c p a m xs (λ k. []) t fair o g in
    record {
      blocks = w.heap.blocks;
      armoured = w.armoured;
      booked = subst (λ (v : ℕ). Booked w.heap.blocks (record { payload = v; halves = p; multiple = a } ∷ l)) (sym w.payload)
          (booked_more xs w.heap.blocks l b w.armoured.row.order w.block w.grains w.k w.d p a o.order w.was_free w.here w.swaps w.long
          (subst (λ (v : ℕ). v % a ≡ 0) w.payload w.aligned));
    }
call_lent n c most m xs (Deallocate q) t l big o fair b g =
    let w = deallocate_armoured n c q m xs (λ k. []) t o g in
    record {
      blocks = w.heap.blocks;
      armoured = w.armoured;
      booked = subst (λ (v : ℕ). Booked w.heap.blocks (strike v l)) (sym w.payload)
          (booked_less xs w.heap.blocks l b w.armoured.row.order w.block w.grains w.place w.start w.grown w.was_used w.swaps (λ y u e h i. w.gone y u e h (w.payload ∙ i)));
    }
call_lent n c most m xs (Reallocate q p a) t l big o fair b g =
    let w = reallocate_armoured n c q p a m xs (λ k. []) t fair.0 o g in
    let r = w.resized in
    record {
      blocks = w.heap.blocks;
      armoured = w.armoured;
      booked = subst (λ (v : ℕ). Booked w.heap.blocks (record { payload = v; halves = p; multiple = a } ∷ strike q l)) (sym r.payload)
          (subst (λ (q : ℕ). Booked w.heap.blocks (record { payload = 2 * r.z + r.e; halves = p; multiple = a } ∷ strike q l)) (sym w.owner)
          (booked_other xs w.heap.blocks l b w.armoured.row.order w.block w.grains w.place r.z r.k r.e p a o.order w.was_used r.here r.swaps r.long
          (⊎_elim (λ (e : t.answer ≡ q). subst (λ (v : ℕ). v % a ≡ 0) (sym e ∙ r.payload) fair.1) (λ (e : t.answer % a ≡ 0). subst (λ (v : ℕ). v % a ≡ 0) r.payload e) r.aligned)
          r.old r.gone));
    }
call_lent n c most m xs (Insert x len) t l big o fair b g = region_lent n c m xs t l b (insert_armoured n c x len m xs (λ k. []) o big most t g)
call_lent n c most m xs (Append x len) t l big o fair b g = region_lent n c m xs t l b (append_armoured n c x len m xs (λ k. []) o big most t g)

-- ---- runs

turn_right : (n c most : ℕ) (s : State) (t : Turn) → 1 ≤ c → Right n c s → Right n c (turn n c most s t)
turn_right n c most s t big o = go (run u (script_of n c most t.call)) refl
  where
    u : Memory
    u = t.damage s.memory

    row : Row n c u o.blocks
    row = row_same n c s.memory u o.blocks (t.tags_stay s.memory) (t.regions_stay s.memory) o.row

    go : (r : Result Plan) → run u (script_of n c most t.call) ≡ r → Right n c (outcome t.call (struck t s) r)
    go (ok p) e = let w = call_lent n c most u o.blocks t.call p s.ledger big row t.fair o.booked e in record { blocks = w.blocks; row = w.armoured.row; booked = w.booked }
    go (no r) e = record { blocks = o.blocks; row = row; booked = o.booked }

-- T11: after any run all is right
pub runs_right : (n c most : ℕ) (s : State) (l : List Turn) → 1 ≤ c → Right n c s → Right n c (history n c most s l)
runs_right n c most s [] big o = o
runs_right n c most s (t ∷ l) big o = runs_right n c most (turn n c most s t) l big (turn_right n c most s t big o)

-- For a crane engineer: whatever any module wrote into the arena and the lists between the calls, two payloads that are lent share
-- no byte, and each is as long as was asked for, at its alignment, inside the arena.
pub lent_apart : (n c most : ℕ) (s : State) (l : List Turn) → 1 ≤ c → Right n c s → (e g : Loan) → In e (history n c most s l).ledger → In g (history n c most s l).ledger
    → (e.payload ≡ g.payload → ⊥) → (e.payload + e.halves ≤ g.payload) ⊎ (g.payload + g.halves ≤ e.payload)
lent_apart n c most s l big o e g i j ne = let r = runs_right n c most s l big o in loans_apart r.blocks _ r.row.order r.booked e g i j ne

pub lent_right : (n c most : ℕ) (s : State) (l : List Turn) → 1 ≤ c → Right n c s → (e : Loan) → In e (history n c most s l).ledger
    → (e.payload % e.multiple ≡ 0) × (e.payload + e.halves ≤ 2 * n)
lent_right n c most s l big o e i =
    let r = runs_right n c most s l big o in
    ((r.booked.backed e i).aligned, omega (arith, loan_inside r.blocks _ r.booked e i, r.row.whole))

-- each lies in its own block of the row, and so in what was given
pub lent_lies : (n c most : ℕ) (s : State) (l : List Turn) (big : 1 ≤ c) (o : Right n c s) (e : Loan) → In e (history n c most s l).ledger
    → Lies (history n c most s l).memory (runs_right n c most s l big o).blocks e
lent_lies n c most s l big o e i = let r = runs_right n c most s l big o in loan_lies _ r.blocks _ r.row.order r.row.given r.booked e i

-- After any run, and after any damage of the same kind once more: a call that is given a payload which is not lent is refused
-- with 3. So it is with a second return, and with an address that was never handed out.
pub unlent_refused : (n c most : ℕ) (s : State) (l : List Turn) → 1 ≤ c → Right n c s → (t : Turn) (q : ℕ) → Names t.call q → Unlent (history n c most s l).ledger q
    → run (t.damage (history n c most s l).memory) (script_of n c most t.call) ≡ no 3
unlent_refused n c most s l big o t q k i =
    let r = runs_right n c most s l big o in
    let v = (history n c most s l).memory in
    call_dead n c most (t.damage v) r.blocks t.call q (row_same n c v (t.damage v) r.blocks (t.tags_stay v) (t.regions_stay v) r.row) k (unlent_dead r.blocks _ q r.booked i)
