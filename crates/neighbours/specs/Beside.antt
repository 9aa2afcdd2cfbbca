-- The steps of `see_behind` and of `see_before`, as the code takes them: at each return one law says what the script answers.
use Prim.Native.Nat.{ℕ, suc, ◌+◌, ◌-◌, ◌*◌, ◌≤◌, ◌<◌}
use native.Mathlib.Omega.{arith}
use Rattle.std.specs.Prelude.{◌≡◌, refl, true, false, List, length, Some, None, Result, Ok, Err, IfOk}
use Rattle.std.proofs.Math.Path.{ap, sym}
use Rattle.std.proofs.Common.{◌∙◌, ⊎_elim, subst}
use Rattle.choice.specs.Choice.{eq_yes, eq_no, le?}
use Rattle.class.specs.Class.{list_of}
use Rattle.word.specs.Word.{word_at}
use Rattle.bits.specs.Map.{lists}
use Rattle.script.specs.Memory.{Memory, Size, Before, none}
use Rattle.script.specs.Script.{Script, run, ok, no, done, ◌>>=◌, ◌>>◌, must_eq, must_le}
use Rattle.script.specs.Script.{Result as Answer}
use Rattle.script.proofs.Script.{goes, halts, reads, gives_done, gives_eq, gives_le, halts_eq, halts_le, runs_stop}
use Rattle.sound.specs.Checks.{Word, is_free, is_used, is_last, is_bad, word_of, Beside, nobody, somebody, as_busy, must_busy, must_lead, must_list, see_entry, free_behind, as_behind, see_behind, as_before, see_before}
use Rattle.slices.specs.Decode.{grains, Inside}
use Rattle.slices.specs.Arena.{size_at, link_at}
use Rattle.slices.proofs.Arena.{size_inside}
use Rattle.slices.proofs.Slices.{memory_size}
use Rattle.header.specs.Turned.{turned}
use Rattle.header.specs.Told.{free_of, busy_of}
use Rattle.free_list.specs.Lent.{lent, held, classes, no_link, link, Holds, link_none, link_some, link_grain}
use Rattle.free_list.specs.Seen.{shown_entry, SeenEntry}
use Rattle.refusal.specs.Answered.{answered_as}
use Rattle.refusal.specs.declared.Refusal.{Refusal}
use Rattle.refusal.specs.declared.Refusal.TheVariants.{Damaged}
use Rattle.free_list.specs.declared.Entry.{Entry as EntryAnswer}
use Rattle.neighbours.specs.declared.Neighbour.{Neighbour}
use Rattle.neighbours.specs.Size.{Spelled, word_spelled, free_some, free_word_lem, used_word_lem}
use Rattle.neighbours.specs.Shown.{before_read, before_link, link_from, linked, Block}

-- ---- a free block in the list of its size

abbrev pub see_listed : ℕ → ℕ → ℕ → Script Beside
see_listed n t y = do
  must_list classes t
  e ← see_entry n (list_of t) y
  done (somebody t e)

-- the answer on t grains at y is that of the script, and a block that was seen has t grains
pub record SeenListed (a l : List ℕ) (t y : ℕ) (r : Result Neighbour Refusal) : Type 0 where
  pub answer : (v o : List ℕ) → answered_as (linked a) r ≡ run (held a l v o) (see_listed (grains 8 a) t y)
  pub block : IfOk r (λ e. (e.grains ≡ t) × Block a y e)

-- the block of t grains in list k, with the links of its entry; or the refusal of that
abbrev pub listed_of : ℕ → ℕ → Result EntryAnswer Refusal → Result Neighbour Refusal
listed_of t k (Ok e) = Ok (record { grains = t; list = k; next = e.next; prev = e.prev })
listed_of t k (Err r) = Err r

module _ (a l : List ℕ) (t y k : ℕ) (j : k ≡ list_of t) where
  -- the size has no list
  pub listed_none : lists ≤ k → SeenListed a l t y (Err Damaged)
  listed_none h = record {
    answer = λ v o. let m = held a l v o in sym (halts m (must_list classes t) _ (halts_le m 5 (suc (list_of t)) lists (omega arith)));
    block = tt;
  }

  module _ (h : k < lists) where
    -- the rest hangs on the list
    listed : (v o : List ℕ) → run (held a l v o) (see_listed (grains 8 a) t y) ≡ run (held a l v o) (see_entry (grains 8 a) k y >>= (λ e. done (somebody t e)))
    listed v o =
        let m = held a l v o in
        goes m (must_list classes t) _ (gives_le m 5 (suc (list_of t)) lists (omega arith))
        ∙ ap (λ (i : ℕ). run m (see_entry (grains 8 a) i y >>= (λ e. done (somebody t e)))) (sym j)

    -- on one memory: what the entry is, the block is
    pub listed_entry : (v o : List ℕ) (r : Result EntryAnswer Refusal) → shown_entry a r ≡ run (held a l v o) (see_entry (grains 8 a) k y)
        → answered_as (linked a) (listed_of t k r) ≡ run (held a l v o) (see_listed (grains 8 a) t y)
    listed_entry v o (Ok e) q = sym (listed v o ∙ goes (held a l v o) (see_entry (grains 8 a) k y) _ (sym q) ∙ gives_done (held a l v o) _)
    listed_entry v o (Err r) q = sym (listed v o ∙ halts (held a l v o) (see_entry (grains 8 a) k y) _ (sym q))

    -- where it doesn't stand
    pub listed_refused : (r : Refusal) → SeenEntry a l k y (Err r) → SeenListed a l t y (Err r)
    listed_refused r q = record { answer = λ v o. listed_entry v o (Err r) (q v o); block = tt }

    -- where it does
    pub listed_found : (e : EntryAnswer) → SeenEntry a l k y (Ok e) → Holds a y e.next e.prev
        → SeenListed a l t y (Ok (record { grains = t; list = k; next = e.next; prev = e.prev }))
    listed_found e q w = record { answer = λ v o. listed_entry v o (Ok e) (q v o); block = (refl, record { list = j; links = w }) }

-- ---- what a size word says

-- a free block of t grains at y has a grain of the arena behind it
pub free_inside : (a : List ℕ) (y t : ℕ) → Some t ≡ free_of (word_of (size_at 8 a y)) → (1 ≤ t) × (y + t < grains 8 a)
free_inside a y t e =
    let i = subst (Inside (grains 8 a) y) (free_some (word_of (size_at 8 a y)) t (sym e)) (size_inside 8 a y) in
    (i.0, omega (arith, i.1))

module _ (m : Memory) where
  -- a busy block passes, and no other
  busy_yes : (w : Word) → busy_of w ≡ true → run m (as_busy w) ≡ ok (tt {0})
  busy_yes (is_free s) e = cc
  busy_yes (is_used s) e = gives_done m (tt {0})
  busy_yes is_last e = gives_done m (tt {0})
  busy_yes is_bad e = cc

  busy_no : (w : Word) → busy_of w ≡ false → run m (as_busy w) ≡ no 5
  busy_no (is_free s) e = runs_stop m 5
  busy_no (is_used s) e = cc
  busy_no is_last e = cc
  busy_no is_bad e = runs_stop m 5

  -- a check behind another, which refuses with 5 as well: it may come first
  late_halts : {B : Type 0} (i j : ℕ) (s : Script (Unit {0})) (k : Script B) → run m s ≡ no 5 → run m (must_le i j >> (s >> k)) ≡ no 5
  late_halts i j s k h = ⊎_elim
      (λ (p : i ≤ j). goes m (must_le i j) _ (gives_le m 5 i j p) ∙ halts m s _ h)
      (λ (p : j < i). halts m (must_le i j) _ (halts_le m 5 i j p))
      (le? i j)

  late_goes : {B : Type 0} (i j : ℕ) (s : Script (Unit {0})) (k : Script B) → run m s ≡ ok (tt {0}) → run m (must_le i j >> (s >> k)) ≡ run m (must_le i j >> k)
  late_goes i j s k h = ⊎_elim
      (λ (p : i ≤ j). goes m (must_le i j) _ (gives_le m 5 i j p) ∙ goes m s _ h ∙ sym (goes m (must_le i j) _ (gives_le m 5 i j p)))
      (λ (p : j < i). halts m (must_le i j) _ (halts_le m 5 i j p) ∙ sym (halts m (must_le i j) _ (halts_le m 5 i j p)))
      (le? i j)

-- ---- behind a used block

module _ (a l v r : List ℕ) (y : ℕ) where
  -- the size word is read
  behind_word : run (held a l v r) (see_behind (grains 8 a) classes y) ≡ run (held a l v r) (as_behind (grains 8 a) classes y (word_of (size_at 8 a y)))
  unfolding see_behind
  behind_word = reads (held a l v r) Size y _ (memory_size 8 (lent a l v r) y)

  module _ (f : None ≡ free_of (word_of (size_at 8 a y))) where
    -- no free block, but a busy one
    pub behind_busy : true ≡ busy_of (word_of (size_at 8 a y)) → ok nobody ≡ run (held a l v r) (see_behind (grains 8 a) classes y)
    behind_busy b = go (word_of (size_at 8 a y)) b ∙ sym behind_word
      where
        go : (w : Word) → true ≡ busy_of w → ok nobody ≡ run (held a l v r) (as_behind (grains 8 a) classes y w)
        go (is_free s) e = cc
        go (is_used s) e = sym (gives_done (held a l v r) nobody)
        go is_last e = sym (gives_done (held a l v r) nobody)
        go is_bad e = cc

    -- nor a busy one
    pub behind_bad : false ≡ busy_of (word_of (size_at 8 a y)) → no 5 ≡ run (held a l v r) (see_behind (grains 8 a) classes y)
    behind_bad b = go (word_of (size_at 8 a y)) f b ∙ sym behind_word
      where
        go : (w : Word) → None ≡ free_of w → false ≡ busy_of w → no 5 ≡ run (held a l v r) (as_behind (grains 8 a) classes y w)
        go (is_free s) e b = cc
        go (is_used s) e b = cc
        go is_last e b = cc
        go is_bad e b = sym (runs_stop (held a l v r) 5)

  module _ (t : ℕ) (f : Some t ≡ free_of (word_of (size_at 8 a y))) where
    -- a free block
    behind_free : run (held a l v r) (see_behind (grains 8 a) classes y) ≡ run (held a l v r) (free_behind (grains 8 a) classes y t)
    behind_free = behind_word ∙ ap (λ (w : Word). run (held a l v r) (as_behind (grains 8 a) classes y w)) (free_some (word_of (size_at 8 a y)) t (sym f))

    -- no busy block is behind it
    pub behind_idle : false ≡ busy_of (word_of (size_at 8 a (y + t))) → no 5 ≡ run (held a l v r) (see_behind (grains 8 a) classes y)
    behind_idle e =
        let m = held a l v r in
        sym (behind_free ∙ late_halts m (suc (list_of t)) lists (must_busy (y + t)) _
        (reads m Size (y + t) _ (memory_size 8 (lent a l v r) (y + t)) ∙ busy_no m (word_of (size_at 8 a (y + t))) (sym e)))

    module _ (b : true ≡ busy_of (word_of (size_at 8 a (y + t)))) where
      -- a busy one is behind it
      behind_end : run (held a l v r) (see_behind (grains 8 a) classes y) ≡ run (held a l v r) (must_list classes t >> (must_lead Before (y + t) y >> (see_entry (grains 8 a) (list_of t) y >>= (λ e. done (somebody t e)))))
      behind_end =
          let m = held a l v r in
          behind_free ∙ late_goes m (suc (list_of t)) lists (must_busy (y + t)) _
          (reads m Size (y + t) _ (memory_size 8 (lent a l v r) (y + t)) ∙ busy_yes m (word_of (size_at 8 a (y + t))) (sym b))

      -- that block doesn't lead back
      pub behind_torn : (link_at 8 a Before 0 (y + t) ≡ y → ⊥) → no 5 ≡ run (held a l v r) (see_behind (grains 8 a) classes y)
      behind_torn ne =
          let m = held a l v r in
          sym (behind_end ∙ late_halts m (suc (list_of t)) lists (must_lead Before (y + t) y) _
          (reads m Before (y + t) _ (before_read a l v r (y + t) (free_inside a y t f).1) ∙ halts_eq m 5 _ y ne))

      -- the rest hangs on the list
      pub behind_listed : link_at 8 a Before 0 (y + t) ≡ y → {o : Answer Beside} → o ≡ run (held a l v r) (see_listed (grains 8 a) t y) → o ≡ run (held a l v r) (see_behind (grains 8 a) classes y)
      behind_listed e q =
          let m = held a l v r in
          q ∙ sym (behind_end ∙ late_goes m (suc (list_of t)) lists (must_lead Before (y + t) y) _
          (reads m Before (y + t) _ (before_read a l v r (y + t) (free_inside a y t f).1) ∙ gives_eq m 5 _ y e))

-- ---- before a used block

module _ (a l v r : List ℕ) (x w : ℕ) (s : length a < 18446744073709551616) (i : x < grains 8 a) (e : w ≡ word_at 8 a (4 * x + Before)) where
  -- nobody is said to be there
  pub before_none : w ≡ no_link → ok nobody ≡ run (held a l v r) (see_before (grains 8 a) classes x)
  unfolding see_before
  before_none q =
      let m = held a l v r in
      sym (reads m Before x _ (before_link a l v r x i w e) ∙ ap (run m) (eq_yes (link a w) none _ _ (link_none a w s q)) ∙ gives_done m nobody)

  module _ (ne : w ≡ no_link → ⊥) (z : ℕ) (g : z ≡ turned w) where
    -- no grain before x
    pub before_out : x ≤ z → no 5 ≡ run (held a l v r) (see_before (grains 8 a) classes x)
    unfolding see_before
    before_out h =
        let m = held a l v r in
        let o : x < suc (link a w) = omega (arith, link_from a w x s i (omega arith)) in
        sym (reads m Before x _ (before_link a l v r x i w e) ∙ ap (run m) (eq_no (link a w) none _ _ (link_some a w s ne))
        ∙ halts m (must_le (suc (link a w)) x) _ (halts_le m 5 (suc (link a w)) x o))

    module _ (h : z < x) where
      -- the size word of the block before is read
      before_word : run (held a l v r) (see_before (grains 8 a) classes x) ≡ run (held a l v r) (as_before (grains 8 a) classes x z (word_of (size_at 8 a z)))
      unfolding see_before
      before_word =
          let m = held a l v r in
          let b : turned w < grains 8 a = omega arith in
          let k : held a l v r Before x ≡ z = before_link a l v r x i w e ∙ link_grain a w s b ∙ sym g in
          let some : z ≡ none → ⊥ = λ q. link_some a w s ne (link_grain a w s b ∙ sym g ∙ q) in
          reads m Before x _ k ∙ ap (run m) (eq_no z none _ _ some)
          ∙ goes m (must_le (suc z) x) _ (gives_le m 5 (suc z) x h) ∙ reads m Size z _ (memory_size 8 (lent a l v r) z)

      -- and known
      before_is : (o : Word) → word_of (size_at 8 a z) ≡ o → run (held a l v r) (see_before (grains 8 a) classes x) ≡ run (held a l v r) (as_before (grains 8 a) classes x z o)
      before_is o q = before_word ∙ ap (λ (o : Word). run (held a l v r) (as_before (grains 8 a) classes x z o)) q

      -- it is compared with the bytes from z to x
      module _ (u b : ℕ) (f : u ≡ word_at 8 a (4 * z + 0)) (c : b ≡ 32 * (x - z)) where
        reaches : z + (x - z) ≡ x
        reaches = omega arith

        inside : z + (x - z) < grains 8 a
        inside = omega arith

        -- a used block
        pub before_used : u ≡ b + 1 → ok nobody ≡ run (held a l v r) (see_before (grains 8 a) classes x)
        before_used q =
            let m = held a l v r in
            sym (before_is (is_used (x - z)) (used_word_lem a z (x - z) u s (omega arith) inside f (omega arith))
            ∙ goes m (must_eq (z + (x - z)) x) _ (gives_eq m 5 (z + (x - z)) x reaches) ∙ gives_done m nobody)

        -- a free block: the rest hangs on the list
        pub before_listed : u ≡ b → {o : Answer Beside} → o ≡ run (held a l v r) (see_listed (grains 8 a) (x - z) z) → o ≡ run (held a l v r) (see_before (grains 8 a) classes x)
        before_listed q k =
            let m = held a l v r in
            k ∙ sym (before_is (is_free (x - z)) (free_word_lem a z (x - z) u s (omega arith) inside f (omega arith))
            ∙ goes m (must_eq (z + (x - z)) x) _ (gives_eq m 5 (z + (x - z)) x reaches))

        -- no block that reaches to x
        pub before_apart : (u ≡ b + 1 → ⊥) → (u ≡ b → ⊥) → no 5 ≡ run (held a l v r) (see_before (grains 8 a) classes x)
        before_apart used free = sym (before_word ∙ go (word_of (size_at 8 a z)) (word_spelled a z u (omega arith) f))
          where
            go : (o : Word) → Spelled u o → run (held a l v r) (as_before (grains 8 a) classes x z o) ≡ no 5
            go (is_free t) d = let m = held a l v r in halts m (must_eq (z + t) x) _ (halts_eq m 5 (z + t) x (λ q. free (omega arith)))
            go (is_used t) d = let m = held a l v r in halts m (must_eq (z + t) x) _ (halts_eq m 5 (z + t) x (λ q. used (omega arith)))
            go is_last d = runs_stop (held a l v r) 5
            go is_bad d = runs_stop (held a l v r) 5
