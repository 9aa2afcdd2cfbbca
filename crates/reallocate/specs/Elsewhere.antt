-- The last step of a resize: another block is taken, and the old one is left.
use Rattle.std.specs.Prelude.{ℕ, ◌+◌, ◌*◌, ◌%◌, ◌^◌, ◌≤◌, ◌<◌, ◌≡◌, refl, List, [], ◌++◌, length, Ok, Err, ⊤}
use Rattle.std.proofs.Common.{arith, ap, sym, ◌∙◌, subst, inl, inr, ⊎_elim}
use Rattle.align.specs.Align.{Power}
use Rattle.align.proofs.Align.{power_pos}
use Rattle.invariants.specs.Placing.{Align}
use Rattle.script.specs.Memory.{Memory, Write}
use Rattle.script.specs.Script.{ok, no, run, ◌>>=◌, done, over}
use Rattle.script.proofs.Script.{over_run, goes, halts, gives_done}
use Rattle.sound.specs.Plans.{Plan, take_script, give_back_script, elsewhere_script}
use Rattle.sound.proofs.Constant.{back_reads}
use Rattle.sound.specs.Runs.{yes, not}
use Rattle.sound.proofs.WritableCalls.{take_writable, take_answer}
use Rattle.slices.specs.Decode.{grains}
use Rattle.slices.proofs.Decode.{grains_keep, wide_8}
use Rattle.slices.specs.Slices.{Slices, memory_of, stores, AllValid}
use Rattle.slices.proofs.Kept.{stores_lengths}
use Rattle.slices.proofs.Stored.{stores_memory}
use Rattle.slices.proofs.Ample.{decoded_slices, all_valid}
use Rattle.carry.specs.Carry.{shifted}
use Rattle.carry.proofs.Carry.{carried_parts}
use Rattle.tables.specs.Length.{LongEnough, long_ample}
use Rattle.request.specs.Alignment.{power_beside}
use Rattle.free_list.specs.Lent.{lent, held, classes, Long}
use Rattle.refusal.specs.Number.{number}
use Rattle.refusal.specs.declared.Refusal.{Refusal}
use Rattle.free_list.specs.Written.{WrittenLive}
use Rattle.allocate.specs.declared.Plan.{Plan as TakePlan}
use Rattle.allocate.specs.Plan.{Plans, Bounded, made_by}
use Rattle.occupy.specs.Taken.{Ready, plan_ready}
use Rattle.undo.specs.declared.Saved.{Saved}
use Rattle.undo.specs.Saved.{Inside, SavedTake}
use Rattle.undo.specs.Undone.{Restored}
use Rattle.reallocate.specs.Does.{Does, refused, granted, GoesElsewhere}
use Rattle.reallocate.specs.Left.{returning, Leaves}

-- a power of two is an alignment
power_align : (n : ℕ) → Power n → Align n
power_align n h = ⊎_elim (λ (e : n < 2 ^ 1). inl (omega (arith, power_pos n h))) (λ (e : n % 2 ^ 1 ≡ 0). inr (power_pos n h, e)) (power_beside 1 n h)

-- the slices have room for what is planned, and so for leaving the old block
pub taken_ready : (a l v : List ℕ) (r : TakePlan) → LongEnough (length a) (length l) (length v) → Bounded a l r
    → Ready a l v r
unfolding grains
taken_ready a l v r e b = plan_ready a l v r b (omega (arith, e.bits, b.pad))

pub leave_ready : (a l v b m o : List ℕ) (q u p z : ℕ) (k : Saved) (w : List Write) → LongEnough (length a) (length l) (length v)
    → q < 2 * grains 8 a → q + u ≤ 2 * grains 8 a → u ≤ p → z + p ≤ 2 * grains 8 a → Inside b m o k → WrittenLive a l v w b m o
    → Inside b m o k × Long m × (q < 64 * length o) × (q < 2 * grains 8 b) × (q + u ≤ 2 * grains 8 b) × (z + u ≤ 2 * grains 8 b)
unfolding grains
leave_ready a l v b m o q u p z k w e i j y x f g =
    let d = stores_lengths 8 (lent a l v []) w in
    let lb : length b ≡ length a = ap length (g.arena []) ∙ d.arena in
    let lm : length m ≡ length l = ap length (g.lists []) ∙ d.lists in
    let lo : length o ≡ length v = ap length (g.live []) ∙ d.live in
    (f, omega (arith, lm, e.heads), omega (arith, lo, e.bits), omega (arith, lb), omega (arith, lb), omega (arith, lb))

-- nothing can be taken
pub elsewhere_refused : (a l v : List ℕ) (q u p n : ℕ) (r : Refusal) → Plans a l p n (Err r) → GoesElsewhere a l v q u p n (not (number r)) a l v
unfolding elsewhere_script
elsewhere_refused a l v q u p n r s t = refused (number r) (halts (held a l v t) (take_script (grains 8 a) classes p n) _ (sym (s.answers v t)))

module _ (a l v : List ℕ) (q u p n : ℕ) (r : TakePlan) (s : Plans a l p n (Ok r)) where
  -- what the take writes, and where the payload is then
  abbrev first : List Write
  first = (made_by a r).writes

  abbrev there : ℕ
  there = 2 * r.at + r.place

  taken : (t : List ℕ) → run (held a l v t) (take_script (grains 8 a) classes p n) ≡ ok (made_by a r)
  taken t = sym (s.answers v t)

  -- there is room for all that was asked for
  pub taken_room : Power n → there + p ≤ 2 * grains 8 a
  taken_room h = (take_answer (grains 8 a) classes p n (held a l v []) (made_by a r) (decoded_slices 8 (lent a l v [])) (power_align n h) (taken [])).1

  -- the whole plan, with what the return writes
  abbrev whole : List Write → Plan
  whole w = record { answer = there; writes = first ++ w; moved = u; early = length first }

  goes_on : (t : List ℕ) → run (held a l v t) (elsewhere_script (grains 8 a) classes q p n u)
      ≡ run (held a l v t) (over first (give_back_script (grains 8 a) classes q) >>= λ b. done (whole b.writes))
  unfolding elsewhere_script
  goes_on t = goes (held a l v t) (take_script (grains 8 a) classes p n) _ (taken t)

  module _ (f : length a < 2 ^ 64) (g : LongEnough (length a) (length l) (length v)) (h : Power n) (b m o : List ℕ) (w : WrittenLive a l v first b m o) where
    -- all writes of the take can be stored
    storable : (t : List ℕ) → AllValid 8 (lent a l v t) first
    storable t =
        let S = lent a l v t in
        all_valid 8 classes S (long_ample S g) first (take_writable (grains 8 a) classes p n (held a l v t) (made_by a r) (decoded_slices 8 S) (power_align n h) (taken t))

    -- the return is checked on the slices as the take leaves them
    return_after : (t : List ℕ) → run (held a l v t) (over first (give_back_script (grains 8 a) classes q)) ≡ run (held b m o t) (give_back_script (grains 8 b) classes q)
    return_after t =
        let S = lent a l v t in
        let c = give_back_script (grains 8 a) classes q in
        let e : length b ≡ length a = ap length (w.arena []) ∙ (stores_lengths 8 (lent a l v []) first).arena in
        over_run (held a l v t) first c 24 (back_reads (grains 8 a) classes q)
        ∙ ap (λ (x : Memory). run x c) (sym (stores_memory 8 S first (wide_8 a f) (storable t)))
        ∙ ap (λ (T : Slices). run (memory_of 8 T) c) (sym (w.slices t))
        ∙ ap (λ (i : ℕ). run (held b m o t) (give_back_script i classes q)) (sym (grains_keep 8 a b e))

    module _ (k : Saved) (c d e : List ℕ) where
      -- the return is refused, and the take was undone
      back_again : (i : ℕ) → Restored a l v c d e → ((t : List ℕ) → run (held b m o t) (give_back_script (grains 8 b) classes q) ≡ no i)
          → GoesElsewhere a l v q u p n (not i) c d e
      back_again i y j t = subst (Does (lent a l v t) q (run (held a l v t) (elsewhere_script (grains 8 a) classes q p n u)) (not i)) (sym (same t y))
          (refused i (goes_on t ∙ halts (held a l v t) (over first (give_back_script (grains 8 a) classes q)) _ (return_after t ∙ j t)))
        where
          same : (t : List ℕ) → Restored a l v c d e → lent c d e t ≡ lent a l v t
          same t y = rw (y.arena, y.lists, y.live)

      -- it is written, after the payload was carried
      moved_off : (x : List Write) → ((t : List ℕ) → run (held b m o t) (give_back_script (grains 8 b) classes q) ≡ ok (returning x))
          → ((t : List ℕ) → lent c d e t ≡ stores 8 (shifted (lent b m o t) q there u) x) → GoesElsewhere a l v q u p n (yes there) c d e
      moved_off x i j t =
          let S = lent a l v t in
          subst (Does S q (run (held a l v t) (elsewhere_script (grains 8 a) classes q p n u)) (yes there))
          (carried_parts S q (whole x) first x refl refl ∙ ap (λ (T : Slices). stores 8 (shifted T q there u) x) (sym (w.slices t)) ∙ sym (j t))
          (granted (whole x) (goes_on t ∙ goes (held a l v t) (over first (give_back_script (grains 8 a) classes q)) _ (return_after t ∙ i t) ∙ gives_done (held a l v t) (whole x)))

      -- as the old block was left
      module _ (x : Ready a l v r) (y : SavedTake a l v r k) where
        pub elsewhere_back : (i : Refusal) → Leaves b m o q there u k (Err i) c d e → GoesElsewhere a l v q u p n (not (number i)) c d e
        elsewhere_back i j t = back_again (number i) (j.1 a l v r x y w) j.0 t

        pub elsewhere_left : {i : ⊤} → Leaves b m o q there u k (Ok i) c d e → GoesElsewhere a l v q u p n (yes there) c d e
        elsewhere_left j t = moved_off j.0 j.1 j.2 t
