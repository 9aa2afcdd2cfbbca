-- What follows from specs/RegionTable.antt.
use Prim.Native.Nat.{ℕ, zero, suc, ◌+◌, ◌-◌, ◌*◌, ◌≤◌, ◌<◌, max}
use Rattle.std.proofs.Common.{arith, ap, sym, ◌∙◌, subst, inl, ⊎_elim}
use Rattle.std.specs.Prelude.{◌≡◌, List, ◌⊎◌}
use Rattle.std.proofs.Math.Path.{refl}
use Rattle.std.proofs.Math.Logic.{inr}
use Rattle.choice.specs.Choice.{if_eq, if_le, eq_case, eq_yes, eq_no, le?, le_yes, le_no, same?}
use Rattle.definition.specs.Blocks.{Block, gap, total, ◌⟨⟩◌, gaps}
use Rattle.definition.specs.Lists.{Lists}
use Rattle.definition.specs.Calls.{Laid, lay}
use Rattle.invariants.specs.Order.{out, Ordered, order_split, BlockAt, LeftAt, at_split, at_join, at_low, left_lt}
use Rattle.invariants.proofs.Order.{total_zip}
use Rattle.invariants.specs.Gaps.{Spot, total_gaps}
use Rattle.invariants.proofs.Gaps.{spot_inside, gaps_at, gaps_behind, gaps_cases}
use Rattle.invariants.proofs.Regions.{lay_total, lay_gap, lay_old, lay_some}
use Rattle.script.specs.Memory.{Memory, Table}
use Rattle.script.specs.Script.{Script, Gives, no, run, done, unless_le, ◌>>◌}
use Rattle.script.proofs.Script.{reads, goes, halts, gives_le, gives_done, halts_le}
use Rattle.sound.specs.Sound.{InTable, Given}
use Rattle.sound.specs.RegionPlan.{Looked, wrong_of, see_regions}
use Rattle.sound.specs.RegionTable.{first_of, end_of, Off, Overlap, Passed, Longer, Filled}

-- ---- looking through it

-- the check of one entry
abbrev entry_check : ℕ → ℕ → ℕ → ℕ → Script (Unit {0})
entry_check g len s e = if_le e g (done (tt {0})) (unless_le 4 (g + len) s)

-- passed where the region lies apart
entry_off : (m : Memory) (g len s e : ℕ) → (e ≤ g) ⊎ (g + len ≤ s) → Gives m (entry_check g len s e) (tt {0})
entry_off m g len s e (inl h) = ap (run m) (le_yes e g _ _ h) ∙ gives_done m (tt {0})
entry_off m g len s e (inr h) = ⊎_elim
    (λ (k : e ≤ g). ap (run m) (le_yes e g _ _ k) ∙ gives_done m (tt {0}))
    (λ (k : g < e). ap (run m) (le_no e g _ _ (λ q. omega arith)) ∙ gives_le m 4 (g + len) s h)
    (le? e g)

-- refused where it overlaps
entry_on : (m : Memory) (g len s e : ℕ) → g < e → s < g + len → run m (entry_check g len s e) ≡ no 4
entry_on m g len s e h k = ap (run m) (le_no e g _ _ (λ q. omega arith)) ∙ halts_le m 4 (g + len) s k

-- an entry that is right changes nothing
right_entry : (n s e w : ℕ) → s + 2 ≤ e → e ≤ n → wrong_of n s e w ≡ w
right_entry n s e w a b = le_yes (s + 2) e _ _ a ∙ le_yes e n _ _ b

-- what is seen so far, after region i
abbrev seen : ℕ → ℕ → Memory → ℕ → Looked → Looked
seen n g m i l = record { meets = if_eq (end_of m i) g 1 l.meets; wrong = wrong_of n (first_of m i) (end_of m i) l.wrong }

module _ (n g len : ℕ) (m : Memory) where
  -- one entry, then the others
  on_to : (r i : ℕ) (l : Looked) → run m (see_regions n g len (suc r) i l) ≡ run m (entry_check g len (first_of m i) (end_of m i) >> see_regions n g len r (suc i) (seen n g m i l))
  unfolding see_regions
  on_to r i l = reads m Table (2 * i + 1) _ refl ∙ reads m Table (2 * i + 2) _ refl

  -- an entry that lies apart, and all others
  pass_one : (r i : ℕ) (l : Looked) → first_of m i + 2 ≤ end_of m i → end_of m i ≤ n → Off m g len i → Passed n g len m r (suc i) (seen n g m i l) → Passed n g len m (suc r) i l
  pass_one r i l a b h p = record {
    looked = p.looked;
    gives = on_to r i l ∙ goes m (entry_check g len (first_of m i) (end_of m i)) _ (entry_off m g len (first_of m i) (end_of m i) h) ∙ p.gives;
    right = p.right ∙ right_entry n (first_of m i) (end_of m i) l.wrong a b;
    clear = λ j u v. ⊎_elim (λ (e : j ≡ i). subst (Off m g len) (sym e) h) (λ (e : j ≡ i → ⊥). p.clear j (omega arith) (omega arith)) (same? j i);
    stays = λ e. p.stays (eq_case (λ (x : ℕ). x ≡ 1) (end_of m i) g 1 l.meets (λ _. refl) (λ _. e));
    ends = λ j u v q. ⊎_elim
        (λ (e : j ≡ i). p.stays (eq_yes (end_of m i) g 1 l.meets (subst (λ (x : ℕ). end_of m x ≡ g) e q)))
        (λ (e : j ≡ i → ⊥). p.ends j (omega arith) (omega arith) q) (same? j i);
    alone = λ q. p.alone (λ j u v. q j (omega arith) (omega arith)) ∙ eq_no (end_of m i) g 1 l.meets (q i (omega arith) (omega arith));
  }

  -- refused with 4 where a region overlaps, else passed
  abbrev pub Look : ℕ → ℕ → Looked → Type 0
  Look r i l = ((run m (see_regions n g len r i l) ≡ no 4) × Overlap m g len) ⊎ Passed n g len m r i l

  -- one entry, if the others are looked at so
  look_one : 1 ≤ len → (r i : ℕ) (l : Looked) → i < m Table 0 → first_of m i + 2 ≤ end_of m i → end_of m i ≤ n → Look r (suc i) (seen n g m i l) → Look (suc r) i l
  look_one p r i l u a b next = ⊎_elim
      (λ (h : end_of m i ≤ g). off (inl h) next)
      (λ (h : g < end_of m i). ⊎_elim
      (λ (k : g + len ≤ first_of m i). off (inr k) next)
      (λ (k : first_of m i < g + len). inl (
        on_to r i l ∙ halts m (entry_check g len (first_of m i) (end_of m i)) _ (entry_on m g len (first_of m i) (end_of m i) h k),
        record { grain = max (first_of m i) g; low = omega arith; high = omega arith; inside = (i, u, omega arith, omega arith) },
      )) (le? (g + len) (first_of m i))) (le? (end_of m i) g)
    where
      off : Off m g len i → Look r (suc i) (seen n g m i l) → Look (suc r) i l
      off h (inl k) = inl (on_to r i l ∙ goes m (entry_check g len (first_of m i) (end_of m i)) _ (entry_off m g len (first_of m i) (end_of m i) h) ∙ k.0, k.1)
      off h (inr k) = inr (pass_one r i l a b h k)

  -- all entries from i on
  pub look : 1 ≤ len → ((j : ℕ) → j < m Table 0 → (first_of m j + 2 ≤ end_of m j) × (end_of m j ≤ n)) → (r i : ℕ) (l : Looked) → i + r ≡ m Table 0 → Look r i l
  unfolding see_regions
  look p s zero i l e = inr (record {
    looked = l;
    gives = gives_done m l;
    right = refl;
    clear = λ j u v. absurd (omega arith);
    stays = λ q. q;
    ends = λ j u v q. absurd (omega arith);
    alone = λ q. refl;
  })
  look p s (suc r) i l e = let a = s i (omega arith) in look_one p r i l (omega arith) a.0 a.1 (look p s r (suc i) (seen n g m i l) (omega arith))

-- ---- one more entry

module _ (m d : Memory) (xs zs : List Block) (g e : ℕ) (v : Given m xs) (t : Longer m d g e) (f : Filled xs zs g e) where
  -- a grain of an old region is in the table still
  in_old : (y : ℕ) → InTable m y → InTable d y
  in_old y h = let o = t.old h.0 h.1 in (h.0, omega (arith, h.1, t.count), omega (arith, o.0, h.2), omega (arith, o.1, h.3))

  -- and one of the new region
  in_new : (y : ℕ) → g ≤ y → y < e → InTable d y
  in_new y a b = (m Table 0, omega (arith, t.count), omega (arith, t.new.0), omega (arith, t.new.1))

  -- and no other
  in_either : (y : ℕ) → InTable d y → ((g ≤ y) × (y < e)) ⊎ InTable m y
  in_either y h = ⊎_elim
      (λ (i : m Table 0 ≤ h.0). let q : h.0 ≡ m Table 0 = omega (arith, h.1, t.count) in
      inl (omega (arith, t.new.0, subst (λ (j : ℕ). first_of d j ≤ y) q h.2), omega (arith, t.new.1, subst (λ (j : ℕ). y < end_of d j) q h.3)))
      (λ (i : h.0 < m Table 0). let o = t.old h.0 i in inr (h.0, i, omega (arith, o.0, h.2), omega (arith, o.1, h.3)))
      (le? (m Table 0) h.0)

  -- so the table with one more entry says what is given now
  pub given_more : Given d zs
  given_more = record {
    sane = λ i h. ⊎_elim
        (λ (k : m Table 0 ≤ i). let q : m Table 0 ≡ i = omega (arith, t.count) in
        subst (λ (j : ℕ). (first_of d j + 2 ≤ end_of d j) × (end_of d j ≤ total zs)) q
        (omega (arith, t.new.0, t.new.1, f.some), omega (arith, t.new.1, f.inside, f.same)))
        (λ (k : i < m Table 0). let o = t.old i k in let s = v.sane i k in (omega (arith, o.0, o.1, s.0), omega (arith, o.1, s.1, f.same)))
        (le? (m Table 0) i);
    either = λ y h. ⊎_elim
        (λ (k : BlockAt y gap 0 xs). ⊎_elim
        (λ (a : g ≤ y). ⊎_elim (λ (b : e ≤ y). inl (f.still y k (inr b))) (λ (b : y < e). inr (in_new y a b)) (le? e y))
        (λ (a : y < g). inl (f.still y k (inl a))) (le? g y))
        (λ (k : InTable m y). inr (in_old y k)) (v.either y (omega (arith, f.same)));
    never = λ y h k. ⊎_elim
        (λ (a : (g ≤ y) × (y < e)). f.gone y h a.0 a.1)
        (λ (a : InTable m y). v.never y (f.was y h) a) (in_either y k);
  }

-- ---- the gaps that a region leaves

-- a gap among k at x is one among j at z, if both end at the same grain
gaps_shift : (x k z j y : ℕ) (r : List Block) → x + k ≡ z + j → z ≤ y → BlockAt y gap x (gaps k r) → BlockAt y gap z (gaps j r)
gaps_shift x k z j y r e h i = ⊎_elim
    (λ (a : (x ≤ y) × (y < x + k) × (gap ≡ gap)). gaps_at j y z r h (omega (arith, a.1)))
    (λ (a : BlockAt y gap (x + k) r). gaps_behind j y z gap r (rw e at a))
    (gaps_cases k y x gap r i)

-- a region of len grains laid at its spot
module _ (c : ℕ) (big : 1 ≤ c) (f : Lists) (g len : ℕ) (xs : List Block) (p : Spot g len xs) (two : 2 ≤ len) (o : Ordered out xs) where
  -- how it is laid, and where it ends
  abbrev laying : Laid
  laying = lay c len f p.before len

  end : g + (len - laying.over) ≡ total laying.left
  end = omega (arith, lay_total c big len f p.before len, p.place, lay_some c len f p.before len big (omega arith) two)

  -- what is left over ends where the region was to end
  over_end : total laying.left + laying.over ≡ g + len
  over_end = omega (arith, lay_total c big len f p.before len, p.place)

  -- the gaps are those from before, without the region
  pub filled : Filled xs (laying.left ⟨⟩ gaps laying.over p.rest) g (g + (len - laying.over))
  filled = record {
    same = omega (
      arith,
      over_end,
      p.place,
      ap total p.whole,
      total_zip p.before (gaps len p.rest),
      total_gaps len p.rest,
      total_zip laying.left (gaps laying.over p.rest),
      total_gaps laying.over p.rest,
    );
    some = omega (arith, lay_some c len f p.before len big (omega arith) two);
    inside = omega (arith, spot_inside g len xs p);
    still = λ y h k. at_join y gap laying.left (gaps laying.over p.rest) (still y k (at_split y gap p.before (gaps len p.rest) (subst (λ (t : List Block). BlockAt y gap 0 t) p.whole h)));
    was = λ y h. rw p.whole (at_join y gap p.before (gaps len p.rest) (was y (at_split y gap laying.left (gaps laying.over p.rest) h)));
    gone = λ y h a b. gone y a b (at_split y gap laying.left (gaps laying.over p.rest) h);
  }
    where
      still : (y : ℕ) → (y < g) ⊎ (g + (len - laying.over) ≤ y) → LeftAt y gap p.before ⊎ BlockAt y gap (total p.before) (gaps len p.rest)
          → LeftAt y gap laying.left ⊎ BlockAt y gap (total laying.left) (gaps laying.over p.rest)
      still y k (inl h) = inl (lay_old c big len f p.before len y gap h)
      still y k (inr h) =
          let b = at_low y gap (total p.before) (gaps len p.rest) h in
          let z : total laying.left ≤ y = ⊎_elim (λ (a : y < g). absurd (omega (arith, p.place))) (λ (a : g + (len - laying.over) ≤ y). omega (arith, end)) k in
          inr (gaps_shift (total p.before) len (total laying.left) laying.over y p.rest (omega (arith, over_end, p.place)) z h)

      was : (y : ℕ) → LeftAt y gap laying.left ⊎ BlockAt y gap (total laying.left) (gaps laying.over p.rest)
          → LeftAt y gap p.before ⊎ BlockAt y gap (total p.before) (gaps len p.rest)
      was y (inl h) = inl (lay_gap c big len f p.before len y h)
      was y (inr h) =
          let b = at_low y gap (total laying.left) (gaps laying.over p.rest) h in
          inr (gaps_shift (total laying.left) laying.over (total p.before) len y p.rest (omega (arith, over_end, p.place)) (omega (arith, end, p.place)) h)

      gone : (y : ℕ) → g ≤ y → y < g + (len - laying.over) → LeftAt y gap laying.left ⊎ BlockAt y gap (total laying.left) (gaps laying.over p.rest) → ⊥
      gone y a b (inl h) =
          let w = (order_split p.before (gaps len p.rest) (subst (Ordered out) p.whole o)).0 in
          omega (arith, p.place, left_lt y gap p.before w (lay_gap c big len f p.before len y h))
      gone y a b (inr h) = omega (arith, end, at_low y gap (total laying.left) (gaps laying.over p.rest) h)
