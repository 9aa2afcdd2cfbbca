-- What follows from specs/RegionSound.antt.
use Rattle.std.specs.Prelude.{ℕ, zero, suc, ◌+◌, ◌-◌, ◌*◌, ◌≤◌, ◌<◌, ◌≡◌, List, [], ◌∷◌, ◌⊎◌}
use Rattle.std.proofs.Common.{arith, ap, sym, ◌∙◌, subst, inl, inr, ⊎_elim}
use Rattle.std.proofs.Math.Path.{refl}
use Rattle.choice.specs.Choice.{if_eq, eq_no, le?, upd_same, upd_other}
use Rattle.definition.specs.Blocks.{Block, free, used, last, gap, total, ◌⟨⟩◌, gaps}
use Rattle.definition.specs.Lists.{Lists}
use Rattle.definition.specs.Calls.{Heap, lay, insert, append}
use Rattle.invariants.specs.Order.{out, busy, idle, side_l, Ordered, order_split, BlockAt, at_here}
use Rattle.invariants.proofs.Order.{one_block}
use Rattle.invariants.specs.Gaps.{Spot}
use Rattle.invariants.proofs.Gaps.{gaps_spot, spot_gap, spot_inside, gap_last}
use Rattle.invariants.specs.Regions.{laid_out}
use Rattle.invariants.proofs.Regions.{gap_out, insert_spot, insert_none, append_spot, append_alone, append_none}
use Rattle.script.specs.Memory.{Memory, Table, apply}
use Rattle.script.proofs.Memory.{apply_append, apply_untouched}
use Rattle.script.specs.Script.{Script, no, run, done, stop, unless_le, must_eq, must_le, ◌>>=◌, ◌>>◌}
use Rattle.script.proofs.Script.{reads, goes, halts, gives_eq, gives_le, gives_done, halts_le}
use Rattle.sound.specs.Sound.{InTable, Given, Sound}
use Rattle.sound.specs.Plans.{Plan}
use Rattle.sound.specs.RegionPlan.{Looked, see_regions, lay_script, entry_writes, planned, region_script}
use Rattle.sound.specs.Meets.{Meets}
use Rattle.sound.specs.Founded.{Founded}
use Rattle.sound.proofs.Founded.{sound_founded}
use Rattle.sound.proofs.Laying.{lays}
use Rattle.sound.specs.RegionTable.{first_of, end_of, Overlap, Passed, Longer}
use Rattle.sound.proofs.RegionTable.{look, given_more, filled}
use Rattle.sound.specs.RegionSound.{nothing_seen}

-- ---- the table's three words

module _ (m q : Memory) (g e : ℕ) (h : q Table ≡ m Table) where
  abbrev more : Memory
  more = apply q (entry_writes (m Table 0) g e)

  -- no other word is written
  other : (i : ℕ) → (i ≡ 0 → ⊥) → (i ≡ 2 * m Table 0 + 1 → ⊥) → (i ≡ 2 * m Table 0 + 2 → ⊥) → more Table i ≡ m Table i
  other i a b c = upd_other _ 0 (suc (m Table 0)) i a ∙ upd_other _ (2 * m Table 0 + 2) e i c ∙ upd_other (q Table) (2 * m Table 0 + 1) g i b ∙ ap (λ (t : ℕ → ℕ). t i) h

  entered : Longer m more g e
  entered = record {
    count = upd_same _ 0 (suc (m Table 0)) 0 refl;
    old = λ j k. (other (2 * j + 1) (omega arith) (omega arith) (omega arith), other (2 * j + 2) (omega arith) (omega arith) (omega arith));
    new = (
      upd_other _ 0 (suc (m Table 0)) (2 * m Table 0 + 1) (omega arith) ∙ upd_other _ (2 * m Table 0 + 2) e (2 * m Table 0 + 1) (omega arith) ∙ upd_same (q Table) (2 * m Table 0 + 1) g _ refl,
      upd_other _ 0 (suc (m Table 0)) (2 * m Table 0 + 2) (omega arith) ∙ upd_same _ (2 * m Table 0 + 2) e (2 * m Table 0 + 2) refl,
    );
  }

-- with its entry the region is sound
founded_sound : (n c : ℕ) (q : Memory) (r g e : ℕ) (zs : List Block) (f : Lists) → Founded n c q zs f → Given (apply q (entry_writes r g e)) zs
    → Sound n c (apply q (entry_writes r g e)) (record { blocks = zs; lists = f })
founded_sound n c q r g e zs f o v = record {
  heap = o.heap;
  whole = o.whole;
  small = o.small;
  row = o.row;
  strung = record { links = o.strung.links; marks = o.strung.marks };
  lively = record { set = o.lively.set; real = o.lively.real };
  padded = o.padded;
  given = v;
}

-- ---- the script

-- grains that no entry of the table overlaps are gaps
pub clear_spot : (n c g len : ℕ) (m : Memory) (h : Heap) → Sound n c m h → 1 ≤ len → g + len ≤ n → Passed n g len m (m Table 0) 0 nothing_seen → Spot g len h.blocks
clear_spot n c g len m h b some near p = gaps_spot g len h.blocks some b.heap.order (λ y u v. ⊎_elim
    (λ (k : BlockAt y gap 0 h.blocks). k)
    (λ (k : InTable m y). absurd (⊎_elim
    (λ (a : end_of m k.0 ≤ g). omega (arith, k.3))
    (λ (a : g + len ≤ first_of m k.0). omega (arith, k.2))
    (p.clear k.0 (omega arith) (omega (arith, k.1)))))
    (b.given.either y (omega (arith, b.whole))))

-- what follows when the table was looked through
abbrev after_look : ℕ → ℕ → ℕ → ℕ → ℕ → ℕ → Looked → Script Plan
after_look behind n c g len r l = unless_le 4 behind l.meets >> (must_eq l.wrong 0 >> (lay_script n c len [] g len >>= (λ w. done (planned r g len w))))

module _ (most behind n c g len : ℕ) (m : Memory) (room : m Table 0 < most) where
  abbrev script : Script Plan
  script = region_script most behind n c g len

  -- the table has room
  enters : run m script ≡ run m (unless_le 4 2 len >> (unless_le 4 (g + len) n >> (must_le (m Table 0) most
      >> (see_regions n g len (m Table 0) 0 nothing_seen >>= after_look behind n c g len (m Table 0)))))
  unfolding region_script
  enters = reads m Table 0 _ refl
      ∙ goes m (if_eq (m Table 0) most (stop 6) (done (tt {0}))) _ (ap (run m) (eq_no (m Table 0) most _ _ (λ e. omega arith)) ∙ gives_done m (tt {0}))

  -- a region of less than two grains is refused
  too_short : len < 2 → run m script ≡ no 4
  too_short h = enters ∙ halts m (unless_le 4 2 len) _ (halts_le m 4 2 len h)

  -- and one that ends outside the arena
  too_far : 2 ≤ len → n < g + len → run m script ≡ no 4
  too_far h k = enters ∙ goes m (unless_le 4 2 len) _ (gives_le m 4 2 len h) ∙ halts m (unless_le 4 (g + len) n) _ (halts_le m 4 (g + len) n k)

  -- else the table is looked through
  looks : 2 ≤ len → g + len ≤ n → run m script ≡ run m (see_regions n g len (m Table 0) 0 nothing_seen >>= after_look behind n c g len (m Table 0))
  looks h k = enters ∙ goes m (unless_le 4 2 len) _ (gives_le m 4 2 len h) ∙ goes m (unless_le 4 (g + len) n) _ (gives_le m 4 (g + len) n k)
      ∙ goes m (must_le (m Table 0) most) _ (gives_le m 5 (m Table 0) most (omega arith))

  module _ (h : Heap) (b : Sound n c m h) where
    -- refused where there is no spot, else all regions lie apart
    abbrev Judged : Type 0
    Judged = ((run m script ≡ no 4) × (2 ≤ len → Spot g len h.blocks → ⊥))
        ⊎ ((2 ≤ len) × (g + len ≤ n) × Passed n g len m (m Table 0) 0 nothing_seen × Spot g len h.blocks)

    -- one of the two holds
    judged : Judged
    judged = ⊎_elim
        (λ (two : 2 ≤ len). ⊎_elim
        (λ (near : g + len ≤ n). ⊎_elim
        (λ (k : (run m (see_regions n g len (m Table 0) 0 nothing_seen) ≡ no 4) × Overlap m g len).
        inl (
          looks two near ∙ halts m (see_regions n g len (m Table 0) 0 nothing_seen) _ k.0,
          λ _ p. b.given.never k.1.grain (spot_gap g len h.blocks p k.1.grain k.1.low k.1.high) k.1.inside,
        ))
        (λ (p : Passed n g len m (m Table 0) 0 nothing_seen). inr (two, near, p, clear_spot n c g len m h b (omega arith) near p))
        (look n g len m (omega arith) (λ j u. let s = b.given.sane j u in (s.0, omega (arith, s.1, b.whole))) (m Table 0) 0 nothing_seen (omega arith)))
        (λ (far : n < g + len). inl (too_far two far, λ _ p. omega (arith, spot_inside g len h.blocks p, b.whole)))
        (le? (g + len) n))
        (λ (short : len < 2). inl (too_short short, λ k _. omega arith)) (le? 2 len)

    module _ (two : 2 ≤ len) (near : g + len ≤ n) (p : Passed n g len m (m Table 0) 0 nothing_seen) (s : Spot g len h.blocks) where
      passes : run m script ≡ run m (after_look behind n c g len (m Table 0) p.looked)
      passes = looks two near ∙ goes m (see_regions n g len (m Table 0) 0 nothing_seen) _ p.gives

      spot_founded : Founded n c m (s.before ⟨⟩ gaps len s.rest) h.lists
      spot_founded = subst (λ (xs : List Block). Founded n c m xs h.lists) s.whole (sound_founded n c m h b)

      -- granted as the definition says
      grants : 1 ≤ c → behind ≤ p.looked.meets → Meets n c m script (laid_out len (lay c len h.lists s.before len) s.rest)
      grants big k =
          let d = lay c len h.lists s.before len in
          let t = lays n c len m [] h.lists s.before s.rest g len big (sym s.place) spot_founded tt in
          let e = g + (len - d.over) in
          record {
            plan = planned (m Table 0) g len (record { writes = t.writes; over = d.over });
            gives = passes ∙ goes m (unless_le 4 behind p.looked.meets) _ (gives_le m 4 behind p.looked.meets k)
                ∙ goes m (must_eq p.looked.wrong 0) _ (gives_eq m 5 p.looked.wrong 0 p.right)
                ∙ goes m (lay_script n c len [] g len) _ t.gives ∙ gives_done m _;
            answer = refl;
            sound = rw (apply_append m t.writes (entry_writes (m Table 0) g e))
                (founded_sound n c (apply m t.writes) (m Table 0) g e _ d.lists t.founded
                (given_more m _ h.blocks _ g e b.given (entered m (apply m t.writes) g e (apply_untouched m t.writes Table t.table))
                (filled c big h.lists g len h.blocks s two b.heap.order)));
          }

-- a region is given as the definition says
pub region_meets : (most n c g len : ℕ) (m : Memory) (h : Heap) → Sound n c m h → 1 ≤ c → m Table 0 < most → Meets n c m (region_script most 0 n c g len) (insert c h g len)
region_meets most n c g len m h b big room = go (judged most 0 n c g len m room h b)
  where
    go : Judged most 0 n c g len m room h b → Meets n c m (region_script most 0 n c g len) (insert c h g len)
    go (inl k) = rw (insert_none c h g len b.heap.order k.1) k.0
    go (inr k) = rw (insert_spot c h g len b.heap.order k.0 k.3) (grants most 0 n c g len m room h b k.0 k.1 k.2 k.3 big (omega arith))

-- ---- behind another region

module _ (n c g len : ℕ) (m : Memory) (h : Heap) (b : Sound n c m h) (p : Passed n g len m (m Table 0) 0 nothing_seen) (s : Spot g len h.blocks) (two : 2 ≤ len) where
  -- behind a sentinel a region ended
  ended : (l : List Block) → s.before ≡ last ∷ l → p.looked.meets ≡ 1
  ended l e =
      let x : g ≡ total l + 1 = sym s.place ∙ ap total e in
      let w : h.blocks ≡ last ∷ l ⟨⟩ gaps len s.rest = s.whole ∙ ap (λ (t : List Block). t ⟨⟩ gaps len s.rest) e in
      let a : BlockAt (total l) last 0 h.blocks = rw w (at_here l (gaps len s.rest) last) in
      ⊎_elim
      (λ (k : BlockAt (total l) gap 0 h.blocks). absurd (gap_last (one_block (total l) last gap h.blocks b.heap.order a k)))
      (λ (k : InTable m (total l)). ⊎_elim
      (λ (q : end_of m k.0 ≤ g). p.ends k.0 (omega arith) (omega (arith, k.1)) (omega (arith, k.3)))
      (λ (q : g + len ≤ first_of m k.0). absurd (omega (arith, k.2)))
      (p.clear k.0 (omega arith) (omega (arith, k.1))))
      (b.given.either (total l) (omega (arith, spot_inside g len h.blocks s)))

  -- behind a gap none did
  gap_before : (l : List Block) → s.before ≡ gap ∷ l → (j : ℕ) → j < m Table 0 → end_of m j ≡ g → ⊥
  gap_before l e j k q =
      let x : g ≡ total l + 1 = sym s.place ∙ ap total e in
      let w : h.blocks ≡ gap ∷ l ⟨⟩ gaps len s.rest = s.whole ∙ ap (λ (t : List Block). t ⟨⟩ gaps len s.rest) e in
      b.given.never (total l) (rw w (at_here l (gaps len s.rest) gap)) (j, k, omega (arith, (b.given.sane j k).0), omega arith)

  -- nor at the arena's start
  none_before : s.before ≡ [] → (j : ℕ) → j < m Table 0 → end_of m j ≡ g → ⊥
  none_before e j k q = omega (arith, (b.given.sane j k).0, s.place, ap total e)

  -- before a gap stands a sentinel, a gap or nothing
  before_out : side_l s.before ≡ out
  before_out = go len (omega arith) (order_split s.before (gaps len s.rest) (subst (Ordered out) s.whole b.heap.order)).1
    where
      go : (k : ℕ) → 1 ≤ k → Ordered (side_l s.before) (gaps k s.rest) → side_l s.before ≡ out
      go zero q o = absurd (omega arith)
      go (suc k) q o = gap_out (side_l s.before) o.0

-- a region that must begin where another ended
pub append_meets : (most n c g len : ℕ) (m : Memory) (h : Heap) → Sound n c m h → 1 ≤ c → m Table 0 < most → Meets n c m (region_script most 1 n c g len) (append c h g len)
append_meets most n c g len m h b big room = go (judged most 1 n c g len m room h b)
  where
    o : Ordered out h.blocks
    o = b.heap.order

    alone : (near : g + len ≤ n) (p : Passed n g len m (m Table 0) 0 nothing_seen) (s : Spot g len h.blocks) → 2 ≤ len
        → ((l : List Block) → s.before ≡ last ∷ l → ⊥) → ((j : ℕ) → j < m Table 0 → end_of m j ≡ g → ⊥) → Meets n c m (region_script most 1 n c g len) (append c h g len)
    alone near p s two k e = rw (append_alone c h g len o (omega arith) s k)
        (passes most 1 n c g len m room h b two near p s
        ∙ halts m (unless_le 4 1 p.looked.meets) _ (halts_le m 4 1 p.looked.meets (omega (arith, p.alone (λ j u v. e j (omega arith))))))

    behind : (near : g + len ≤ n) (p : Passed n g len m (m Table 0) 0 nothing_seen) (s : Spot g len h.blocks) → 2 ≤ len → (l : List Block) → s.before ≡ l
        → Meets n c m (region_script most 1 n c g len) (append c h g len)
    behind near p s two [] e = alone near p s two (λ l q. let z : ◌≡◌ {A = ℕ} 0 1 = cc in omega arith) (none_before n c g len m h b p s two e)
    behind near p s two (free t ∷ l) e = let q : idle ≡ out = sym (ap side_l e) ∙ before_out n c g len m h b p s two in let z : ◌≡◌ {A = ℕ} 0 1 = cc in absurd (omega arith)
    behind near p s two (used t d ∷ l) e = let q : busy ≡ out = sym (ap side_l e) ∙ before_out n c g len m h b p s two in let z : ◌≡◌ {A = ℕ} 0 1 = cc in absurd (omega arith)
    behind near p s two (last ∷ l) e = rw (append_spot c h g len o two s l e)
        (grants most 1 n c g len m room h b two near p s big (omega (arith, ended n c g len m h b p s two l e)))
    behind near p s two (gap ∷ l) e = alone near p s two (λ t q. let z : ◌≡◌ {A = ℕ} 0 1 = cc in omega arith) (gap_before n c g len m h b p s two l e)

    go : Judged most 1 n c g len m room h b → Meets n c m (region_script most 1 n c g len) (append c h g len)
    go (inl k) = rw (append_none c h g len o k.1) k.0
    go (inr k) = behind k.1 k.2 k.3 k.0 k.3.before refl
