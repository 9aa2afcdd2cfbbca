-- T4, insert and append: on a sound memory they do what the definition says.
use Rattle.std.specs.Prelude.{ℕ, zero, suc, ◌+◌, ◌-◌, ◌%◌, ◌^◌, ◌≤◌, ◌<◌, min, ◌≡◌, List, [], ◌∷◌, ◌⊎◌}
use Rattle.std.proofs.Common.{arith, ap, sym, ◌∙◌, subst, inl, inr, ⊎_elim}
use Rattle.std.proofs.Math.Path.{refl}
use Rattle.choice.specs.Choice.{if_eq, if_le, eq_no, le?, le_case}
use Rattle.class.specs.Class.{list_of}
use Rattle.definition.specs.Blocks.{Block, free, last, gap, total, ◌⟨⟩◌, gaps}
use Rattle.definition.specs.Lists.{Lists, push}
use Rattle.definition.specs.Calls.{Heap, Laid, lay, insert, append}
use Rattle.invariants.proofs.Order.{one_block}
use Rattle.invariants.specs.Members.{Mem, Apiece, mem_push, apiece_push}
use Rattle.invariants.specs.Moves.{Ok}
use Rattle.invariants.proofs.Moves.{free_gap}
use Rattle.invariants.specs.Gaps.{Spot}
use Rattle.invariants.proofs.Gaps.{spot_gap, spot_inside}
use Rattle.invariants.specs.Regions.{laid_out}
use Rattle.invariants.proofs.Regions.{lay_ok, two_grains, insert_spot, insert_none, append_spot, append_alone, append_none}
use Rattle.script.specs.Memory.{Memory, Table}
use Rattle.script.specs.Script.{Script, done, stop, no, run, unless_le, must_eq, must_le, ◌>>=◌, ◌>>◌, Gives}
use Rattle.script.proofs.Script.{reads, goes, halts, gives_bind, gives_eq, gives_le, gives_done, halts_le}
use Rattle.sound.specs.RegionPlan.{Looked, see_regions}
use Rattle.sound.specs.RegionTable.{Overlap, Passed}
use Rattle.chains.specs.Steps.{Step, steps_lists}
use Rattle.chains.proofs.Steps.{lists_append}
use Rattle.chains.specs.Legal.{NotIn, Legal}
use Rattle.chains.proofs.Legal.{legal_append}
use Rattle.plans.specs.Deeds.{Plan, plan_of, plan_script}
use Rattle.plans.specs.Checks.{see_head}
use Rattle.plans.proofs.Planned.{plan_gives}
use Rattle.plans.specs.Regions.{lay_steps, region_deed, see_pieces, region_script}
use Rattle.armour.specs.Row.{Sound}
use Rattle.armour.proofs.Laid.{le_pair, over_is}
use Rattle.armour.specs.Inserts.{nothing_seen}
use Rattle.armour.proofs.Inserts.{looked_at, clear_spot, region_turns}
use Rattle.armour.proofs.Regions.{admitted, sentinel_before, region_ended}
use Rattle.refines.specs.Sounds.{Meets}
use Rattle.refines.proofs.Sounds.{sound_after}
use Rattle.refines.proofs.Seen.{sound_ok, head_gives}

-- ---- the lists

lay_lists : (c i : ℕ) (f : Lists) (l : List Block) (x n : ℕ) → 1 ≤ c → x ≡ total l → steps_lists f (lay_steps c i x n) ≡ (lay c i f l n).lists
unfolding lay lay_steps
lay_lists c zero f l x n big e = refl
lay_lists c (suc i) f l x n big e = le_pair (λ (w : List Step) (v : Laid). steps_lists f w ≡ v.lists) n 1 _ _ _ _ (λ _. refl)
    (λ a. let k = min n (2 ^ c) in
    ap (λ (y : ℕ). steps_lists (push (list_of (k - 1)) y f) (lay_steps c i (x + k) (n - k))) e
    ∙ lay_lists c i (push (list_of (k - 1)) (total l) f) (last ∷ free (k - 1) ∷ l) (x + k) (n - k) big (omega (arith, two_grains c big)))

-- grains that are in no list may enter one after the other
lay_legal : (c i : ℕ) (f : Lists) (x n : ℕ) → 1 ≤ c → Apiece f → ((u : ℕ) → x ≤ u → u < x + n → NotIn f u) → Legal f (lay_steps c i x n)
unfolding lay_steps
lay_legal c zero f x n big o h = tt
lay_legal c (suc i) f x n big o h = le_case (Legal f) n 1 _ _ (λ _. tt)
    (λ a. let k = min n (2 ^ c) in
    let new = h x (omega arith) (omega arith) in (
      new,
      lay_legal c i (push (list_of (k - 1)) x f) (x + k) (n - k) big (apiece_push f o (list_of (k - 1)) x new)
          (λ u lo hi j m. ⊎_elim
          (λ (q : (u ≡ x) × (j ≡ list_of (k - 1))). omega (arith, q.0, two_grains c big))
          (λ (q : Mem u (f j)). h u (omega arith) (omega (arith, two_grains c big)) j q)
          (mem_push f o (list_of (k - 1)) x j u m)),
    ))

-- ---- the script

-- what follows when the table was looked through
abbrev after_look : ℕ → ℕ → ℕ → ℕ → ℕ → ℕ → Looked → Script Plan
after_look behind n c g len r l = unless_le 4 behind l.meets >> (must_eq l.wrong 0 >> (see_pieces n c len >> plan_script (region_deed c r g len)))

module _ (most behind n c g len : ℕ) (m : Memory) (room : m Table 0 < most) where
  enters : run m (region_script most behind n c g len) ≡ run m (unless_le 4 2 len >> (unless_le 4 (g + len) n >> (must_le (m Table 0) most
      >> (see_regions n g len (m Table 0) 0 nothing_seen >>= after_look behind n c g len (m Table 0)))))
  unfolding region_script
  enters = reads m Table 0 _ refl
      ∙ goes m (if_eq (m Table 0) most (stop 6) (done (tt {0}))) _ (ap (run m) (eq_no (m Table 0) most _ _ (λ e. omega arith)) ∙ gives_done m (tt {0}))

  too_short : len < 2 → run m (region_script most behind n c g len) ≡ no 4
  too_short h = enters ∙ halts m (unless_le 4 2 len) _ (halts_le m 4 2 len h)

  too_far : 2 ≤ len → n < g + len → run m (region_script most behind n c g len) ≡ no 4
  too_far h k = enters ∙ goes m (unless_le 4 2 len) _ (gives_le m 4 2 len h) ∙ halts m (unless_le 4 (g + len) n) _ (halts_le m 4 (g + len) n k)

  looks : 2 ≤ len → g + len ≤ n → run m (region_script most behind n c g len) ≡ run m (see_regions n g len (m Table 0) 0 nothing_seen >>= after_look behind n c g len (m Table 0))
  looks h k = enters ∙ goes m (unless_le 4 2 len) _ (gives_le m 4 2 len h) ∙ goes m (unless_le 4 (g + len) n) _ (gives_le m 4 (g + len) n k)
      ∙ goes m (must_le (m Table 0) most) _ (gives_le m 5 (m Table 0) most (omega arith))

  module _ (h : Heap) (o : Sound n c m h) (big : 1 ≤ c) where
    -- refused where there is no spot, else the table has passed
    abbrev Judged : Type 0
    Judged = ((run m (region_script most behind n c g len) ≡ no 4) × (2 ≤ len → Spot g len h.blocks → ⊥))
        ⊎ ((2 ≤ len) × (g + len ≤ n) × Passed n g len m (m Table 0) 0 nothing_seen × Spot g len h.blocks)

    judged : Judged
    judged = ⊎_elim
        (λ (two : 2 ≤ len). ⊎_elim
        (λ (near : g + len ≤ n). ⊎_elim
        (λ (k : (run m (see_regions n g len (m Table 0) 0 nothing_seen) ≡ no 4) × Overlap m g len).
        inl (
          looks two near ∙ halts m (see_regions n g len (m Table 0) 0 nothing_seen) _ k.0,
          λ _ p. o.row.given.never k.1.grain (spot_gap g len h.blocks p k.1.grain k.1.low k.1.high) k.1.inside,
        ))
        (λ (p : Passed n g len m (m Table 0) 0 nothing_seen). inr (two, near, p, clear_spot n c m h.blocks o.row g len (omega arith) near p))
        (looked_at n c m h.blocks o.row g len (omega arith)))
        (λ (far : n < g + len). inl (too_far two far, λ _ p. omega (arith, spot_inside g len h.blocks p, o.row.whole)))
        (le? (g + len) n))
        (λ (short : len < 2). inl (too_short short, λ k _. omega arith)) (le? 2 len)

    pieces_give : Gives m (see_pieces n c len) (tt {0})
    unfolding see_pieces
    pieces_give = gives_bind m (if_le (2 ^ c) len (see_head n (list_of (2 ^ c - 1))) (done (tt {0}))) _
        (le_case (λ (s : Script (Unit {0})). Gives m s (tt {0})) (2 ^ c) len _ _ (λ _. head_gives n c m h o (list_of (2 ^ c - 1))) (λ _. gives_done m (tt {0})))
        (le_case (λ (s : Script (Unit {0})). Gives m s (tt {0})) 2 (len % 2 ^ c) _ _ (λ _. head_gives n c m h o (list_of (len % 2 ^ c - 1))) (λ _. gives_done m (tt {0})))

    module _ (two : 2 ≤ len) (near : g + len ≤ n) (p : Passed n g len m (m Table 0) 0 nothing_seen) (s : Spot g len h.blocks) where
      passes : run m (region_script most behind n c g len) ≡ run m (after_look behind n c g len (m Table 0) p.looked)
      passes = looks two near ∙ goes m (see_regions n g len (m Table 0) 0 nothing_seen) _ p.gives

      deed_gives : behind ≤ p.looked.meets → Gives m (region_script most behind n c g len) (plan_of m (region_deed c (m Table 0) g len))
      deed_gives k = passes ∙ goes m (unless_le 4 behind p.looked.meets) _ (gives_le m 4 behind p.looked.meets k)
          ∙ goes m (must_eq p.looked.wrong 0) _ (gives_eq m 5 p.looked.wrong 0 p.right)
          ∙ goes m (see_pieces n c len) _ pieces_give ∙ plan_gives m (region_deed c (m Table 0) g len)

      abbrev laying : Laid
      laying = lay c len h.lists s.before len

      abbrev after : Heap
      after = record { blocks = (lay c len h.lists s.before len).left ⟨⟩ gaps (lay c len h.lists s.before len).over s.rest; lists = (lay c len h.lists s.before len).lists }

      after_ok : Ok c after
      after_ok = lay_ok c big len h.lists s.before len s.rest (subst (λ (zs : List Block). Ok c (record { blocks = zs; lists = h.lists })) s.whole (sound_ok n c m h o))

      -- a gap is in no list
      gap_none : (u : ℕ) → g ≤ u → u < g + len → NotIn h.lists u
      gap_none u lo hi k i = let t = o.exact.there k u i in free_gap (one_block u gap (free t.0) h.blocks o.row.order (spot_gap g len h.blocks s u lo hi) t.1)

      grants : behind ≤ p.looked.meets → Meets n c m (region_script most behind n c g len) (laid_out len (lay c len h.lists s.before len) s.rest)
      grants k =
          let w = lay_steps c len g len in
          record {
            plan = plan_of m (region_deed c (m Table 0) g len);
            gives = deed_gives k;
            answer = ap (λ (j : ℕ). len - j) (over_is c len h.lists s.before len);
            sound = sound_after n c m h after (region_deed c (m Table 0) g len) o
                (region_turns n c m h.blocks o.row g len h.lists big two s (admitted most behind n c g len m h.blocks o.row (deed_gives k)).heads) after_ok
                (legal_append h.lists w [] (lay_legal c len h.lists g len big o.exact.apiece gap_none) tt)
                (λ j. ap (λ (f : Lists). f j) (lists_append h.lists w [] ∙ lay_lists c len h.lists s.before g len big (sym s.place)));
          }

-- a region is given as the definition says
pub insert_meets : (most n c g len : ℕ) (m : Memory) (h : Heap) → Sound n c m h → 1 ≤ c → m Table 0 < most → Meets n c m (region_script most 0 n c g len) (insert c h g len)
insert_meets most n c g len m h o big room = ⊎_elim
    (λ k. subst (Meets n c m (region_script most 0 n c g len)) (sym (insert_none c h g len o.row.order k.1)) k.0)
    (λ k. subst (Meets n c m (region_script most 0 n c g len)) (sym (insert_spot c h g len o.row.order k.0 k.3)) (grants most 0 n c g len m room h o big k.0 k.1 k.2 k.3 (omega arith)))
    (judged most 0 n c g len m room h o big)

-- and one that must begin where another ended
pub append_meets : (most n c g len : ℕ) (m : Memory) (h : Heap) → Sound n c m h → 1 ≤ c → m Table 0 < most → Meets n c m (region_script most 1 n c g len) (append c h g len)
append_meets most n c g len m h o big room = ⊎_elim
    (λ k. subst (Meets n c m (region_script most 1 n c g len)) (sym (append_none c h g len o.row.order k.1)) k.0)
    (λ k. behind k.0 k.1 k.2 k.3)
    (judged most 1 n c g len m room h o big)
  where
    behind : 2 ≤ len → g + len ≤ n → Passed n g len m (m Table 0) 0 nothing_seen → Spot g len h.blocks → Meets n c m (region_script most 1 n c g len) (append c h g len)
    behind two near p s = ⊎_elim
        (λ (j : 1 ≤ p.looked.meets). let w = sentinel_before n c g len m h.blocks h.lists o.row big p s two j in
        subst (Meets n c m (region_script most 1 n c g len)) (sym (append_spot c h g len o.row.order two s w.0 w.1)) (grants most 1 n c g len m room h o big two near p s j))
        (λ (j : p.looked.meets < 1). subst (Meets n c m (region_script most 1 n c g len)) (sym (append_alone c h g len o.row.order (omega arith) s
        (λ l e. absurd (omega (arith, j, region_ended n c g len m h.blocks h.lists o.row big p s two l e)))))
        (passes most 1 n c g len m room h o big two near p s ∙ halts m (unless_le 4 1 p.looked.meets) _ (halts_le m 4 1 p.looked.meets j)))
        (le? 1 p.looked.meets)
