-- What follows from specs/Regions.antt.
use Rattle.std.specs.Prelude.{ℕ, zero, suc, ◌+◌, ◌-◌, ◌%◌, ◌^◌, ◌≤◌, ◌<◌, ◌≡◌, refl, List, [], ◌∷◌}
use Rattle.std.proofs.Common.{arith, ap, sym, ◌∙◌}
use Rattle.std.proofs.Math.Path.{subst}
use Rattle.std.proofs.Math.Logic.{⊎_elim}
use Rattle.choice.specs.Choice.{if_eq, if_le}
use Rattle.class.specs.Class.{list_of}
use Rattle.definition.specs.Blocks.{Block, free, used, last, gap, total, ◌⟨⟩◌, gaps}
use Rattle.definition.specs.Lists.{Lists}
use Rattle.definition.specs.Calls.{Answer, granted, lay, insert, append}
use Rattle.invariants.specs.Order.{out, busy, idle, side_l, Ordered, order_split, BlockAt, at_here}
use Rattle.invariants.proofs.Order.{one_block}
use Rattle.invariants.specs.Gaps.{Spot}
use Rattle.invariants.proofs.Gaps.{spot_inside, gap_last}
use Rattle.invariants.specs.Regions.{laid_out}
use Rattle.invariants.proofs.Regions.{gap_out, insert_spot, append_spot}
use Rattle.script.specs.Memory.{Memory, Table}
use Rattle.script.specs.Script.{Script, done, stop, no, run, unless_le, must_eq, must_le, Gives}
use Rattle.script.proofs.Script.{inv_bind, inv_get, inv_le}
use Rattle.sound.specs.Sound.{InTable}
use Rattle.sound.proofs.Inverted.{inv_if_eq, inv_if_le, inv_stop}
use Rattle.sound.specs.RegionPlan.{Looked, see_regions}
use Rattle.sound.specs.RegionTable.{first_of, end_of, Passed}
use Rattle.chains.specs.Closed.{Headed}
use Rattle.plans.specs.Deeds.{Plan}
use Rattle.plans.specs.Checks.{see_head}
use Rattle.plans.proofs.Checked.{head_checked}
use Rattle.plans.proofs.Planned.{plan_checked, gives_one}
use Rattle.plans.specs.Regions.{region_deed, see_pieces, region_script}
use Rattle.armour.specs.Row.{Row, Free}
use Rattle.armour.proofs.Turns.{turns_armoured}
use Rattle.armour.proofs.Known.{headed_known}
use Rattle.armour.specs.Laid.{Heads}
use Rattle.armour.proofs.Laid.{over_is}
use Rattle.armour.specs.Inserts.{nothing_seen}
use Rattle.armour.proofs.Inserts.{looked_at, clear_spot, given, region_used, region_stays, region_turns}
use Rattle.armour.specs.Regions.{Admitted, RegionArmoured}

-- what gives an answer is not refused
pub not_both : {A : Type 0} (m : Memory) (s : Script A) {r : ℕ} {a : A} → run m s ≡ no r → Gives m s a → ⊥
not_both m s g h = let z : ◌≡◌ {A = ℕ} 0 1 = cc in omega arith

module _ (most behind n c g len : ℕ) (m : Memory) (xs : List Block) (o : Row n c m xs) where
  pieces_known : {u : Unit {0}} → Gives m (see_pieces n c len) u → Heads c (Headed (Free xs) m) len
  unfolding see_pieces
  pieces_known h =
      let i = inv_bind m (if_le (2 ^ c) len (see_head n (list_of (2 ^ c - 1))) (done (tt {0}))) _ h in
      record {
        full = λ e. ⊎_elim (λ k. headed_known n c m xs o (list_of (2 ^ c - 1)) (head_checked m n (list_of (2 ^ c - 1)) k.1)) (λ k. absurd (omega (arith, k.0))) (inv_if_le m (2 ^ c) len (see_head n (list_of (2 ^ c - 1))) (done (tt {0})) i.1);
        short = λ e. ⊎_elim (λ k. headed_known n c m xs o (list_of (len % 2 ^ c - 1)) (head_checked m n (list_of (len % 2 ^ c - 1)) k.1)) (λ k. absurd (omega (arith, k.0)))
            (inv_if_le m 2 (len % 2 ^ c) (see_head n (list_of (len % 2 ^ c - 1))) (done (tt {0})) i.2);
      }

  pub admitted : {t : Plan} → Gives m (region_script most behind n c g len) t → Admitted most behind n c g len m xs t
  unfolding region_script
  admitted {t} h =
      let i0 = inv_bind m (if_eq (m Table 0) most (stop 6) (done (tt {0}))) _ (inv_get m Table 0 _ h) in
      let i1 = inv_bind m (unless_le 4 2 len) _ i0.2 in
      let i2 = inv_bind m (unless_le 4 (g + len) n) _ i1.2 in
      let i3 = inv_bind m (must_le (m Table 0) most) _ i2.2 in
      let i4 = inv_bind m (see_regions n g len (m Table 0) 0 nothing_seen) _ i3.2 in
      let i5 = inv_bind m (unless_le 4 behind i4.0.meets) _ i4.2 in
      let i6 = inv_bind m (must_eq i4.0.wrong 0) _ i5.2 in
      let i7 = inv_bind m (see_pieces n c len) _ i6.2 in
      let two = inv_le m 4 2 len i1.1 in
      let near = inv_le m 4 (g + len) n i2.1 in
      let p : Passed n g len m (m Table 0) 0 nothing_seen = ⊎_elim
      (λ k. absurd (not_both m (see_regions n g len (m Table 0) 0 nothing_seen) k.0 i4.1))
      (λ (k : Passed n g len m (m Table 0) 0 nothing_seen). k) (looked_at n c m xs o g len (omega arith)) in
      let e : i4.0 ≡ p.looked = gives_one m (see_regions n g len (m Table 0) 0 nothing_seen) i4.1 p.gives in
      record {
        room = ⊎_elim (λ k. absurd (inv_stop m 6 k.1)) (λ k. omega (arith, k.0, inv_le m 5 (m Table 0) most i3.1)) (inv_if_eq m (m Table 0) most _ _ i0.1);
        two = two;
        near = near;
        passed = p;
        spot = clear_spot n c m xs o g len (omega arith) near p;
        meets = subst (λ (l : Looked). behind ≤ l.meets) e (inv_le m 4 behind i4.0.meets i5.1);
        heads = pieces_known i7.1;
        plan = plan_checked m (region_deed c (m Table 0) g len) i7.2;
      }

module _ (n c g len : ℕ) (m : Memory) (xs : List Block) (f : Lists) (o : Row n c m xs) (big : 1 ≤ c) where
  region : (most behind : ℕ) (t : Plan) (k : Admitted most behind n c g len m xs t) (h : Answer) → h ≡ laid_out len (lay c len f k.spot.before len) k.spot.rest → RegionArmoured n c m xs h t
  region most behind t k h e =
      let w = lay c len f k.spot.before len in
      let v = over_is c len f k.spot.before len in
      subst (RegionArmoured n c m xs h) k.plan (record {
        heap = record { blocks = given n c m xs o g len f big k.two k.spot; lists = w.lists };
        stays = region_stays n c m xs o g len f big k.two k.spot;
        only = region_used n c m xs o g len f big k.two k.spot;
        defined = e ∙ ap (λ (j : ℕ). granted (len - j) (record { blocks = w.left ⟨⟩ gaps w.over k.spot.rest; lists = w.lists })) (sym v);
        armoured = turns_armoured n c m xs (region_deed c (m Table 0) g len) _ (region_turns n c m xs o g len f big k.two k.spot k.heads);
      })

  pub insert_armoured : (most : ℕ) (t : Plan) → Gives m (region_script most 0 n c g len) t → RegionArmoured n c m xs (insert c (record { blocks = xs; lists = f }) g len) t
  insert_armoured most t h =
      let k = admitted most 0 n c g len m xs o h in
      region most 0 t k _ (insert_spot c (record { blocks = xs; lists = f }) g len o.order k.two k.spot)

  -- ---- behind another region

  module _ (p : Passed n g len m (m Table 0) 0 nothing_seen) (s : Spot g len xs) (two : 2 ≤ len) where
    -- after a gap no region ended
    gap_before : (l : List Block) → s.before ≡ gap ∷ l → (j : ℕ) → j < m Table 0 → end_of m j ≡ g → ⊥
    gap_before l e j k q =
        let x : g ≡ total l + 1 = sym s.place ∙ ap total e in
        let w : xs ≡ gap ∷ l ⟨⟩ gaps len s.rest = s.whole ∙ ap (λ (t : List Block). t ⟨⟩ gaps len s.rest) e in
        o.given.never (total l) (rw w (at_here l (gaps len s.rest) gap)) (j, k, omega (arith, (o.given.sane j k).0), omega arith)

    -- nor at the arena's start
    none_before : s.before ≡ [] → (j : ℕ) → j < m Table 0 → end_of m j ≡ g → ⊥
    none_before e j k q = omega (arith, (o.given.sane j k).0, s.place, ap total e)

    -- before a gap stands a sentinel, a gap or nothing
    before_out : side_l s.before ≡ out
    before_out = go len (omega arith) (order_split s.before (gaps len s.rest) (subst (Ordered out) s.whole o.order)).1
      where
        go : (k : ℕ) → 1 ≤ k → Ordered (side_l s.before) (gaps k s.rest) → side_l s.before ≡ out
        go zero q o = absurd (omega arith)
        go (suc k) q o = gap_out (side_l s.before) o.0

    -- after a sentinel a region ended
    pub region_ended : (l : List Block) → s.before ≡ last ∷ l → p.looked.meets ≡ 1
    region_ended l e =
        let x : g ≡ total l + 1 = sym s.place ∙ ap total e in
        let w : xs ≡ last ∷ l ⟨⟩ gaps len s.rest = s.whole ∙ ap (λ (t : List Block). t ⟨⟩ gaps len s.rest) e in
        let a : BlockAt (total l) last 0 xs = rw w (at_here l (gaps len s.rest) last) in
        ⊎_elim
        (λ (k : BlockAt (total l) gap 0 xs). absurd (gap_last (one_block (total l) last gap xs o.order a k)))
        (λ (k : InTable m (total l)). ⊎_elim
        (λ (q : end_of m k.0 ≤ g). p.ends k.0 (omega arith) (omega (arith, k.1)) (omega (arith, k.3)))
        (λ (q : g + len ≤ first_of m k.0). absurd (omega (arith, k.2)))
        (p.clear k.0 (omega arith) (omega (arith, k.1))))
        (o.given.either (total l) (omega (arith, spot_inside g len xs s)))

    -- so where one ended, a sentinel stands
    pub sentinel_before : 1 ≤ p.looked.meets → (l : List Block) × (s.before ≡ last ∷ l)
    sentinel_before h = go s.before refl
      where
        alone : ((j : ℕ) → j < m Table 0 → end_of m j ≡ g → ⊥) → ⊥
        alone e = omega (arith, p.alone (λ j u v. e j (omega arith)))

        go : (l : List Block) → s.before ≡ l → (l : List Block) × (s.before ≡ last ∷ l)
        go [] e = absurd (alone (none_before e))
        go (free t ∷ l) e = let q : idle ≡ out = sym (ap side_l e) ∙ before_out in let z : ◌≡◌ {A = ℕ} 0 1 = cc in absurd (omega arith)
        go (used t d ∷ l) e = let q : busy ≡ out = sym (ap side_l e) ∙ before_out in let z : ◌≡◌ {A = ℕ} 0 1 = cc in absurd (omega arith)
        go (last ∷ l) e = (l, e)
        go (gap ∷ l) e = absurd (alone (gap_before l e))

  pub append_armoured : (most : ℕ) (t : Plan) → Gives m (region_script most 1 n c g len) t → RegionArmoured n c m xs (append c (record { blocks = xs; lists = f }) g len) t
  append_armoured most t h =
      let k = admitted most 1 n c g len m xs o h in
      let w = sentinel_before k.passed k.spot k.two k.meets in
      region most 1 t k _ (append_spot c (record { blocks = xs; lists = f }) g len o.order k.two k.spot w.0 w.1)
