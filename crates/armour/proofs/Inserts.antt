-- What follows from specs/Inserts.antt.
use Rattle.std.specs.Prelude.{ℕ, suc, ◌+◌, ◌-◌, ◌*◌, ◌≤◌, ◌<◌, ◌≡◌, refl, List, [], ◌∷◌, ◌++◌, ◌⊎◌}
use Rattle.std.proofs.Common.{arith, ap, sym, ◌∙◌, subst, inl, inr, ⊎_elim}
use Rattle.choice.specs.Choice.{upd_same, upd_other}
use Rattle.definition.specs.Blocks.{Block, free, used, last, gap, total, ◌⟨⟩◌, gaps}
use Rattle.definition.specs.Lists.{Lists}
use Rattle.definition.specs.Calls.{Laid, lay}
use Rattle.invariants.specs.Order.{out, Ordered, BlockAt, LeftAt, at_split, at_join}
use Rattle.invariants.proofs.Order.{total_zip}
use Rattle.invariants.specs.Pieces.{pieces, Listed}
use Rattle.invariants.specs.Moves.{Sane, free_used}
use Rattle.invariants.specs.Gaps.{Spot, total_gaps}
use Rattle.invariants.proofs.Gaps.{gaps_spot, gaps_behind, gaps_cases, gap_used}
use Rattle.invariants.proofs.Regions.{lay_ok, lay_total, lay_old, lay_keeps}
use Rattle.script.specs.Memory.{Memory, Table, apply}
use Rattle.script.proofs.Memory.{apply_append, apply_untouched}
use Rattle.script.specs.Script.{no, run}
use Rattle.sound.specs.Sound.{InTable}
use Rattle.sound.specs.RegionPlan.{see_regions, entry_writes}
use Rattle.sound.specs.RegionTable.{first_of, end_of, Overlap, Passed, Longer, Filled}
use Rattle.sound.proofs.RegionTable.{look, given_more, filled}
use Rattle.tags.specs.Tag.{Tag, Tagged}
use Rattle.tags.specs.Each.{Each}
use Rattle.tags.proofs.Each.{each_append, each_untouched}
use Rattle.chains.specs.Closed.{Headed, Ready}
use Rattle.chains.proofs.Closed.{ready_append}
use Rattle.plans.specs.Regions.{lay_tags, lay_steps, lay_over, region_deed}
use Rattle.armour.specs.Row.{Row, Free}
use Rattle.armour.specs.Listing.{listing}
use Rattle.armour.proofs.Listing.{listing_sane}
use Rattle.armour.specs.Turns.{link_bounds, Record, Turns}
use Rattle.armour.proofs.Changed.{tags_records}
use Rattle.armour.specs.Laid.{Heads}
use Rattle.armour.proofs.Laid.{lay_blocks, over_is, lay_field, lay_tagged, lay_ready}
use Rattle.armour.specs.Inserts.{nothing_seen}

-- the pieces that are laid have no used block
pub lay_used : (c i : ℕ) (f : Lists) (l : List Block) (n y s d : ℕ) → LeftAt y (used s d) (lay c i f l n).left → LeftAt y (used s d) l
lay_used c i f l n y s d = lay_keeps c (λ w. LeftAt y (used s d) w.left → LeftAt y (used s d) l) (λ w h o. old w.left o) i (record { left = l; over = n; lists = f }) (λ h. h)
  where
    old : {t : ℕ} (k : List Block) → (LeftAt y (used s d) k → LeftAt y (used s d) l) → LeftAt y (used s d) (last ∷ free t ∷ k) → LeftAt y (used s d) l
    old k o (inl h) = let e : last ≡ used s d = h.1 in let z : ◌≡◌ {A = ℕ} 0 1 = cc in absurd (omega arith)
    old k o (inr (inl h)) = absurd (free_used (sym h.1))
    old k o (inr (inr h)) = o h

-- ---- the table gets one more region

module _ (m q : Memory) (g e : ℕ) (h : q Table ≡ m Table) where
  abbrev pub entered : Memory
  entered = apply q (entry_writes (m Table 0) g e)

  other : (i : ℕ) → (i ≡ 0 → ⊥) → (i ≡ 2 * m Table 0 + 1 → ⊥) → (i ≡ 2 * m Table 0 + 2 → ⊥) → entered Table i ≡ m Table i
  other i a b c = upd_other _ 0 (suc (m Table 0)) i a ∙ upd_other _ (2 * m Table 0 + 2) e i c ∙ upd_other (q Table) (2 * m Table 0 + 1) g i b ∙ ap (λ (t : ℕ → ℕ). t i) h

  pub longer : Longer m entered g e
  longer = record {
    count = upd_same _ 0 (suc (m Table 0)) 0 refl;
    old = λ j k. (other (2 * j + 1) (omega arith) (omega arith) (omega arith), other (2 * j + 2) (omega arith) (omega arith) (omega arith));
    new = (
      upd_other _ 0 (suc (m Table 0)) (2 * m Table 0 + 1) (omega arith) ∙ upd_other _ (2 * m Table 0 + 2) e (2 * m Table 0 + 1) (omega arith) ∙ upd_same (q Table) (2 * m Table 0 + 1) g _ refl,
      upd_other _ 0 (suc (m Table 0)) (2 * m Table 0 + 2) (omega arith) ∙ upd_same _ (2 * m Table 0 + 2) e (2 * m Table 0 + 2) refl,
    );
  }

-- ---- what was looked at

module _ (n c : ℕ) (m : Memory) (xs : List Block) (o : Row n c m xs) (g len : ℕ) where
  -- grains that no region overlaps are gaps
  pub clear_spot : 1 ≤ len → g + len ≤ n → Passed n g len m (m Table 0) 0 nothing_seen → Spot g len xs
  clear_spot some near p = gaps_spot g len xs some o.order (λ y u v. ⊎_elim
      (λ (k : BlockAt y gap 0 xs). k)
      (λ (k : InTable m y). absurd (⊎_elim
      (λ (a : end_of m k.0 ≤ g). omega (arith, k.3))
      (λ (a : g + len ≤ first_of m k.0). omega (arith, k.2))
      (p.clear k.0 (omega arith) (omega (arith, k.1)))))
      (o.given.either y (omega (arith, o.whole))))

  pub looked_at : 1 ≤ len → ((run m (see_regions n g len (m Table 0) 0 nothing_seen) ≡ no 4) × Overlap m g len) ⊎ Passed n g len m (m Table 0) 0 nothing_seen
  looked_at some = look n g len m some (λ j u. let s = o.given.sane j u in (s.0, omega (arith, s.1, o.whole))) (m Table 0) 0 nothing_seen (omega arith)

  -- ---- the deed

  module _ (f : Lists) (big : 1 ≤ c) (two : 2 ≤ len) (p : Spot g len xs) where
    abbrev pub laying : Laid
    laying = lay c len f p.before len

    abbrev pub given : List Block
    given = (lay c len f p.before len).left ⟨⟩ gaps (lay c len f p.before len).over p.rest

    ordered : Sane c (p.before ⟨⟩ gaps len p.rest) (listing 0 xs)
    ordered = subst (λ (zs : List Block). Sane c zs (listing 0 xs)) p.whole (listing_sane c xs o.order o.short)

    given_sane : Ordered out given × Listed c (pieces 0 given)
    given_sane =
        let h = lay_ok c big len (listing 0 xs) p.before len p.rest ordered in
        let b = lay_blocks c len (listing 0 xs) f p.before len in
        let e : (lay c len (listing 0 xs) p.before len).left ⟨⟩ gaps (lay c len (listing 0 xs) p.before len).over p.rest ≡ given = rw (b.0, b.1) refl in
        (subst (Ordered out) e h.order, subst (λ (zs : List Block). Listed c (pieces 0 zs)) e h.short)

    abbrev pub ends : ℕ
    ends = g + (len - lay_over c len len)

    over : lay_over c len len ≡ (lay c len f p.before len).over
    over = over_is c len f p.before len

    entry_records : (r a e : ℕ) → Each Record (entry_writes r a e)
    entry_records r a e = (inr refl, (inr refl, (inr refl, tt)))

    region_row : Row n c (apply m (lay_tags c len g len ++ entry_writes (m Table 0) g ends)) given
    region_row =
        let w = lay_tags c len g len in
        let q = apply m w in
        let t : q Table ≡ m Table = apply_untouched m w Table (each_untouched Tag Table w (omega arith) (lay_field c len g len)) in
        let e = over in
        let tags : Tagged (q Tag) 0 given = lay_tagged c len f m p.before p.rest g len big (sym p.place) (subst (λ (zs : List Block). Tagged (m Tag) 0 zs) p.whole o.tags) in
        subst (λ (u : Memory). Row n c u given) (sym (apply_append m w (entry_writes (m Table 0) g ends))) (record {
          order = given_sane.0;
          short = given_sane.1;
          whole = omega (
            arith,
            lay_total c big len f p.before len,
            ap total p.whole,
            total_zip p.before (gaps len p.rest),
            total_gaps len p.rest,
            total_zip laying.left (gaps laying.over p.rest),
            total_gaps laying.over p.rest,
            o.whole,
          );
          tags = subst (λ (t : ℕ → ℕ). Tagged t 0 given) (sym (apply_untouched q (entry_writes (m Table 0) g ends) Tag (omega arith, (omega arith, (omega arith, tt))))) tags;
          given = given_more m (entered m q g ends t) xs given g ends o.given (longer m q g ends t)
              (subst (λ (j : ℕ). Filled xs given g (g + (len - j))) (sym e) (filled c big f g len xs p two o.order));
        })

    region_ready : Heads c (Headed (Free xs) m) len → Ready (link_bounds c xs given) m (lay_steps c len g len ++ [])
    region_ready h = ready_append (link_bounds c xs given) m (lay_steps c len g len) [] (lay_ready c len f m xs given p.before p.rest g len big (sym p.place) h
        (λ y s k. (s, at_join y (free s) laying.left (gaps laying.over p.rest) (inl k)))) tt

    -- no used block comes
    pub region_used : (x s d : ℕ) → BlockAt x (used s d) 0 given → BlockAt x (used s d) 0 xs
    region_used x s d b =
        let e = lay_total c big len f p.before len in
        subst (λ (zs : List Block). BlockAt x (used s d) 0 zs) (sym p.whole) (at_join x (used s d) p.before (gaps len p.rest) (⊎_elim
        (λ (h : LeftAt x (used s d) laying.left). inl (lay_used c len f p.before len x s d h))
        (λ (h : BlockAt x (used s d) (total laying.left) (gaps laying.over p.rest)). ⊎_elim
        (λ (k : (total laying.left ≤ x) × (x < total laying.left + laying.over) × (gap ≡ used s d)). absurd (gap_used (sym k.2)))
        (λ (k : BlockAt x (used s d) (total laying.left + laying.over) p.rest). inr (gaps_behind len x (total p.before) (used s d) p.rest (rw e at k)))
        (gaps_cases laying.over x (total laying.left) (used s d) p.rest h))
        (at_split x (used s d) laying.left (gaps laying.over p.rest) b)))

    -- and none goes
    pub region_stays : (x s d : ℕ) → BlockAt x (used s d) 0 xs → BlockAt x (used s d) 0 given
    region_stays x s d b =
        let e = lay_total c big len f p.before len in
        at_join x (used s d) laying.left (gaps laying.over p.rest) (⊎_elim
        (λ (h : LeftAt x (used s d) p.before). inl (lay_old c big len f p.before len x (used s d) h))
        (λ (h : BlockAt x (used s d) (total p.before) (gaps len p.rest)). ⊎_elim
        (λ (k : (total p.before ≤ x) × (x < total p.before + len) × (gap ≡ used s d)). absurd (gap_used (sym k.2)))
        (λ (k : BlockAt x (used s d) (total p.before + len) p.rest). inr (gaps_behind laying.over x (total laying.left) (used s d) p.rest (rw (sym e) at k)))
        (gaps_cases len x (total p.before) (used s d) p.rest h))
        (at_split x (used s d) p.before (gaps len p.rest) (subst (λ (zs : List Block). BlockAt x (used s d) 0 zs) p.whole b)))

    pub region_turns : Heads c (Headed (Free xs) m) len → Turns n c m xs (region_deed c (m Table 0) g len) given
    region_turns h = record {
      row = region_row;
      records = each_append Record (lay_tags c len g len) (entry_writes (m Table 0) g ends) (tags_records (lay_tags c len g len) (lay_field c len g len)) (entry_records (m Table 0) g ends);
      ready = region_ready h;
      guards = tt;
      users = tt;
      used_before = λ x s d b. inr (s, d, region_used x s d b);
    }
