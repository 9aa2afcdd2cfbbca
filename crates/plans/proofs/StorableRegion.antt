-- insert and append write only what can be stored, on any memory that a decoder may show: the pieces are inside the region,
-- each has a list, and the table has room. The table's size is a word.
use Prim.Native.Nat.{ℕ, zero, suc, ◌+◌, ◌-◌, ◌*◌, ◌%◌, ◌^◌, ◌≤◌, ◌<◌}
use Rattle.std.proofs.Math.Nat.{zero-mod, mod-eq-sub-mod}
use Rattle.std.proofs.Common.{mod-eq_of_lt, pow_mono, ap, sym, ◌∙◌, subst}
use native.Mathlib.Omega.{arith}
use Rattle.std.specs.Prelude.{◌≡◌, []}
use Rattle.std.proofs.Math.Logic.{⊎_elim}
use Rattle.choice.specs.Choice.{if_eq, if_le, le_case, le?}
use Rattle.class.specs.Class.{list_of}
use Rattle.class.proofs.Class.{list_small}
use Rattle.script.specs.Memory.{Memory, Table}
use Rattle.script.specs.Script.{done, stop, unless_le, must_eq, must_le, Gives}
use Rattle.script.proofs.Script.{inv_bind, inv_get, inv_le}
use Rattle.sound.proofs.Inverted.{inv_stop, inv_if_eq, inv_if_le}
use Rattle.sound.specs.RegionPlan.{see_regions, entry_writes}
use Rattle.tags.specs.Tag.{end_tag, free_tag, start_tag}
use Rattle.tags.specs.Each.{Each}
use Rattle.tags.proofs.Each.{each_append}
use Rattle.tags.specs.Writes.{piece_tags}
use Rattle.chains.specs.Closed.{Headed, Ready}
use Rattle.chains.proofs.Closed.{ready_append}
use Rattle.plans.specs.Deeds.{Plan, writes}
use Rattle.plans.specs.Checks.{see_head}
use Rattle.plans.proofs.Checked.{head_checked}
use Rattle.plans.proofs.Planned.{plan_checked}
use Rattle.plans.specs.Regions.{piece_size, lay_tags, lay_steps, lay_over, region_deed, see_pieces, region_script}
use Rattle.plans.specs.Storable.{Shows, Storable, at_tag, at_table}
use Rattle.plans.specs.StorableParts.{bounds, Bounded}
use Rattle.plans.proofs.StorableParts.{deed_storable, headed}

-- ---- the pieces

module _ (n c top : ℕ) (m : Memory) (some : 1 ≤ c) where
  two : 2 ≤ 2 ^ c
  two = pow_mono {i = 1} {j = c} some

  -- a piece of k grains can enter its list
  abbrev Opens : ℕ → Type 0
  Opens k = Headed (λ y. y < n) m (list_of (k - 1))

  -- the lists of the full pieces, and of the last one
  abbrev Pieces : ℕ → Type 0
  Pieces len = (2 ^ c ≤ len → Opens (2 ^ c)) × (2 ≤ len % 2 ^ c → Opens (len % 2 ^ c))

  pieces_checked : (len : ℕ) {u : Unit {0}} → Gives m (see_pieces n c len) u → Pieces len
  unfolding see_pieces
  pieces_checked len {u} h =
      let i = inv_bind m (if_le (2 ^ c) len (see_head n (list_of (2 ^ c - 1))) (done (tt {0}))) _ h in (
        λ l. ⊎_elim (λ j. headed n c top m (list_of (2 ^ c - 1)) (head_checked m n (list_of (2 ^ c - 1)) j.1)) (λ j. absurd (omega (arith, l, j.0))) (inv_if_le m (2 ^ c) len _ _ i.1),
        λ l. ⊎_elim (λ j. headed n c top m (list_of (len % 2 ^ c - 1)) (head_checked m n (list_of (len % 2 ^ c - 1)) j.1)) (λ j. absurd (omega (arith, l, j.0)))
            (inv_if_le m 2 (len % 2 ^ c) _ _ i.2),
      )

  -- the first piece, and the pieces after it
  piece_opens : (len : ℕ) → 2 ≤ len → Pieces len → Opens (piece_size c len)
  piece_opens len l h = ⊎_elim
      (λ (p : 2 ^ c ≤ len). let e : 2 ^ c ≡ piece_size c len = omega arith in subst Opens e (h.0 p))
      (λ (p : len < 2 ^ c). let e : len % 2 ^ c ≡ len = mod-eq_of_lt p in let f : len % 2 ^ c ≡ piece_size c len = omega arith in subst Opens f (h.1 (omega arith)))
      (le? (2 ^ c) len)

  later_pieces : (len : ℕ) → Pieces len → Pieces (len - piece_size c len)
  later_pieces len h = (
    λ l. h.0 (omega arith),
    ⊎_elim
        (λ (p : 2 ^ c ≤ len).
        let e : piece_size c len ≡ 2 ^ c = omega arith in
        let f : len % 2 ^ c ≡ (len - piece_size c len) % 2 ^ c = mod-eq-sub-mod p ∙ ap (λ (k : ℕ). (len - k) % 2 ^ c) (sym e) in
        subst (λ (k : ℕ). 2 ≤ k → Opens k) f h.1)
        (λ (p : len < 2 ^ c).
        let e : len - piece_size c len ≡ 0 = omega arith in
        let f : (len - piece_size c len) % 2 ^ c ≡ 0 = ap (λ (k : ℕ). k % 2 ^ c) e ∙ zero-mod (2 ^ c) in
        λ l. absurd (omega arith))
        (le? (2 ^ c) len),
  )

  lay_ready : (i x len : ℕ) → x + len ≤ n → Pieces len → Ready (bounds n c top) m (lay_steps c i x len)
  unfolding lay_steps
  lay_ready zero x len h p = tt
  lay_ready (suc i) x len h p = le_case (Ready (bounds n c top) m) len 1 _ _ (λ _. tt) (λ l.
      let k = piece_size c len in
      let q : 2 ≤ k = omega (arith, two) in
      ((list_small (k - 1) (omega arith) c (omega arith), omega arith, piece_opens len (omega arith) p), lay_ready i (x + k) (len - k) (omega arith) (later_pieces len p)))

  module _ (most : ℕ) where
    piece_tags_lem : (x k : ℕ) → 2 ≤ k → k ≤ 2 ^ c → x + k ≤ n → Each (Storable n c top most) (piece_tags x k)
    piece_tags_lem x k p q h = (
      at_tag {x = x + (k - 1) - 1} {v = end_tag (k - 1)} (omega arith) (omega arith),
      (at_tag {x = x} {v = free_tag (k - 1)} (omega arith) (omega arith), (at_tag {x = x + (k - 1)} {v = start_tag 1} (omega arith) (omega (arith, two)), tt)),
    )

    lay_tags_lem : (i x len : ℕ) → x + len ≤ n → Each (Storable n c top most) (lay_tags c i x len)
    unfolding lay_tags
    lay_tags_lem zero x len h = tt
    lay_tags_lem (suc i) x len h = le_case (Each (Storable n c top most)) len 1 _ _ (λ _. tt) (λ l.
        let k = piece_size c len in
        let q : 2 ≤ k = omega (arith, two) in
        each_append (Storable n c top most) (piece_tags x k) (lay_tags c i (x + k) (len - k)) (piece_tags_lem x k q (omega arith) (omega arith)) (lay_tags_lem i (x + k) (len - k) (omega arith)))

    -- ---- region r, of len grains from g on

    region_bounded : (r g len : ℕ) → n < top → most < top → r < most → 2 ≤ len → g + len ≤ n → Pieces len → Bounded n c top most m (region_deed c r g len)
    region_bounded r g len l k f e h p = record {
      steps = ready_append (bounds n c top) m (lay_steps c len g len) [] (lay_ready len g len h p) tt;
      guards = tt;
      records = each_append (Storable n c top most) (lay_tags c len g len) (entry_writes r g (g + (len - lay_over c len len))) (lay_tags_lem len g len h) (
        at_table {i = 2 * r + 1} {v = g} (omega arith) (omega arith),
        (at_table {i = 2 * r + 2} {v = g + (len - lay_over c len len)} (omega arith) (omega arith), (at_table {i = 0} {v = suc r} (omega arith) (omega arith), tt)),
      );
    }

pub region_storable : (most behind n c g len : ℕ) (m : Memory) (top : ℕ) {t : Plan} → Shows n c top m → most < top → Gives m (region_script most behind n c g len) t
    → Each (Storable n c top most) (writes t)
unfolding region_script
region_storable most behind n c g len m top {t} s k h =
    let r = m Table 0 in
    let i0 = inv_bind m (if_eq r most (stop 6) _) _ (inv_get m Table 0 _ h) in
    let i1 = inv_bind m (unless_le 4 2 len) _ i0.2 in
    let i2 = inv_bind m (unless_le 4 (g + len) n) _ i1.2 in
    let i3 = inv_bind m (must_le r most) _ i2.2 in
    let i4 = inv_bind m (see_regions n g len r 0 (record { meets = 0; wrong = 0 })) _ i3.2 in
    let i5 = inv_bind m (unless_le 4 behind i4.0.meets) _ i4.2 in
    let i6 = inv_bind m (must_eq i4.0.wrong 0) _ i5.2 in
    let i7 = inv_bind m (see_pieces n c len) _ i6.2 in
    let ne : r ≡ most → ⊥ = ⊎_elim (λ a. absurd (inv_stop m 6 a.1)) (λ a. a.0) (inv_if_eq m r most _ _ i0.1) in
    let d = region_deed c r g len in
    subst (λ (t : Plan). Each (Storable n c top most) (writes t)) (plan_checked m d i7.2) (deed_storable n c top most m d s (region_bounded n c top m s.some most r g len s.grains k
    (omega (arith, ne, inv_le m 5 r most i3.1)) (inv_le m 4 2 len i1.1) (inv_le m 4 (g + len) n i2.1) (pieces_checked n c top m s.some len i7.1)))
