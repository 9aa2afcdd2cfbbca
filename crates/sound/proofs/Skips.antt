-- The free blocks beside a used one leave their lists: the writes that do it, in memory, and which grains are then in no
-- list. Return and resize swallow their neighbours so. The two neighbours may stand beside each other in one list: what
-- is read of the second before anything is written is put right by `afterwards`.
use Rattle.std.specs.Prelude.{ℕ, ◌+◌, ◌≤◌, ◌<◌, ◌≡◌, refl, List, [], ◌∷◌}
use Rattle.std.proofs.Common.{sym, subst}
use Rattle.class.specs.Class.{list_of}
use Rattle.definition.specs.Blocks.{Block, free, used, last, gap, total, ◌⟨⟩◌, room, past}
use Rattle.definition.specs.Lists.{Lists, skip}
use Rattle.invariants.specs.Order.{BlockAt, at_here}
use Rattle.invariants.specs.Members.{Mem, Apiece, mem_drop}
use Rattle.invariants.specs.Moves.{Sane}
use Rattle.invariants.proofs.Moves.{used_unlisted}
use Rattle.invariants.proofs.Neighbours.{swallow, swallow_behind}
use Rattle.script.specs.Memory.{Memory, Next, Prev, Write, apply}
use Rattle.script.proofs.Memory.{apply_is}
use Rattle.sound.specs.Chain.{Real}
use Rattle.sound.specs.Strung.{Strung}
use Rattle.sound.specs.Sound.{Sound}
use Rattle.sound.specs.Checks.{Beside}
use Rattle.sound.specs.Plans.{leaves, afterwards, both_leave}
use Rattle.sound.specs.Relists.{Relists, NotIn, Fewer}
use Rattle.sound.proofs.Relists.{relists_none, relists_drop, relists_then}
use Rattle.sound.proofs.Seen.{lists_real}
use Rattle.sound.specs.SeenBeside.{Here, beside}

-- ---- one free block, at y, that stands first

-- it leaves its list, if it is in one
skips : (m : Memory) (f : Lists) → Apiece f → Real f → Strung m f → (r : List Block) (y : ℕ)
    → ((t : ℕ) (q : List Block) → r ≡ free t ∷ q → Mem y (f (list_of t))) → Relists m f (leaves (beside m r y)) (skip r y f)
skips m f o i s [] y at = relists_none m f o i s
skips m f o i s (free t ∷ r) y at = relists_drop m f o i s (list_of t) y (m Next y) (m Prev y) (at t r refl) refl refl
skips m f o i s (used t d ∷ r) y at = relists_none m f o i s
skips m f o i s (last ∷ r) y at = relists_none m f o i s
skips m f o i s (gap ∷ r) y at = relists_none m f o i s

-- no list gets another member
fewer : (f : Lists) → Apiece f → (r : List Block) (y : ℕ) → Fewer (skip r y f) f
fewer f o [] y k u i = i
fewer f o (free t ∷ r) y k u i = mem_drop f o (list_of t) y k u i
fewer f o (used t d ∷ r) y k u i = i
fewer f o (last ∷ r) y k u i = i
fewer f o (gap ∷ r) y k u i = i

-- what was read of it, put right, is what the memory says after the writes w
seen_after : (m : Memory) (w : List Write) (l : List Block) (z : ℕ) → afterwards w z (beside m l z) ≡ beside (apply m w) l z
seen_after m w [] z = refl
seen_after m w (free t ∷ l) z = rw (apply_is m w Next z, apply_is m w Prev z) refl
seen_after m w (used t d ∷ l) z = refl
seen_after m w (last ∷ l) z = refl
seen_after m w (gap ∷ l) z = refl

-- ---- those beside a used block

module _ (n c : ℕ) (m : Memory) (f : Lists) (l r : List Block) (s d : ℕ) (o : Sound n c m (Here f l (used s d) r)) where
  -- the heap when the one behind has left its list
  swallowed : Sane c (l ⟨⟩ used (s + room r) d ∷ past r) (skip r (total l + s) f)
  swallowed = swallow_behind c f l r s d o.heap

  -- the one behind leaves its list
  pub skips_behind : Relists m f (leaves (beside m r (total l + s))) (skip r (total l + s) f)
  skips_behind = skips m f o.heap.exact.apiece (lists_real n c m (Here f l (used s d) r) o) o.strung r (total l + s)
      (λ t q e. o.heap.exact.listed (total l + s) t
      (subst (λ (a : List Block). BlockAt (total l + s) (free t) 0 (l ⟨⟩ used s d ∷ a)) (sym e) (at_here (used s d ∷ l) q (free t))))

  -- no list gets a member by it
  pub fewer_behind : Fewer (skip r (total l + s) f) f
  fewer_behind = fewer f o.heap.exact.apiece r (total l + s)

  -- and then the one before
  pub skips_both : Relists m f (both_leave (beside m r (total l + s)) (total (past l)) (beside m l (total (past l)))) (skip l (total (past l)) (skip r (total l + s) f))
  skips_both =
      let z = total (past l) in
      let w = leaves (beside m r (total l + s)) in
      let g = skip r (total l + s) f in
      let a = skips_behind in
      let b : Relists (apply m w) g (leaves (beside (apply m w) l z)) (skip l z g) = skips (apply m w) g a.apiece a.real a.strung l z
      (λ t q e. swallowed.exact.listed z t
      (subst (λ (v : List Block). BlockAt (total (past v)) (free t) 0 (v ⟨⟩ used (s + room r) d ∷ past r)) (sym e) (at_here q (used (s + room r) d ∷ past r) (free t)))) in
      relists_then m f g (skip l z g) w (leaves (afterwards w z (beside m l z))) fewer_behind a
      (subst (λ (v : Beside). Relists (apply m w) g (leaves v) (skip l z g)) (sym (seen_after m w l z)) b)

  -- by both, none either
  pub fewer_both : Fewer (skip l (total (past l)) (skip r (total l + s) f)) f
  fewer_both k y i = fewer_behind k y (fewer (skip r (total l + s) f) swallowed.exact.apiece l (total (past l)) k y i)

  -- what the block swallows behind it is in no list
  pub not_in_behind : (u : ℕ) → total l ≤ u → u < total l + (s + room r) → NotIn (skip r (total l + s) f) u
  not_in_behind = used_unlisted c _ _ (total l) (s + room r) d swallowed (at_here l (past r) (used (s + room r) d))

  -- nor what it swallows on both sides
  pub not_in_both : (u : ℕ) → total (past l) ≤ u → u < total (past l) + (room l + (s + room r)) → NotIn (skip l (total (past l)) (skip r (total l + s) f)) u
  not_in_both = used_unlisted c _ _ (total (past l)) (room l + (s + room r)) 1 (swallow c f l r s d o.heap) (at_here (past l) (past r) (used (room l + (s + room r)) 1))
