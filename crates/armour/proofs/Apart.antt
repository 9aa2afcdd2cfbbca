-- What follows from specs/Apart.antt.
use Rattle.std.specs.Prelude.{ℕ, ◌+◌, ◌-◌, ◌/◌, ◌%◌, ◌≤◌, ◌<◌, ◌≡◌, List, [], ◌∷◌, ◌⊎◌}
use Rattle.std.proofs.Common.{arith, ap, sym, ◌∙◌, subst, inl, inr, ⊎_elim}
use Rattle.choice.specs.Choice.{le?}
use Rattle.definition.specs.Blocks.{Block, free, used, last, gap, size, total, ◌⟨⟩◌, room, past}
use Rattle.definition.specs.Calls.{wanted, place, keeps}
use Rattle.invariants.specs.Order.{out, Inside, Ordered, some, order_split, BlockAt, at_here, Apart, same, before, behind}
use Rattle.invariants.proofs.Order.{at_whole, apart, one_block}
use Rattle.invariants.specs.Moves.{free_used}
use Rattle.invariants.specs.Placing.{Align}
use Rattle.invariants.proofs.Placing.{align_pos, keeps_wanted}
use Rattle.script.specs.Memory.{Memory, Write, apply, Spared}
use Rattle.script.proofs.Memory.{apply_spared}
use Rattle.tags.specs.Tag.{Tag, flags, START, FREE, Tagged}
use Rattle.tags.proofs.Tagged.{tagged_split}
use Rattle.tags.specs.Each.{Each}
use Rattle.tags.specs.Decode.{RoomIs}
use Rattle.tags.proofs.Decode.{behind_tag, before_tag}
use Rattle.tags.specs.Within.{Within}
use Rattle.armour.proofs.Known.{no_room}
use Rattle.armour.specs.Apart.{Cramped}

-- ---- tags outside a span stay

within_spares : (x k y : ℕ) → (y < x) ⊎ (x + k ≤ y) → (w : List Write) → Each (Within x k) w → Spared Tag y w
within_spares x k y h [] e = tt
within_spares x k y h (w ∷ l) e =
    ((λ _ q. ⊎_elim (λ (i : y < x). omega (arith, e.0.0)) (λ (i : x + k ≤ y). omega (arith, e.0.1)) h), within_spares x k y h l e.1)

pub outside_same : (m : Memory) (x k y : ℕ) (w : List Write) → (y < x) ⊎ (x + k ≤ y) → Each (Within x k) w → apply m w Tag y ≡ m Tag y
outside_same m x k y w h e = apply_spared m w Tag y (within_spares x k y h w e)

-- one tag tells one room
room_same : {v u k a b : ℕ} → RoomIs v u k a → RoomIs v u k b → a ≡ b
room_same {v} {u} {k} {a} {b} i j = go i.room j.room
  where
    go : ((v ≡ k) × (u ≡ a) × (1 ≤ a)) ⊎ ((v ≡ k → ⊥) × (a ≡ 0)) → ((v ≡ k) × (u ≡ b) × (1 ≤ b)) ⊎ ((v ≡ k → ⊥) × (b ≡ 0)) → a ≡ b
    go (inl g) (inl h) = sym g.1 ∙ h.1
    go (inl g) (inr h) = absurd (h.0 g.0)
    go (inr g) (inl h) = absurd (g.0 h.0)
    go (inr g) (inr h) = g.1 ∙ sym h.1

-- the free grains beside a used block are told by the two tags next to it
pub rooms_same : (m u : Memory) (l r k q : List Block) (s d : ℕ) → Ordered out (l ⟨⟩ used s d ∷ r) → Ordered out (k ⟨⟩ used s d ∷ q) → Tagged (m Tag) 0 (l ⟨⟩ used s d ∷ r) → Tagged (u Tag) 0 (k ⟨⟩ used s d ∷ q)
    → total l ≡ total k → u Tag (total l + s) ≡ m Tag (total l + s) → (1 ≤ total l → u Tag (total l - 1) ≡ m Tag (total l - 1)) → (room l ≡ room k) × (room r ≡ room q)
rooms_same m u l r k q s d ol ok tl tk e ea eb =
    let i = order_split l (used s d ∷ r) ol in
    let j = order_split k (used s d ∷ q) ok in
    let v = tagged_split (m Tag) l (used s d ∷ r) tl in
    let w = tagged_split (u Tag) k (used s d ∷ q) tk in (
      ⊎_elim
          (λ (p : 1 ≤ total l).
          let b = before_tag (u Tag) k j.0 w.0 (omega arith) in
          let g : u Tag (total k - 1) ≡ m Tag (total l - 1) = ap (λ (x : ℕ). u Tag (x - 1)) (sym e) ∙ eb p in
          room_same (before_tag (m Tag) l i.0 v.0 p) (subst (λ (x : ℕ). RoomIs (x % START) (x / flags) FREE (room k)) g b))
          (λ (p : total l < 1). no_room l i.0 (omega arith) ∙ sym (no_room k j.0 (omega arith)))
          (le? 1 (total l)),
      (let b = behind_tag (u Tag) (total k + s) q j.1.2 w.1.1 in
          let g : u Tag (total k + s) ≡ m Tag (total l + s) = ap (λ (x : ℕ). u Tag (x + s)) (sym e) ∙ ea in
          room_same (behind_tag (m Tag) (total l + s) r i.1.2 v.1.1) (subst (λ (x : ℕ). RoomIs (x % flags) (x / flags) (START + FREE) (room q)) g b)),
    )

-- ---- a free block beside a used one is what its neighbour is

module _ (l r : List Block) (s d : ℕ) (o : Ordered out (l ⟨⟩ used s d ∷ r)) (y g : ℕ) (b : BlockAt y (free g) 0 (l ⟨⟩ used s d ∷ r)) where
  some_grains : 1 ≤ g
  some_grains = at_whole y (free g) 0 out (l ⟨⟩ used s d ∷ r) o b

  -- after it
  after_room : y ≡ total l + s → room r ≡ g
  after_room e = go r o (subst (λ (y : ℕ). BlockAt y (free g) 0 (l ⟨⟩ used s d ∷ r)) e b)
    where
      other : (q : Block) (r : List Block) → Ordered out (l ⟨⟩ used s d ∷ q ∷ r) → BlockAt (total l + s) (free g) 0 (l ⟨⟩ used s d ∷ q ∷ r) → q ≡ free g
      other q r o h = one_block (total l + s) q (free g) (l ⟨⟩ used s d ∷ q ∷ r) o (at_here (used s d ∷ l) r q) h

      go : (r : List Block) → Ordered out (l ⟨⟩ used s d ∷ r) → BlockAt (total l + s) (free g) 0 (l ⟨⟩ used s d ∷ r) → room r ≡ g
      go [] o h = absurd (order_split l (used s d ∷ []) o).1.2
      go (free t ∷ r) o h = let e : free t ≡ free g = other (free t) r o h in cc
      go (used t v ∷ r) o h = absurd (free_used (other (used t v) r o h))
      go (last ∷ r) o h = let e : last ≡ free g = other last r o h in let z : ◌≡◌ {A = ℕ} 0 1 = cc in absurd (omega arith)
      go (gap ∷ r) o h = let e : gap ≡ free g = other gap r o h in let z : ◌≡◌ {A = ℕ} 0 1 = cc in absurd (omega arith)

  -- before it
  before_room : y + g ≡ total l → (room l ≡ g) × (total (past l) ≡ y)
  before_room e = go l o b e
    where
      meets : (q : Block) (l : List Block) → Ordered out (q ∷ l ⟨⟩ used s d ∷ r) → BlockAt y (free g) 0 (q ∷ l ⟨⟩ used s d ∷ r) → y + g ≡ total (q ∷ l) → (total l ≡ y) × (q ≡ free g)
      meets q l o h e = end (apart (total l) y 0 q (free g) (l ⟨⟩ q ∷ used s d ∷ r) (at_here l (used s d ∷ r) q) h)
        where
          w : 1 ≤ size q
          w = some q (at_whole (total l) q 0 out (l ⟨⟩ q ∷ used s d ∷ r) o (at_here l (used s d ∷ r) q))

          end : Apart (total l) q y (free g) → (total l ≡ y) × (q ≡ free g)
          end (same a b) = (a, b)
          end (before a) = absurd (omega (arith, some_grains))
          end (behind a) = absurd (omega (arith, w))

      go : (l : List Block) → Ordered out (l ⟨⟩ used s d ∷ r) → BlockAt y (free g) 0 (l ⟨⟩ used s d ∷ r) → y + g ≡ total l → (room l ≡ g) × (total (past l) ≡ y)
      go [] o h e = absurd (omega (arith, some_grains))
      go (free t ∷ l) o h e = let k = meets (free t) l o h e in let q = k.1 in (cc, k.0)
      go (used t v ∷ l) o h e = absurd (free_used (meets (used t v) l o h e).1)
      go (last ∷ l) o h e = let q = (meets last l o h e).1 in let z : ◌≡◌ {A = ℕ} 0 1 = cc in absurd (omega arith)
      go (gap ∷ l) o h e = let q = (meets gap l o h e).1 in let z : ◌≡◌ {A = ℕ} 0 1 = cc in absurd (omega arith)

-- ---- what is taken is no neighbour

pub far : (p a : ℕ) (l r : List Block) (s d : ℕ) → Align a → Ordered out (l ⟨⟩ used s d ∷ r) → Cramped p a l r s d → (y g : ℕ) → BlockAt y (free g) 0 (l ⟨⟩ used s d ∷ r) → wanted p a ≤ g
    → (y + g < total l) ⊎ (total l + s < y)
far p a l r s d al o k y g b enough = go (apart (total l) y 0 (used s d) (free g) (l ⟨⟩ used s d ∷ r) (at_here l r (used s d)) b)
  where
    inside : (1 ≤ s) × Inside s d
    inside = (order_split l (used s d ∷ r) o).1.1

    not_after : total l + s ≡ y → ⊥
    not_after e = omega (arith, after_room l r s d o y g b (sym e), k.after, inside.1.within, align_pos a al)

    not_before : y + g ≡ total l → ⊥
    not_before e =
        let q = before_room l r s d o y g b e in
        ⊎_elim
        (λ (z : room l ≡ 0). omega (arith, q.0, some_grains l r s d o y g b))
        (λ (z : room l + (s + room r) < keeps (place a (total (past l))) p). omega (arith, q.0, keeps_wanted a (total (past l)) p (align_pos a al)))
        k.before

    go : Apart (total l) (used s d) y (free g) → (y + g < total l) ⊎ (total l + s < y)
    go (same e q) = absurd (free_used q)
    go (before e) = inr (omega (arith, not_after))
    go (behind e) = inl (omega (arith, not_before))

-- nor does it overlap one
pub clear : (p a : ℕ) (l r : List Block) (s d : ℕ) → Align a → Ordered out (l ⟨⟩ used s d ∷ r) → Cramped p a l r s d → (y g : ℕ) → BlockAt y (free g) 0 (l ⟨⟩ used s d ∷ r) → wanted p a ≤ g
    → (y + g ≤ total (past l)) ⊎ (total l + (s + room r) ≤ y)
clear p a l r s d al o k y g b enough = ⊎_elim (λ (h : y + g < total l). inl (low l o b h)) (λ (h : total l + s < y). inr (high r o b h)) (far p a l r s d al o k y g b enough)
  where
    low : (l : List Block) → Ordered out (l ⟨⟩ used s d ∷ r) → BlockAt y (free g) 0 (l ⟨⟩ used s d ∷ r) → y + g < total l → y + g ≤ total (past l)
    low [] o b h = omega arith
    low (free t ∷ l) o b h = end (apart (total l) y 0 (free t) (free g) (l ⟨⟩ free t ∷ used s d ∷ r) (at_here l (used s d ∷ r) (free t)) b)
      where
        end : Apart (total l) (free t) y (free g) → y + g ≤ total l
        end (same e q) = let z : t ≡ g = cc in absurd (omega arith)
        end (before e) = absurd (omega arith)
        end (behind e) = e
    low (used t v ∷ l) o b h = omega arith
    low (last ∷ l) o b h = omega arith
    low (gap ∷ l) o b h = omega arith

    high : (r : List Block) → Ordered out (l ⟨⟩ used s d ∷ r) → BlockAt y (free g) 0 (l ⟨⟩ used s d ∷ r) → total l + s < y → total l + (s + room r) ≤ y
    high [] o b h = omega arith
    high (free t ∷ r) o b h = end (apart (total l + s) y 0 (free t) (free g) (l ⟨⟩ used s d ∷ free t ∷ r) (at_here (used s d ∷ l) r (free t)) b)
      where
        end : Apart (total l + s) (free t) y (free g) → total l + (s + t) ≤ y
        end (same e q) = absurd (omega arith)
        end (before e) = omega arith
        end (behind e) = absurd (omega (arith, at_whole y (free g) 0 out (l ⟨⟩ used s d ∷ free t ∷ r) o b))
    high (used t v ∷ r) o b h = omega arith
    high (last ∷ r) o b h = omega arith
    high (gap ∷ r) o b h = omega arith
