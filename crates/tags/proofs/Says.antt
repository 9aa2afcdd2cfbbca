-- What follows from specs/Says.antt.
use Rattle.std.specs.Prelude.{ℕ, suc, ◌+◌, ◌-◌, ◌*◌, ◌/◌, ◌%◌, ◌≤◌, ◌<◌, ◌≡◌, refl, List, [], ◌∷◌}
use Rattle.std.proofs.Common.{arith, ap, sym, ◌∙◌, subst, inl, inr, ⊎_elim}
use Rattle.choice.specs.Choice.{eq_case, le?}
use Rattle.definition.specs.Blocks.{Block, free, used, last, gap, size, total}
use Rattle.invariants.specs.Order.{out, Whole, Ordered}
use Rattle.invariants.proofs.Order.{at_whole}
use Rattle.tags.specs.Tag.{tag_in, Tagged}
use Rattle.tags.proofs.Tagged.{tagged_at}
use Rattle.tags.specs.Says.{Says, free_first, free_last, small, large, wide, pad, sentinel, inner, Covers, Grain}

pub says : (b : Block) (i : ℕ) → Whole b → i < size b → Says b i (tag_in b i)
says (free s) i w h = eq_case (Says (free s) i) i 0 _ _
    (λ e. free_first s refl e refl)
    (λ n. eq_case (Says (free s) i) (suc i) s _ _ (λ e. free_last s refl (omega (arith, n)) e refl) (λ _. inner refl))
says (used s d) i w h = eq_case (Says (used s d) i) i 0 _ _
    (λ e. eq_case (Says (used s d) i) d 1 _ _
    (λ g. small s (ap (used s) g) e refl)
    (λ g. eq_case (Says (used s d) i) d 2 _ _ (λ k. large s (ap (used s) k) e refl)
    (λ k. wide s (d / 2) (ap (used s) (half g)) (two g k) (omega (arith, w.1.within)) e refl)))
    (λ n. eq_case (Says (used s d) i) (suc i) (d / 2) _ _
    (λ e. pad s (d / 2) (ap (used s) (half (omega (arith, n)))) (omega (arith, n)) (omega (arith, w.1.within)) e refl)
    (λ _. inner refl))
  where
    -- the payload of a large kind stands at a grain
    half : (d ≡ 1 → ⊥) → d ≡ 2 * (d / 2)
    half g = ⊎_elim (λ (e : d ≡ 1). absurd (g e)) (λ (e : d % 2 ≡ 0). omega arith) w.1.kind

    two : (d ≡ 1 → ⊥) → (d ≡ 2 → ⊥) → 2 ≤ d / 2
    two g k = omega (arith, half g, w.1.some, g, k)
says last i w h = sentinel refl (omega arith) refl
says gap i w h = inner refl

-- ---- the block of a grain

pub covers : (y p : ℕ) (xs : List Block) → p ≤ y → y < p + total xs → Covers y p xs
covers y p [] h k = absurd (omega arith)
covers y p (b ∷ r) h k = ⊎_elim
    (λ (q : p + size b ≤ y). let c = covers y (p + size b) r q (omega arith) in record { x = c.x; b = c.b; at = inr c.at; low = c.low; high = c.high })
    (λ (q : y < p + size b). record { x = p; b = b; at = inl (refl, refl); low = h; high = q })
    (le? (p + size b) y)

pub grain : (t : ℕ → ℕ) (xs : List Block) → Ordered out xs → Tagged t 0 xs → (y : ℕ) → y < total xs → Grain t y xs
grain t xs o h y k =
    let c = covers y 0 xs (omega arith) (omega arith) in
    let e : c.x + (y - c.x) ≡ y = omega (arith, c.low) in
    let i : y - c.x < size c.b = omega (arith, c.low, c.high) in
    record {
      x = c.x;
      b = c.b;
      i = y - c.x;
      at = c.at;
      place = sym e;
      says = subst (Says c.b (y - c.x)) (sym (tagged_at t c.x c.b 0 xs h c.at (y - c.x) i) ∙ ap t e)
          (says c.b (y - c.x) (at_whole c.x c.b 0 out xs o c.at) i);
    }
