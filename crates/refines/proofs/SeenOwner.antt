-- The block of a live payload: the tags tell it, whatever stands in the arena and in the lists. And each payload is live or
-- not. That one which is not live is refused is in armour, Dead.
use Rattle.std.specs.Prelude.{ℕ, suc, ◌+◌, ◌-◌, ◌*◌, ◌/◌, ◌%◌, ◌≤◌, ◌≡◌, refl, List, [], ◌∷◌, ◌⊎◌}
use native.Mathlib.Omega.{arith}
use Rattle.std.proofs.Common.{ap, ◌∙◌, inl, inr}
use Rattle.std.proofs.Math.Path.{subst}
use Rattle.std.proofs.Math.Logic.{⊎_elim}
use Rattle.choice.specs.Choice.{if_eq, eq_yes, eq_no, same?}
use Rattle.definition.specs.Blocks.{Block, free, used, last, gap, size}
use Rattle.invariants.specs.Order.{out, Whole, Inside, BlockAt}
use Rattle.invariants.proofs.Order.{at_whole}
use Rattle.script.specs.Memory.{Memory}
use Rattle.script.specs.Script.{done, unless_eq, unless_le, must_eq, must_le, run, Gives}
use Rattle.script.proofs.Script.{gives_bind, gives_get, gives_eq, gives_le, gives_done}
use Rattle.sound.proofs.Swaps.{used_place}
use Rattle.tags.specs.Tag.{Tag, flags, START, SMALL, LARGE, small_tag, large_tag, start_tag, pad_tag}
use Rattle.tags.proofs.Decode.{first_small, first_large, first_wide, pad_tag_lem}
use Rattle.plans.specs.Checks.{must_grain, Owner, owned, owner_small, owner_large, see_owner}
use Rattle.armour.specs.Row.{Row}
use Rattle.refines.proofs.Seen.{gives_grain, used_inside}

module _ (n c : ℕ) (m : Memory) (xs : List Block) (o : Row n c m xs) where
  module _ (x s d : ℕ) (b : BlockAt x (used s d) 0 xs) where
    -- v grains at y, of which p are padding
    owned_gives : (y v p : ℕ) → y ≡ x → v ≡ s → 1 ≤ s → p ≤ s → Gives m (owned n y v p) (record { at = x; grains = s })
    owned_gives y v p e f h k =
        gives_bind m (must_le 1 v) _ (gives_le m 5 _ _ (omega arith))
        (gives_bind m (must_le p v) _ (gives_le m 5 _ _ (omega arith))
        (gives_bind m (must_grain n (y + v)) _ (gives_grain m n (y + v) (omega (arith, used_inside n c m xs o x s d b)))
        (subst (λ (u : ℕ). Gives {A = Owner} m (done (record { at = y; grains = v })) (record { at = u; grains = s })) e
        (subst (λ (u : ℕ). Gives {A = Owner} m (done (record { at = y; grains = v })) (record { at = y; grains = u })) f (gives_done m _)))))

    small_gives : 1 ≤ s → d ≡ 1 → Gives m (owner_small n x) (record { at = x; grains = s })
    small_gives h e =
        let v : m Tag x ≡ small_tag s = first_small (m Tag) xs o.order o.tags x s (subst (λ (d : ℕ). BlockAt x (used s d) 0 xs) e b) in
        gives_get m Tag x _ v
        (gives_bind m (unless_eq 3 (small_tag s % flags) (START + SMALL)) _ (gives_eq m 3 _ _ (omega arith))
        (owned_gives x (small_tag s / flags) 0 refl (omega arith) h (omega arith)))

    large_gives : 1 ≤ s → d ≡ 2 → Gives m (owner_large n (x + 1)) (record { at = x; grains = s })
    large_gives h e =
        let y : x + 1 - 1 ≡ x = omega arith in
        let v : m Tag (x + 1 - 1) ≡ large_tag s = ap (m Tag) y ∙ first_large (m Tag) xs o.order o.tags x s (subst (λ (d : ℕ). BlockAt x (used s d) 0 xs) e b) in
        gives_bind m (unless_le 3 1 (x + 1)) _ (gives_le m 3 _ _ (omega arith))
        (gives_get m Tag (x + 1 - 1) _ v (ap (run m) (eq_yes (large_tag s % flags) (START + LARGE) _ _ (omega arith))
        ∙ owned_gives (x + 1 - 1) (large_tag s / flags) 1 y (omega arith) h (omega arith)))

    wide_gives : 1 ≤ s → d ≤ 2 * s → 2 ≤ d / 2 → Gives m (owner_large n (x + d / 2)) (record { at = x; grains = s })
    wide_gives h i p =
        let v : m Tag (x + d / 2 - 1) ≡ pad_tag (d / 2) = pad_tag_lem (m Tag) xs o.order o.tags x s d b p in
        let y : x + d / 2 - pad_tag (d / 2) / flags ≡ x = omega arith in
        let u : m Tag (x + d / 2 - pad_tag (d / 2) / flags) ≡ start_tag s = ap (m Tag) y ∙ first_wide (m Tag) xs o.order o.tags x s d b p in
        gives_bind m (unless_le 3 1 (x + d / 2)) _ (gives_le m 3 _ _ (omega arith))
        (gives_get m Tag (x + d / 2 - 1) _ v (ap (run m) (eq_no (pad_tag (d / 2) % flags) (START + LARGE) _ _ (omega arith))
        ∙ gives_bind m (unless_eq 3 (pad_tag (d / 2) % flags) LARGE) _ (gives_eq m 3 _ _ (omega arith))
        (gives_bind m (must_le 2 (pad_tag (d / 2) / flags)) _ (gives_le m 5 _ _ (omega arith))
        (gives_bind m (must_le (pad_tag (d / 2) / flags) (x + d / 2)) _ (gives_le m 5 _ _ (omega arith))
        (gives_get m Tag (x + d / 2 - pad_tag (d / 2) / flags) _ u
        (gives_bind m (must_eq (start_tag s % flags) START) _ (gives_eq m 5 _ _ (omega arith))
        (owned_gives (x + d / 2 - pad_tag (d / 2) / flags) (start_tag s / flags) (pad_tag (d / 2) / flags) y (omega arith) h (omega arith))))))))

    pub owner_gives : Gives m (see_owner n (2 * x + d)) (record { at = x; grains = s })
    unfolding see_owner
    owner_gives =
        let w : Whole (used s d) = at_whole x (used s d) 0 out xs o.order b in
        gives_bind m (unless_le 3 (suc (2 * x + d)) (2 * n)) _ (gives_le m 3 _ _ (omega (arith, used_inside n c m xs o x s d b, w.1.within)))
        (go w.0 w.1 w.1.kind)
      where
        at_grain : 1 ≤ s → Inside s d → d % 2 ≡ 0 → Gives m (owner_large n (x + d / 2)) (record { at = x; grains = s })
        at_grain h i e = ⊎_elim
            (λ (q : d ≡ 2).
            let y : x + 1 ≡ x + d / 2 = omega arith in
            subst (λ (u : ℕ). Gives m (owner_large n u) (record { at = x; grains = s })) y (large_gives h q))
            (λ (q : d ≡ 2 → ⊥). wide_gives h i.within (omega (arith, i.some, q)))
            (same? d 2)

        go : 1 ≤ s → Inside s d → (d ≡ 1) ⊎ (d % 2 ≡ 0) → Gives m (if_eq ((2 * x + d) % 2) 1 (owner_small n ((2 * x + d) / 2)) (owner_large n ((2 * x + d) / 2))) (record { at = x; grains = s })
        go h i (inl e) =
            let y : x ≡ (2 * x + d) / 2 = omega arith in
            ap (run m) (eq_yes ((2 * x + d) % 2) 1 _ _ (omega arith)) ∙ subst (λ (u : ℕ). Gives m (owner_small n u) (record { at = x; grains = s })) y (small_gives h e)
        go h i (inr e) =
            let y : x + d / 2 ≡ (2 * x + d) / 2 = omega arith in
            ap (run m) (eq_no ((2 * x + d) % 2) 1 _ _ (omega arith)) ∙ subst (λ (u : ℕ). Gives m (owner_large n u) (record { at = x; grains = s })) y (at_grain h i e)

-- ---- a payload is live or not

module _ (q : ℕ) where
  -- in a list of blocks that begins at p
  abbrev LiveIn : ℕ → List Block → Type 0
  LiveIn p xs = (x : ℕ) × (s : ℕ) × (d : ℕ) × BlockAt x (used s d) p xs × (q ≡ 2 * x + d)

  abbrev DeadIn : ℕ → List Block → Type 0
  DeadIn p xs = (x s d : ℕ) → BlockAt x (used s d) p xs → q ≡ 2 * x + d → ⊥

  live_from : (p : ℕ) (xs : List Block) → LiveIn p xs ⊎ DeadIn p xs
  live_from p [] = inr (λ x s d b e. b)
  live_from p (b ∷ r) = go b (live_from (p + size b) r)
    where
      other : (b : Block) → ((s d : ℕ) → b ≡ used s d → q ≡ 2 * p + d → ⊥) → LiveIn (p + size b) r ⊎ DeadIn (p + size b) r → LiveIn p (b ∷ r) ⊎ DeadIn p (b ∷ r)
      other b n (inl g) = inl (g.0, g.1, g.2, inr g.3, g.4)
      other b n (inr g) = inr (λ x s d h e. ⊎_elim
          (λ (i : (x ≡ p) × (b ≡ used s d)). n s d i.1 (omega (arith, e, i.0)))
          (λ (i : BlockAt x (used s d) (p + size b) r). g x s d i e) h)

      go : (b : Block) → LiveIn (p + size b) r ⊎ DeadIn (p + size b) r → LiveIn p (b ∷ r) ⊎ DeadIn p (b ∷ r)
      go (free s) g = other (free s) (λ t d e _. let z : ◌≡◌ {A = ℕ} 0 1 = cc in omega arith) g
      go last g = other last (λ t d e _. let z : ◌≡◌ {A = ℕ} 0 1 = cc in omega arith) g
      go gap g = other gap (λ t d e _. let z : ◌≡◌ {A = ℕ} 0 1 = cc in omega arith) g
      go (used s d) g = ⊎_elim
          (λ (e : q ≡ 2 * p + d). inl (p, s, d, inl (refl, refl), e))
          (λ (n : q ≡ 2 * p + d → ⊥). other (used s d) (λ t v e f. n (omega (arith, f, used_place e))) g)
          (same? q (2 * p + d))

  pub live? : (xs : List Block) → ((x : ℕ) × (s : ℕ) × (d : ℕ) × BlockAt x (used s d) 0 xs × (q ≡ 2 * x + d)) ⊎ ((x s d : ℕ) → BlockAt x (used s d) 0 xs → q ≡ 2 * x + d → ⊥)
  live? xs = live_from 0 xs
