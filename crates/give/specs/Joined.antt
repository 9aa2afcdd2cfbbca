-- The grains that a piece is put before, as words: the old head, and the starts of the pieces. Each law is one return of the
-- code that tells them.
use Rattle.std.specs.Prelude.{ℕ, ◌+◌, ◌-◌, ◌*◌, ◌/◌, ◌%◌, ◌≤◌, ◌<◌, ◌≡◌, Bool, not, ◌⊎◌, eqb, ltb}
use Rattle.std.proofs.Common.{arith, ap, sym, ◌∙◌, subst, inl, inr, ⊎_elim, eq-eqb, ne_eqb, lt-ltb, le-ltb}
use Rattle.choice.specs.Choice.{same?, le?}
use Rattle.choice.specs.Says.{Says}
use Rattle.header.specs.Turned.{turned, turned_in, turned_is}
use Rattle.free_list.specs.Lent.{no_link}

-- the word w is the head h, or the start of one of the i pieces from g on
abbrev pub Joined : ℕ → ℕ → ℕ → ℕ → Type 0
Joined g i h w = ((w ≡ h) × (w ≡ no_link → ⊥)) ⊎ ((j : ℕ) × (j < i) × (w ≡ 32 * (g + 4096 * j)))

module _ (g i h w : ℕ) (few : g + 4096 * i < 576460752303423488) where
  -- the head
  pub joined_head : w ≡ h → Says (Joined g i h w) (not (eqb w no_link))
  joined_head e = ⊎_elim
      (λ (z : w ≡ no_link). subst (λ (b : Bool). Says (Joined g i h w) (not b)) (sym (eq-eqb w no_link z)) (never z))
      (λ (z : w ≡ no_link → ⊥). subst (λ (b : Bool). Says (Joined g i h w) (not b)) (sym (ne_eqb w no_link z)) (inl (e, z)))
      (same? w no_link)
    where
      never : w ≡ no_link → Joined g i h w → ⊥
      never z (inl q) = q.1 z
      never z (inr q) = omega (arith, q.1, q.2)

  module _ (ne : w ≡ h → ⊥) (y : ℕ) (y_is : y ≡ turned w) where
    -- a start is behind g by as many grains as some pieces have
    start : Joined g i h w → (j : ℕ) × (j < i) × (y ≡ g + 4096 * j)
    start (inl q) = absurd (ne q.0)
    start (inr q) = (q.0, q.1, y_is ∙ ap turned q.2 ∙ turned_is (g + 4096 * q.0))

    pub joined_below : y < g → Joined g i h w → ⊥
    joined_below p q = omega (arith, (start q).2)

    pub joined_between : ((y - g) % 4096 ≡ 0 → ⊥) → Joined g i h w → ⊥
    joined_between n q = n (omega (arith, (start q).2))

    pub joined_start : g ≤ y → (y - g) % 4096 ≡ 0 → Says (Joined g i h w) (ltb ((y - g) / 4096) i)
    joined_start p e = ⊎_elim
        (λ (z : i ≤ (y - g) / 4096). subst (Says (Joined g i h w)) (sym (le-ltb _ _ z)) (λ (q : Joined g i h w). let f = start q in omega (arith, f.1, f.2)))
        (λ (z : (y - g) / 4096 < i). subst (Says (Joined g i h w)) (sym (lt-ltb _ _ z)) (inr ((y - g) / 4096, z, word z)))
        (le? i ((y - g) / 4096))
      where
        word : (y - g) / 4096 < i → w ≡ 32 * (g + 4096 * ((y - g) / 4096))
        word z =
            let k : turned w < g + 4096 * i = omega arith in
            let f = turned_in (g + 4096 * i) w few k in
            omega (arith, f.0, f.1)
