-- Where a block stands in its list: at the head, with nothing before it, or behind another that leads to it. The laws at the
-- end are the returns of the code, one each, against the check `see_prev`; those before them are their cases.
use Rattle.std.specs.Prelude.{ℕ, suc, ◌*◌, ◌≤◌, ◌<◌, ◌≡◌, refl, Bool, true, false, List, length, eqb}
use Rattle.std.proofs.Common.{arith, ap, sym, ◌∙◌, subst, true≢false, inl, ⊎_elim, eq-eqb, ne_eqb}
use Rattle.std.specs.Bool.{beq}
use Rattle.choice.specs.Choice.{eq_yes, eq_no, same?}
use Rattle.choice.specs.Says.{Says}
use Rattle.script.specs.Memory.{Memory, Next, none}
use Rattle.script.specs.Script.{Script, must_differ, ok, no, run, ◌>>◌}
use Rattle.script.proofs.Script.{goes, halts, gives_eq, gives_le, gives_differ, halts_eq, halts_le, halts_differ}
use Rattle.sound.specs.Checks.{must_grain, must_lead, see_prev}
use Rattle.slices.specs.Decode.{grains}
use Rattle.header.specs.Turned.{turned, grains_few, turned_is}
use Rattle.header.specs.Told.{link_leads, link_only}
use Rattle.free_list.specs.Lent.{held, no_link, link, link_none, link_some, link_grain, link_past}
use Rattle.free_list.specs.Answers.{told}
use Rattle.free_list.specs.Back.{Back, reading_next, back_told}

-- p is before y in a list of the arena a whose head is h: the code's answer r is that of the check
abbrev pub Placed : List ℕ → ℕ → ℕ → ℕ → Bool → Type 0
Placed a h y p r = (l v t : List ℕ) → told r ≡ run (held a l v t) (see_prev (grains 8 a) (link a h) y (link a p))

-- two tests: they agree, or they differ
agree : (s t : Bool) → beq s t ≡ true → s ≡ t
agree true true h = refl
agree true false h = absurd (true≢false (sym h))
agree false true h = absurd (true≢false (sym h))
agree false false h = refl

differ : (s t : Bool) → beq s t ≡ false → s ≡ t → ⊥
differ true true h e = true≢false h
differ true false h e = true≢false e
differ false true h e = true≢false (sym e)
differ false false h e = true≢false h

-- what is checked where something is before y
abbrev behind_head : ℕ → ℕ → ℕ → ℕ → Script (Unit {0})
behind_head n h y p = do
  must_grain n h
  must_differ h y
  must_grain n p
  must_lead Next p y

module _ (a : List ℕ) (h y p : ℕ) (s : length a < 18446744073709551616) (i : y < grains 8 a) where
  -- the head's word says y, and no other does
  head_is_lem : h ≡ 32 * y → link a h ≡ y
  head_is_lem e = link_leads (grains 8 a) h y i (grains_few a s) e

  head_not : (h ≡ 32 * y → ⊥) → link a h ≡ y → ⊥
  head_not e = link_only (grains 8 a) h y i (grains_few a s) e

  -- nothing is before y
  placed_first : p ≡ no_link → (b : ℕ) → b ≡ 32 * y → Placed a h y p (eqb h b)
  placed_first z b e l v t = go (held a l v t)
    where
      go : (m : Memory) → told (eqb h b) ≡ run m (see_prev (grains 8 a) (link a h) y (link a p))
      go m = ⊎_elim
          (λ (q : h ≡ b). ap told (eq-eqb h b q) ∙ sym (gives_eq m 5 (link a h) y (head_is_lem (q ∙ e))))
          (λ (q : h ≡ b → ⊥). ap told (ne_eqb h b q) ∙ sym (halts_eq m 5 (link a h) y (head_not (λ r. q (r ∙ sym e)))))
          (same? h b)
          ∙ sym (ap (run m) (eq_yes (link a p) none _ _ (link_none a p s z)))

  -- something is, and the head's word leads to the grain g, or past the arena
  module _ (z : p ≡ no_link → ⊥) (g : ℕ) (e : g ≡ turned h) where
    -- the test for none is passed
    past : (m : Memory) → run m (see_prev (grains 8 a) (link a h) y (link a p)) ≡ run m (behind_head (grains 8 a) (link a h) y (link a p))
    past m = ap (run m) (eq_no (link a p) none _ _ (link_some a p s z))

    -- the head is no grain
    placed_headless : grains 8 a ≤ g → Placed a h y p false
    placed_headless q l v t = sym (go (held a l v t))
      where
        go : (m : Memory) → run m (see_prev (grains 8 a) (link a h) y (link a p)) ≡ no 5
        go m = past m ∙ halts m (must_grain (grains 8 a) (link a h)) _ (halts_le m 5 (suc (link a h)) (grains 8 a) (omega (arith, link_past a h s (omega arith))))

    module _ (q : g < grains 8 a) where
      head_in : (m : Memory) → run m (must_grain (grains 8 a) (link a h)) ≡ ok (tt {0})
      head_in m = gives_le m 5 (suc (link a h)) (grains 8 a) (omega (arith, link_grain a h s (omega arith)))

      -- y itself is the head
      placed_twice : (b : ℕ) → b ≡ 32 * y → h ≡ b → Placed a h y p false
      placed_twice b d c l v t = sym (go (held a l v t))
        where
          go : (m : Memory) → run m (see_prev (grains 8 a) (link a h) y (link a p)) ≡ no 5
          go m = past m ∙ goes m (must_grain (grains 8 a) (link a h)) _ (head_in m) ∙ halts m (must_differ (link a h) y) _ (halts_differ m (link a h) y (head_is_lem (c ∙ d)))

      -- another is: what is before y has to lead to it
      placed_behind : (b : ℕ) → b ≡ 32 * y → (h ≡ b → ⊥) → (r : Bool) → Says (Back a Next p y) r → Placed a h y p r
      placed_behind b d c r k l v t = sym (go (held a l v t) (back_told (held a l v t) a Next p y s (reading_next a l v t s) z r k))
        where
          go : (m : Memory) → told r ≡ run m (must_grain (grains 8 a) (link a p) >> must_lead Next (link a p) y) → run m (see_prev (grains 8 a) (link a h) y (link a p)) ≡ told r
          go m w =
              past m ∙ goes m (must_grain (grains 8 a) (link a h)) _ (head_in m)
              ∙ goes m (must_differ (link a h) y) _ (gives_differ m (link a h) y (head_not (λ f. c (f ∙ sym d)))) ∙ sym w

  -- ---- the same where nothing hangs on whether p is none; b is the word of y

  module _ (b : ℕ) (d : b ≡ 32 * y) where
    -- y is not the head, and has nothing before it
    orphan : p ≡ no_link → (h ≡ b → ⊥) → Placed a h y p false
    orphan z n = subst (Placed a h y p) (ne_eqb h b n) (placed_first z b d)

    -- the head is no grain
    pub placed_nowhere : (g : ℕ) → g ≡ turned h → grains 8 a ≤ g → Placed a h y p false
    placed_nowhere g e q = ⊎_elim
        (λ (z : p ≡ no_link). orphan z (λ w. omega (arith, e ∙ ap turned (w ∙ d) ∙ turned_is y)))
        (λ (n : p ≡ no_link → ⊥). placed_headless n g e q)
        (same? p no_link)

    -- y is the head, and has something before it; or it is neither
    pub placed_apart : (g : ℕ) → g ≡ turned h → g < grains 8 a → beq (eqb h b) (eqb p no_link) ≡ false → Placed a h y p false
    placed_apart g e q w = ⊎_elim
        (λ (z : p ≡ no_link). orphan z (λ u. differ (eqb h b) (eqb p no_link) w (eq-eqb h b u ∙ sym (eq-eqb p no_link z))))
        (λ (n : p ≡ no_link → ⊥). ⊎_elim
        (λ (u : h ≡ b). placed_twice n g e q b d u)
        (λ (u : h ≡ b → ⊥). absurd (differ (eqb h b) (eqb p no_link) w (ne_eqb h b u ∙ sym (ne_eqb p no_link n))))
        (same? h b))
        (same? p no_link)

    -- it is the head, or has something before it, and not both: what is before it, if anything, has to lead to it
    pub placed_once : (g : ℕ) → g ≡ turned h → g < grains 8 a → beq (eqb h b) (eqb p no_link) ≡ true → (r : Bool) → Says (Back a Next p y) r → Placed a h y p r
    placed_once g e q w r k = ⊎_elim
        (λ (z : p ≡ no_link). subst (Placed a h y p) (agree (eqb h b) (eqb p no_link) w ∙ eq-eqb p no_link z ∙ sure z r k) (placed_first z b d))
        (λ (n : p ≡ no_link → ⊥). placed_behind n g e q b d (λ u. true≢false (sym (eq-eqb h b u) ∙ agree (eqb h b) (eqb p no_link) w ∙ ne_eqb p no_link n)) r k)
        (same? p no_link)
      where
        sure : p ≡ no_link → (r : Bool) → Says (Back a Next p y) r → true ≡ r
        sure z true k = refl
        sure z false k = absurd (k (inl z))
