-- What follows from specs/Ledger.antt.
use Rattle.std.specs.Prelude.{ℕ, ◌+◌, ◌*◌, ◌/◌, ◌%◌, ◌≤◌, ◌<◌, ◌≡◌, refl, List, [], ◌∷◌, ◌⊎◌}
use Rattle.std.proofs.Common.{arith, ap, sym, ◌∙◌, subst, inl, inr, ⊎_elim}
use Rattle.choice.specs.Choice.{eq_yes, eq_no, same?}
use Rattle.definition.specs.Blocks.{Block, free, used, gap, size, total}
use Rattle.invariants.specs.Order.{out, Ordered, BlockAt, Apart, same, before, behind}
use Rattle.invariants.proofs.Order.{apart, at_whole, at_end_lem, one_block}
use Rattle.invariants.specs.Moves.{free_used}
use Rattle.invariants.proofs.Gaps.{gap_used}
use Rattle.invariants.proofs.Promises.{used_apart}
use Rattle.script.specs.Memory.{Memory}
use Rattle.sound.specs.Sound.{InTable, Given}
use Rattle.sound.specs.Swaps.{Swaps}
use Rattle.sound.proofs.Swaps.{owner_unique, used_place}
use Rattle.plans.specs.Calls.{Deallocate}
use Rattle.armour.specs.Dead.{NotLiveIn}
use Rattle.armour.specs.Ledger.{Loan, In, strike, book, Backed, Once, Booked, HalfOf, Lies, Unlent}

-- ---- what follows: two loans share no half grain, and each lies in its block and inside the arena

pub loans_apart : (xs : List Block) (l : List Loan) → Ordered out xs → Booked xs l → (e g : Loan) → In e l → In g l → (e.payload ≡ g.payload → ⊥)
    → (e.payload + e.halves ≤ g.payload) ⊎ (g.payload + g.halves ≤ e.payload)
loans_apart xs l o b e g i j ne =
    let u = b.backed e i in
    let v = b.backed g j in
    ⊎_elim
    (λ (q : u.x ≡ v.x). let z = one_block u.x (used u.s u.d) (used v.s v.d) xs o u.block (subst (λ (x : ℕ). BlockAt x (used v.s v.d) 0 xs) (sym q) v.block) in
    absurd (ne (omega (arith, u.place, v.place, used_place z))))
    (λ (q : u.x ≡ v.x → ⊥). ⊎_elim
    (λ (h : u.x + u.s ≤ v.x). inl (omega (arith, u.place, v.place, u.long)))
    (λ (h : v.x + v.s ≤ u.x). inr (omega (arith, u.place, v.place, v.long)))
    (used_apart u.x u.s u.d v.x v.s v.d xs u.block v.block q))
    (same? u.x v.x)

pub loan_inside : (xs : List Block) (l : List Loan) → Booked xs l → (e : Loan) → In e l → e.payload + e.halves ≤ 2 * total xs
loan_inside xs l b e i = let u = b.backed e i in omega (arith, u.place, u.long, at_end_lem u.x (used u.s u.d) 0 xs u.block)

loan_alone : (xs : List Block) (e : Loan) (w : Backed xs e) (h : ℕ) → HalfOf e h → (y : ℕ) (b : Block) → BlockAt y b 0 xs → y ≤ h / 2 → h / 2 < y + size b
    → (w.x ≡ y) × (used w.s w.d ≡ b)
loan_alone xs e w h i y b t low high = go (apart w.x y 0 (used w.s w.d) b xs w.block t)
  where
    go : Apart w.x (used w.s w.d) y b → (w.x ≡ y) × (used w.s w.d ≡ b)
    go (same p q) = (p, q)
    go (before p) = absurd (omega (arith, w.place, w.long, i.1))
    go (behind p) = absurd (omega (arith, w.place, i.0))

pub loan_lies : (m : Memory) (xs : List Block) (l : List Loan) → Ordered out xs → Given m xs → Booked xs l → (e : Loan) → In e l → Lies m xs e
loan_lies m xs l o g b e i =
    let w = b.backed e i in
    let u = at_whole w.x (used w.s w.d) 0 out xs o w.block in
    record {
      own = w;
      past_guard = omega (arith, w.place, u.1.some);
      alone = loan_alone xs e w;
      given = λ h k. ⊎_elim
          (λ (t : BlockAt (h / 2) gap 0 xs). absurd (gap_used (loan_alone xs e w h k (h / 2) gap t (omega arith) (omega arith)).1))
          (λ (t : InTable m (h / 2)). t)
          (g.either (h / 2) (omega (arith, k.1, loan_inside xs l b e i)));
    }

-- and a payload that is not lent is not live
pub unlent_dead : (xs : List Block) (l : List Loan) (q : ℕ) → Booked xs l → Unlent l q → NotLiveIn xs q
unlent_dead xs l q b n x s d h e = let g = b.all x s d h in n g.0 g.1 (g.2 ∙ sym e)

-- ---- striking a loan

pub strike_in : (q : ℕ) (e : Loan) (l : List Loan) → In e (strike q l) → In e l × (e.payload ≡ q → ⊥)
unfolding strike
strike_in q e [] h = absurd h
strike_in q e (g ∷ l) h = ⊎_elim
    (λ (z : g.payload ≡ q). let k = strike_in q e l (subst (In e) (eq_yes g.payload q (strike q l) (g ∷ strike q l) z) h) in (inr k.0, k.1))
    (λ (z : g.payload ≡ q → ⊥). ⊎_elim
    (λ (k : e ≡ g). (inl k, λ i. z (ap (λ (u : Loan). u.payload) (sym k) ∙ i)))
    (λ (k : In e (strike q l)). let w = strike_in q e l k in (inr w.0, w.1))
    (subst (In e) (eq_no g.payload q (strike q l) (g ∷ strike q l) z) h))
    (same? g.payload q)

pub strike_keeps : (q : ℕ) (e : Loan) (l : List Loan) → (e.payload ≡ q → ⊥) → In e l → In e (strike q l)
unfolding strike
strike_keeps q e [] ne x'' = elim x'' [ ]
strike_keeps q e (g ∷ l) ne (inl k) = subst (In e) (sym (eq_no g.payload q (strike q l) (g ∷ strike q l) (λ z. ne (ap (λ (u : Loan). u.payload) k ∙ z)))) (inl k)
strike_keeps q e (g ∷ l) ne (inr k) = ⊎_elim
    (λ (z : g.payload ≡ q). subst (In e) (sym (eq_yes g.payload q (strike q l) (g ∷ strike q l) z)) (strike_keeps q e l ne k))
    (λ (z : g.payload ≡ q → ⊥). subst (In e) (sym (eq_no g.payload q (strike q l) (g ∷ strike q l) z)) (inr (strike_keeps q e l ne k)))
    (same? g.payload q)

strike_once : (q : ℕ) (l : List Loan) → Once l → Once (strike q l)
unfolding strike
strike_once q [] o = tt
strike_once q (e ∷ l) o = ⊎_elim
    (λ (z : e.payload ≡ q). subst Once (sym (eq_yes e.payload q (strike q l) (e ∷ strike q l) z)) (strike_once q l o.1))
    (λ (z : e.payload ≡ q → ⊥). subst Once (sym (eq_no e.payload q (strike q l) (e ∷ strike q l) z)) ((λ g i. o.0 g (strike_in q g l i).0), strike_once q l o.1))
    (same? e.payload q)

-- ---- the changes

module _ (xs ys : List Block) (l : List Loan) (b : Booked xs l) (oy : Ordered out ys) where
  -- a loan whose block is in ys
  moved : (e : Loan) (w : Backed xs e) → BlockAt w.x (used w.s w.d) 0 ys → Backed ys e
  moved e w h = record { x = w.x; s = w.s; d = w.d; block = h; place = w.place; long = w.long; aligned = w.aligned }

  -- a payload comes
  pub booked_more : (z s k d p a : ℕ) → Ordered out xs → BlockAt z (free s) 0 xs → BlockAt z (used k d) 0 ys → Swaps xs ys z (free s) z (used k d) → d + p ≤ 2 * k → (2 * z + d) % a ≡ 0
      → Booked ys (record { payload = 2 * z + d; halves = p; multiple = a } ∷ l)
  booked_more z s k d p a ox fr here w long al = record {
    backed = λ e i. ⊎_elim
        (λ (q : e ≡ record { payload = 2 * z + d; halves = p; multiple = a }). subst (Backed ys) (sym q) (record { x = z; s = k; d = d; block = here; place = refl; long = long; aligned = al }))
        (λ (q : In e l). moved e (b.backed e q) (old e q)) i;
    all = λ x t u h. ⊎_elim
        (λ (q : (x ≡ z) × (used k d ≡ used t u)). (record { payload = 2 * z + d; halves = p; multiple = a }, inl refl, omega (arith, q.0, used_place q.1)))
        (λ (q : BlockAt x (used t u) 0 xs). let g = b.all x t u q in (g.0, inr g.1, g.2))
        (w.back x (used t u) tt h);
    once = ((λ g i q. new g i q), b.once);
  }
    where
      old : (e : Loan) (i : In e l) → BlockAt (b.backed e i).x (used (b.backed e i).s (b.backed e i).d) 0 ys
      old e i = let v = b.backed e i in ⊎_elim
          (λ (q : (v.x ≡ z) × (free s ≡ used v.s v.d)). absurd (free_used (sym q.1)))
          (λ (q : BlockAt v.x (used v.s v.d) 0 ys). q) (w.forth v.x (used v.s v.d) tt v.block)

      new : (g : Loan) → In g l → g.payload ≡ 2 * z + d → ⊥
      new g i q =
          let v = b.backed g i in
          let u = owner_unique ys v.x v.s v.d z k d oy (old g i) here (sym v.place ∙ q) in
          free_used (one_block z (used v.s v.d) (free s) xs ox (subst (λ (x : ℕ). BlockAt x (used v.s v.d) 0 xs) u.0 v.block) fr)

  -- a payload goes
  pub booked_less : (x s d z t : ℕ) → BlockAt x (used s d) 0 xs → Swaps xs ys x (used s d) z (free t) → ((y u e : ℕ) → BlockAt y (used u e) 0 ys → 2 * x + d ≡ 2 * y + e → ⊥)
      → Booked ys (strike (2 * x + d) l)
  booked_less x s d z t here w gone = record {
    backed = λ e i. let k = strike_in (2 * x + d) e l i in let v = b.backed e k.0 in moved e v (⊎_elim
        (λ (q : (v.x ≡ x) × (used s d ≡ used v.s v.d)). absurd (k.1 (omega (arith, v.place, q.0, used_place q.1))))
        (λ (q : BlockAt v.x (used v.s v.d) 0 ys). q) (w.forth v.x (used v.s v.d) tt v.block));
    all = λ y u e h. let g = b.all y u e (⊎_elim (λ (q : (y ≡ z) × (free t ≡ used u e)). absurd (free_used (sym q.1))) (λ (q : BlockAt y (used u e) 0 xs). q) (w.back y (used u e) tt h)) in
        (g.0, strike_keeps (2 * x + d) g.0 l (λ q. gone y u e h (sym q ∙ g.2)) g.1, g.2);
    once = strike_once (2 * x + d) l b.once;
  }

  -- a payload is resized, and may move
  pub booked_other : (x s d z k e p a : ℕ) → Ordered out xs → BlockAt x (used s d) 0 xs → BlockAt z (used k e) 0 ys → Swaps xs ys x (used s d) z (used k e) → e + p ≤ 2 * k → (2 * z + e) % a ≡ 0
      → (z ≡ x) ⊎ ((t : ℕ) × BlockAt z (free t) 0 xs) → ((y u v : ℕ) → BlockAt y (used u v) 0 ys → (y ≡ z → ⊥) → y ≡ x → ⊥)
      → Booked ys (record { payload = 2 * z + e; halves = p; multiple = a } ∷ strike (2 * x + d) l)
  booked_other x s d z k e p a ox was here w long al old gone = record {
    backed = λ g i. ⊎_elim
        (λ (q : g ≡ record { payload = 2 * z + e; halves = p; multiple = a }). subst (Backed ys) (sym q) (record { x = z; s = k; d = e; block = here; place = refl; long = long; aligned = al }))
        (λ (q : In g (strike (2 * x + d) l)). let r = strike_in (2 * x + d) g l q in moved g (b.backed g r.0) (stays g r.0 r.1)) i;
    all = λ y u v h. ⊎_elim
        (λ (q : (y ≡ z) × (used k e ≡ used u v)). (record { payload = 2 * z + e; halves = p; multiple = a }, inl refl, omega (arith, q.0, used_place q.1)))
        (λ (q : BlockAt y (used u v) 0 xs). other y u v h q) (w.back y (used u v) tt h);
    once = ((λ g i q. let r = strike_in (2 * x + d) g l i in fresh g r.0 r.1 q), strike_once (2 * x + d) l b.once);
  }
    where
      stays : (g : Loan) (i : In g l) → (g.payload ≡ 2 * x + d → ⊥) → BlockAt (b.backed g i).x (used (b.backed g i).s (b.backed g i).d) 0 ys
      stays g i ne = let v = b.backed g i in ⊎_elim
          (λ (q : (v.x ≡ x) × (used s d ≡ used v.s v.d)). absurd (ne (omega (arith, v.place, q.0, used_place q.1))))
          (λ (q : BlockAt v.x (used v.s v.d) 0 ys). q) (w.forth v.x (used v.s v.d) tt v.block)

      fresh : (g : Loan) → In g l → (g.payload ≡ 2 * x + d → ⊥) → g.payload ≡ 2 * z + e → ⊥
      fresh g i ne q =
          let v = b.backed g i in
          let u = owner_unique ys v.x v.s v.d z k e oy (stays g i ne) here (sym v.place ∙ q) in
          let h : BlockAt z (used v.s v.d) 0 xs = subst (λ (x : ℕ). BlockAt x (used v.s v.d) 0 xs) u.0 v.block in
          ⊎_elim
          (λ (r : z ≡ x). let y = one_block z (used v.s v.d) (used s d) xs ox h (subst (λ (x : ℕ). BlockAt x (used s d) 0 xs) (sym r) was) in ne (omega (arith, v.place, u.0, r, used_place y)))
          (λ (r : (t : ℕ) × BlockAt z (free t) 0 xs). free_used (one_block z (used v.s v.d) (free r.0) xs ox h r.1)) old

      other : (y u v : ℕ) → BlockAt y (used u v) 0 ys → BlockAt y (used u v) 0 xs → (g : Loan) × In g (record { payload = 2 * z + e; halves = p; multiple = a } ∷ strike (2 * x + d) l) × (g.payload ≡ 2 * y + v)
      other y u v h i = ⊎_elim
          (λ (q : y ≡ z). let r = one_block z (used u v) (used k e) ys oy (subst (λ (y : ℕ). BlockAt y (used u v) 0 ys) q h) here in
          (record { payload = 2 * z + e; halves = p; multiple = a }, inl refl, omega (arith, q, used_place r)))
          (λ (q : y ≡ z → ⊥). let g = b.all y u v i in
          (g.0, inr (strike_keeps (2 * x + d) g.0 l (λ r. gone y u v h q (owner_unique xs y u v x s d ox i was (sym g.2 ∙ r)).0) g.1), g.2))
          (same? y z)
