-- What follows from specs/Swaps.antt.
use Rattle.std.specs.Prelude.{ℕ, ◌+◌, ◌-◌, ◌*◌, ◌/◌, ◌%◌, ◌≤◌, ◌<◌, ◌≡◌, List}
use Rattle.std.proofs.Common.{arith, ap, sym, ◌∙◌, subst, inl, inr, ⊎_elim}
use Rattle.choice.specs.Choice.{upd, upd_same, upd_other, same?}
use Rattle.definition.specs.Blocks.{Block, used, gap, total}
use Rattle.definition.specs.Lists.{Lists}
use Rattle.invariants.specs.Order.{out, Ordered, Whole, Inside, BlockAt, Apart, same, before, behind}
use Rattle.invariants.proofs.Order.{apart, at_whole}
use Rattle.invariants.specs.Moves.{Sane}
use Rattle.invariants.proofs.Moves.{used_unlisted}
use Rattle.invariants.specs.Kept.{Solid}
use Rattle.script.specs.Memory.{Memory, Prev, Live, Table}
use Rattle.sound.specs.Sound.{Lively, Padded, InTable, Given}
use Rattle.sound.specs.Relists.{NotIn}
use Rattle.sound.specs.Swaps.{Swaps}

-- a payload belongs to one block
pub owner_unique : (A : List Block) (x s d y t e : ℕ) → Ordered out A → BlockAt x (used s d) 0 A → BlockAt y (used t e) 0 A → 2 * x + d ≡ 2 * y + e → (x ≡ y) × (used s d ≡ used t e)
owner_unique A x s d y t e o a b q = go (apart x y 0 (used s d) (used t e) A a b)
  where
    u : Whole (used s d)
    u = at_whole x (used s d) 0 out A o a

    v : Whole (used t e)
    v = at_whole y (used t e) 0 out A o b

    go : Apart x (used s d) y (used t e) → (x ≡ y) × (used s d ≡ used t e)
    go (same p i) = (p, i)
    go (before h) = absurd (omega (arith, u.1.within, v.1.some))
    go (behind h) = absurd (omega (arith, v.1.within, u.1.some))

-- the place in a used block
pub used_place : {s d t e : ℕ} → used s d ≡ used t e → d ≡ e
used_place p = cc

-- ---- live bits

module _ (m u : Memory) (A B : List Block) (a : Lively m A) where
  -- a payload comes
  pub lively_add : (x : ℕ) (old : Block) (z k d : ℕ) → (Solid old → ⊥) → Swaps A B x old z (used k d) → BlockAt z (used k d) 0 B → u Live ≡ upd (m Live) (2 * z + d) 1 → Lively u B
  lively_add x old z k d f w h e = record { set = set; real = real }
    where
      at : (i : ℕ) → u Live i ≡ upd (m Live) (2 * z + d) 1 i
      at i = ap (λ (g : ℕ → ℕ). g i) e

      one : (i : ℕ) → m Live i ≡ 1 → u Live i ≡ 1
      one i p = ⊎_elim (λ (g : i ≡ 2 * z + d). at i ∙ upd_same (m Live) (2 * z + d) 1 i g) (λ (n : i ≡ 2 * z + d → ⊥). at i ∙ upd_other (m Live) (2 * z + d) 1 i n ∙ p) (same? i (2 * z + d))

      set : (y s c : ℕ) → BlockAt y (used s c) 0 B → u Live (2 * y + c) ≡ 1
      set y s c b = ⊎_elim
          (λ (g : (y ≡ z) × (used k d ≡ used s c)). at (2 * y + c) ∙ upd_same (m Live) (2 * z + d) 1 (2 * y + c) (omega (arith, g.0, used_place g.1)))
          (λ (i : BlockAt y (used s c) 0 A). one (2 * y + c) (a.set y s c i))
          (w.back y (used s c) tt b)

      real : (i : ℕ) → u Live i ≡ 1 → (y : ℕ) × (s : ℕ) × (c : ℕ) × BlockAt y (used s c) 0 B × (i ≡ 2 * y + c)
      real i p = ⊎_elim
          (λ (g : i ≡ 2 * z + d). (z, k, d, h, g))
          (λ (n : i ≡ 2 * z + d → ⊥). let o = a.real i (sym (upd_other (m Live) (2 * z + d) 1 i n) ∙ sym (at i) ∙ p) in
          (o.0, o.1, o.2, ⊎_elim (λ (g : (o.0 ≡ x) × (old ≡ used o.1 o.2)). absurd (f (subst Solid (sym g.1) tt))) (λ (j : BlockAt o.0 (used o.1 o.2) 0 B). j) (w.forth o.0 (used o.1 o.2) tt o.3), o.4))
          (same? i (2 * z + d))

  -- a payload goes
  pub lively_drop : (x s d z : ℕ) (new : Block) → Ordered out A → (Solid new → ⊥) → Swaps A B x (used s d) z new → BlockAt x (used s d) 0 A → (BlockAt x (used s d) 0 B → ⊥)
      → u Live ≡ upd (m Live) (2 * x + d) 0 → Lively u B
  lively_drop x s d z new o f w h n e = record { set = set; real = real }
    where
      at : (i : ℕ) → u Live i ≡ upd (m Live) (2 * x + d) 0 i
      at i = ap (λ (g : ℕ → ℕ). g i) e

      set : (y t c : ℕ) → BlockAt y (used t c) 0 B → u Live (2 * y + c) ≡ 1
      set y t c b = ⊎_elim
          (λ (g : (y ≡ z) × (new ≡ used t c)). absurd (f (subst Solid (sym g.1) tt)))
          (λ (i : BlockAt y (used t c) 0 A). at (2 * y + c) ∙ upd_other (m Live) (2 * x + d) 0 (2 * y + c)
          (λ q. let g = owner_unique A y t c x s d o i h q in n (subst (λ (v : Block). BlockAt x v 0 B) g.1 (subst (λ (v : ℕ). BlockAt v (used t c) 0 B) g.0 b))) ∙ a.set y t c i)
          (w.back y (used t c) tt b)

      real : (i : ℕ) → u Live i ≡ 1 → (y : ℕ) × (t : ℕ) × (c : ℕ) × BlockAt y (used t c) 0 B × (i ≡ 2 * y + c)
      real i p = ⊎_elim
          (λ (g : i ≡ 2 * x + d). absurd (omega (arith, sym (upd_same (m Live) (2 * x + d) 0 i g) ∙ sym (at i) ∙ p)))
          (λ (k : i ≡ 2 * x + d → ⊥). let j = a.real i (sym (upd_other (m Live) (2 * x + d) 0 i k) ∙ sym (at i) ∙ p) in (
            j.0,
            j.1,
            j.2,
            ⊎_elim (λ (g : (j.0 ≡ x) × (used s d ≡ used j.1 j.2)). absurd (k (omega (arith, g.0, used_place g.1, j.4)))) (λ (v : BlockAt j.0 (used j.1 j.2) 0 B). v)
                (w.forth j.0 (used j.1 j.2) tt j.3),
            j.4,
          ))
          (same? i (2 * x + d))

  -- a block is resized, and its payload stays
  pub lively_same : (x s k d : ℕ) → Swaps A B x (used s d) x (used k d) → BlockAt x (used s d) 0 A → BlockAt x (used k d) 0 B → u Live ≡ m Live → Lively u B
  lively_same x s k d w h g e = record {
    set = λ y t c b. ap (λ (v : ℕ → ℕ). v (2 * y + c)) e ∙ ⊎_elim
        (λ (i : (y ≡ x) × (used k d ≡ used t c)). let p : 2 * y + c ≡ 2 * x + d = omega (arith, i.0, used_place i.1) in ap (m Live) p ∙ a.set x s d h)
        (λ (i : BlockAt y (used t c) 0 A). a.set y t c i) (w.back y (used t c) tt b);
    real = λ i p. let j = a.real i (ap (λ (v : ℕ → ℕ). v i) (sym e) ∙ p) in
        ⊎_elim {C = (y : ℕ) × (t : ℕ) × (c : ℕ) × BlockAt y (used t c) 0 B × (i ≡ 2 * y + c)}
        (λ (q : (j.0 ≡ x) × (used s d ≡ used j.1 j.2)). (x, k, d, g, omega (arith, q.0, used_place q.1, j.4)))
        (λ (v : BlockAt j.0 (used j.1 j.2) 0 B). (j.0, j.1, j.2, v, j.4)) (w.forth j.0 (used j.1 j.2) tt j.3);
  }

-- a payload moves, from one block to another
pub lively_move : (m u : Memory) (A B : List Block) (x s d z k e : ℕ) → Lively m A → Ordered out A → Swaps A B x (used s d) z (used k e) → BlockAt x (used s d) 0 A → (BlockAt x (used s d) 0 B → ⊥)
    → BlockAt z (used k e) 0 B → u Live ≡ upd (upd (m Live) (2 * x + d) 0) (2 * z + e) 1 → Lively u B
lively_move m u A B x s d z k e a o w h n g q = record { set = set; real = real }
  where
    at : (i : ℕ) → u Live i ≡ upd (upd (m Live) (2 * x + d) 0) (2 * z + e) 1 i
    at i = ap (λ (v : ℕ → ℕ). v i) q

    kept : (y t c : ℕ) → BlockAt y (used t c) 0 B → BlockAt y (used t c) 0 A → 2 * y + c ≡ 2 * x + d → ⊥
    kept y t c b i p = let j = owner_unique A y t c x s d o i h p in n (subst (λ (v : Block). BlockAt x v 0 B) j.1 (subst (λ (v : ℕ). BlockAt v (used t c) 0 B) j.0 b))

    set : (y t c : ℕ) → BlockAt y (used t c) 0 B → u Live (2 * y + c) ≡ 1
    set y t c b = at (2 * y + c) ∙ ⊎_elim
        (λ (j : 2 * y + c ≡ 2 * z + e). upd_same _ (2 * z + e) 1 (2 * y + c) j)
        (λ (j : 2 * y + c ≡ 2 * z + e → ⊥). upd_other _ (2 * z + e) 1 (2 * y + c) j ∙ ⊎_elim
        (λ (i : (y ≡ z) × (used k e ≡ used t c)). absurd (j (omega (arith, i.0, used_place i.1))))
        (λ (i : BlockAt y (used t c) 0 A). upd_other (m Live) (2 * x + d) 0 (2 * y + c) (kept y t c b i) ∙ a.set y t c i) (w.back y (used t c) tt b))
        (same? (2 * y + c) (2 * z + e))

    real : (i : ℕ) → u Live i ≡ 1 → (y : ℕ) × (t : ℕ) × (c : ℕ) × BlockAt y (used t c) 0 B × (i ≡ 2 * y + c)
    real i p = ⊎_elim
        (λ (j : i ≡ 2 * z + e). (z, k, e, g, j))
        (λ (j : i ≡ 2 * z + e → ⊥). ⊎_elim
        (λ (v : i ≡ 2 * x + d). absurd (omega (arith, sym (upd_other _ (2 * z + e) 1 i j ∙ upd_same (m Live) (2 * x + d) 0 i v) ∙ sym (at i) ∙ p)))
        (λ (v : i ≡ 2 * x + d → ⊥). let b = a.real i (sym (upd_other _ (2 * z + e) 1 i j ∙ upd_other (m Live) (2 * x + d) 0 i v) ∙ sym (at i) ∙ p) in (
          b.0,
          b.1,
          b.2,
          ⊎_elim (λ (t : (b.0 ≡ x) × (used s d ≡ used b.1 b.2)). absurd (v (omega (arith, t.0, used_place t.1, b.4)))) (λ (t : BlockAt b.0 (used b.1 b.2) 0 B). t)
              (w.forth b.0 (used b.1 b.2) tt b.3),
          b.4,
        ))
        (same? i (2 * x + d)))
        (same? i (2 * z + e))

-- ---- the words before payloads

-- such a word lies in its block, so no free block starts there
pub pad_inside : (x s d : ℕ) → Inside s d → d % 2 ≡ 0 → (x ≤ x + d / 2 - 1) × (x + d / 2 - 1 < x + s)
pad_inside x s d i e = (omega (arith, i.some), omega (arith, i.some, i.within))

pub pad_free : (c : ℕ) (A : List Block) (f : Lists) (x s d : ℕ) → Sane c A f → BlockAt x (used s d) 0 A → d % 2 ≡ 0 → NotIn f (x + d / 2 - 1)
pad_free c A f x s d o h e =
    let u : Whole (used s d) = at_whole x (used s d) 0 out A o.order h in
    let p = pad_inside x s d u.1 e in
    used_unlisted c A f x s d o h (x + d / 2 - 1) p.0 p.1

pub padded_change : (m u : Memory) (A B : List Block) (x : ℕ) (old : Block) (z : ℕ) (new : Block) → Padded m A → Swaps A B x old z new
    → ((k d : ℕ) → new ≡ used k d → d % 2 ≡ 0 → u Prev (z + d / 2 - 1) ≡ z)
    → ((y s e : ℕ) → BlockAt y (used s e) 0 A → BlockAt y (used s e) 0 B → e % 2 ≡ 0 → u Prev (y + e / 2 - 1) ≡ m Prev (y + e / 2 - 1)) → Padded u B
padded_change m u A B x old z new a w fresh kept y s e b v = ⊎_elim
    (λ (g : (y ≡ z) × (new ≡ used s e)). rw g.0 (fresh s e g.1 v))
    (λ (i : BlockAt y (used s e) 0 A). kept y s e i b v ∙ a y s e i v)
    (w.back y (used s e) tt b)

-- ---- the given grains

-- two tables that are the same hold the same grains
in_table : (m u : Memory) → m Table ≡ u Table → (y : ℕ) → InTable m y → InTable u y
in_table m u e y i =
    (i.0, subst (λ (v : ℕ → ℕ). i.0 < v 0) e i.1, subst (λ (v : ℕ → ℕ). v (2 * i.0 + 1) ≤ y) e i.2, subst (λ (v : ℕ → ℕ). y < v (2 * i.0 + 2)) e i.3)

pub given_same : (m u : Memory) (A B : List Block) → Given m A → u Table ≡ m Table → total B ≡ total A
    → ((y : ℕ) → BlockAt y gap 0 A → BlockAt y gap 0 B) → ((y : ℕ) → BlockAt y gap 0 B → BlockAt y gap 0 A) → Given u B
given_same m u A B a e t f g = record {
  sane = λ i h. let j = a.sane i (subst (λ (v : ℕ). i < v) (at 0) h) in (
    subst (λ (v : ℕ). v + 2 ≤ u Table (2 * i + 2)) (sym (at (2 * i + 1))) (subst (λ (v : ℕ). m Table (2 * i + 1) + 2 ≤ v) (sym (at (2 * i + 2))) j.0),
    rw t (subst (λ (v : ℕ). v ≤ total A) (sym (at (2 * i + 2))) j.1),
  );
  either = λ y h. ⊎_elim (λ (i : BlockAt y gap 0 A). inl (f y i)) (λ (i : InTable m y). inr (in_table m u (sym e) y i)) (a.either y (rw t at h));
  never = λ y h i. a.never y (g y h) (in_table u m e y i);
}
  where
    at : (i : ℕ) → u Table i ≡ m Table i
    at i = ap (λ (v : ℕ → ℕ). v i) e
