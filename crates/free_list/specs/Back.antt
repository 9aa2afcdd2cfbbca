-- A link leads back: it is none, or leads to a grain whose field f leads to y. The check `must_back` of any memory that
-- stands in the arena says the same.
use Rattle.std.specs.Prelude.{ℕ, suc, ◌+◌, ◌*◌, ◌≤◌, ◌<◌, ◌≡◌, refl, Bool, true, false, List, ◌⊎◌, length, eqb}
use Rattle.std.proofs.Common.{arith, ap, sym, ◌∙◌, inl, inr, ⊎_elim}
use Rattle.choice.specs.Choice.{if_eq, eq_yes, eq_no, le?, same?}
use Rattle.choice.specs.Says.{Says}
use Rattle.word.specs.Word.{word_at}
use Rattle.script.specs.Memory.{Memory, Next, Prev, none}
use Rattle.script.specs.Script.{ok, no, run, ◌>>◌}
use Rattle.script.proofs.Script.{goes, halts, reads, gives_done, gives_eq, gives_le, halts_eq, halts_le}
use Rattle.sound.specs.Checks.{must_grain, must_lead, must_back}
use Rattle.slices.specs.Decode.{grains, wrong_link}
use Rattle.slices.specs.Arena.{link_at}
use Rattle.slices.proofs.Arena.{link_in}
use Rattle.slices.proofs.Heads.{next_grain}
use Rattle.slices.proofs.Slices.{memory_next, memory_prev}
use Rattle.header.specs.Turned.{turned}
use Rattle.header.specs.Told.{says_eqb, leads_yes, leads_no}
use Rattle.free_list.specs.Lent.{lent, held, no_link, link, below_none, link_none, link_some, link_grain, link_past}
use Rattle.free_list.specs.Answers.{told}

abbrev pub Back : List ℕ → ℕ → ℕ → ℕ → Type 0
Back a f x y = (x ≡ no_link) ⊎ ((turned x < grains 8 a) × (link_at 8 a f 0 (turned x) ≡ y))

-- ---- as the code finds it

module _ (a : List ℕ) (f x y g : ℕ) (ne : x ≡ no_link → ⊥) (e : g ≡ turned x) where
  back_outside : grains 8 a ≤ g → Back a f x y → ⊥
  back_outside h (inl q) = ne q
  back_outside h (inr q) = omega (arith, q.0)

  back_says : (r : Bool) → g < grains 8 a → Says (link_at 8 a f 0 g ≡ y) r → Says (Back a f x y) r
  back_says true i h = inr (omega arith, rw e at h)
  back_says false i h = λ b. ⊎_elim (λ (q : x ≡ no_link). ne q) (λ (q : (turned x < grains 8 a) × (link_at 8 a f 0 (turned x) ≡ y)). h (rw e q.1)) b

-- y itself stands for what none would lead to
module _ (a : List ℕ) (f x y g : ℕ) (i : y < grains 8 a) (e : g ≡ if_eq x no_link y (turned x)) where
  pub back_far : grains 8 a ≤ g → Back a f x y → ⊥
  back_far h = ⊎_elim
      (λ (z : x ≡ no_link). absurd (omega (arith, e ∙ eq_yes x no_link y (turned x) z)))
      (λ (n : x ≡ no_link → ⊥). back_outside a f x y g n (e ∙ eq_no x no_link y (turned x) n) h)
      (same? x no_link)

  -- the word v of g is the one that is due, d: the word o of y itself where x is none, and else the one that leads to y
  module _ (s : length a < 18446744073709551616) (h : g < grains 8 a) (o v d : ℕ) (own : o ≡ word_at 8 a (4 * y + f)) (there : v ≡ word_at 8 a (4 * g + f)) (due : d ≡ if_eq x no_link o (32 * y)) where
    pub back_due : Says (Back a f x y) (eqb v d)
    back_due = ⊎_elim
        (λ (z : x ≡ no_link).
        says_eqb (Back a f x y) v d
        (λ _. inl z)
        (λ q. absurd (q (there ∙ ap (λ (j : ℕ). word_at 8 a (4 * j + f)) (e ∙ eq_yes x no_link y (turned x) z) ∙ sym own ∙ sym (due ∙ eq_yes x no_link o (32 * y) z)))))
        (λ (n : x ≡ no_link → ⊥).
        let k = e ∙ eq_no x no_link y (turned x) n in
        let c = due ∙ eq_no x no_link o (32 * y) n in
        says_eqb (Back a f x y) v d
        (λ q. back_says a f x y g n k true h (leads_yes a g f v y 0 h i s there (q ∙ c)))
        (λ q. back_says a f x y g n k false h (leads_no a g f v y 0 h i s there (λ w. q (w ∙ sym c)))))
        (same? x no_link)

-- ---- the memory of the slices

-- a memory whose field f stands in the arena
abbrev pub Reading : Memory → List ℕ → ℕ → Type 0
Reading m a f = (g : ℕ) → g < grains 8 a → m f g ≡ link_at 8 a f 0 g

pub reading_next : (a l v t : List ℕ) → length a < 18446744073709551616 → Reading (held a l v t) a Next
reading_next a l v t s g h =
    memory_next 8 (lent a l v t) g ∙ next_grain 8 a l g (omega (arith, below_none a s))
    ∙ link_in 8 a g Next none h ∙ sym (link_in 8 a g Next 0 h)

pub reading_prev : (a l v t : List ℕ) → Reading (held a l v t) a Prev
reading_prev a l v t g h = memory_prev 8 (lent a l v t) g ∙ link_in 8 a g Prev wrong_link h ∙ sym (link_in 8 a g Prev 0 h)

-- ---- as the check finds it

module _ (m : Memory) (a : List ℕ) (f x y : ℕ) (s : length a < 18446744073709551616) (k : Reading m a f) where
  -- past none
  some : (x ≡ no_link → ⊥) → run m (must_back (grains 8 a) f (link a x) y) ≡ run m (must_grain (grains 8 a) (link a x) >> must_lead f (link a x) y)
  some ne = ap (run m) (eq_no (link a x) none _ _ (link_some a x s ne))

  -- at a grain
  inside : turned x < grains 8 a → run m (must_grain (grains 8 a) (link a x) >> must_lead f (link a x) y) ≡ run m (must_lead f (turned x) y)
  inside h =
      let e = link_grain a x s h in
      goes m (must_grain (grains 8 a) (link a x)) _ (gives_le m 5 (suc (link a x)) (grains 8 a) (omega arith))
      ∙ ap (λ (z : ℕ). run m (must_lead f z y)) e

  pub back_yes : Back a f x y → run m (must_back (grains 8 a) f (link a x) y) ≡ ok (tt {0})
  back_yes (inl e) = ap (run m) (eq_yes (link a x) none _ _ (link_none a x s e)) ∙ gives_done m (tt {0})
  back_yes (inr q) = ap (run m) (eq_no (link a x) none _ _ (apart q.0)) ∙ inside q.0 ∙ reads m f (turned x) _ (k (turned x) q.0 ∙ q.1) ∙ gives_eq m 5 y y refl
    where
      apart : turned x < grains 8 a → link a x ≡ none → ⊥
      apart h e = omega (arith, link_grain a x s h, below_none a s)

  pub back_no : (Back a f x y → ⊥) → run m (must_back (grains 8 a) f (link a x) y) ≡ no 5
  back_no nb = some (λ e. nb (inl e)) ∙ ⊎_elim
      (λ (h : grains 8 a ≤ turned x).
      halts m (must_grain (grains 8 a) (link a x)) _ (halts_le m 5 (suc (link a x)) (grains 8 a) (omega (arith, link_past a x s h))))
      (λ (h : turned x < grains 8 a).
      inside h ∙ reads m f (turned x) _ (k (turned x) h) ∙ halts_eq m 5 _ y (λ e. nb (inr (h, e))))
      (le? (grains 8 a) (turned x))

  -- the check behind the test for none
  pub back_told : (x ≡ no_link → ⊥) → (r : Bool) → Says (Back a f x y) r → told r ≡ run m (must_grain (grains 8 a) (link a x) >> must_lead f (link a x) y)
  back_told ne true h = sym (back_yes h) ∙ some ne
  back_told ne false h = sym (back_no h) ∙ some ne
