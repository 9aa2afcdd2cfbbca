-- A link w that may be none: the block y stands for what it would lead to, so that the code asks and writes the same words
-- whichever it is.
use Rattle.std.specs.Prelude.{ℕ, ◌+◌, ◌*◌, ◌<◌, ◌≡◌, refl, List, length, get_or}
use Rattle.std.proofs.Common.{arith, ap, sym, ◌∙◌, subst, ⊎_elim}
use Rattle.choice.specs.Choice.{if_eq, eq_yes, eq_no, eq_case, same?}
use Rattle.word.specs.Word.{word_at, put_at, put_at_length, word_at_other, put_at_own}
use Rattle.script.specs.Memory.{Next, Prev}
use Rattle.slices.specs.Decode.{grains}
use Rattle.header.specs.Turned.{turned}
use Rattle.free_list.specs.Lent.{no_link, Leads, leads_grain}

module _ (a : List ℕ) (w y g : ℕ) (e : g ≡ if_eq w no_link y (turned w)) where
  -- it is a grain
  pub led_grain : y < grains 8 a → Leads a w → g < grains 8 a
  led_grain h f = subst (λ (i : ℕ). i < grains 8 a) (sym e) (eq_case (λ (i : ℕ). i < grains 8 a) w no_link y (turned w) (λ _. h) (leads_grain f))

  -- its link f is v from now on: nothing changes where w is none, for that of y is v already
  pub led_put : (f v : ℕ) → ((j : ℕ) → get_or a j 0 < 256) → word_at 8 a (4 * y + f) ≡ v → put_at 8 a (4 * g + f) v ≡ if_eq w no_link a (put_at 8 a (4 * turned w + f) v)
  led_put f v b q = ⊎_elim
      (λ (z : w ≡ no_link).
      ap (λ (i : ℕ). put_at 8 a (4 * i + f) v) (e ∙ eq_yes w no_link y (turned w) z) ∙ ap (put_at 8 a (4 * y + f)) (sym q) ∙ put_at_own 8 a (4 * y + f) b
      ∙ sym (eq_yes w no_link _ _ z))
      (λ (n : w ≡ no_link → ⊥). ap (λ (i : ℕ). put_at 8 a (4 * i + f) v) (e ∙ eq_no w no_link y (turned w) n) ∙ sym (eq_no w no_link _ _ n))
      (same? w no_link)

-- the length stays
pub led_length : (a b : List ℕ) (w i v : ℕ) → b ≡ if_eq w no_link a (put_at 8 a i v) → length b ≡ length a
led_length a b w i v e = ap length e ∙ eq_case (λ (c : List ℕ). length c ≡ length a) w no_link a _ (λ _. refl) (λ _. put_at_length 8 a i v)

-- and so does the previous of y, where the next of what w leads to was written
pub led_other : (a b : List ℕ) (w y v : ℕ) → b ≡ if_eq w no_link a (put_at 8 a (4 * turned w + Next) v) → word_at 8 b (4 * y + Prev) ≡ word_at 8 a (4 * y + Prev)
led_other a b w y v e =
    ap (λ (c : List ℕ). word_at 8 c (4 * y + Prev)) e
    ∙ eq_case (λ (c : List ℕ). word_at 8 c (4 * y + Prev) ≡ word_at 8 a (4 * y + Prev)) w no_link a _ (λ _. refl) (λ _. word_at_other 8 a (4 * turned w + Next) v (4 * y + Prev) (λ q. omega arith))
