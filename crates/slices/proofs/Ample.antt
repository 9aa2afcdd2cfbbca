-- What follows from specs/Ample.antt.
use Rattle.std.specs.Prelude.{ℕ, ◌≤◌, ◌<◌, List, [], ◌∷◌}
use Rattle.std.proofs.Common.{arith, sym, subst, inl, inr, ⊎_elim}
use Rattle.choice.specs.Choice.{le?}
use Rattle.script.specs.Memory.{Write}
use Rattle.sound.specs.Checks.{Word, is_free, is_used, is_last, is_bad, word_of}
use Rattle.sound.specs.Writable.{Fits, Decoded, SizeWord, free_size, used_size, sentinel, Writable, at_size, at_before, at_next, at_prev, at_mark, at_live, AllWritable}
use Rattle.slices.specs.Decode.{ValidSize, valid_free, valid_used, valid_last, grains, Inside, wrong_size}
use Rattle.slices.specs.Arena.{size_at}
use Rattle.slices.proofs.Arena.{size_inside, size_out}
use Rattle.slices.specs.Slices.{Slices, memory_of, Bit, Valid, AllValid}
use Rattle.slices.proofs.Slices.{memory_size}
use Rattle.slices.specs.Ample.{Ample}

-- a wrong word says nothing
wrong_fits : (n x : ℕ) → Fits n x (word_of wrong_size)
unfolding word_of
wrong_fits n x = tt

-- what was decoded is as the scripts expect
pub decoded_slices : (w : ℕ) (S : Slices) → Decoded (grains w S.arena) (memory_of w S)
decoded_slices w S x = subst (λ (v : ℕ). Fits n x (word_of v)) (sym (memory_size w S x)) (⊎_elim
    (λ (h : n ≤ x). subst (λ (v : ℕ). Fits n x (word_of v)) (sym (size_out w S.arena x h)) (wrong_fits n x))
    (λ (h : x < n). go h (word_of (size_at w S.arena x)) (size_inside w S.arena x))
    (le? n x))
  where
    n : ℕ
    n = grains w S.arena

    go : x < n → (u : Word) → Inside n x u → Fits n x u
    go h (is_free s) i = i
    go h (is_used s) i = i
    go h is_last i = h
    go h is_bad i = tt

module _ (w c : ℕ) (S : Slices) (r : Ample w c S) where
  -- a number that is a bit
  bit : (v : ℕ) → v ≤ 1 → Bit v
  bit v h = ⊎_elim (λ (e : v ≤ 0). inl (omega arith)) (λ (e : 0 < v). inr (omega arith)) (le? v 0)

  -- a size that can be written can be stored
  valid_size : (x v : ℕ) → SizeWord (grains w S.arena) x v → ValidSize (grains w S.arena) x v
  valid_size x v (free_size s e a b) = subst (ValidSize (grains w S.arena) x) (sym e) (valid_free s a b)
  valid_size x v (used_size s e a b) = subst (ValidSize (grains w S.arena) x) (sym e) (valid_used s a b)
  valid_size x v (sentinel e) = subst (ValidSize (grains w S.arena) x) (sym e) valid_last

  -- and so can any write of a plan, and all of them
  pub writable_valid : (x : Write) → Writable (grains w S.arena) c x → Valid w S x
  writable_valid x (at_size {x = y} {v} h s) = (h, valid_size y v s)
  writable_valid x (at_before h s) = (h, s)
  writable_valid x (at_next (inl h) s) = (inl h, s)
  writable_valid x (at_next (inr h) s) = (inr (record { list = h.0; place = h.1; known = omega (arith, h.2, r.classes); room = r.lists }), s)
  writable_valid x (at_prev h s) = (h, s)
  writable_valid x (at_mark {v = v} h s) = (omega (arith, r.classes), omega (arith, r.lists), bit v s)
  writable_valid x (at_live {v = v} h s) = (omega (arith, r.live), bit v s)

  pub all_valid : (l : List Write) → AllWritable (grains w S.arena) c l → AllValid w S l
  all_valid [] h = tt
  all_valid (x ∷ l) h = (writable_valid x h.0, all_valid l h.1)
