-- What follows from specs/Writable.antt.
use Rattle.std.specs.Prelude.{ℕ, suc, ◌+◌, ◌-◌, ◌*◌, ◌/◌, ◌%◌, ◌≤◌, ◌<◌, ◌≡◌, List, [], ◌∷◌, ◌++◌}
use Rattle.std.proofs.Common.{arith, ap, sym, ◌∙◌, inl, inr}
use Rattle.std.proofs.Math.Path.{refl, subst}
use Rattle.std.proofs.Math.Logic.{⊎_elim}
use Rattle.choice.specs.Choice.{eq_case, upd_each}
use Rattle.class.specs.Class.{list_of}
use Rattle.script.specs.Memory.{Memory, Size, Next, Prev, none, root, free_word, used_word, Write, ◌at◌≔◌, put, apply, latest}
use Rattle.script.specs.Script.{Gives}
use Rattle.script.proofs.Script.{inv_bind, inv_done, inv_le}
use Rattle.sound.specs.Links.{unlink_writes, push_writes}
use Rattle.sound.specs.Checks.{word_of, must_list, see_head}
use Rattle.sound.proofs.Seen.{word_free, word_used, word_last}
use Rattle.sound.specs.Plans.{leave_script, whole_writes, split_writes, pad_writes}
use Rattle.sound.proofs.Inverted.{inv_if_eq}
use Rattle.sound.specs.Checked.{HeadChecked}
use Rattle.sound.proofs.Checked.{head_checked}
use Rattle.sound.specs.Writable.{Fits, Decoded, Link, SizeWord, free_size, used_size, sentinel, NextPlace, Writable, at_size, at_before, at_next, at_prev, at_mark, at_live, AllWritable}

-- ---- what can be stored

-- two lists of writes
pub all_append : (n c : ℕ) (p q : List Write) → AllWritable n c p → AllWritable n c q → AllWritable n c (p ++ q)
all_append n c [] q a b = b
all_append n c (w ∷ p) q a b = (a.0, all_append n c p q a.1 b)

-- ---- what such writes leave

module _ (n c : ℕ) where
  -- a size word that can be stored is decoded as it should be
  word_fits : (x v : ℕ) → x < n → SizeWord n x v → Fits n x (word_of v)
  word_fits x v h (free_size s e a b) = subst (Fits n x) (sym (ap word_of e ∙ word_free s a)) (a, b)
  word_fits x v h (used_size s e a b) = subst (Fits n x) (sym (ap word_of e ∙ word_used s a)) (a, b)
  word_fits x v h (sentinel e) = subst (Fits n x) (sym (ap word_of e ∙ word_last)) h

  -- what a decoder may show stays so
  decoded_put : (m : Memory) (w : Write) → Decoded n m → Writable n c w → Decoded n (put m w)
  decoded_put m w d (at_size {x} {v} h s) = upd_each (λ y u. Fits n y (word_of u)) (m Size) x v (word_fits x v h s) (λ y _. d y)
  decoded_put m w d (at_before h s) = d
  decoded_put m w d (at_next h s) = d
  decoded_put m w d (at_prev h s) = d
  decoded_put m w d (at_mark h s) = d
  decoded_put m w d (at_live h s) = d

  pub decoded_after : (m : Memory) (l : List Write) → Decoded n m → AllWritable n c l → Decoded n (apply m l)
  decoded_after m [] d a = d
  decoded_after m (w ∷ l) d a = decoded_after (put m w) l (decoded_put m w d a.0) a.1

  -- a link stays a link, whatever is written: a next one, and a previous one
  pub next_after : (l : List Write) (y v : ℕ) → AllWritable n c l → Link n v → Link n (latest l Next y v)
  next_after [] y v a k = k
  next_after (w ∷ l) y v a k = next_after l y _ a.1 (one w a.0)
    where
      one : (w : Write) → Writable n c w → Link n (latest (w ∷ []) Next y v)
      one w (at_size h s) = k
      one w (at_before h s) = k
      one w (at_next {x} {v = u} h s) = eq_case (Link n) y x u v (λ _. s) (λ _. k)
      one w (at_prev h s) = k
      one w (at_mark h s) = k
      one w (at_live h s) = k

  pub prev_after : (l : List Write) (y v : ℕ) → AllWritable n c l → Link n v → Link n (latest l Prev y v)
  prev_after [] y v a k = k
  prev_after (w ∷ l) y v a k = prev_after l y _ a.1 (one w a.0)
    where
      one : (w : Write) → Writable n c w → Link n (latest (w ∷ []) Prev y v)
      one w (at_size h s) = k
      one w (at_before h s) = k
      one w (at_next h s) = k
      one w (at_prev {x} {v = u} h s) = eq_case (Link n) y x u v (λ _. s) (λ _. k)
      one w (at_mark h s) = k
      one w (at_live h s) = k

  -- ---- parts of plans

  -- a link that isn't none
  pub link_grain : (v : ℕ) → Link n v → (v ≡ none → ⊥) → v < n
  link_grain v (inl e) ne = absurd (ne e)
  link_grain v (inr h) ne = h

  -- a block leaves its list
  pub unlink_writable : (k x p : ℕ) → k < 16 * c → Link n x → Link n p → AllWritable n c (unlink_writes k x p)
  unlink_writable k x p h a b = (
    at_next (eq_case (NextPlace n c) p none (root k) p (λ _. inr (k, refl, h)) (λ ne. inl (link_grain p b ne))) a,
    eq_case (AllWritable n c) x none _ _
        (λ _. eq_case (AllWritable n c) p none _ _ (λ _. (at_mark h (omega arith), tt)) (λ _. tt))
        (λ ne. (at_prev (link_grain x a ne) b, tt)),
  )

  -- a block goes to the head of a list
  pub push_writable : (k y h : ℕ) → k < 16 * c → y < n → Link n h → AllWritable n c (push_writes k y h)
  push_writable k y h i j a = eq_case (AllWritable n c) h none _ _
      (λ _. (at_mark i (omega arith), rest))
      (λ ne. (at_prev (link_grain h a ne) (inr j), rest))
    where
      rest : AllWritable n c ((Prev at y ≔ none) ∷ (Next at y ≔ h) ∷ (Next at root k ≔ y) ∷ [])
      rest = (at_prev j (inl refl), (at_next (inl j) a, (at_next (inr (k, refl, i)) (inr j), tt)))

  -- a head that was seen is a link
  pub head_link : (m : Memory) (k h : ℕ) → HeadChecked n m k h → Link n h
  head_link m k h i = ⊎_elim (λ a. inl a.0) (λ a. inr a.0) i.marked

  -- the block at x keeps k of t grains
  pub leave_writable : (m : Memory) (w : List Write) (x t k : ℕ) (v : List Write) → AllWritable n c w → 1 ≤ k → k ≤ t → x + t + 1 ≤ n
      → Gives m (leave_script n c w x t k) v → AllWritable n c v
  unfolding leave_script
  leave_writable m w x t k v a p l h g = ⊎_elim
      (λ i. subst (AllWritable n c) (inv_done m _ v i.1) (all_append n c w (whole_writes x t) a (whole i.0)))
      (λ i.
      let b = inv_bind m (must_list c (t - k)) _ i.1 in
      let d = inv_bind m (see_head n (list_of (t - k))) _ b.2 in
      subst (AllWritable n c) (inv_done m _ v d.2) (rest i.0 (inv_le m 5 (suc (list_of (t - k))) (16 * c) b.1) d.0 (head_link m _ _ (head_checked n m _ _ d.1))))
      (inv_if_eq m k t _ _ g)
    where
      whole : k ≡ t → AllWritable n c (whole_writes x t)
      whole e = (at_size {x = x} {v = used_word t} (omega arith) (used_size t refl (omega arith) (omega arith)), (at_before {x = x + t} {v = x} (omega arith) (inr (omega arith)), tt))

      split : (k ≡ t → ⊥) → AllWritable n c (split_writes x t k)
      split ne = (
        at_size {x = x} {v = used_word k} (omega arith) (used_size k refl (omega arith) (omega arith)),
        (
          at_size {x = x + k} {v = free_word (t - k)} (omega arith) (free_size (t - k) refl (omega (arith, ne)) (omega arith)),
          (at_before {x = x + k} {v = x} (omega arith) (inr (omega arith)), (at_before {x = x + t} {v = x + k} (omega arith) (inr (omega arith)), tt)),
        ),
      )

      rest : (k ≡ t → ⊥) → suc (list_of (t - k)) ≤ 16 * c → (u : ℕ) → Link n u
          → AllWritable n c ((w ++ push_writes (list_of (t - k)) (x + k) (latest w Next (root (list_of (t - k))) u)) ++ split_writes x t k)
      rest ne i u j =
          all_append n c (w ++ push_writes (list_of (t - k)) (x + k) (latest w Next (root (list_of (t - k))) u)) (split_writes x t k)
          (all_append n c w _ a (push_writable (list_of (t - k)) (x + k) _ (omega arith) (omega arith) (next_after w _ u a j))) (split ne)

  -- the word before a payload that stands at a grain
  pub pad_writable : (x d k : ℕ) → 1 ≤ d → d ≤ 2 * k → x + k + 1 ≤ n → AllWritable n c (pad_writes x d)
  pad_writable x d k p l h = eq_case (AllWritable n c) (d % 2) 0 _ _ (λ _. (at_prev {x = x + d / 2 - 1} {v = x} (omega arith) (inr (omega arith)), tt)) (λ _. tt)
