-- The head that the last piece is put before, on the memory as the pieces of full length will leave it. Each law is one return
-- of the code.
use Rattle.std.specs.Prelude.{ℕ, zero, suc, ◌+◌, ◌-◌, ◌*◌, ◌≤◌, ◌<◌, ◌≡◌, refl, List, length, Result, Ok, Err}
use Rattle.std.proofs.Common.{arith, ap, sym, ◌∙◌, inl, inr, ⊎_elim}
use Rattle.choice.specs.Choice.{same?}
use Rattle.class.specs.Class.{list_of}
use Rattle.table.specs.Table.{entry}
use Rattle.bits.specs.Map.{map_words, lists, map_bit}
use Rattle.script.specs.Memory.{Memory, Next, none, root, apply}
use Rattle.script.specs.Script.{ok, run}
use Rattle.sound.specs.Checks.{see_head}
use Rattle.slices.specs.Decode.{grains}
use Rattle.slices.proofs.Slices.{memory_mark}
use Rattle.header.specs.Turned.{turned, grains_few}
use Rattle.header.specs.Told.{link_leads, link_only}
use Rattle.refusal.specs.declared.Refusal.{Refusal}
use Rattle.refusal.specs.declared.Refusal.TheVariants.{Damaged}
use Rattle.free_list.specs.Lent.{held, lent, no_link, link, Leads, below_none, link_none, link_grain, grain_word}
use Rattle.free_list.specs.Seen.{shown_head, SeenHead, head_read}
use Rattle.free_list.specs.Leading.{head_leads}
use Rattle.region.specs.Pieces.{head_of, full_writes}
use Rattle.region.specs.Row.{row_head}
use Rattle.give.specs.Joined.{Joined}
use Rattle.give.specs.Behind.{Behind}
use Rattle.give.specs.HeadBehind.{behind_last, behind_unmarked, behind_second, behind_other}

-- i pieces of full length from g on, one at least, in an arena where h is the head that they are put before
pub record Row (a l : List ℕ) (g i h : ℕ) : Type 0 where
  pub some : 1 ≤ i
  pub inside : g + 4096 * i ≤ grains 8 a
  pub seen : SeenHead a l (list_of 4095) (Ok h)

-- the answer on list k is that of the check, on the memory that these pieces leave
abbrev pub SeenLast : List ℕ → List ℕ → ℕ → ℕ → ℕ → ℕ → Result ℕ Refusal → Type 0
SeenLast a l g i h k r = (v t : List ℕ) → shown_head a r ≡ run (apply (held a l v t) (full_writes g (link a h) i)) (see_head (grains 8 a) k)

-- behind the pieces the last one is the head of their list
head_last : (g h i : ℕ) → 1 ≤ i → head_of g h i ≡ g + 4096 * (i - 1)
unfolding head_of
head_last g h zero p = absurd (omega arith)
head_last g h (suc i) p = ap (λ (j : ℕ). g + 4096 * j) (omega arith)

module _ (a l : List ℕ) (g i h k : ℕ) (s : length a < 18446744073709551616) (row : Row a l g i h) where
  -- the word of the last one
  last_link : (w : ℕ) → w ≡ 32 * (g + 4096 * (i - 1)) → link a w ≡ g + 4096 * (i - 1)
  last_link w e = link_leads (grains 8 a) w (g + 4096 * (i - 1)) (omega (arith, row.some, row.inside)) (grains_few a s) e

  -- the pieces' own list
  pub last_own : k ≡ list_of 4095 → (w : ℕ) → w ≡ 32 * (g + 4096 * (i - 1)) → SeenLast a l g i h k (Ok w)
  last_own k_is w e v t = rw k_is (ap ok (last_link w e ∙ sym (head_last g (link a h) i row.some))
      ∙ sym (row_head (held a l v t) (grains 8 a) g (link a h) (below_none a s) (sym (row.seen v t)) i row.inside))

  module _ (other : k ≡ list_of 4095 → ⊥) (known : k < lists) (w : ℕ) (word_is : w ≡ entry l (map_words + k)) where
    -- the head of the list before them
    next_is_lem : (v t : List ℕ) → held a l v t Next (root k) ≡ link a w
    next_is_lem v t = head_read a l v t k w known word_is

    -- only the word of a grain leads there
    word_of : (y : ℕ) → y < grains 8 a → link a w ≡ y → w ≡ 32 * y
    word_of y p e = ⊎_elim (λ (q : w ≡ 32 * y). q) (λ (n : w ≡ 32 * y → ⊥). absurd (link_only (grains 8 a) w y p (grains_few a s) n e)) (same? w (32 * y))

    -- the last piece is the head of this list too
    module _ (e : w ≡ 32 * (g + 4096 * (i - 1))) where
      one : i ≡ suc (i - 1)
      one = omega (arith, row.some)

      pub last_first : map_bit l k ≡ 1 → SeenLast a l g i h k (Ok w)
      last_first m v t = ap ok (last_link w e) ∙ sym (behind_last (held a l v t) (grains 8 a) g (link a h) k i (below_none a s) other row.inside (i - 1) one
          (next_is_lem v t ∙ last_link w e) (memory_mark 8 (lent a l v t) k ∙ m))

      -- and it is not marked
      pub last_unmarked : (map_bit l k ≡ 1 → ⊥) → SeenLast a l g i h k (Err Damaged)
      last_unmarked n v t = sym (behind_unmarked (held a l v t) (grains 8 a) g (link a h) k i (below_none a s) other row.inside (i - 1) one
          (next_is_lem v t ∙ last_link w e) (λ q. n (sym (memory_mark 8 (lent a l v t) k) ∙ q)))

    -- another piece is put before its head
    pub last_second : Joined g i h w → (w ≡ 32 * (g + 4096 * (i - 1)) → ⊥) → SeenLast a l g i h k (Err Damaged)
    last_second q d v t = go q
      where
        m : Memory
        m = held a l v t

        apart : (y : ℕ) → y < grains 8 a → link a w ≡ y → y ≡ head_of g (link a h) i → ⊥
        apart y p e z = d (word_of y p e ∙ ap (λ (x : ℕ). 32 * x) (z ∙ head_last g (link a h) i row.some))

        joined : (y : ℕ) → y < grains 8 a → link a w ≡ y → Behind m g (link a h) i y → shown_head a (Err Damaged) ≡ run (apply m (full_writes g (link a h) i)) (see_head (grains 8 a) k)
        joined y p e b = sym (behind_second m (grains 8 a) g (link a h) k i (below_none a s) other row.inside y (next_is_lem v t ∙ e) p b (apart y p e))

        go : Joined g i h w → shown_head a (Err Damaged) ≡ run (apply m (full_writes g (link a h) i)) (see_head (grains 8 a) k)
        go (inl c) =
            let p : turned h < grains 8 a = grain (λ z. c.1 (c.0 ∙ z)) in
            joined (turned h) p (ap (link a) c.0 ∙ link_grain a h s p) (inl (sym (link_grain a h s p)))
          where
            grain : (h ≡ no_link → ⊥) → turned h < grains 8 a
            grain n = ⊎_elim (λ (z : h ≡ no_link). absurd (n z)) (λ (z : turned h < grains 8 a). z) (head_leads a l (list_of 4095) h s row.seen)
        go (inr c) =
            let p : g + 4096 * c.0 < grains 8 a = omega (arith, row.inside, c.1) in
            joined (g + 4096 * c.0) p (link_leads (grains 8 a) w (g + 4096 * c.0) p (grains_few a s) c.2) (inr (c.0, c.1, refl))

    -- none is
    pub last_other : (Joined g i h w → ⊥) → (r : Result ℕ Refusal) → SeenHead a l k r → SeenLast a l g i h k r
    last_other n r q v t = q v t ∙ sym (behind_other (held a l v t) (grains 8 a) g (link a h) k i (below_none a s) other row.inside (link a w) (next_is_lem v t)
        (old (head_leads a l (list_of 4095) h s row.seen)) new)
      where
        old : Leads a h → link a w ≡ link a h → link a h ≡ none
        old (inl e) q = link_none a h s e
        old (inr p) q =
            let e : w ≡ h = word_of (turned h) p (q ∙ link_grain a h s p) ∙ sym (grain_word a h s p) in
            absurd (n (inl (e, λ z. omega (arith, grain_word a h s p, grains_few a s))))

        new : (j : ℕ) → j < i → link a w ≡ g + 4096 * j → ⊥
        new j p e = n (inr (j, p, word_of (g + 4096 * j) (omega (arith, row.inside)) e))
