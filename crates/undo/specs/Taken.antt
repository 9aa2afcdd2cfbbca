-- A take writes to nothing but what was saved before it.
use Rattle.std.specs.Prelude.{ℕ, suc, ◌+◌, ◌-◌, ◌*◌, ◌/◌, ◌%◌, ◌<◌, ◌≡◌, refl, List, [], ◌∷◌, ◌++◌, length}
use Rattle.std.proofs.Common.{arith, ap, sym, ◌∙◌, subst, inl, inr}
use Rattle.choice.specs.Choice.{eq_yes, eq_no, eq_case}
use Rattle.bits.specs.Map.{map_words}
use Rattle.script.specs.Memory.{Before, Next, Prev, Live, none, root, ◌at◌≔◌}
use Rattle.sound.specs.Links.{unlink_writes, push_writes}
use Rattle.sound.specs.Plans.{whole_writes, split_writes, pad_writes}
use Rattle.free_list.specs.Lent.{no_link, link, Leads, link_none, link_grain, below_none}
use Rattle.carve.specs.Made.{left_behind}
use Rattle.allocate.specs.declared.Plan.{Plan}
use Rattle.allocate.specs.Plan.{Bounded}
use Rattle.occupy.specs.Taken.{Ready, taken_writes}
use Rattle.undo.specs.declared.Saved.{Saved}
use Rattle.undo.specs.Covered.{In, Covered, AllCovered, covered_then}
use Rattle.undo.specs.Saved.{led_to, resting, saved_of, words_of, entries_of}

-- a link that is not none leads where it says
led_link : (a : List ℕ) (x y : ℕ) → length a < 18446744073709551616 → Leads a x → (link a x ≡ none → ⊥) → led_to x y ≡ link a x
led_link a x y f (inl e) n = absurd (n (link_none a x f e))
led_link a x y f (inr h) n = eq_no x no_link _ _ (λ e. n (link_none a x f e)) ∙ sym (link_grain a x f h)

module _ (a l v : List ℕ) (p : Plan) (f : length a < 18446744073709551616) (r : Ready a l v p) (i j : ℕ) where
  -- whatever the list i and the head j of the rest are taken for
  abbrev saved : Saved
  saved = saved_of a l v (resting p i j)

  b : Bounded a l p
  b = r.bounds

  -- the words of the block
  size_in : In (4 * p.at) (words_of saved)
  size_in = inr (inr (inl (omega arith)))

  before_in : In (4 * (p.at + p.grains) + Before) (words_of saved)
  before_in = inr (inr (inr (inl refl)))

  pad_in : p.place % 2 ≡ 0 → In (4 * (p.at + p.place / 2 - 1) + Prev) (words_of saved)
  pad_in e = inr (inr (inr (inr (inl (omega (arith, b.some))))))

  -- those of the rest
  rest_size_in : In (4 * (p.at + p.keep)) (words_of saved)
  rest_size_in = inr (inr (inr (inr (inr (inl (omega arith))))))

  rest_before_in : In (4 * (p.at + p.keep) + Before) (words_of saved)
  rest_before_in = inr (inr (inr (inr (inr (inr (inl refl))))))

  rest_next_in : In (4 * (p.at + p.keep) + Next) (words_of saved)
  rest_next_in = inr (inr (inr (inr (inr (inr (inr (inl refl)))))))

  rest_prev_in : In (4 * (p.at + p.keep) + Prev) (words_of saved)
  rest_prev_in = inr (inr (inr (inr (inr (inr (inr (inr (inl refl))))))))

  -- the heads
  list_in : In (map_words + (root p.list - suc none)) (entries_of saved)
  list_in = inr (inr (inr (inl (omega arith))))

  rest_list_in : In (map_words + (root i - suc none)) (entries_of saved)
  rest_list_in = inr (inr (inr (inr (inl (omega arith)))))

  -- the writes
  unlink_covered : AllCovered saved (unlink_writes p.list (link a p.next) none)
  unlink_covered = (
    subst (λ (z : ℕ). Covered saved (Next at z ≔ link a p.next)) (sym (eq_yes none none (root p.list) none refl)) (inl (omega arith, list_in)),
    eq_case (AllCovered saved) (link a p.next) none _ _
        (λ _. eq_case (AllCovered saved) none none _ _ (λ _. (b.list.known, tt)) (λ _. tt))
        (λ n. (inl (ap (λ (z : ℕ). 4 * z + Prev) (led_link a p.next p.at f b.next n)), tt)),
  )

  whole_covered : AllCovered saved (whole_writes p.at p.grains)
  whole_covered = (size_in, (before_in, tt))

  split_covered : AllCovered saved (split_writes p.at p.grains p.keep)
  split_covered = (size_in, (rest_size_in, (rest_before_in, (before_in, tt))))

  entry_covered : (u w z : ℕ) → AllCovered saved ((Prev at p.at + p.keep ≔ u) ∷ (Next at p.at + p.keep ≔ w) ∷ (Next at root i ≔ z) ∷ [])
  entry_covered u w z = (rest_prev_in, (inr (omega (arith, b.block, b.kept, below_none a f), rest_next_in), (inl (omega arith, rest_list_in), tt)))

  pad_covered : AllCovered saved (pad_writes p.at p.place)
  pad_covered = eq_case (AllCovered saved) (p.place % 2) 0 _ _ (λ e. (pad_in e, tt)) (λ _. tt)

  end_covered : AllCovered saved (pad_writes p.at p.place ++ ((Live at 2 * p.at + p.place ≔ 1) ∷ []))
  end_covered = covered_then saved (pad_writes p.at p.place) _ pad_covered (refl, tt)

-- where something is left
module _ (a l v : List ℕ) (p : Plan) (f : length a < 18446744073709551616) (r : Ready a l v p) (n : p.keep ≡ p.grains → ⊥) where
  abbrev all : Saved
  all = saved_of a l v p

  push_covered : AllCovered all (push_writes p.rest_list (p.at + p.keep) (link a p.head))
  push_covered =
      let e = entry_covered a l v p f r p.rest_list p.head none (link a p.head) (p.at + p.keep) in
      let s = r.bounds.rest n in
      eq_case (AllCovered all) (link a p.head) none _ _
      (λ _. (s.0.known, e))
      (λ o. (inr (inl (ap (λ (z : ℕ). 4 * z + Prev) (led_link a p.head p.at f s.1 o))), e))

  pub split_take : AllCovered all (taken_writes a p)
  split_take =
      let u = unlink_writes p.list (link a p.next) none in
      let w = left_behind p.at p.grains p.keep p.rest_list (link a p.head) in
      covered_then all (u ++ w) (pad_writes p.at p.place ++ ((Live at 2 * p.at + p.place ≔ 1) ∷ []))
      (covered_then all u w (unlink_covered a l v p f r p.rest_list p.head)
      (subst (AllCovered all) (sym (eq_no p.keep p.grains _ _ n))
      (covered_then all (push_writes p.rest_list (p.at + p.keep) (link a p.head)) (split_writes p.at p.grains p.keep) push_covered (split_covered a l v p f r p.rest_list p.head))))
      (end_covered a l v p f r p.rest_list p.head)

-- where nothing is left
pub whole_take : (a l v : List ℕ) (p : Plan) → length a < 18446744073709551616 → Ready a l v p → p.keep ≡ p.grains → (i j : ℕ)
    → AllCovered (saved_of a l v (resting p i j)) (taken_writes a p)
whole_take a l v p f r g i j =
    let s = saved_of a l v (resting p i j) in
    let u = unlink_writes p.list (link a p.next) none in
    let w = left_behind p.at p.grains p.keep p.rest_list (link a p.head) in
    covered_then s (u ++ w) (pad_writes p.at p.place ++ ((Live at 2 * p.at + p.place ≔ 1) ∷ []))
    (covered_then s u w (unlink_covered a l v p f r i j) (subst (AllCovered s) (sym (eq_yes p.keep p.grains _ _ g)) (whole_covered a l v p f r i j)))
    (end_covered a l v p f r i j)
