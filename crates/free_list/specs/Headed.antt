-- The head of a list, seen: an empty list is not marked; the head of any other is a grain with nothing before it, and the
-- list is marked. Each law is one return of the code.
use Rattle.std.specs.Prelude.{ℕ, suc, ◌+◌, ◌*◌, ◌≤◌, ◌<◌, ◌≡◌, List, length, Ok, Err}
use Rattle.std.proofs.Common.{arith, ap, ◌∙◌, ⊎_elim}
use Rattle.std.proofs.Math.Path.{sym}
use Rattle.choice.specs.Choice.{if_eq, eq_yes, eq_no, le?}
use Rattle.word.specs.Word.{word_at}
use Rattle.table.specs.Table.{entry}
use Rattle.bits.specs.Map.{map_words, lists, map_bit}
use Rattle.bits.proofs.Map.{map_bit_lt}
use Rattle.script.specs.Memory.{Memory, Next, Prev, Mark, none, root}
use Rattle.script.specs.Script.{Script, ok, no, run, done, ◌>>◌, must_eq}
use Rattle.script.proofs.Script.{goes, halts, reads, gives_done, gives_eq, gives_le, halts_eq, halts_le}
use Rattle.sound.specs.Checks.{must_grain, must_lead, see_head}
use Rattle.slices.specs.Decode.{grains}
use Rattle.slices.proofs.Arena.{link_in}
use Rattle.slices.proofs.Slices.{memory_mark}
use Rattle.refusal.specs.declared.Refusal.TheVariants.{Damaged}
use Rattle.header.specs.Turned.{turned}
use Rattle.free_list.specs.Lent.{lent, held, no_link, link, link_none, link_some, link_grain, link_past}
use Rattle.free_list.specs.Back.{reading_prev}
use Rattle.free_list.specs.Seen.{SeenHead, head_read}

-- what is checked of the head h of a list whose mark is b
abbrev checked : ℕ → ℕ → ℕ → Script (Unit {0})
checked n h b = do
  must_grain n h
  must_eq b 1
  must_lead Prev h none

abbrev either : ℕ → ℕ → ℕ → Script (Unit {0})
either n h b = if_eq h none (must_eq b 0) (checked n h b)

module _ (a l : List ℕ) (k h : ℕ) (s : length a < 18446744073709551616) (j : k < lists) (head_is : h ≡ entry l (map_words + k)) where
  -- the head agrees where the checks pass, and is damaged where they don't
  module _ (v t : List ℕ) where
    abbrev checks : Script (Unit {0})
    checks = either (grains 8 a) (link a h) (map_bit l k)

    checked_so : run (held a l v t) (see_head (grains 8 a) k) ≡ run (held a l v t) (checks >> done (link a h))
    unfolding see_head
    checked_so = let m = held a l v t in reads m Next (root k) _ (head_read a l v t k h j head_is) ∙ reads m Mark k _ (memory_mark 8 (lent a l v t) k)

    seen_so : run (held a l v t) checks ≡ ok (tt {0}) → ok (link a h) ≡ run (held a l v t) (see_head (grains 8 a) k)
    seen_so q = let m = held a l v t in sym (checked_so ∙ goes m checks _ q ∙ gives_done m (link a h))

    damaged_so : run (held a l v t) checks ≡ no 5 → no 5 ≡ run (held a l v t) (see_head (grains 8 a) k)
    damaged_so q = let m = held a l v t in sym (checked_so ∙ halts m checks _ q)

  -- an empty list
  module _ (e : h ≡ no_link) where
    empty : (m : Memory) → run m (either (grains 8 a) (link a h) (map_bit l k)) ≡ run m (must_eq (map_bit l k) 0)
    empty m = ap (run m) (eq_yes (link a h) none _ _ (link_none a h s e))

    pub headed_marked : map_bit l k ≡ 1 → SeenHead a l k (Err Damaged)
    headed_marked b v t =
        let m = held a l v t in
        damaged_so v t (empty m ∙ halts_eq m 5 (map_bit l k) 0 (λ z. omega arith))

    pub headed_empty : (map_bit l k ≡ 1 → ⊥) → SeenHead a l k (Ok h)
    headed_empty b v t =
        let m = held a l v t in
        seen_so v t (empty m ∙ gives_eq m 5 (map_bit l k) 0 (omega (arith, map_bit_lt l k, b)))

  module _ (ne : h ≡ no_link → ⊥) where
    -- the test for none is passed
    past : (m : Memory) → run m (either (grains 8 a) (link a h) (map_bit l k)) ≡ run m (checked (grains 8 a) (link a h) (map_bit l k))
    past m = ap (run m) (eq_no (link a h) none _ _ (link_some a h s ne))

    -- the head is no grain
    outside : (m : Memory) → grains 8 a ≤ turned h → run m (checked (grains 8 a) (link a h) (map_bit l k)) ≡ no 5
    outside m q = halts m (must_grain (grains 8 a) (link a h)) _ (halts_le m 5 (suc (link a h)) (grains 8 a) (omega (arith, link_past a h s q)))

    inside : (m : Memory) → turned h < grains 8 a → run m (checked (grains 8 a) (link a h) (map_bit l k)) ≡ run m (must_eq (map_bit l k) 1 >> must_lead Prev (link a h) none)
    inside m q = goes m (must_grain (grains 8 a) (link a h)) _ (gives_le m 5 (suc (link a h)) (grains 8 a) (omega (arith, link_grain a h s q)))

    pub headed_unmarked : (map_bit l k ≡ 1 → ⊥) → SeenHead a l k (Err Damaged)
    headed_unmarked n v t = damaged_so v t (go (held a l v t))
      where
        go : (m : Memory) → run m (either (grains 8 a) (link a h) (map_bit l k)) ≡ no 5
        go m = past m ∙ ⊎_elim (λ (q : grains 8 a ≤ turned h). outside m q)
            (λ (q : turned h < grains 8 a). inside m q ∙ halts m (must_eq (map_bit l k) 1) _ (halts_eq m 5 (map_bit l k) 1 n))
            (le? (grains 8 a) (turned h))

    pub headed_outside : (g : ℕ) → g ≡ turned h → grains 8 a ≤ g → SeenHead a l k (Err Damaged)
    headed_outside g e q v t = damaged_so v t (past (held a l v t) ∙ outside (held a l v t) (omega arith))

    -- the head is the grain g, and the word w says what is before it
    module _ (o : map_bit l k ≡ 1) (g w : ℕ) (e : g ≡ turned h) (q : g < grains 8 a) (c : w ≡ word_at 8 a (4 * g + Prev)) where
      preceded : (v t : List ℕ) → let m = held a l v t in run m (either (grains 8 a) (link a h) (map_bit l k)) ≡ run m (must_eq (link a w) none)
      preceded v t =
          let m = held a l v t in
          let r : m Prev g ≡ link a w = reading_prev a l v t g q ∙ link_in 8 a g Prev 0 q ∙ ap (link a) (sym c) in
          past m ∙ inside m (omega arith) ∙ goes m (must_eq (map_bit l k) 1) _ (gives_eq m 5 (map_bit l k) 1 o)
          ∙ ap (λ (x : ℕ). run m (must_lead Prev x none)) (link_grain a h s (omega arith) ∙ sym e) ∙ reads m Prev g _ r

      pub headed_behind : (w ≡ no_link → ⊥) → SeenHead a l k (Err Damaged)
      headed_behind z v t = damaged_so v t (preceded v t ∙ halts_eq (held a l v t) 5 (link a w) none (link_some a w s z))

      pub headed_first : w ≡ no_link → SeenHead a l k (Ok h)
      headed_first z v t = seen_so v t (preceded v t ∙ gives_eq (held a l v t) 5 (link a w) none (link_none a w s z))
