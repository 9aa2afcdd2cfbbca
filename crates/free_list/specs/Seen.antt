-- What the checks of an entry and of a head answer, in words of the arena. Each law is one return of the code.
use Rattle.std.specs.Prelude.{ℕ, ◌+◌, ◌*◌, ◌<◌, ◌≡◌, true, false, List, length, Result, Ok, Err}
use Rattle.std.proofs.Math.Path.{refl, sym}
use Rattle.std.proofs.Common.{ap, ◌∙◌}
use Rattle.word.specs.Word.{word_at}
use Rattle.table.specs.Table.{entry}
use Rattle.bits.specs.Map.{map_words, lists, map_bit}
use Rattle.script.specs.Memory.{Next, Prev, Mark, root}
use Rattle.script.specs.Script.{ok, no, run, ◌>>◌, must_eq, done}
use Rattle.script.specs.Script.{Result as Answer}
use Rattle.script.proofs.Script.{goes, halts, reads, gives_done, gives_eq, halts_eq}
use Rattle.refusal.specs.Number.{number}
use Rattle.refusal.specs.declared.Refusal.{Refusal}
use Rattle.refusal.specs.declared.Refusal.TheVariants.{Damaged}
use Rattle.sound.specs.Checks.{must_back, see_prev, see_entry, see_head}
use Rattle.sound.specs.Checks.{Entry as Neighbours}
use Rattle.slices.specs.Decode.{grains}
use Rattle.slices.proofs.Arena.{link_in}
use Rattle.slices.proofs.Heads.{next_root, head_in}
use Rattle.slices.proofs.Slices.{memory_next, memory_mark}
use Rattle.free_list.specs.declared.Entry.{Entry}
use Rattle.free_list.specs.Lent.{lent, held, link}
use Rattle.free_list.specs.Back.{Back, reading_next, reading_prev, back_yes, back_no}
use Rattle.free_list.specs.Place.{Placed}

-- ---- an entry

-- what the words of an entry say: its neighbours; or the number of a refusal
abbrev pub shown_entry : List ℕ → Result Entry Refusal → Answer Neighbours
shown_entry a (Ok e) = ok (record { next = link a e.next; prev = link a e.prev })
shown_entry a (Err r) = no (number r)

-- the answer on y in list k is that of the check, on the memory of the slices
abbrev pub SeenEntry : List ℕ → List ℕ → ℕ → ℕ → Result Entry Refusal → Type 0
SeenEntry a l k y r = (v t : List ℕ) → shown_entry a r ≡ run (held a l v t) (see_entry (grains 8 a) k y)

-- ---- a head

-- what the word of a head says; or the number of a refusal
abbrev pub shown_head : List ℕ → Result ℕ Refusal → Answer ℕ
shown_head a (Ok w) = ok (link a w)
shown_head a (Err r) = no (number r)

abbrev pub SeenHead : List ℕ → List ℕ → ℕ → Result ℕ Refusal → Type 0
SeenHead a l k r = (v t : List ℕ) → shown_head a r ≡ run (held a l v t) (see_head (grains 8 a) k)

-- ---- what is read

-- the head of list k, whose word is h
pub head_read : (a l v t : List ℕ) (k h : ℕ) → k < lists → h ≡ entry l (map_words + k) → held a l v t Next (root k) ≡ link a h
head_read a l v t k h j e = memory_next 8 (lent a l v t) (root k) ∙ next_root 8 a l k ∙ head_in 32 (grains 8 a) l k j ∙ ap (link a) (sym e)

module _ (a l : List ℕ) (k y x p h : ℕ) (s : length a < 18446744073709551616) (i : y < grains 8 a) (j : k < lists)
    (next_is : x ≡ word_at 8 a (4 * y + Next)) (prev_is : p ≡ word_at 8 a (4 * y + Prev)) where
  next_read : (v t : List ℕ) → held a l v t Next y ≡ link a x
  next_read v t = reading_next a l v t s y i ∙ link_in 8 a y Next 0 i ∙ ap (link a) (sym next_is)

  prev_read : (v t : List ℕ) → held a l v t Prev y ≡ link a p
  prev_read v t = reading_prev a l v t y i ∙ link_in 8 a y Prev 0 i ∙ ap (link a) (sym prev_is)

  -- the next does not lead back
  pub entry_next_out : (Back a Prev x y → ⊥) → SeenEntry a l k y (Err Damaged)
  unfolding see_entry
  entry_next_out n v t =
      let m = held a l v t in
      sym (reads m Next y _ (next_read v t) ∙ halts m (must_back (grains 8 a) Prev (link a x) y) _ (back_no m a Prev x y s (reading_prev a l v t) n))

  module _ (b : Back a Prev x y) where
    abbrev neighbours : Neighbours
    neighbours = record { next = link a x; prev = link a p }

    -- the list is not marked
    pub entry_mark_out : (map_bit l k ≡ 1 → ⊥) → SeenEntry a l k y (Err Damaged)
    unfolding see_entry
    entry_mark_out n v t =
        let m = held a l v t in
        sym (reads m Next y _ (next_read v t)
        ∙ goes m (must_back (grains 8 a) Prev (link a x) y) _ (back_yes m a Prev x y s (reading_prev a l v t) b)
        ∙ reads m Next (root k) _ refl ∙ reads m Mark k _ (memory_mark 8 (lent a l v t) k)
        ∙ halts m (must_eq (map_bit l k) 1) _ (halts_eq m 5 (map_bit l k) 1 n))

    -- the rest hangs on what is before it
    module _ (o : map_bit l k ≡ 1) (head_is : h ≡ entry l (map_words + k)) where
      -- the checks up to it
      before : (v t : List ℕ) → let m = held a l v t in let c = see_prev (grains 8 a) (link a h) y (link a p) in
          run m (see_entry (grains 8 a) k y) ≡ run m (c >> done neighbours)
      unfolding see_entry
      before v t =
          let m = held a l v t in
          reads m Next y _ (next_read v t)
          ∙ goes m (must_back (grains 8 a) Prev (link a x) y) _ (back_yes m a Prev x y s (reading_prev a l v t) b)
          ∙ reads m Next (root k) _ (head_read a l v t k h j head_is) ∙ reads m Mark k _ (memory_mark 8 (lent a l v t) k)
          ∙ goes m (must_eq (map_bit l k) 1) _ (gives_eq m 5 (map_bit l k) 1 o) ∙ reads m Prev y _ (prev_read v t)

      pub entry_misplaced : Placed a h y p false → SeenEntry a l k y (Err Damaged)
      entry_misplaced w v t =
          let m = held a l v t in
          sym (before v t ∙ halts m (see_prev (grains 8 a) (link a h) y (link a p)) _ (sym (w l v t)))

      pub entry_placed : Placed a h y p true → SeenEntry a l k y (Ok (record { next = x; prev = p }))
      entry_placed w v t =
          let m = held a l v t in
          sym (before v t ∙ goes m (see_prev (grains 8 a) (link a h) y (link a p)) _ (sym (w l v t)) ∙ gives_done m neighbours)
