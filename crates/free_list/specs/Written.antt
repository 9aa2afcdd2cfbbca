-- Slices into which some writes were stored: the arena a became b, and the table of the lists, l, became m; with the live
-- bits, v became o. The law of each single write, by the word that is put.
use Rattle.std.specs.Prelude.{ℕ, ◌+◌, ◌*◌, ◌≤◌, ◌≡◌, refl, length}
use Rattle.std.proofs.Common.{arith, ◌∙◌, subst}
use Rattle.std.proofs.Math.Path.{ap, sym}
use mathlib.Core.List.{List, [], ◌∷◌, ◌++◌}
use Rattle.choice.specs.Choice.{eq_yes, eq_no}
use Rattle.word.specs.Word.{put_at}
use Rattle.table.specs.Table.{enter}
use Rattle.bits.specs.Map.{map_words, mark_bit, unmark_bit}
use Rattle.script.specs.Memory.{Next, Prev, Mark, none, root, Write, ◌at◌≔◌}
use Rattle.slices.specs.Decode.{link_word, top_of}
use Rattle.slices.specs.Arena.{put_link}
use Rattle.slices.specs.Heads.{put_head}
use Rattle.slices.specs.Slices.{Slices, stores}
use Rattle.slices.proofs.Slices.{store_root, store_next}
use Rattle.slices.proofs.Kept.{stores_append, stores_lengths}
use Rattle.free_list.specs.Lent.{lent, Room}

-- whatever the live bits v and the regions t are, which stay
pub record Written (a l : List ℕ) (w : List Write) (b m : List ℕ) : Type 0 where
  pub arena : (v t : List ℕ) → b ≡ (stores 8 (lent a l v t) w).arena
  pub lists : (v t : List ℕ) → m ≡ (stores 8 (lent a l v t) w).lists
  pub slices : (v t : List ℕ) → lent b m v t ≡ stores 8 (lent a l v t) w

-- the two slices from all four
written : {a l b m : List ℕ} {w : List Write} → ((v t : List ℕ) → lent b m v t ≡ stores 8 (lent a l v t) w) → Written a l w b m
written h = record {
  arena = λ v t. ap (λ (S : Slices). S.arena) (h v t);
  lists = λ v t. ap (λ (S : Slices). S.lists) (h v t);
  slices = h;
}

-- nothing was
pub written_none : (a l : List ℕ) → Written a l [] a l
written_none a l = written (λ v t. refl)

-- some, and then others
pub written_then : {a l b m c o : List ℕ} {p q : List Write} → Written a l p b m → Written b m q c o → Written a l (p ++ q) c o
written_then {a} {l} {p = p} {q = q} f g =
    written (λ v t. g.slices v t ∙ ap (λ (S : Slices). stores 8 S q) (f.slices v t) ∙ sym (stores_append 8 (lent a l v t) p q))

-- the same ones
pub written_as : {a l b m : List ℕ} {p q : List Write} → q ≡ p → Written a l p b m → Written a l q b m
written_as {a} {l} {b} {m} e f = subst (λ (w : List Write). Written a l w b m) (sym e) f

-- the arena's length stays
pub written_length : {a l b m : List ℕ} {w : List Write} → Written a l w b m → length b ≡ length a
written_length {a} {l} {w = w} f = ap length (f.arena [] []) ∙ (stores_lengths 8 (lent a l [] []) w).arena

-- and that of the table, so that all heads still have a place
pub written_room : {a l b m : List ℕ} {w : List Write} (k : ℕ) → Written a l w b m → Room k l → Room k m
written_room {a} {l} {w = w} k f r = record {
  known = r.known;
  room = rw (ap length (f.lists [] []) ∙ (stores_lengths 8 (lent a l [] []) w).lists) r.room;
}

-- ---- with the live bits

-- the regions t stay, whatever they are
pub record WrittenLive (a l v : List ℕ) (w : List Write) (b m o : List ℕ) : Type 0 where
  pub arena : (t : List ℕ) → b ≡ (stores 8 (lent a l v t) w).arena
  pub lists : (t : List ℕ) → m ≡ (stores 8 (lent a l v t) w).lists
  pub live : (t : List ℕ) → o ≡ (stores 8 (lent a l v t) w).live
  pub slices : (t : List ℕ) → lent b m o t ≡ stores 8 (lent a l v t) w

-- some that leave the live bits alone, and then others
pub live_then : {a l v b m c n o : List ℕ} {p : List Write} (q : List Write) → Written a l p b m → ((t : List ℕ) → lent c n o t ≡ stores 8 (lent b m v t) q) → WrittenLive a l v (p ++ q) c n o
live_then {a} {l} {v} {c = c} {n = n} {o = o} {p = p} q f g = record {
  arena = λ t. ap (λ (S : Slices). S.arena) (all t);
  lists = λ t. ap (λ (S : Slices). S.lists) (all t);
  live = λ t. ap (λ (S : Slices). S.live) (all t);
  slices = all;
}
  where
    all : (t : List ℕ) → lent c n o t ≡ stores 8 (lent a l v t) (p ++ q)
    all t = g t ∙ ap (λ (S : Slices). stores 8 S q) (f.slices v t) ∙ sym (stores_append 8 (lent a l v t) p q)

-- ---- one write

module _ (a l : List ℕ) where
  -- the link x, whose word is z, as the previous of g
  pub wrote_prev : (b : List ℕ) (g x z : ℕ) → link_word 32 (top_of 8) x ≡ z → b ≡ put_at 8 a (4 * g + Prev) z → Written a l ((Prev at g ≔ x) ∷ []) b l
  unfolding put_link
  wrote_prev b g x z e p = written (λ v t. ap (λ (c : List ℕ). lent c l v t) (p ∙ ap (put_at 8 a (4 * g + Prev)) (sym e)))

  -- as its next
  pub wrote_next : (b : List ℕ) (g x z : ℕ) → g ≤ none → link_word 32 (top_of 8) x ≡ z → b ≡ put_at 8 a (4 * g + Next) z → Written a l ((Next at g ≔ x) ∷ []) b l
  unfolding put_link
  wrote_next b g x z h e p = written (λ v t. ap (λ (c : List ℕ). lent c l v t) (p ∙ ap (put_at 8 a (4 * g + Next)) (sym e)) ∙ sym (store_next 8 (lent a l v t) g x h))

  -- as the head of list k
  pub wrote_head : (m : List ℕ) (k x z : ℕ) → link_word 32 (top_of 8) x ≡ z → m ≡ enter l (map_words + k) z → Written a l ((Next at root k ≔ x) ∷ []) a m
  unfolding put_head
  wrote_head m k x z e p = written (λ v t. ap (λ (c : List ℕ). lent a c v t) (p ∙ ap (enter l (map_words + k)) (sym e)) ∙ sym (store_root 8 (lent a l v t) k x))

  -- the mark of list k
  pub wrote_mark : (m : List ℕ) (k : ℕ) → m ≡ mark_bit l k → Written a l ((Mark at k ≔ 1) ∷ []) a m
  wrote_mark m k p = written (λ v t. ap (λ (c : List ℕ). lent a c v t) (p ∙ sym (eq_no 1 0 (unmark_bit l k) (mark_bit l k) (λ q. omega arith))))

  pub wrote_unmark : (m : List ℕ) (k : ℕ) → m ≡ unmark_bit l k → Written a l ((Mark at k ≔ 0) ∷ []) a m
  wrote_unmark m k p = written (λ v t. ap (λ (c : List ℕ). lent a c v t) (p ∙ sym (eq_yes 0 0 (unmark_bit l k) (mark_bit l k) refl)))
