-- The saved words, put back: the slices are those before the take.
use Rattle.std.specs.Prelude.{ℕ, ◌+◌, ◌*◌, ◌<◌, ◌≡◌, List, [], ◌∷◌, length}
use Rattle.std.proofs.Common.{ap, sym, ◌∙◌, subst, ⊎_elim}
use Rattle.choice.specs.Choice.{eq_yes, eq_no, same?}
use Rattle.word.specs.Word.{put_at}
use Rattle.table.specs.Table.{enter}
use Rattle.script.specs.Memory.{Size, Before, Next, Prev, Write}
use Rattle.slices.specs.Slices.{stores}
use Rattle.slices.proofs.Kept.{stores_lengths}
use Rattle.free_list.specs.Lent.{lent, no_link}
use Rattle.free_list.specs.Written.{WrittenLive}
use Rattle.allocate.specs.declared.Plan.{Plan}
use Rattle.occupy.specs.Taken.{Ready, taken_writes}
use Rattle.undo.specs.declared.Links.{Links}
use Rattle.undo.specs.declared.Block.{Block}
use Rattle.undo.specs.declared.Header.{Header}
use Rattle.undo.specs.declared.Heads.{Heads}
use Rattle.undo.specs.declared.Saved.{Saved}
use Rattle.undo.specs.Agree.{Bytes, Agree, AllIn, agree_back, Alike, AllBelow, alike_back}
use Rattle.undo.specs.Saved.{resting, saved_of, words_of, entries_of, SavedTake, Inside, words_in, entries_in}
use Rattle.undo.specs.Covered.{Same, AllCovered, stores_same}
use Rattle.undo.specs.Taken.{split_take, whole_take}

-- ---- put back

abbrev pub links_back : List ℕ → Links → List ℕ
links_back a s = put_at 8 (put_at 8 a (4 * s.next.at + Prev) s.next.word) (4 * s.head.at + Prev) s.head.word

abbrev pub block_back : List ℕ → Block → List ℕ
block_back a s =
    put_at 8 (put_at 8 (put_at 8 a (4 * s.size.at + Size) s.size.word) (4 * s.before.at + Before) s.before.word)
    (4 * s.pad.at + Prev) s.pad.word

abbrev pub header_back : List ℕ → Header → List ℕ
header_back a s =
    put_at 8 (put_at 8 (put_at 8 (put_at 8 a (4 * s.at + Size) s.size) (4 * s.at + Before) s.before) (4 * s.at + Next) s.next)
    (4 * s.at + Prev) s.prev

abbrev pub heads_back : List ℕ → Heads → List ℕ
heads_back l s =
    enter (enter (enter (enter (enter l 0 s.first) 1 s.second) 2 s.third) s.list.at s.list.word) s.rest.at s.rest.word

-- all that is put back in the arena
abbrev pub arena_back : List ℕ → Saved → List ℕ
arena_back a s = header_back (block_back (links_back a s.links) s.block) s.rest

-- ---- as before

pub record Restored (a l v b m o : List ℕ) : Type 0 where
  pub arena : b ≡ a
  pub lists : m ≡ l
  pub live : o ≡ v

-- s was saved before a take, whose writes made b, n, o of the slices: they are as before
abbrev pub Undone : List ℕ → List ℕ → List ℕ → Saved → List ℕ → List ℕ → List ℕ → Type 0
Undone b n o s a' l' v' =
    (a l v : List ℕ) (p : Plan) → Ready a l v p → SavedTake a l v p s → WrittenLive a l v (taken_writes a p) b n o → Restored a l v a' l' v'

-- some writes to what was saved, undone
module _ (a l v b n o : List ℕ) (p : Plan) (w : List Write) where
  abbrev s : Saved
  s = saved_of a l v p

  restored : Bytes a → Inside b n o s → AllCovered s w → WrittenLive a l v w b n o
      → Restored a l v (arena_back b s) (heads_back n s.heads) (enter o s.live.at s.live.word)
  restored f i c g = record {
    arena = agree_back a b (words_of s) f (subst (λ (z : ℕ). AllIn z (words_of s)) agree.size (words_in i)) agree;
    lists = alike_back l n (entries_of s) (subst (λ (z : ℕ). AllBelow z (entries_of s)) alike.size (entries_in i)) alike;
    live = alike_back v o (s.live.at ∷ []) (subst (λ (z : ℕ). s.live.at < z) lit.size i.live, tt) lit;
  }
    where
      same : Same s (lent a l v []) (stores 8 (lent a l v []) w)
      same = stores_same s (lent a l v []) w c

      agree : Agree a b (words_of s)
      agree = subst (λ (z : List ℕ). Agree a z (words_of s)) (sym (g.arena [])) same.arena

      alike : Alike l n (entries_of s)
      alike = subst (λ (z : List ℕ). Alike l z (entries_of s)) (sym (g.lists [])) same.lists

      lit : Alike v o (s.live.at ∷ [])
      lit = subst (λ (z : List ℕ). Alike v z (s.live.at ∷ [])) (sym (g.live [])) same.live

-- a take
pub undone : (b n o : List ℕ) (s : Saved) (a' l' v' : List ℕ) → length b < 18446744073709551616 → Inside b n o s
    → a' ≡ arena_back b s → l' ≡ heads_back n s.heads → v' ≡ enter o s.live.at s.live.word → Undone b n o s a' l' v'
undone b n o s a' l' v' f i ea el ev a l v p r w g = ⊎_elim
    (λ (e : p.keep ≡ p.grains). by p.list no_link (w.words ∙ eq_yes p.keep p.grains _ _ e) (whole_take a l v p short r e p.list no_link))
    (λ (e : p.keep ≡ p.grains → ⊥). by p.rest_list p.head (w.words ∙ eq_no p.keep p.grains _ _ e) (split_take a l v p short r e))
    (same? p.keep p.grains)
  where
    short : length a < 18446744073709551616
    short = subst (λ (z : ℕ). z < 18446744073709551616) (ap length (g.arena []) ∙ (stores_lengths 8 (lent a l v []) (taken_writes a p)).arena) f

    by : (q h : ℕ) → s ≡ saved_of a l v (resting p q h) → AllCovered (saved_of a l v (resting p q h)) (taken_writes a p) → Restored a l v a' l' v'
    by q h e c =
        let z = restored a l v b n o (resting p q h) (taken_writes a p) w.bytes (subst (Inside b n o) e i) c g in record {
          arena = ea ∙ ap (arena_back b) e ∙ z.arena;
          lists = el ∙ ap (λ (u : Saved). heads_back n u.heads) e ∙ z.lists;
          live = ev ∙ ap (λ (u : Saved). enter o u.live.at u.live.word) e ∙ z.live;
        }
