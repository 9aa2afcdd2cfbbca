-- What is written for a return, part by part: the neighbours leave, the joined block goes to the head of its list, it is
-- marked as free at both ends, and its payload is not live any more.
use Rattle.std.specs.Prelude.{ℕ, ◌+◌, ◌*◌, ◌<◌, ◌≡◌, refl, List, ◌++◌, length}
use Rattle.std.proofs.Common.{arith, ap, sym, ◌∙◌, subst, append_assoc}
use Rattle.choice.specs.Choice.{eq_yes}
use Rattle.word.specs.Word.{put_at}
use Rattle.bits.specs.TableBit.{clear_table_bit, set_table_bit}
use Rattle.script.specs.Memory.{Before, free_word, Write}
use Rattle.sound.specs.Links.{push_writes}
use Rattle.sound.specs.Plans.{free_writes}
use Rattle.slices.specs.Decode.{grains, size_word}
use Rattle.slices.proofs.Decode.{free_stored}
use Rattle.slices.specs.Arena.{put_size, put_link}
use Rattle.slices.specs.Slices.{stores}
use Rattle.free_list.specs.Lent.{lent, link, Long, link_keep, grain_stored}
use Rattle.free_list.specs.Written.{Written, WrittenLive, live_then, written_length, written_room}
use Rattle.neighbours.specs.Leaving.{both_leaving}
use Rattle.deallocate.specs.declared.Plan.{Plan as PlanAnswer}
use Rattle.deallocate.specs.Shown.{joined_writes, back_writes, Able, able_keep}

-- ---- its two ends

-- the words of a free block of t grains at z
abbrev pub freed : List ℕ → ℕ → ℕ → List ℕ
freed a z t = put_link 8 (put_size 8 a z (free_word t)) Before (z + t) z

pub freed_words : (a b c : List ℕ) (z t u w : ℕ) → length a < 18446744073709551616 → z < grains 8 a → u ≡ 32 * t → w ≡ 32 * z
    → b ≡ put_at 8 a (4 * z + 0) u → c ≡ put_at 8 b (4 * (z + t) + 1) w → c ≡ freed a z t
unfolding put_size put_link
freed_words a b c z t u w s h d e f g =
    let i : 4 * z + 0 ≡ 4 * z = omega arith in
    g ∙ ap (λ (b : List ℕ). put_at 8 b (4 * (z + t) + 1) w)
    (f ∙ ap (λ (j : ℕ). put_at 8 a j u) i ∙ ap (put_at 8 a (4 * z)) (d ∙ sym (free_stored 32 t)))
    ∙ ap (put_at 8 (put_at 8 a (4 * z) (size_word 32 (free_word t))) (4 * (z + t) + 1)) (e ∙ sym (grain_stored a z s h))

-- ---- all

-- and its payload not live any more
pub returned : (q z t : ℕ) (w : List Write) {a l b m c v o : List ℕ} → Written a l w b m → c ≡ freed b z t → o ≡ clear_table_bit v q → WrittenLive a l v (w ++ free_writes q z t) c m o
returned q z t w {b = b} {m = m} {v = v} {o = o} f e d = live_then {p = w} (free_writes q z t) f (λ u.
    ap (λ (x : List ℕ). lent x m o u) e ∙ ap (λ (x : List ℕ). lent (freed b z t) m x u) (d ∙ sym (eq_yes 0 0 (clear_table_bit v q) (set_table_bit v q) refl)))

-- ---- after both left

-- what is asked for stays
pub able_after : {a l b m : List ℕ} {w : List Write} (r : PlanAnswer) → Written a l w b m → Able a r → Long l → Able b r × Long m
able_after {a} {b = b} {w = w} r f h o = (able_keep a b r (written_length {w = w} f) h, (written_room {w = w} 0 f (record { known = omega arith; room = o })).room)

-- the joined block is written behind their leaving
pub joined_after : (q : ℕ) (r : PlanAnswer) {a l v b m c n o : List ℕ} → Written a l (both_leaving a r.behind r.before) b m → WrittenLive b m v (joined_writes b q r) c n o
    → WrittenLive a l v (back_writes a q r) c n o
joined_after q r {a} {l} {v} {b} {m} {c} {n} {o} f g =
    let w = both_leaving a r.behind r.before in
    subst (λ (w : List Write). WrittenLive a l v w c n o) (sym (append_assoc w (push_writes r.list r.at (link a r.head)) (free_writes q r.at r.grains)))
    (live_then {p = w} (joined_writes a q r) f (λ t. g.slices t
    ∙ ap (λ (h : ℕ). stores 8 (lent b m v t) (push_writes r.list r.at h ++ free_writes q r.at r.grains)) (link_keep a b r.head (written_length {w = w} f))))
