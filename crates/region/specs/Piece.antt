-- One piece of a region laid out: what is put in the slices is what the plan writes. A piece is a free block and its
-- sentinel, of at most 4096 grains, so that its block has a list.
use Rattle.std.specs.Prelude.{ℕ, ◌+◌, ◌-◌, ◌*◌, ◌^◌, ◌≤◌, ◌<◌, ◌≡◌, refl, length}
use Rattle.std.proofs.Common.{arith, sym, ◌∙◌}
use Rattle.std.proofs.Math.Path.{ap}
use mathlib.Core.List.{List, [], ◌∷◌}
use Rattle.class.specs.Class.{list_of}
use Rattle.class.proofs.Class.{list_small}
use Rattle.word.specs.Word.{put_at, put_at_length}
use Rattle.bits.specs.Map.{map_words}
use Rattle.bits.specs.Map.{lists as list_count}
use Rattle.script.specs.Memory.{Size, Before, none, free_word, last_word, ◌at◌≔◌}
use Rattle.sound.specs.Links.{push_writes}
use Rattle.sound.specs.RegionPlan.{piece_writes}
use Rattle.slices.specs.Decode.{size_word, link_word, top_of, grains}
use Rattle.slices.proofs.Decode.{grains_keep, free_stored, last_stored}
use Rattle.slices.specs.Arena.{put_size, put_link}
use Rattle.free_list.specs.Lent.{Room, Leads, link, no_link, link_keep, leads_keep, none_stored, grain_stored}
use Rattle.free_list.specs.Lent.{lent}
use Rattle.free_list.specs.Written.{Written, written_then}

-- a piece of m grains at x can be laid out before h
pub record Placeable (a l : List ℕ) (x m h : ℕ) : Type 0 where
  pub long : 2 ≤ m
  pub short : m ≤ 2 ^ 12
  pub inside : x + m ≤ grains 8 a
  pub heads : map_words + list_count ≤ length l
  pub before : Leads a h

-- ---- two words of a header

module _ (a b : List ℕ) (g z y : ℕ) (put : b ≡ put_at 8 (put_at 8 a (4 * g) z) (4 * g + 1) y) where
  -- the length stays
  header_length : length b ≡ length a
  header_length = ap length put ∙ put_at_length 8 (put_at 8 a (4 * g) z) (4 * g + 1) y ∙ put_at_length 8 a (4 * g) z

  -- and so do the grains
  pub header_grain : (x : ℕ) → x < grains 8 a → x < grains 8 b
  header_grain x h = rw (grains_keep 8 a b header_length) h

  -- as the plan writes them
  wrote_header : (l : List ℕ) (s v : ℕ) → size_word 32 s ≡ z → link_word 32 (top_of 8) v ≡ y → Written a l ((Size at g ≔ s) ∷ (Before at g ≔ v) ∷ []) b l
  unfolding put_size put_link
  wrote_header l s v size before =
      let e : b ≡ put_link 8 (put_size 8 a g s) Before g v = put ∙ rw (size, before) in
      record { arena = λ n t. e; lists = λ n t. refl; slices = λ n t. ap (λ (c : List ℕ). lent c l n t) e }

-- ---- the piece

module _ (a l : List ℕ) (x m h k : ℕ) (p : Placeable a l x m h) (s : length a < 18446744073709551616) (k_is : k ≡ list_of (m - 1)) (b c : List ℕ) (w v : ℕ)
    (w_is : w ≡ 32 * (m - 1)) (v_is : v ≡ 32 * x)
    (block : b ≡ put_at 8 (put_at 8 a (4 * x) w) (4 * x + 1) no_link)
    (sentinel : c ≡ put_at 8 (put_at 8 b (4 * (x + (m - 1))) 35) (4 * (x + (m - 1)) + 1) v) where
  -- its block and its sentinel
  block_written : Written a l ((Size at x ≔ free_word (m - 1)) ∷ (Before at x ≔ none) ∷ []) b l
  block_written = wrote_header a b x w no_link block l (free_word (m - 1)) none (free_stored 32 (m - 1) ∙ sym w_is) none_stored

  sentinel_written : Written b l ((Size at x + (m - 1) ≔ last_word) ∷ (Before at x + (m - 1) ≔ x) ∷ []) c l
  sentinel_written = wrote_header b c (x + (m - 1)) 35 v sentinel l last_word x (last_stored 32)
      (grain_stored a x s (omega (arith, p.inside, p.long)) ∙ sym v_is)

  -- the arena's length is that of before
  both_length : length c ≡ length a
  both_length = header_length b c (x + (m - 1)) 35 v sentinel ∙ header_length a b x w no_link block

  -- so the block can be put before the head
  pub can_push : (x < grains 8 c) × Room k l × Leads c h
  can_push = (rw (grains_keep 8 a c both_length) (omega (arith, p.inside, p.long)), list_room, leads_keep a c h both_length p.before)
    where
      list_room : Room k l
      list_room = record {
        known = rw k_is (list_small (m - 1) (omega (arith, p.long)) 12 (omega (arith, p.short, p.long)));
        room = p.heads;
      }

  -- all writes of the piece
  pub piece_written : (d o : List ℕ) → Written c l (push_writes k x (link c h)) d o → Written a l (piece_writes x m (link a h)) d o
  piece_written d o q = written_then block_written (written_then sentinel_written (rw (k_is, link_keep a c h both_length) at q))
