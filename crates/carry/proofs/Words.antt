-- What follows from specs/Words.antt.
use Prim.Native.Nat.{ℕ, suc, ◌+◌, ◌*◌, ◌≤◌, ◌<◌}
use native.Mathlib.Omega.{arith}
use Rattle.std.specs.Prelude.{◌≡◌, refl, List, length}
use Rattle.std.proofs.Common.{⊎_elim}
use Rattle.choice.specs.Choice.{le_yes, le_no, le?}
use Rattle.script.specs.Memory.{Size, Before, Next, Prev, none}
use Rattle.slices.specs.Decode.{wrong_link}
use Rattle.slices.proofs.Decode.{grains_keep}
use Rattle.slices.specs.Arena.{size_at, link_at}
use Rattle.slices.specs.Heads.{next_at}
use Rattle.slices.specs.Slices.{Slices, memory_of}
use Rattle.slices.proofs.Fields.{by_field}
use Rattle.carry.specs.Alike.{SameTables}
use Rattle.carry.specs.Words.{word}

-- ---- two arenas of one length

module _ (a b : List ℕ) (e : length b ≡ length a) where
  pub size_word : (x : ℕ) → word Size x b ≡ word Size x a → size_at 8 b x ≡ size_at 8 a x
  unfolding size_at
  size_word x h =
      let z : 4 * x + 0 ≡ 4 * x = omega arith in
      rw (grains_keep 8 a b e, rw z at h)

  pub link_word_lem : (f out x : ℕ) → word f x b ≡ word f x a → link_at 8 b f out x ≡ link_at 8 a f out x
  unfolding link_at
  link_word_lem f out x h = rw (grains_keep 8 a b e, h)

  -- the next of a list's root is its head, which stands in the table; that of a grain is a link
  pub next_root : (t : List ℕ) (x : ℕ) → suc none ≤ x → next_at 8 b t x ≡ next_at 8 a t x
  unfolding next_at
  next_root t x h = rw (grains_keep 8 a b e, le_yes (suc none) x _ (link_at 8 b Next none x) h, le_yes (suc none) x _ (link_at 8 a Next none x) h)

  pub next_word : (t o : List ℕ) (x : ℕ) → x < suc none → word Next x b ≡ word Next x a → next_at 8 b o x ≡ next_at 8 a t x
  unfolding next_at
  next_word t o x h k = let n : suc none ≤ x → ⊥ = omega arith in rw (le_no (suc none) x _ (link_at 8 b Next none x) n, le_no (suc none) x _ (link_at 8 a Next none x) n, link_word_lem Next none x k)

-- ---- slices with the same tables

-- a field is as it was where its word is
pub field_word : (S T : Slices) → length T.arena ≡ length S.arena → SameTables S T → (f x : ℕ) → (f < 4 → word f x T.arena ≡ word f x S.arena)
    → memory_of 8 T f x ≡ memory_of 8 S f x
unfolding memory_of
field_word S T e k f x = by_field (λ g. (g < 4 → word g x T.arena ≡ word g x S.arena) → memory_of 8 T g x ≡ memory_of 8 S g x)
    (λ h. size_word S.arena T.arena e x (h (omega arith)))
    (λ h. link_word_lem S.arena T.arena e Before wrong_link x (h (omega arith)))
    (λ h. next (h (omega arith)))
    (λ h. link_word_lem S.arena T.arena e Prev wrong_link x (h (omega arith)))
    (λ _. rw k.lists) (λ _. rw k.live) (λ _. rw k.regions) (λ g _. refl)
    f
  where
    next : word Next x T.arena ≡ word Next x S.arena → next_at 8 T.arena T.lists x ≡ next_at 8 S.arena S.lists x
    next h = ⊎_elim
        (λ (r : suc none ≤ x). rw k.lists (next_root S.arena T.arena e S.lists x r))
        (λ (r : x < suc none). next_word S.arena T.arena e S.lists T.lists x r h)
        (le? (suc none) x)
