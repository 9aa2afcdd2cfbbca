-- The steps of `see_owner`, and of `block_of`, as the code takes them: at each return one law says what the script answers.
use Rattle.std.specs.Prelude.{ℕ, suc, ◌+◌, ◌-◌, ◌*◌, ◌/◌, ◌%◌, ◌≤◌, ◌<◌, ◌≡◌, refl, List, length, Some, None, Result, Ok, Err}
use Rattle.std.proofs.Common.{arith, ap, ◌∙◌, subst}
use Rattle.std.proofs.Math.Path.{sym}
use Rattle.choice.specs.Choice.{eq_yes, eq_no}
use Rattle.word.specs.Word.{word_at}
use Rattle.bits.specs.TableBit.{table_bit}
use Rattle.script.specs.Memory.{Memory, Size, Before, Prev, Live}
use Rattle.script.specs.Script.{Script, done, ◌>>=◌, ◌>>◌, ok, no, run, unless_eq, must_eq, must_le}
use Rattle.script.proofs.Script.{goes, halts, reads, gives_done, gives_eq, gives_le, halts_eq, halts_le, runs_stop}
use Rattle.sound.specs.Checks.{Word, is_free, is_used, is_last, is_bad, word_of, Owner, must_lead, must_used, as_used, block_of, see_owner}
use Rattle.slices.specs.Decode.{grains, wrong_link, Inside}
use Rattle.slices.specs.Arena.{size_at, link_at}
use Rattle.slices.proofs.Arena.{size_inside, link_in}
use Rattle.slices.proofs.Slices.{memory_size, memory_prev, memory_live}
use Rattle.header.specs.Turned.{turned}
use Rattle.header.specs.Told.{used_of}
use Rattle.free_list.specs.Lent.{lent, held, link, link_grain}
use Rattle.neighbours.specs.Size.{used_some}
use Rattle.refusal.specs.Answered.{answered_as}
use Rattle.refusal.specs.declared.Refusal.{Refusal}
use Rattle.refusal.specs.declared.Refusal.TheVariants.{Damaged}
use Rattle.neighbours.specs.Shown.{before_read, link_from, owned, SeenBlock}
use Rattle.neighbours.specs.declared.Owner.{Owner as OwnerAnswer}

-- ---- the grain of the block

module _ (m : Memory) (q : ℕ) where
  -- the payload is in the middle of a grain
  pub block_odd : q % 2 ≡ 1 → run m (block_of q) ≡ ok (q / 2)
  block_odd e = ap (run m) (eq_yes (q % 2) 1 _ _ e) ∙ gives_done m (q / 2)

  -- the payload is at a grain, and the word before it says v
  block_even : (q % 2 ≡ 1 → ⊥) → {v : ℕ} → m Prev (q / 2 - 1) ≡ v → run m (block_of q) ≡ run m (must_le (suc v) (q / 2) >> done v)
  block_even ne e = ap (run m) (eq_no (q % 2) 1 _ _ ne) ∙ reads m Prev (q / 2 - 1) _ e

  -- it leads to no grain before the payload
  block_out : (q % 2 ≡ 1 → ⊥) → q / 2 ≤ m Prev (q / 2 - 1) → run m (block_of q) ≡ no 5
  block_out ne h = block_even ne refl ∙ halts m (must_le (suc (m Prev (q / 2 - 1))) (q / 2)) _ (halts_le m 5 _ _ (omega arith))

  -- to a grain before it
  block_in : (q % 2 ≡ 1 → ⊥) → {v : ℕ} → m Prev (q / 2 - 1) ≡ v → v < q / 2 → run m (block_of q) ≡ ok v
  block_in ne {v} e h = block_even ne e ∙ goes m (must_le (suc v) (q / 2)) _ (gives_le m 5 (suc v) (q / 2) h) ∙ gives_done m v

-- as the code finds it in the lent slices
module _ (a : List ℕ) (q : ℕ) (i : q < 2 * grains 8 a) (ne : q % 2 ≡ 1 → ⊥) where
  -- nothing is before the arena's first grain
  pub block_first : q / 2 ≡ 0 → SeenBlock a q (Err Damaged)
  block_first e = record { answer = λ l v t. sym (block_out (held a l v t) q ne (omega arith)); inside = tt }

  module _ (s : length a < 18446744073709551616) (w x : ℕ) (e : w ≡ word_at 8 a (4 * (q / 2 - 1) + 3)) (f : x ≡ turned w) where
    -- the word before the payload, as a link
    own_link : (l v t : List ℕ) → held a l v t Prev (q / 2 - 1) ≡ link a w
    own_link l v t = memory_prev 8 (lent a l v t) (q / 2 - 1) ∙ link_in 8 a (q / 2 - 1) Prev wrong_link (omega arith) ∙ ap (link a) (sym e)

    -- which leads to no grain before it
    pub block_past : q / 2 ≤ x → SeenBlock a q (Err Damaged)
    block_past h = record {
      answer = λ l v t. sym (block_out (held a l v t) q ne (rw (own_link l v t) (link_from a w (q / 2) s (omega arith) (omega arith))));
      inside = tt;
    }

    -- which leads to one
    pub block_before : x < q / 2 → SeenBlock a q (Ok x)
    block_before h =
        let b : turned w < grains 8 a = omega arith in
        let g = link_grain a w s b in
        record { answer = λ l v t. sym (block_in (held a l v t) q ne (own_link l v t ∙ g ∙ sym f) h); inside = omega arith }

-- ---- the block

-- its end, when its grain and its size are known
abbrev pub end_at : ℕ → ℕ → Script Owner
end_at x s = do
  must_lead Before (x + s) x
  done (record { at = x; grains = s })

-- the answer on it is the script's
abbrev pub SeenEnd : List ℕ → ℕ → ℕ → Result OwnerAnswer Refusal → Type 0
SeenEnd a x s r = (l v t : List ℕ) → answered_as owned r ≡ run (held a l v t) (end_at x s)

-- after the payload is seen to start before it
abbrev pub owner_of : ℕ → ℕ → ℕ → Script Owner
owner_of q x s = must_le q (2 * (x + s)) >> end_at x s

-- from its grain on
abbrev pub owner_at : ℕ → ℕ → Script Owner
owner_at q x = must_used x >>= owner_of q x

-- only the word of a used block passes
used_none : (m : Memory) (w : Word) → None ≡ used_of w → run m (as_used w) ≡ no 5
used_none m (is_free s) e = runs_stop m 5
used_none m (is_used s) e = cc
used_none m is_last e = runs_stop m 5
used_none m is_bad e = runs_stop m 5

-- a used block of s grains at x has a grain of the arena behind it
pub used_inside : (a : List ℕ) (x s : ℕ) → Some s ≡ used_of (word_of (size_at 8 a x)) → (1 ≤ s) × (x + s < grains 8 a)
used_inside a x s e =
    let i = subst (Inside (grains 8 a) x) (used_some (word_of (size_at 8 a x)) s (sym e)) (size_inside 8 a x) in
    (i.0, omega (arith, i.1))

module _ (a l v t : List ℕ) (q : ℕ) where
  -- no payload is live there
  pub owner_dead : (b : ℕ) → b ≡ table_bit v q → (b ≡ 1 → ⊥) → no 3 ≡ run (held a l v t) (see_owner q)
  unfolding see_owner
  owner_dead b e ne =
      let m = held a l v t in
      sym (reads m Live q _ (memory_live 8 (lent a l v t) q ∙ sym e) ∙ halts m (unless_eq 3 b 1) _ (halts_eq m 3 b 1 ne))

  -- one is
  module _ (b : ℕ) (e : b ≡ table_bit v q) (o : b ≡ 1) where
    -- the bit is read
    owner_live : run (held a l v t) (see_owner q) ≡ run (held a l v t) (block_of q >>= owner_at q)
    unfolding see_owner
    owner_live =
        let m = held a l v t in
        reads m Live q _ (memory_live 8 (lent a l v t) q ∙ sym e) ∙ goes m (unless_eq 3 b 1) _ (gives_eq m 3 b 1 o)

    -- its block is not to be found
    pub owner_lost : (r : ℕ) → no r ≡ run (held a l v t) (block_of q) → no r ≡ run (held a l v t) (see_owner q)
    owner_lost r k = sym (owner_live ∙ halts (held a l v t) (block_of q) _ (sym k))

    module _ (x : ℕ) (k : run (held a l v t) (block_of q) ≡ ok x) where
      -- the size word is read
      owner_there : run (held a l v t) (see_owner q) ≡ run (held a l v t) (as_used (word_of (size_at 8 a x)) >>= owner_of q x)
      owner_there =
          let m = held a l v t in
          owner_live ∙ goes m (block_of q) _ k ∙ reads m Size x _ (memory_size 8 (lent a l v t) x)

      -- no used block is there
      pub owner_none : None ≡ used_of (word_of (size_at 8 a x)) → no 5 ≡ run (held a l v t) (see_owner q)
      owner_none u =
          let m = held a l v t in
          sym (owner_there ∙ halts m (as_used (word_of (size_at 8 a x))) _ (used_none m (word_of (size_at 8 a x)) u))

      -- one of s grains is
      pub owner_known : (s : ℕ) → Some s ≡ used_of (word_of (size_at 8 a x)) → run (held a l v t) (see_owner q) ≡ run (held a l v t) (owner_of q x s)
      owner_known s u =
          let m = held a l v t in
          let w : word_of (size_at 8 a x) ≡ is_used s = used_some (word_of (size_at 8 a x)) s (sym u) in
          owner_there ∙ goes m (as_used (word_of (size_at 8 a x))) _ (ap (λ (w : Word). run m (as_used w)) w ∙ gives_done m s)

module _ (a l v t : List ℕ) (q x s : ℕ) where
  -- the payload is behind its end
  pub owner_behind : 2 * (x + s) < q → run (held a l v t) (owner_of q x s) ≡ no 5
  owner_behind p = let m = held a l v t in halts m (must_le q (2 * (x + s))) _ (halts_le m 5 q (2 * (x + s)) p)

  -- it isn't: the rest hangs on the end
  pub owner_end : q ≤ 2 * (x + s) → run (held a l v t) (owner_of q x s) ≡ run (held a l v t) (end_at x s)
  owner_end p = let m = held a l v t in goes m (must_le q (2 * (x + s))) _ (gives_le m 5 q (2 * (x + s)) p)

module _ (a l v t : List ℕ) (x s : ℕ) (i : x + s < grains 8 a) where
  -- the grain behind it is read
  end_read : run (held a l v t) (end_at x s) ≡ run (held a l v t) (must_eq (link_at 8 a Before 0 (x + s)) x >> done (record { at = x; grains = s }))
  end_read = reads (held a l v t) Before (x + s) _ (before_read a l v t (x + s) i)

  -- what is behind it doesn't lead back
  pub end_torn : (link_at 8 a Before 0 (x + s) ≡ x → ⊥) → no 5 ≡ run (held a l v t) (end_at x s)
  end_torn ne = let m = held a l v t in sym (end_read ∙ halts m (must_eq (link_at 8 a Before 0 (x + s)) x) _ (halts_eq m 5 _ x ne))

  -- all agrees
  pub end_found : link_at 8 a Before 0 (x + s) ≡ x → ok (record { at = x; grains = s }) ≡ run (held a l v t) (end_at x s)
  end_found e =
      let m = held a l v t in
      sym (end_read ∙ goes m (must_eq (link_at 8 a Before 0 (x + s)) x) _ (gives_eq m 5 _ x e) ∙ gives_done m (record { at = x; grains = s }))
