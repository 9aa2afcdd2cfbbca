-- The script lays out pieces of full length in a row: where the list's head is seen before the first, none of them is
-- refused, and the writes so far are those that `lay_full` stores.
use Prim.Native.Nat.{ℕ, zero, suc, ◌+◌, ◌-◌, ◌*◌, ◌^◌, ◌≤◌, ◌<◌, min}
use native.Mathlib.Omega.{arith}
use Rattle.std.specs.Prelude.{◌≡◌, [], ◌++◌}
use Rattle.std.proofs.Common.{sym, ◌∙◌, ⊎_elim}
use Rattle.std.proofs.Math.Path.{subst}
use Rattle.class.specs.Class.{list_of}
use Rattle.script.specs.Memory.{Memory, Mark, Prev, none, apply}
use Rattle.script.proofs.Memory.{apply_append}
use Rattle.script.specs.Script.{run, Gives}
use Rattle.sound.specs.Checks.{see_head}
use Rattle.sound.proofs.Checked.{head_checked}
use Rattle.sound.specs.RegionPlan.{piece_writes, lay_script}
use Rattle.region.specs.Layout.{lay_more}
use Rattle.region.specs.Pushed.{head_pushed}
use Rattle.region.specs.Pieces.{head_of, full_writes}

-- a head that was seen and is not none is marked
seen_marked : (n : ℕ) (m : Memory) (k h : ℕ) → Gives m (see_head n k) h → (h ≡ none → ⊥) → m Mark k ≡ 1
seen_marked n m k h g ne = ⊎_elim
    (λ (a : (h ≡ none) × (m Mark k ≡ 0)). absurd (ne a.0))
    (λ (a : (h < n) × (m Mark k ≡ 1) × (m Prev h ≡ none)). a.1)
    (head_checked n m k h g).marked

module _ (m : Memory) (n g h : ℕ) (small : n ≤ none) (seen : Gives m (see_head n (list_of 4095)) h) where
  -- behind each piece the list's head is seen
  pub row_head : (i : ℕ) → g + 4096 * i ≤ n → Gives (apply m (full_writes g h i)) (see_head n (list_of 4095)) (head_of g h i)
  unfolding head_of full_writes
  row_head zero b = seen
  row_head (suc i) b = subst (λ (q : Memory). Gives q (see_head n (list_of 4095)) (g + 4096 * i))
      (sym (apply_append m (full_writes g h i) (piece_writes (g + 4096 * i) 4096 (head_of g h i))))
      (head_pushed n _ (list_of 4095) (g + 4096 * i) (head_of g h i) small (omega arith)
      (seen_marked n (apply m (full_writes g h i)) (list_of 4095) (head_of g h i) (row_head i (omega arith))))

  -- so all of them are laid out
  pub row_laid : (i f rest : ℕ) → g + 4096 * i ≤ n
      → run m (lay_script n 12 (f + i) [] g (4096 * i + rest)) ≡ run m (lay_script n 12 f (full_writes g h i) (g + 4096 * i) rest)
  unfolding full_writes
  row_laid zero f rest b =
      let a : f + 0 ≡ f = omega arith in
      let d : 4096 * 0 + rest ≡ rest = omega arith in
      let e : g + 4096 * 0 ≡ g = omega arith in
      rw (a, d, e)
  row_laid (suc i) f rest b =
      let a : f + suc i ≡ suc f + i = omega arith in
      let d : 4096 * suc i + rest ≡ 4096 * i + (4096 + rest) = omega arith in
      rw (a, d) (row_laid i (suc f) (4096 + rest) (omega arith) ∙ step)
    where
      full : min (4096 + rest) (2 ^ 12) ≡ 4096
      full = omega arith

      step : run m (lay_script n 12 (suc f) (full_writes g h i) (g + 4096 * i) (4096 + rest))
          ≡ run m (lay_script n 12 f (full_writes g h i ++ piece_writes (g + 4096 * i) 4096 (head_of g h i)) (g + 4096 * suc i) rest)
      step =
          let p : 4096 + rest - 4096 ≡ rest = omega arith in
          let q : g + 4096 * i + 4096 ≡ g + 4096 * suc i = omega arith in
          rw (full, p, q) at (lay_more m n 12 f (full_writes g h i) (g + 4096 * i) (4096 + rest) (omega arith) (head_of g h i) (rw full (row_head i (omega arith))))
