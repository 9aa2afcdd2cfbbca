-- A list of bytes with a part of another one laid over it (`copied`). The three laws of `Copied` (what arrived, what was
-- kept, the length) say all there is to say of it: a list that has them is that list.
-- The source is a list of its own, so that what is already written does not matter: a move reads the bytes as they were.
use Prim.Native.Nat.{ℕ, zero, suc, ◌+◌, ◌-◌, ◌≤◌, ◌<◌}
use Rattle.std.proofs.Common.{arith, ◌∙◌, sym, subst, get_or-set_same, ext_get_or}
use Rattle.std.specs.Prelude.{◌≡◌, List, length, set}
use Rattle.std.proofs.Math.Path.{refl}
use Rattle.std.proofs.Math.Logic.{inl, inr, ⊎_elim}
use Rattle.std.proofs.Math.ListN.{get_or, length-set}
use Rattle.std.proofs.Math.Seq.{get_or-set_other}
use Rattle.choice.specs.Choice.{same?, le?}
use Rattle.word.specs.Number.{Apart}

-- b with the n bytes of a from `from` on at `to`
unfoldable pub copied : List ℕ → ℕ → List ℕ → ℕ → ℕ → List ℕ
copied a from b to zero = b
copied a from b to (suc n) = set (copied a from b to n) (to + n) (get_or a (from + n) 0)

-- what it is for c to be that list
pub record Copied (a : List ℕ) (from : ℕ) (b : List ℕ) (to n : ℕ) (c : List ℕ) : Type 0 where
  pub arrived : (i : ℕ) → i < n → to + i < length b → get_or c (to + i) 0 ≡ get_or a (from + i) 0
  pub kept : (j : ℕ) → Apart to n j 1 → get_or c j 0 ≡ get_or b j 0
  pub size : length c ≡ length b

-- what holds of each of the n places from `to` on, and of every place apart from them, holds of all
pub each_place : (P : ℕ → Type 0) (to n : ℕ) → ((i : ℕ) → i < n → P (to + i)) → ((j : ℕ) → Apart to n j 1 → P j) → (j : ℕ) → P j
each_place P to n inside outside j = ⊎_elim
    (λ (h : to ≤ j). ⊎_elim
    (λ (e : to + n ≤ j). outside j (inl e))
    (λ (e : j < to + n). let q : to + (j - to) ≡ j = omega arith in subst P q (inside (j - to) (omega arith)))
    (le? (to + n) j))
    (λ (h : j < to). outside j (inr (omega arith)))
    (le? to j)

module _ (a : List ℕ) (from : ℕ) (b : List ℕ) (to : ℕ) where
  -- it is
  pub copied_is : (n : ℕ) → Copied a from b to n (copied a from b to n)
  unfolding copied
  copied_is zero = record { arrived = λ i h f. absurd (omega arith); kept = λ j h. refl; size = refl }
  copied_is (suc n) =
      let r = copied_is n in
      let c = copied a from b to n in
      let v = get_or a (from + n) 0 in
      record {
        arrived = λ i h f. ⊎_elim
            (λ (e : i ≡ n). rw e (get_or-set_same c (to + n) v 0 (omega (arith, r.size))))
            (λ (e : i ≡ n → ⊥). get_or-set_other c (to + n) (to + i) v 0 (λ q. e (omega arith)) ∙ r.arrived i (omega (arith, e)) f)
            (same? i n);
        kept = λ j h. get_or-set_other c (to + n) j v 0 (λ q. ⊎_elim (λ w. omega arith) (λ w. omega arith) h)
            ∙ r.kept j (⊎_elim (λ w. inl (omega arith)) (λ w. inr (omega arith)) h);
        size = length-set c (to + n) v ∙ r.size;
      }

  -- and no other list is
  pub copied_only : (n : ℕ) (c : List ℕ) → Copied a from b to n c → c ≡ copied a from b to n
  copied_only n c r =
      let z = copied_is n in
      ext_get_or 0 c (copied a from b to n) (r.size ∙ sym z.size)
      (each_place (λ j. j < length c → get_or c j 0 ≡ get_or (copied a from b to n) j 0) to n
      (λ i h f. let g : to + i < length b = omega (arith, r.size) in r.arrived i h g ∙ sym (z.arrived i h g))
      (λ j h f. r.kept j h ∙ sym (z.kept j h)))

-- ---- two copies, one after the other

-- only the part that is read matters
pub copied_same : {a a' b c : List ℕ} {from to n : ℕ} → ((i : ℕ) → i < n → get_or a (from + i) 0 ≡ get_or a' (from + i) 0)
    → Copied a from b to n c → Copied a' from b to n c
copied_same e r = record { arrived = λ i h f. r.arrived i h f ∙ e i h; kept = r.kept; size = r.size }

-- some bytes, and those behind them
pub copied_then : {a b c d : List ℕ} {from to i k : ℕ} → Copied a from b to i c → Copied a (from + i) c (to + i) k d → Copied a from b to (i + k) d
copied_then {a} {b} {c} {d} {from} {to} {i} {k} r q = record {
  arrived = λ j h f. ⊎_elim
      (λ (e : i ≤ j).
      let x : to + i + (j - i) ≡ to + j = omega arith in
      let y : from + i + (j - i) ≡ from + j = omega arith in
      rw (x, y) at (q.arrived (j - i) (omega arith) (omega (arith, r.size))))
      (λ (e : j < i). q.kept (to + j) (inr (omega arith)) ∙ r.arrived j e f)
      (le? i j);
  kept = λ j h.
      q.kept j (⊎_elim (λ w. inl (omega arith)) (λ w. inr (omega arith)) h)
      ∙ r.kept j (⊎_elim (λ w. inl (omega arith)) (λ w. inr (omega arith)) h);
  size = q.size ∙ r.size;
}

-- some bytes, and those before them
pub copied_before : {a b c d : List ℕ} {from to i k : ℕ} → Copied a (from + k) b (to + k) i c → Copied a from c to k d → Copied a from b to (k + i) d
copied_before {a} {b} {c} {d} {from} {to} {i} {k} r q = record {
  arrived = λ j h f. ⊎_elim
      (λ (e : k ≤ j).
      let x : to + k + (j - k) ≡ to + j = omega arith in
      let y : from + k + (j - k) ≡ from + j = omega arith in
      q.kept (to + j) (inl (omega arith)) ∙ rw (x, y) at (r.arrived (j - k) (omega arith) (omega arith)))
      (λ (e : j < k). q.arrived j e (omega (arith, r.size)))
      (le? k j);
  kept = λ j h.
      q.kept j (⊎_elim (λ w. inl (omega arith)) (λ w. inr (omega arith)) h)
      ∙ r.kept j (⊎_elim (λ w. inl (omega arith)) (λ w. inr (omega arith)) h);
  size = q.size ∙ r.size;
}
