-- What follows from specs/Log.antt.
use Rattle.std.specs.Prelude.{ℕ, zero, suc, ◌+◌, ◌-◌, ◌/◌, ◌^◌, ◌≤◌, ◌<◌, ◌≡◌, Bool, true, false}
use Rattle.std.proofs.Common.{le_refl, add-one, arith, ap, sym, ◌∙◌, ⊎_elim, pow_pos, pow_mono, le-leb}
use Rattle.std.specs.Int.Count.{count_leading_zeros}
use Rattle.std.proofs.lemmas.Nat.{leading_top}
use Rattle.std.proofs.lemmas.Bool.{lt-leb}
use Rattle.choice.specs.Choice.{le?}
use Rattle.class.specs.Log.{logs, log}

-- 1 can't be halved
logs_stop : (k s : ℕ) → s ≤ 1 → logs (suc k) s ≡ 0
unfolding logs
logs_stop k s h = ap (λ (b : Bool). elim b [ true ↦ 0 | false ↦ suc (logs k (s / 2)) ]) (le-leb s 1 h)

-- what is more can be halved once more than its half
logs_half : (k s : ℕ) → 1 < s → logs (suc k) s ≡ suc (logs k (s / 2))
unfolding logs
logs_half k s h = ap (λ (b : Bool). elim b [ true ↦ 0 | false ↦ suc (logs k (s / 2)) ]) (lt-leb s 1 h)

-- with s halvings or more to spare, s is between two powers of two
logs_top : (k s : ℕ) → 0 < s → s ≤ k → (2 ^ logs k s ≤ s) × (s < 2 ^ (logs k s + 1))
logs_top zero s h l = absurd (omega arith)
logs_top (suc k) s h l = ⊎_elim
    (λ (p : s ≤ 1). rw (logs_stop k s p) (omega arith, omega arith))
    (λ (p : 1 < s).
    let t = logs_top k (s / 2) (omega arith) (omega arith) in
    let a : suc (logs k (s / 2)) + 1 ≡ suc (logs k (s / 2) + 1) = omega arith in
    rw (logs_half k s p) (omega (arith, t.0), rw a (omega (arith, t.1))))
    (le? s 1)

-- s is at least that power of two, and below the next
pub log_top : (s : ℕ) → 0 < s → (2 ^ log s ≤ s) × (s < 2 ^ (log s + 1))
unfolding log
log_top s h = logs_top s s h (le_refl s)

-- and between no other two
pub log_is : (s j : ℕ) → 2 ^ j ≤ s → s < 2 ^ (j + 1) → log s ≡ j
log_is s j a b =
    let t = log_top s (omega (arith, pow_pos j)) in
    let p : j ≤ log s = ⊎_elim
    (λ (p : j ≤ log s). p)
    (λ (q : log s < j). omega (arith, t.1, pow_mono {i = log s + 1} {j = j} (omega arith)))
    (le? j (log s)) in
    let q : log s ≤ j = ⊎_elim
    (λ (p : log s ≤ j). p)
    (λ (q : j < log s). omega (arith, t.0, pow_mono {i = j + 1} {j = log s} (omega arith)))
    (le? (log s) j) in
    omega arith

-- a number of n bits has its highest bit below place n
pub log_lt : (n s : ℕ) → 0 < s → s < 2 ^ n → log s < n
log_lt n s h f = ⊎_elim
    (λ (p : n ≤ log s). omega (arith, log_top s h, pow_mono {i = n} {j = log s} p))
    (λ (q : log s < n). q)
    (le? n (log s))

-- a number that reaches 2 ^ n has its highest bit at place n or above
pub log_ge : (n s : ℕ) → 2 ^ n ≤ s → n ≤ log s
log_ge n s f = ⊎_elim
    (λ (p : n ≤ log s). p)
    (λ (q : log s < n). omega (arith, log_top s (omega (arith, pow_pos n)), pow_mono {i = log s + 1} {j = n} (omega arith)))
    (le? n (log s))

-- as the machine counts it, by the zeros above the highest bit
pub log_code : (s : ℕ) → 0 < s → s < 2 ^ 64 → (count_leading_zeros 64 s ≤ 63) × (63 - count_leading_zeros 64 s ≡ log s)
log_code s h f =
    let t = leading_top 64 s h f in
    let e : 63 - count_leading_zeros 64 s ≡ t.0 = omega (arith, t.1) in
    (omega (arith, t.1), e ∙ sym (log_is s t.0 t.2 (rw add-one t.3)))
