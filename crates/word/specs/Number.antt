-- The n bytes from a place on as one number, lowest byte first (`num`), and the bytes with a number put there (`puts`).
-- Everything is said for any number of bytes, so a word of four bytes costs no law of its own.
-- Both names are shut: who reads and writes words goes by the laws below and never sees a byte.
use Rattle.std.specs.Prelude.{ℕ, zero, suc, ◌+◌, ◌*◌, ◌/◌, ◌%◌, ◌^◌, ◌≤◌, ◌<◌, ◌≡◌, refl, List, ◌⊎◌, length, get_or, set}
use Rattle.std.proofs.Common.{add-zero, add_assoc, arith, ◌∙◌, inl, inr, ⊎_elim, length-set, get_or-set_same, get_or-set_other}
use Rattle.std.proofs.lemmas.List.{set-get_or}

-- the number of the n bytes from i on
unfoldable pub num : ℕ → List ℕ → ℕ → ℕ
num zero l i = 0
num (suc n) l i = get_or l i 0 + 256 * num n l (i + 1)

-- l with the n lowest bytes of v from i on
unfoldable pub puts : ℕ → List ℕ → ℕ → ℕ → List ℕ
puts zero l i v = l
puts (suc n) l i v = puts n (set l i (v % 256)) (i + 1) (v / 256)

-- the n bytes from i and the m bytes from j have none in common
abbrev pub Apart : ℕ → ℕ → ℕ → ℕ → Type 0
Apart i n j m = (i + n ≤ j) ⊎ (j + m ≤ i)

-- a number is its bytes
pub num_same : (n : ℕ) (a : List ℕ) (i : ℕ) (b : List ℕ) (j : ℕ) → ((k : ℕ) → k < n → get_or a (i + k) 0 ≡ get_or b (j + k) 0) → num n a i ≡ num n b j
unfolding num
num_same zero a i b j h = refl
num_same (suc n) a i b j h =
    let first : get_or a i 0 ≡ get_or b j 0 = simp add-zero at (h 0 (omega arith)) in
    let rest : num n a (i + 1) ≡ num n b (j + 1) =
    num_same n a (i + 1) b (j + 1) (λ k q. rw (add_assoc i 1 k, add_assoc j 1 k) (h (1 + k) (omega arith))) in
    rw (first, rest)

-- putting a number keeps the length
pub puts_length : (n : ℕ) (l : List ℕ) (i v : ℕ) → length (puts n l i v) ≡ length l
unfolding puts
puts_length zero l i v = refl
puts_length (suc n) l i v = puts_length n (set l i (v % 256)) (i + 1) (v / 256) ∙ length-set l i (v % 256)

-- a byte outside stays
pub puts_byte : (n : ℕ) (l : List ℕ) (i v j : ℕ) → Apart i n j 1 → get_or (puts n l i v) j 0 ≡ get_or l j 0
unfolding puts
puts_byte zero l i v j h = refl
puts_byte (suc n) l i v j h =
    puts_byte n (set l i (v % 256)) (i + 1) (v / 256) j (⊎_elim (λ w. inl (omega arith)) (λ w. inr (omega arith)) h)
    ∙ get_or-set_other l i j (v % 256) 0 (λ e. ⊎_elim (λ w. omega arith) (λ w. omega arith) h)

-- what is put is read again
pub num_puts : (n : ℕ) (l : List ℕ) (i v : ℕ) → i + n ≤ length l → v < 256 ^ n → num n (puts n l i v) i ≡ v
unfolding num puts
num_puts zero l i v h f = omega arith
num_puts (suc n) l i v h f =
    let k = puts n (set l i (v % 256)) (i + 1) (v / 256) in
    let e : i + 1 + n ≤ length (set l i (v % 256)) = rw length-set (omega arith) in
    let b : num n k (i + 1) ≡ v / 256 = num_puts n (set l i (v % 256)) (i + 1) (v / 256) e (omega arith) in
    let a : get_or k i 0 ≡ v % 256 =
    puts_byte n (set l i (v % 256)) (i + 1) (v / 256) i (inr (omega arith)) ∙ get_or-set_same l i (v % 256) 0 (omega arith) in
    omega (arith, a, b)

-- bytes that are put as they are change nothing
pub puts_own : (n : ℕ) (l : List ℕ) (i : ℕ) → ((j : ℕ) → get_or l j 0 < 256) → puts n l i (num n l i) ≡ l
unfolding num puts
puts_own zero l i b = refl
puts_own (suc n) l i b =
    let x = get_or l i 0 in
    let y = num n l (i + 1) in
    let low : (x + 256 * y) % 256 ≡ x = omega (arith, b i) in
    let high : (x + 256 * y) / 256 ≡ y = omega (arith, b i) in
    rw (low, high, set-get_or l i 0) (puts_own n l (i + 1) b)

-- a number that has no byte in common with the place written stays, whatever the two widths are
pub num_puts_apart : (m n : ℕ) (l : List ℕ) (i v j : ℕ) → Apart i n j m → num m (puts n l i v) j ≡ num m l j
unfolding num
num_puts_apart zero n l i v j h = refl
num_puts_apart (suc m) n l i v j h =
    let a : get_or (puts n l i v) j 0 ≡ get_or l j 0 = puts_byte n l i v j (⊎_elim (λ w. inl (omega arith)) (λ w. inr (omega arith)) h) in
    let b : num m (puts n l i v) (j + 1) ≡ num m l (j + 1) =
    num_puts_apart m n l i v (j + 1) (⊎_elim (λ w. inl (omega arith)) (λ w. inr (omega arith)) h) in
    omega (arith, a, b)
