-- `num` and `puts` for eight and for four bytes, spelled out byte by byte: the code stores byte by byte, and the number
-- that it reads by the library's conversion is the sum of the bytes. Only the proofs of this crate's functions use these:
-- the code is loop-free so that it compiles to one load or one store, and the laws below say that it is the recursion over
-- the number of bytes all the same.
use Rattle.std.specs.Prelude.{ℕ, ◌+◌, ◌*◌, ◌/◌, ◌%◌, ◌≡◌, List, get_or, set}
use Rattle.std.proofs.Common.{add_assoc, arith}
use Rattle.std.proofs.Math.Nat.{div-div-eq-div-mul}
use Rattle.word.specs.Number.{num, puts}

-- four bytes as a sum
abbrev pub four : List ℕ → ℕ → ℕ
four l i = get_or l i 0 + 256 * get_or l (i + 1) 0 + 65536 * get_or l (i + 2) 0 + 16777216 * get_or l (i + 3) 0

-- eight bytes as a sum
abbrev pub eight : List ℕ → ℕ → ℕ
eight l i =
    get_or l i 0 + 256 * get_or l (i + 1) 0 + 65536 * get_or l (i + 2) 0 + 16777216 * get_or l (i + 3) 0 + 4294967296 * get_or l (i + 4) 0
    + 1099511627776 * get_or l (i + 5) 0 + 281474976710656 * get_or l (i + 6) 0 + 72057594037927936 * get_or l (i + 7) 0

-- four bytes stored one after the other
abbrev pub four_put : List ℕ → ℕ → ℕ → List ℕ
four_put l i v = set (set (set (set l i (v % 256)) (i + 1) (v / 256 % 256)) (i + 2) (v / 65536 % 256)) (i + 3) (v / 16777216 % 256)

-- eight bytes are four, and four more
abbrev pub eight_put : List ℕ → ℕ → ℕ → List ℕ
eight_put l i v = four_put (four_put l i v) (i + 4) (v / 4294967296)

pub four_is : (l : List ℕ) (i : ℕ) → four l i ≡ num 4 l i
unfolding num
four_is l i = simp add_assoc (omega arith)

pub eight_is : (l : List ℕ) (i : ℕ) → eight l i ≡ num 8 l i
unfolding num
eight_is l i = simp add_assoc (omega arith)

pub four_put_is : (l : List ℕ) (i v : ℕ) → four_put l i v ≡ puts 4 l i v
unfolding puts
four_put_is l i v = simp (add_assoc, div-div-eq-div-mul)

pub eight_put_is : (l : List ℕ) (i v : ℕ) → eight_put l i v ≡ puts 8 l i v
unfolding puts
eight_put_is l i v = simp (add_assoc, div-div-eq-div-mul)
