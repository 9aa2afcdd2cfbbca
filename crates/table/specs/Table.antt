-- Tables of numbers: entry number i (`entry`), and the table with another number there (`enter`). They are the lookup
-- and the update of a list under shut names, so that a proof goes by the laws below and a goal stays short.
use Rattle.std.specs.Prelude.{ℕ, ◌<◌, ◌≡◌, List, length, get_or, set}
use Rattle.std.proofs.Common.{sym, length-set, get_or-set_same, get_or-set_other}
use Rattle.std.proofs.lemmas.List.{set-get_or}

-- entry number i of the table, 0 outside
unfoldable pub entry : List ℕ → ℕ → ℕ
entry t i = get_or t i 0

-- the table with v as entry number i
unfoldable pub enter : List ℕ → ℕ → ℕ → List ℕ
enter t i v = set t i v

-- the length stays
pub enter_length : (t : List ℕ) (i v : ℕ) → length (enter t i v) ≡ length t
unfolding enter
enter_length t i v = length-set t i v

-- what was entered is there
pub entry_enter : (t : List ℕ) (i v : ℕ) → i < length t → entry (enter t i v) i ≡ v
unfolding entry enter
entry_enter t i v h = get_or-set_same t i v 0 h

-- an entry that is entered again changes nothing
pub enter_own : (t : List ℕ) (i : ℕ) → enter t i (entry t i) ≡ t
unfolding entry enter
enter_own t i = set-get_or t i 0

-- every other entry stays
pub entry_other : (t : List ℕ) (i v j : ℕ) → (i ≡ j → ⊥) → entry (enter t i v) j ≡ entry t j
unfolding entry enter
entry_other t i v j ne = get_or-set_other t i j v 0 (λ e. ne (sym e))
