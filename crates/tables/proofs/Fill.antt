-- What the library's `fill` leaves of a part of a table is the table with one number in those entries.
use Rattle.std.specs.Prelude.{ℕ, zero, suc, ◌+◌, ◌≤◌, ◌≡◌, List, ◌++◌, length, take, drop, replicate}
use Rattle.std.proofs.Common.{refl, add-one, arith, ap, sym, ◌∙◌}
use Rattle.std.proofs.Math.Seq.{paste}
use Rattle.std.proofs.lemmas.List.{length-replicate, length-take-le, length-drop, drop_all, append-nil}
use Rattle.std.proofs.lemmas.List.Edits.{fill_from_more, paste_none, paste_all}
use Rattle.std.proofs.lemmas.Slice.{put_mid-paste}
use borrow.Rule.Slice.PartMut.{put_mid}
use Rattle.table.specs.Table.{enter}
use Rattle.tables.specs.Fill.{filled}

filled_paste : (t : List ℕ) (i n v : ℕ) → i + n ≤ length t → paste t i (replicate n v) n ≡ filled t i n v
unfolding filled enter
filled_paste t i zero v h = sym (paste_none t i (replicate 0 v))
filled_paste t i (suc n) v h =
    rw (← filled_paste t i n v (omega arith)) (sym (fill_from_more t i n v (omega arith) ∙ rw add-one))

-- the n entries from i on, each of which is v now
pub filled_part :
    (t u : List ℕ) (i n v : ℕ) → i + n ≤ length t → u ≡ replicate (length (take n (drop i t))) v → put_mid i n t u ≡ filled t i n v
filled_part t u i n v h e =
    let k : length (take n (drop i t)) ≡ n = length-take-le n (drop i t) (rw length-drop (omega arith)) in
    put_mid-paste i n t u (replicate n v) n (e ∙ ap (λ (m : ℕ). replicate m v) k) refl (sym (length-replicate {A = ℕ} n v))
    ∙ filled_paste t i n v h

-- all entries
pub filled_all : (t : List ℕ) (v : ℕ) → replicate (length t) v ≡ filled t 0 (length t) v
filled_all t v =
    let n = length t in
    let s : List ℕ = replicate n v in
    sym (append-nil s) ∙ ap (λ (l : List ℕ). s ++ l) (sym (drop_all (0 + n) t (omega arith)))
    ∙ sym (paste_all t 0 s n (sym (length-replicate {A = ℕ} n v))) ∙ filled_paste t 0 n v (omega arith)
