-- What follows from specs/Numbers.antt.
use Rattle.std.specs.Prelude.{ℕ, ◌≡◌, refl, [], ◌∷◌}
use Rattle.std.proofs.Common.{arith, subst, inl, inr}
use Rattle.script.specs.Script.{no}
use Rattle.sound.proofs.Refused.{stops_with}
use Rattle.sound.specs.RefusedCalls.{Among}
use Rattle.sound.proofs.RefusedCalls.{take_refusals, back_refusals, resize_refusals, region_refusals}
use Rattle.sound.specs.Calls.{Call}
use Rattle.sound.specs.Runs.{Reply, not}
use Rattle.slices.specs.Slices.{Slices, memory_of}
use Rattle.calls.specs.Bytes.{ByteCall, allocate, deallocate, reallocate, insert, append, range, unsuited, unkind, resize_range, resize_unsuited, resize_unkind, Asks, take, back, resize, give, follow}
use Rattle.calls.specs.Performs.{grains_of, most_of, outcome, Early, short, outside, Performs, early, refused, granted}
use Rattle.calls.specs.Numbers.{refusals}

first_refusal : (k : ByteCall) → Among (refusals k) 6
first_refusal (allocate n a) = inl refl
first_refusal (deallocate x a) = inl refl
first_refusal (reallocate x n a) = inl refl
first_refusal (insert x n) = inl refl
first_refusal (append x n) = inl refl

early_numbers : (S : Slices) (k : ByteCall) (i : ℕ) → Early S k i → Among (refusals k) i
early_numbers S k i (short n) = first_refusal k
early_numbers S k i (Early.wrong j l (range n)) = inr (inl refl)
early_numbers S k i (Early.wrong j l (unsuited n)) = inr (inl refl)
early_numbers S k i (Early.wrong j l (unkind u n)) = inr (inr (inl refl))
early_numbers S k i (Early.wrong j l (resize_range n)) = inr (inl refl)
early_numbers S k i (Early.wrong j l (resize_unsuited u n)) = inr (inl refl)
early_numbers S k i (Early.wrong j l (resize_unkind u v n)) = inr (inr (inl refl))
early_numbers S k i (outside K l (take r) n) = absurd (n tt)
early_numbers S k i (outside K l (back s) n) = inr (inr (inl refl))
early_numbers S k i (outside K l (resize r s) n) = inr (inr (inl refl))
early_numbers S k i (outside K l give n) = absurd (n tt)
early_numbers S k i (outside K l follow n) = absurd (n tt)

take_order : (i : ℕ) → Among (1 ∷ 5 ∷ []) i → Among (6 ∷ 2 ∷ 5 ∷ 1 ∷ []) i
take_order i (inl e) = inr (inr (inr (inl e)))
take_order i (inr (inl e)) = inr (inr (inl e))
take_order i (inr (inr e)) = absurd e

resize_order : (i : ℕ) → Among (1 ∷ 3 ∷ 5 ∷ []) i → Among (6 ∷ 2 ∷ 3 ∷ 5 ∷ 1 ∷ []) i
resize_order i (inl e) = inr (inr (inr (inr (inl e))))
resize_order i (inr (inl e)) = inr (inr (inl e))
resize_order i (inr (inr (inl e))) = inr (inr (inr (inl e)))
resize_order i (inr (inr (inr e))) = absurd e

region_order : (i : ℕ) → Among (4 ∷ 5 ∷ 6 ∷ []) i → Among (6 ∷ 4 ∷ 5 ∷ []) i
region_order i (inl e) = inr (inl e)
region_order i (inr (inl e)) = inr (inr (inl e))
region_order i (inr (inr (inl e))) = inl e
region_order i (inr (inr (inr e))) = absurd e

script_numbers : (S : Slices) (k : ByteCall) (K : Call) (i : ℕ) → Asks k K → outcome S K ≡ no i → Among (refusals k) i
script_numbers S k K i (take r) e = take_order i (stops_with (Among (1 ∷ 5 ∷ [])) (memory_of 8 S) _ (take_refusals (grains_of S) 12 _ _) e)
script_numbers S k K i (back {q = q} s) e = inr (inr (stops_with (Among (3 ∷ 5 ∷ [])) (memory_of 8 S) _ (back_refusals (grains_of S) 12 q) e))
script_numbers S k K i (resize {q = q} r s) e = resize_order i (stops_with (Among (1 ∷ 3 ∷ 5 ∷ [])) (memory_of 8 S) _ (resize_refusals (grains_of S) 12 q _ _) e)
script_numbers S k K i give e = region_order i (stops_with (Among (4 ∷ 5 ∷ 6 ∷ [])) (memory_of 8 S) _ (region_refusals (most_of S) 0 (grains_of S) 12 _ _) e)
script_numbers S k K i follow e = region_order i (stops_with (Among (4 ∷ 5 ∷ 6 ∷ [])) (memory_of 8 S) _ (region_refusals (most_of S) 1 (grains_of S) 12 _ _) e)

pub performs_numbers : (S : Slices) (k : ByteCall) (r : Reply) (T : Slices) → Performs S k r T → (i : ℕ) → r ≡ not i → Among (refusals k) i
performs_numbers S k r T (early j a) i e = let z : j ≡ i = cc in subst (Among (refusals k)) z (early_numbers S k j a)
performs_numbers S k r T (refused K j g f) i e = let z : j ≡ i = cc in subst (Among (refusals k)) z (script_numbers S k K j g.asks f)
performs_numbers S k r T (granted K p g f) i e = let z : ◌≡◌ {A = ℕ} 0 1 = cc in absurd (omega arith)
