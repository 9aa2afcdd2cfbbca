-- Every refusal of a call has one of the call's numbers, whatever is in the slices.
use Rattle.std.specs.Prelude.{ℕ, ◌≡◌, refl}
use Rattle.std.proofs.Common.{arith, subst, inl, inr}
use Rattle.script.specs.Script.{no}
use Rattle.sound.proofs.Refused.{stops_with}
use Rattle.sound.specs.RefusedCalls.{Among}
use Rattle.machine.specs.Machine.{classes}
use Rattle.plans.specs.Calls.{Call}
use Rattle.refines.specs.Runs.{Reply, not}
use Rattle.lent.specs.Slices.{Slices, memory_of}
use Rattle.promises.specs.Bytes.{ByteCall, allocate, deallocate, reallocate, insert, append, range, between, resize_range, resize_unsuited, resize_between, Asks, take, back, resize, give, follow}
use Rattle.promises.specs.Performs.{grains_of, most_of, outcome, Early, short, Performs, early, refused, granted}
use Rattle.promises.specs.Numbers.{refusals}
use Rattle.promises.proofs.Stops.{stops_allocate, stops_deallocate, stops_reallocate, stops_region}

first_refusal : (k : ByteCall) → Among (refusals k) 6
first_refusal (allocate n a) = inl refl
first_refusal (deallocate x) = inl refl
first_refusal (reallocate x n a) = inl refl
first_refusal (insert b n) = inl refl
first_refusal (append b n) = inl refl

early_numbers : (S : Slices) (k : ByteCall) (i : ℕ) → Early S k i → Among (refusals k) i
early_numbers S k i (short n) = first_refusal k
early_numbers S k i (Early.wrong j l (range n)) = inr (inl refl)
early_numbers S k i (Early.wrong j l (between n)) = inr (inl refl)
early_numbers S k i (Early.wrong j l (resize_range n)) = inr (inl refl)
early_numbers S k i (Early.wrong j l (resize_unsuited u n)) = inr (inl refl)
early_numbers S k i (Early.wrong j l (resize_between u v n)) = inr (inr (inl refl))

script_numbers : (S : Slices) (k : ByteCall) (K : Call) (i : ℕ) → Asks k K → outcome S K ≡ no i → Among (refusals k) i
script_numbers S k K i (take {n = n} {a = a} r) e = stops_with (Among (refusals (allocate n a))) (memory_of S) _
    (stops_allocate (Among (refusals (allocate n a))) (inr (inr (inl refl))) (inr (inr (inr (inl refl)))) (grains_of S) classes _ _) e
script_numbers S k K i (back {x = x} r) e = stops_with (Among (refusals (deallocate x))) (memory_of S) _
    (stops_deallocate (Among (refusals (deallocate x))) (inr (inr (inl refl))) (inr (inl refl)) (grains_of S) classes _) e
script_numbers S k K i (resize {x = x} {n = n} {a = a} {q = q} r s) e = stops_with (Among (refusals (reallocate x n a))) (memory_of S) _
    (stops_reallocate (Among (refusals (reallocate x n a))) (inr (inr (inr (inl refl)))) (inr (inr (inl refl))) (inr (inr (inr (inr (inl refl))))) (grains_of S) classes q _ _) e
script_numbers S k K i (give {b = b} {n = n}) e = stops_with (Among (refusals (insert b n))) (memory_of S) _
    (stops_region (Among (refusals (insert b n))) (inr (inr (inl refl))) (inr (inl refl)) (grains_of S) classes _ _ (inl refl) (most_of S) 0) e
script_numbers S k K i (follow {b = b} {n = n}) e = stops_with (Among (refusals (append b n))) (memory_of S) _
    (stops_region (Among (refusals (append b n))) (inr (inr (inl refl))) (inr (inl refl)) (grains_of S) classes _ _ (inl refl) (most_of S) 1) e

pub performs_numbers : (S : Slices) (k : ByteCall) (r : Reply) (T : Slices) → Performs S k r T → (i : ℕ) → r ≡ not i → Among (refusals k) i
performs_numbers S k r T (early j a) i e = let z : j ≡ i = cc in subst (Among (refusals k)) z (early_numbers S k j a)
performs_numbers S k r T (refused K j g f) i e = let z : j ≡ i = cc in subst (Among (refusals k)) z (script_numbers S k K j g.asks f)
performs_numbers S k r T (granted K t g f) i e = let z : ◌≡◌ {A = ℕ} 0 1 = cc in absurd (omega arith)
