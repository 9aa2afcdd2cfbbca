-- T7 in bytes: on slices that stand for a heap no byte of a live payload changes, by any call, but of the payload that is
-- given back or resized.
use Rattle.std.specs.Prelude.{ℕ, ◌+◌, ◌*◌, ◌≡◌}
use Rattle.calls.specs.Bytes.{ByteCall, allocate, deallocate, reallocate, insert, append}

-- the call doesn't give back or resize the payload at v, counted in half grains
abbrev pub Other : ByteCall → ℕ → Type 0
Other (allocate n a) v = Unit {0}
Other (deallocate x a) v = x ≡ 16 * v → ⊥
Other (reallocate x n a) v = x ≡ 16 * v → ⊥
Other (insert x n) v = Unit {0}
Other (append x n) v = Unit {0}
