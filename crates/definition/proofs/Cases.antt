-- What follows from specs/Cases.antt.
use Rattle.std.specs.Prelude.{ℕ, ◌≡◌, refl, List, [], ◌∷◌}
use Rattle.definition.specs.Run.{Call, Give, Append, Take, Return, Resize}
use Rattle.definition.specs.Cases.{says, list_after}

-- ---- every freed or left-over block goes to the head of its list, in resize too

abbrev two_free : List Call
two_free = Give 0 65536 ∷ Take 16 8 ∷ Take 1040 8 ∷ Take 16 8 ∷ Take 1040 8 ∷ Take 16 8 ∷ Return 48 ∷ Return 1136 ∷ Resize 16 17 8 ∷ []

rest_to_head : list_after 2048 two_free 80 ≡ 64 ∷ 1120 ∷ []
unfolding list_after
rest_to_head = refl

split_to_head : says 2048 (Give 0 65536 ∷ Take 48 8 ∷ Take 1008 8 ∷ Take 16 8 ∷ Take 1040 8 ∷ Take 16 8 ∷ Return 80 ∷ Return 1136 ∷ Resize 16 16 8 ∷ Take 1008 8 ∷ [])
    ≡ 65536 ∷ 16 ∷ 80 ∷ 1104 ∷ 1136 ∷ 2192 ∷ 0 ∷ 0 ∷ 16 ∷ 48 ∷ []
unfolding says
split_to_head = refl

-- step 4: what is left of the new block goes to its list first, then the old block
elsewhere_order : list_after 35 (Give 0 1120 ∷ Take 16 8 ∷ Take 16 8 ∷ Resize 16 976 8 ∷ []) 0 ≡ 0 ∷ 1056 ∷ []
unfolding list_after
elsewhere_order = refl

-- ---- step 3: the padding is counted anew from the block before

down_not_enough : says 2048 (Give 0 65536 ∷ Take 0 8 ∷ Take 0 64 ∷ Take 0 8 ∷ Return 16 ∷ Resize 64 4 64 ∷ []) ≡ 65536 ∷ 16 ∷ 64 ∷ 80 ∷ 0 ∷ 128 ∷ []
unfolding says
down_not_enough = refl

down_exact : says 2048 (Give 0 65536 ∷ Take 48 8 ∷ Take 32 64 ∷ Take 0 8 ∷ Return 16 ∷ Resize 128 96 64 ∷ []) ≡ 65536 ∷ 16 ∷ 128 ∷ 176 ∷ 0 ∷ 64 ∷ []
unfolding says
down_exact = refl

down_wide : says 2048 (Give 0 65536 ∷ Take 4080 8 ∷ Take 0 4096 ∷ Take 0 8 ∷ Return 16 ∷ Resize 8192 1 4096 ∷ []) ≡ 65536 ∷ 16 ∷ 8192 ∷ 8208 ∷ 0 ∷ 4096 ∷ []
unfolding says
down_wide = refl

down_too_wide : says 2048 (Give 0 65536 ∷ Take 112 8 ∷ Take 0 4096 ∷ Take 0 8 ∷ Return 16 ∷ Resize 4096 1 4096 ∷ []) ≡ 65536 ∷ 16 ∷ 4096 ∷ 4112 ∷ 0 ∷ 8192 ∷ []
unfolding says
down_too_wide = refl

-- free 0:32 and 64:64, the payload at 48
abbrev between : ℕ → List Call
between n = Give 0 160 ∷ Take 0 8 ∷ Take 0 8 ∷ Return 16 ∷ Resize 48 n 8 ∷ []

up_or_down : (says 5 (between 80) ≡ 160 ∷ 16 ∷ 48 ∷ 0 ∷ 48 ∷ []) × (says 5 (between 81) ≡ 160 ∷ 16 ∷ 48 ∷ 0 ∷ 16 ∷ [])
    × (says 5 (between 112) ≡ 160 ∷ 16 ∷ 48 ∷ 0 ∷ 16 ∷ []) × (says 5 (between 113) ≡ 160 ∷ 16 ∷ 48 ∷ 0 ∷ 1 ∷ [])
unfolding says
up_or_down = (refl, refl, refl, refl)

-- ---- largest sizes: a take passes blocks of its own list over, a resize doesn't

largest_take : says 4096 (Give 0 131072 ∷ Take 126961 16 ∷ Take 126945 32 ∷ Take 126913 64 ∷ Take 122881 4096 ∷ Take 122880 4096 ∷ Return 4096 ∷ Take 126960 16 ∷ [])
    ≡ 131072 ∷ 1 ∷ 1 ∷ 1 ∷ 1 ∷ 4096 ∷ 0 ∷ 16 ∷ []
unfolding says
largest_take = refl

largest_resize : says 4096 (Give 0 131072 ∷ Take 0 8 ∷ Resize 16 131024 8 ∷ []) ≡ 131072 ∷ 16 ∷ 16 ∷ []
unfolding says
largest_resize = refl

passed_over : says 34 (Give 0 1088 ∷ Take 1040 8 ∷ Take 0 8 ∷ Resize 16 1040 8 ∷ Return 16 ∷ Take 1008 8 ∷ []) ≡ 1088 ∷ 1 ∷ 16 ∷ 16 ∷ 0 ∷ 16 ∷ []
unfolding says
passed_over = refl

-- ---- size 0 at an alignment of a grain or more: the payload lies at its block's end

at_the_end : (says 2 (Give 0 64 ∷ Take 0 32 ∷ []) ≡ 64 ∷ 32 ∷ []) × (says 3 (Give 0 96 ∷ Take 0 32 ∷ Take 0 8 ∷ []) ≡ 96 ∷ 32 ∷ 48 ∷ [])
unfolding says
at_the_end = (refl, refl)

-- ---- regions: cut into pieces, the last at the head of its list; what is left over may be given again

cut_regions : says 8200 (Give 0 262144 ∷ Take 0 8 ∷ []) ≡ 262144 ∷ 131088 ∷ []
unfolding says
cut_regions = refl

region_lengths : says 4200 (Give 1 94 ∷ Give 1 95 ∷ Give 101 64 ∷ []) ≡ 4 ∷ 95 ∷ 4 ∷ []
unfolding says
region_lengths = refl

left_over : (says 4200 (Give 0 131135 ∷ []) ≡ 131072 ∷ []) × (says 4200 (Give 0 131136 ∷ []) ≡ 131136 ∷ []) × (says 4200 (Give 0 131104 ∷ Append 131072 64 ∷ []) ≡ 131072 ∷ 64 ∷ [])
unfolding says
left_over = (refl, refl, refl)

region_ended : says 12 (Give 5 100 ∷ Append 96 96 ∷ Append 96 64 ∷ Append 0 64 ∷ Append 256 64 ∷ Give 96 64 ∷ []) ≡ 91 ∷ 96 ∷ 4 ∷ 4 ∷ 4 ∷ 4 ∷ []
unfolding says
region_ended = refl

-- ---- another alignment than at the take: the one that is given now decides
abbrev again : ℕ → List Call
again a = Give 0 65536 ∷ Take 10 4096 ∷ Take 0 8 ∷ Resize 4096 5000 a ∷ []

now_decides : (says 2048 (again 4096) ≡ 65536 ∷ 4096 ∷ 4144 ∷ 8192 ∷ []) × (says 2048 (again 64) ≡ 65536 ∷ 4096 ∷ 4144 ∷ 4224 ∷ []) × (says 2048 (again 32) ≡ 65536 ∷ 4096 ∷ 4144 ∷ 4192 ∷ [])
unfolding says
now_decides = (refl, refl, refl)

-- ---- a second return, and what was never handed out
never_live : says 2048 (Give 0 65536 ∷ Take 100 8 ∷ Return 16 ∷ Return 16 ∷ Return 48 ∷ Return 0 ∷ Resize 16 8 8 ∷ []) ≡ 65536 ∷ 16 ∷ 0 ∷ 3 ∷ 3 ∷ 3 ∷ 3 ∷ []
unfolding says
never_live = refl
