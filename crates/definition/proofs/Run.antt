-- What follows from specs/Run.antt.
use Rattle.std.specs.Prelude.{◌≡◌, refl, [], ◌∷◌}
use Rattle.definition.specs.Calls.{no_list, empty}
use Rattle.definition.specs.Run.{Give, Take, Return, Resize, no, row, run}

worked : run (empty 2048)
    (Give 0 65536 ∷ Take 100 8 ∷ Take 1000 8 ∷ Take 24 64 ∷ Take 0 1 ∷ Take 2000 16 ∷ Return 144 ∷ Take 900 8 ∷ Return 16 ∷ Return 144 ∷ Take 1008 8
    ∷ Resize 1296 3000 16 ∷ Return 1216 ∷ Resize 1264 40 1 ∷ Return 16 ∷ Resize 1296 20000 16 ∷ Take 65000 8 ∷ Return 1040 ∷ Return 1296 ∷ [])
    ≡ row 65536 ((0, 65504) ∷ []) ∷ row 16 ((128, 65376) ∷ []) ∷ row 144 ((1152, 64352) ∷ []) ∷ row 1216 ((1248, 64256) ∷ []) ∷ row 1264 ((1280, 64224) ∷ [])
    ∷ row 1296 ((3296, 62208) ∷ []) ∷ row 0 ((128, 1024) ∷ (3296, 62208) ∷ []) ∷ row 144 ((1056, 96) ∷ (3296, 62208) ∷ [])
    ∷ row 0 ((0, 128) ∷ (1056, 96) ∷ (3296, 62208) ∷ []) ∷ row 0 ((0, 1152) ∷ (3296, 62208) ∷ []) ∷ row 16 ((1024, 128) ∷ (3296, 62208) ∷ [])
    ∷ row 1296 ((1024, 128) ∷ (4320, 61184) ∷ []) ∷ row 0 ((1024, 224) ∷ (4320, 61184) ∷ []) ∷ row 1040 ((1088, 192) ∷ (4320, 61184) ∷ [])
    ∷ row 0 ((0, 1024) ∷ (1088, 192) ∷ (4320, 61184) ∷ []) ∷ row 1296 ((0, 1024) ∷ (1088, 192) ∷ (21312, 44192) ∷ []) ∷ no no_list
    ∷ row 0 ((0, 1280) ∷ (21312, 44192) ∷ []) ∷ row 0 ((0, 65504) ∷ []) ∷ []
unfolding run empty
worked = refl
