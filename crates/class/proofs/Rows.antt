-- rlsf's table of sizes (docs/CLASSES.md) as theorems by computation: a block's size in bytes, its list, and where a
-- search for it starts. Here a grain is 32 bytes and there are 12 first-level classes, so 192 stands for no list.
use Rattle.std.specs.Prelude.{ℕ, ◌+◌, ◌*◌, ◌/◌, ◌≡◌, refl}
use Rattle.class.specs.Log.{log, logs}
use Rattle.class.specs.Class.{list_of, start_of}

-- a block of so many bytes is in list fl, sl, and a search for it starts at fl', sl'
abbrev Row : ℕ → ℕ → ℕ → ℕ → ℕ → Type 0
Row bytes fl sl fl' sl' = (list_of (bytes / 32) ≡ 16 * fl + sl) × (start_of (bytes / 32) ≡ 16 * fl' + sl')

pub bytes_32 : Row 32 0 0 0 0
unfolding list_of start_of log logs
bytes_32 = (refl, refl)

pub bytes_64 : Row 64 1 0 1 0
unfolding list_of start_of log logs
bytes_64 = (refl, refl)

pub bytes_96 : Row 96 1 8 1 8
unfolding list_of start_of log logs
bytes_96 = (refl, refl)

pub bytes_160 : Row 160 2 4 2 4
unfolding list_of start_of log logs
bytes_160 = (refl, refl)

pub bytes_544 : Row 544 4 1 4 1
unfolding list_of start_of log logs
bytes_544 = (refl, refl)

pub bytes_1024 : Row 1024 5 0 5 0
unfolding list_of start_of log logs
bytes_1024 = (refl, refl)

pub bytes_1056 : Row 1056 5 0 5 1
unfolding list_of start_of log logs
bytes_1056 = (refl, refl)

pub bytes_1088 : Row 1088 5 1 5 1
unfolding list_of start_of log logs
bytes_1088 = (refl, refl)

pub bytes_4128 : Row 4128 7 0 7 1
unfolding list_of start_of log logs
bytes_4128 = (refl, refl)

pub bytes_65504 : Row 65504 10 15 11 0
unfolding list_of start_of log logs
bytes_65504 = (refl, refl)

pub bytes_65536 : Row 65536 11 0 11 0
unfolding list_of start_of log logs
bytes_65536 = (refl, refl)

pub bytes_126976 : Row 126976 11 15 11 15
unfolding list_of start_of log logs
bytes_126976 = (refl, refl)

-- the largest block: no list has only blocks that are as large
pub bytes_131040 : Row 131040 11 15 12 0
unfolding list_of start_of log logs
bytes_131040 = (refl, refl)
