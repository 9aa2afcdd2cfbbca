-- T5: any number of calls, one after the other, on slices, and between them what the caller writes into live payloads. From
-- tables that `init` made the replies are the definition's, one by one, and the slices at the end stand for the definition's
-- heap: for every list of calls, whatever their numbers, with as many regions among them as the table has room for.
use Rattle.std.specs.Prelude.{ℕ, ◌+◌, List, [], ◌∷◌}
use Rattle.definition.specs.Calls.{Heap}
use Rattle.sound.specs.Runs.{Reply}
use Rattle.slices.specs.Slices.{Slices}
use Rattle.calls.specs.Bytes.{ByteCall, allocate, deallocate, reallocate, insert, append}
use Rattle.calls.specs.Performs.{Performs, Defines, Stand}
use Rattle.calls.specs.Fills.{Fills}

-- ---- what is run

-- calls one after the other, with their replies, on slices; between them the caller may write into payloads that are live
pub data Runs : Slices → List ByteCall → List Reply → Slices → Type 0 where
  stop : {S : Slices} → Runs S [] [] S
  step : {S T U : Slices} {k : ByteCall} {r : Reply} {ks : List ByteCall} {rs : List Reply} → Performs S k r T → Runs T ks rs U → Runs S (k ∷ ks) (r ∷ rs) U
  write : {S T U : Slices} {h : Heap} {ks : List ByteCall} {rs : List Reply} → Stand S h → Fills h S T → Runs T ks rs U → Runs S ks rs U

-- and in the definition
pub data DefinesAll : Heap → List ByteCall → List Reply → Heap → Type 0 where
  stop : {h : Heap} → DefinesAll h [] [] h
  step : {h g f : Heap} {k : ByteCall} {r : Reply} {ks : List ByteCall} {rs : List Reply} → Defines h k r g → DefinesAll g ks rs f → DefinesAll h (k ∷ ks) (r ∷ rs) f

-- how many regions are asked for
abbrev pub regions_of : ByteCall → ℕ
regions_of (allocate n a) = 0
regions_of (deallocate x a) = 0
regions_of (reallocate x n a) = 0
regions_of (insert x n) = 1
regions_of (append x n) = 1

abbrev pub regions_in : List ByteCall → ℕ
regions_in [] = 0
regions_in (k ∷ l) = regions_of k + regions_in l

-- ---- T5

-- the definition's replies, and slices that stand for its heap
pub record RunRefined (h : Heap) (ks : List ByteCall) (rs : List Reply) (T : Slices) : Type 0 where
  pub heap : Heap
  pub defined : DefinesAll h ks rs heap
  pub stands : Stand T heap
