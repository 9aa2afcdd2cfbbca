-- What holds on any memory, damaged or not, where a take gets a block: the list that the map shows has a head, which is a
-- free block of that list, large enough, between its neighbours. What contradicts this is refused with 5; that the map
-- shows no list, with 1.
use Rattle.std.specs.Prelude.{ℕ, ◌+◌, ◌-◌, ◌*◌, ◌≤◌, ◌<◌, ◌≡◌, List, [], ◌∷◌, ◌++◌}
use Rattle.bits.specs.First.{first_set}
use Rattle.class.specs.Class.{list_of, start_of}
use Rattle.definition.specs.Calls.{wanted, place, keeps}
use Rattle.script.specs.Memory.{Memory, Size, Before, Next, Prev, Mark, Live, none, root, Write, ◌at◌≔◌}
use Rattle.script.specs.Script.{Gives}
use Rattle.sound.specs.Links.{unlink_writes}
use Rattle.sound.specs.Checks.{is_free, word_of}
use Rattle.sound.specs.Plans.{Plan, leave_script, pad_writes}
use Rattle.sound.specs.Inverted.{Busy}
use Rattle.sound.specs.Checked.{Back}

-- list k has the head y, a free block of s grains; it leaves its list, and of what it doesn't keep a block is left, by w
pub record TakeChecked (n c p a : ℕ) (m : Memory) (t : Plan) : Type 0 where
  pub k : ℕ
  pub y : ℕ
  pub s : ℕ
  pub w : List Write
  pub sought : k ≡ first_set (m Mark) (16 * c - start_of (wanted p a)) (start_of (wanted p a))
  pub listed : k < 16 * c
  pub marked : m Mark k ≡ 1
  pub head : m Next (root k) ≡ y
  pub inside : y < n
  pub word : word_of (m Size y) ≡ is_free s
  pub list : list_of s ≡ k
  pub enough : 0 < a → wanted p a ≤ s
  pub first : m Prev y ≡ none
  pub back : Back n m Prev (m Next y) y
  pub busy : Busy (word_of (m Size (y + s)))
  pub link : m Before (y + s) ≡ y
  pub left : Gives m (leave_script n c (unlink_writes k (m Next y) none) y s (keeps (place a y) p)) w
  pub plan : t ≡ record { answer = 2 * y + place a y; writes = w ++ (pad_writes y (place a y) ++ ((Live at 2 * y + place a y ≔ 1) ∷ [])); moved = 0; early = 0 }
