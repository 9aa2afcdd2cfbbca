-- What a call does to the lists: some blocks leave theirs, and some enter one, step by step. Each step reads the words as
-- the steps before it left them, so nothing that was read earlier has to be corrected.
use Rattle.std.specs.Prelude.{ℕ, List, [], ◌∷◌, ◌++◌}
use Rattle.definition.specs.Lists.{Lists, push, drop}
use Rattle.script.specs.Memory.{Memory, Next, Prev, Mark, Write, apply}
use Rattle.script.specs.Script.{Script, done, ◌>>=◌, get, over}
use Rattle.chains.specs.Links.{Head, leave_writes, next_of, enter_writes}

-- block y leaves list k; block y enters list k
pub data Step : Type 0 where
  leave enter : (k y : ℕ) → Step

-- ---- what they write

abbrev pub step_writes : Memory → Step → List Write
step_writes m (leave k y) = leave_writes k y (m Next y) (m Prev y) (m Head k) (m Mark k)
step_writes m (enter k y) = enter_writes k y (next_of y (m Mark k) (m Head k))

abbrev pub steps_writes : Memory → List Step → List Write
steps_writes m [] = []
steps_writes m (s ∷ l) = step_writes m s ++ steps_writes (apply m (step_writes m s)) l

-- ---- what becomes of the definition's lists

abbrev pub step_lists : Lists → Step → Lists
step_lists f (leave k y) = drop k y f
step_lists f (enter k y) = push k y f

abbrev pub steps_lists : Lists → List Step → Lists
steps_lists f [] = f
steps_lists f (s ∷ l) = steps_lists (step_lists f s) l

-- ---- as scripts

abbrev pub step_script : Step → Script (List Write)
step_script (leave k y) = do
  x ← get Next y
  p ← get Prev y
  h ← get Head k
  b ← get Mark k
  done (leave_writes k y x p h b)
step_script (enter k y) = do
  b ← get Mark k
  h ← get Head k
  done (enter_writes k y (next_of y b h))

unfoldable pub steps_script : List Step → Script (List Write)
steps_script [] = done []
steps_script (s ∷ l) = do
  w ← step_script s
  v ← over w (steps_script l)
  done (w ++ v)
