-- deallocate: the payload at q, counted in half grains.
use Rattle.std.specs.Prelude.{ℕ, ◌+◌, ◌-◌, ◌*◌, List, [], ◌∷◌, ◌++◌}
use Rattle.choice.specs.Choice.{if_eq}
use Rattle.class.specs.Class.{list_of}
use Rattle.script.specs.Script.{Script, ◌>>=◌, ◌>>◌}
use Rattle.tags.specs.Writes.{deallocate_tags}
use Rattle.chains.specs.Steps.{Step, leave, enter}
use Rattle.plans.specs.Deeds.{Deed, Plan, plan_script}
use Rattle.plans.specs.Checks.{Owner, see_owner, see_guard, see_after, see_before, see_join}

-- a free neighbour of t grains at y leaves its list; 0 stands for none
abbrev pub leave_steps : ℕ → ℕ → List Step
leave_steps t y = if_eq t 0 [] (leave (list_of t) y ∷ [])

-- the neighbours of the block of s grains at x: a free grains before it, and b after it
abbrev pub beside_steps : ℕ → ℕ → ℕ → ℕ → List Step
beside_steps x s a b = leave_steps b (x + s) ++ leave_steps a (x - a)

-- the block and its neighbours enter a list as one
abbrev pub join_steps : ℕ → ℕ → ℕ → ℕ → List Step
join_steps x s a b = enter (list_of (a + (s + b))) (x - a) ∷ []

-- the payload's place in the block is d
abbrev pub deallocate_deed : ℕ → ℕ → ℕ → ℕ → ℕ → Deed
deallocate_deed x s d a b = record {
  answer = 0;
  moved = 0;
  early = beside_steps x s a b;
  late = join_steps x s a b;
  guards = [];
  records = deallocate_tags x s d a b;
}

unfoldable pub deallocate_script : ℕ → ℕ → ℕ → Script Plan
deallocate_script n c q = do
  o ← see_owner n q
  see_guard o.at
  b ← see_after n c (o.at + o.grains)
  a ← see_before n c o.at
  see_join n c (a + (o.grains + b))
  plan_script (deallocate_deed o.at o.grains (q - 2 * o.at) a b)
