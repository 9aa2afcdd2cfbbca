-- How many words each call reads at the most, on any memory, damaged or not, and how often it searches the map: at most once.
-- Then the same in words alone, where a search of the map reads each word of the map at most once.
use Rattle.std.specs.Prelude.{ℕ, zero, suc, ◌+◌, ◌-◌, ◌*◌, ◌≤◌, ◌≡◌, List, [], ◌∷◌}
use Rattle.std.proofs.Common.{suc-add, suc-mul, arith, subst}
use Rattle.choice.specs.Choice.{eq_case, le_case}
use Rattle.definition.specs.Calls.{place, keeps}
use Rattle.script.specs.Script.{Script, read, first, done, stop, over, AtMost, few_bind}
use Rattle.script.proofs.Script.{over_few, few_after}
use Rattle.machine.specs.Machine.{map_words}
use Rattle.chains.specs.Steps.{Step, leave, enter, step_script, steps_script}
use Rattle.plans.specs.Deeds.{Deed, plan_script}
use Rattle.plans.specs.Checks.{see_guard, see_owner, see_after, see_before, see_rest, see_join}
use Rattle.plans.specs.Allocate.{allocate_deed, see_taken, allocate_script}
use Rattle.plans.specs.Deallocate.{deallocate_script}
use Rattle.plans.specs.Reallocate.{elsewhere_script, down_script, move_script, stretch_script, resize_script, reallocate_script}
use Rattle.plans.specs.Costs.{cost, costs, deed_costs, allocate_costs, Small}
use Rattle.plans.proofs.Costs.{deallocate_costs, resize_small}
use Rattle.plans.proofs.FewChecks.{few_up, few_ends, few_guard, few_owner, few_after_it, few_before_it, few_rest, few_join, few_taken}

-- ---- the steps on the lists: a block that leaves reads four words, and one that enters two

step_reads : (s : Step) → AtMost 0 (step_script s) (cost 4 2 s)
step_reads (leave k y) = λ x p h b. tt
step_reads (enter k y) = λ b h. tt

steps_reads : (l : List Step) → AtMost 0 (steps_script l) (costs 4 2 l)
unfolding steps_script
steps_reads [] = tt
steps_reads (s ∷ l) =
    let e : cost 4 2 s + (costs 4 2 l + 0) ≡ costs 4 2 (s ∷ l) = omega arith in
    subst (AtMost 0 (steps_script (s ∷ l))) e (few_bind 0 (step_script s) _ (cost 4 2 s) (costs 4 2 l + 0) (step_reads s) λ w.
    few_bind 0 (over w (steps_script l)) _ (costs 4 2 l) 0 (over_few 0 w (steps_script l) (costs 4 2 l) (steps_reads l)) λ v. tt)

plan_reads : (t : Deed) (n : ℕ) → deed_costs 4 2 t ≤ n → AtMost 0 (plan_script t) n
unfolding plan_script
plan_reads t n l =
    let u = costs 4 2 t.early in
    let v = costs 4 2 t.late in
    few_up 0 (plan_script t) (u + (v + 0)) n (omega arith)
    (few_bind 0 (steps_script t.early) _ u (v + 0) (steps_reads t.early) λ w.
    few_bind 0 (over w (steps_script t.late)) _ v 0 (over_few 0 w (steps_script t.late) v (steps_reads t.late)) λ _. tt)

-- ---- the calls

-- 18 words, and one search of the map
pub allocate_reads : (n c p a : ℕ) → AtMost 1 (allocate_script n c p a) 18
unfolding allocate_script
allocate_reads n c p a = few_after 1 (see_taken n c p a) _ 12 6 (few_taken n c p a) λ t. plan_reads (allocate_deed p a t) 6 (omega (arith, allocate_costs 4 2 p a t))

-- 40 words
pub deallocate_reads : (n c q : ℕ) → AtMost 0 (deallocate_script n c q) 40
unfolding deallocate_script
deallocate_reads n c q =
    few_bind 0 (see_owner n q) _ 2 38 (few_owner n q) λ o.
    few_bind 0 (see_guard o.at) _ 2 36 (few_guard o.at) λ _.
    few_bind 0 (see_after n c (o.at + o.grains)) _ 12 24 (few_after_it n c (o.at + o.grains)) λ b.
    few_bind 0 (see_before n c o.at) _ 10 14 (few_before_it n c o.at) λ a.
    few_bind 0 (see_join n c (a + (o.grains + b))) _ 4 10 (few_join n c (a + (o.grains + b))) λ _.
    plan_reads _ 10 (omega (arith, deallocate_costs 4 2 o.at o.grains (q - 2 * o.at) a b))

few_elsewhere : (n c p m x s d a b : ℕ) → AtMost 1 (elsewhere_script n c p m x s d a b) 16
unfolding elsewhere_script
few_elsewhere n c p m x s d a b = few_after 1 (see_taken n c p m) _ 12 4 (few_taken n c p m) λ t.
    few_bind 0 (see_join n c (a + (s + b))) _ 4 0 (few_join n c (a + (s + b))) λ _. tt

few_down : (n c p m x s d a b : ℕ) → AtMost 1 (down_script n c p m x s d a b) 16
unfolding down_script
few_down n c p m x s d a b = le_case (λ (t : Script Deed). AtMost 1 t 16) (keeps (place m (x - a)) p) (a + (s + b)) _ _
    (λ _. few_bind 1 (see_rest n c (a + (s + b)) (keeps (place m (x - a)) p)) _ 4 12 (few_rest n c (a + (s + b)) (keeps (place m (x - a)) p)) λ _. tt)
    (λ _. few_elsewhere n c p m x s d a b)

few_move : (n c p m x s d b : ℕ) → AtMost 1 (move_script n c p m x s d b) 26
unfolding move_script
few_move n c p m x s d b =
    few_bind 1 (see_before n c x) _ 10 16 (few_before_it n c x) λ a.
    eq_case (λ (t : Script Deed). AtMost 1 t 16) a 0 _ _ (λ _. few_elsewhere n c p m x s d 0 b) (λ _. few_down n c p m x s d a b)

few_resize : (n c q p m x s d : ℕ) → AtMost 1 (resize_script n c q p m x s d) 38
unfolding resize_script stretch_script
few_resize n c q p m x s d = eq_case (λ (t : Script Deed). AtMost 1 t 38) (keeps d p) s _ _ (λ _. tt) λ _.
    few_bind 1 (see_after n c (x + s)) _ 12 26 (few_after_it n c (x + s)) λ b.
    le_case (λ (t : Script Deed). AtMost 1 t 26) (keeps d p) (s + b) _ _
    (λ _. few_bind 1 (see_rest n c (s + b) (keeps d p)) _ 4 22 (few_rest n c (s + b) (keeps d p)) λ _. tt)
    (λ _. few_move n c p m x s d b)

-- 58 words, and one search of the map
pub reallocate_reads : (n c q p a : ℕ) → AtMost 1 (reallocate_script n c q p a) 58
unfolding reallocate_script
reallocate_reads n c q p a =
    few_bind 1 (see_owner n q) _ 2 56 (few_owner n q) λ o.
    few_bind 1 (see_guard o.at) _ 2 54 (few_guard o.at) λ _.
    let x = o.at in let s = o.grains in let d = q - 2 * o.at in
    few_ends 1 Small (resize_script n c q p a x s d) _ 38 16 (few_resize n c q p a x s d) (resize_small n c q p a x s d) λ t h.
    plan_reads t 16 (omega (arith, h.steps 4 2))

-- ---- in words alone

module _ {A : Type 0} where
  -- the answer to any memory takes at most n words, where a search of the map reads at most w
  abbrev pub Words : ℕ → Script A → ℕ → Type 0
  Words w (read f x k) zero = ⊥
  Words w (read f x k) (suc n) = (v : ℕ) → Words w (k v) n
  Words w (first l x k) n = (w ≤ n) × ((v : ℕ) → Words w (k v) (n - w))
  Words w (done a) n = Unit {0}
  Words w (stop r) n = Unit {0}

  pub words_few : (w i : ℕ) (s : Script A) (n : ℕ) → AtMost i s n → Words w s (n + i * w)
  words_few w i (read f x k) zero h = absurd h
  words_few w i (read f x k) (suc n) h = rw (suc-add n (i * w)) (λ v. words_few w i (k v) n (h v))
  words_few w zero (first l x k) n h = absurd h
  words_few w (suc i) (first l x k) n h =
      let e : n + i * w ≡ n + suc i * w - w = omega (arith, suc-mul i w) in
      (omega (arith, suc-mul i w), λ v. subst (Words w (k v)) e (words_few w i (k v) n (h v)))
  words_few w i (done a) n h = tt
  words_few w i (stop r) n h = tt

pub allocate_words : (n c p a : ℕ) → Words map_words (allocate_script n c p a) (18 + map_words)
allocate_words n c p a = words_few map_words 1 (allocate_script n c p a) 18 (allocate_reads n c p a)

pub deallocate_words : (n c q : ℕ) → Words map_words (deallocate_script n c q) 40
deallocate_words n c q = words_few map_words 0 (deallocate_script n c q) 40 (deallocate_reads n c q)

pub reallocate_words : (n c q p a : ℕ) → Words map_words (reallocate_script n c q p a) (58 + map_words)
reallocate_words n c q p a = words_few map_words 1 (reallocate_script n c q p a) 58 (reallocate_reads n c q p a)
