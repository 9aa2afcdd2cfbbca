-- On a memory that stands for a heap the search of the map finds the list that the definition finds, and the checks of that
-- list's first block pass.
use Rattle.std.specs.Prelude.{ℕ, suc, ◌+◌, ◌-◌, ◌*◌, ◌≡◌, List, [], ◌∷◌}
use Rattle.std.proofs.Common.{arith, ◌∙◌, subst, inl}
use Rattle.std.proofs.Math.Path.{refl}
use Rattle.choice.specs.Choice.{eq_case}
use Rattle.bits.specs.First.{first_set}
use Rattle.bits.proofs.First.{first_is}
use Rattle.class.specs.Class.{list_of, start_of}
use Rattle.definition.specs.Blocks.{free}
use Rattle.definition.specs.Lists.{Lists, nothing, found, search}
use Rattle.definition.specs.Calls.{Heap, wanted, place, keeps}
use Rattle.invariants.specs.Order.{BlockAt}
use Rattle.invariants.specs.Members.{Mem}
use Rattle.invariants.specs.Promises.{sought, search_empty}
use Rattle.invariants.proofs.Promises.{finds}
use Rattle.script.specs.Memory.{Memory, Next, Prev, Mark}
use Rattle.script.specs.Script.{unless_le, must_eq, run, no, Gives}
use Rattle.script.proofs.Script.{gives_bind, gives_get, gives_eq, gives_le, gives_done, halts, halts_le, searches}
use Rattle.chains.specs.Links.{Head}
use Rattle.chains.specs.Chain.{Chain}
use Rattle.chains.specs.Strung.{Strung}
use Rattle.chains.proofs.Strung.{next_mem}
use Rattle.chains.proofs.Seen.{next_back}
use Rattle.plans.specs.Checks.{must_be, must_free, see_free, see_rest}
use Rattle.plans.specs.Allocate.{see_first, see_taken}
use Rattle.armour.specs.Row.{Sound}
use Rattle.refines.proofs.Seen.{gives_be, free_some, free_below, whole_gives, member_free, rest_gives}

-- ---- the search of the map

module _ (m : Memory) (f : Lists) (s : Strung m f) (i k : ℕ) where
  -- an empty list is not marked
  unmarked : (j : ℕ) → f j ≡ [] → m Mark j ≡ 1 → ⊥
  unmarked j e p = let z : m Mark j ≡ 0 = subst (Chain m j) e (s j) in omega arith

  pub map_none : search f i k ≡ nothing → first_set (m Mark) i k ≡ k + i
  map_none e = first_is (m Mark) i k (k + i) (omega arith) (omega arith)
      (λ j a b. unmarked j (search_empty f i k e j a b)) (λ h. absurd (omega arith))

  pub map_found : (j y : ℕ) → search f i k ≡ found j y → first_set (m Mark) i k ≡ j
  map_found j y e =
      let d = finds f i k j y e in
      let c : Chain m j (y ∷ d.rest) = subst (Chain m j) d.list (s j) in
      first_is (m Mark) i k j d.low (omega (arith, d.high)) (λ u a b. unmarked u (d.first u a b)) (λ _. c.0)

-- ---- the first block of a list

module _ (n c : ℕ) (m : Memory) (h : Heap) (o : Sound n c m h) (k y : ℕ) (rest : List ℕ) (li : h.lists k ≡ y ∷ rest) where
  chained : Chain m k (y ∷ rest)
  chained = subst (Chain m k) li (o.strung k)

  member : Mem y (h.lists k)
  member = rw li (inl refl)

  pub first_gives : (s : ℕ) → BlockAt y (free s) 0 h.blocks → list_of s ≡ k → Gives m (see_first n k y) s
  unfolding see_first
  first_gives s b e =
      gives_bind m (see_free n y) _ (whole_gives n c m h o y s b)
      (gives_bind m (must_eq (list_of s) k) _ (gives_eq m 5 (list_of s) k e)
      (gives_bind m (must_be Prev y y) _ (gives_be m Prev y y chained.2)
      (gives_get m Next y _ refl
      (gives_bind m (must_free n (m Next y)) _ (member_free n c m h o k (m Next y) (next_mem m h.lists o.exact.apiece o.strung k y member)).1
      (gives_bind m (must_be Prev (m Next y) y) _ (gives_be m Prev (m Next y) y back) (gives_done m s))))))
    where
      back : m Prev (m Next y) ≡ y
      back = next_back m h.lists o.exact.apiece o.strung k y member
          ∙ eq_case (λ (v : ℕ). v ≡ y) (m Next y) y (m Prev y) y (λ _. chained.2) (λ _. refl)

-- ---- what allocate takes

module _ (n c p a : ℕ) (m : Memory) (h : Heap) where
  -- the block that is found, of which it is known how many grains it has
  pub taken_at : Sound n c m h → (k y s : ℕ) → sought c h p a ≡ found k y → BlockAt y (free s) 0 h.blocks → list_of s ≡ k
      → Gives m (see_taken n c p a) (record { list = k; block = y; grains = s })
  unfolding see_taken
  taken_at o k y s e b q =
      let w = start_of (wanted p a) in
      let d = finds h.lists (16 * c - w) w k y e in
      searches m (16 * c - w) w _ (map_found m h.lists o.strung (16 * c - w) w k y e)
      ∙ gives_bind m (unless_le 1 (suc k) (16 * c)) _ (gives_le m 1 (suc k) (16 * c) (omega (arith, d.low, d.high)))
      (gives_get m Head k _ (chained n c m h o k y d.rest d.list).1
      (gives_bind m (see_first n k y) _ (first_gives n c m h o k y d.rest d.list s b q)
      (gives_bind m (see_rest n c s (keeps (place a y) p)) _ (rest_gives n c m h o s (keeps (place a y) p) (free_some n c m h o y s b) (free_below n c m h o y s b))
      (gives_done m _))))

  -- no list: refused with 1
  pub taken_refused : Sound n c m h → sought c h p a ≡ nothing → run m (see_taken n c p a) ≡ no 1
  unfolding see_taken
  taken_refused o e =
      let w = start_of (wanted p a) in
      let q = map_none m h.lists o.strung (16 * c - w) w e in
      searches m (16 * c - w) w _ refl
      ∙ halts m (unless_le 1 (suc (first_set (m Mark) (16 * c - w) w)) (16 * c)) _ (halts_le m 1 _ _ (omega arith))
