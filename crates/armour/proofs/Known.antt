-- What follows from specs/Known.antt.
use Rattle.std.specs.Prelude.{ℕ, ◌+◌, ◌-◌, ◌*◌, ◌/◌, ◌%◌, ◌≤◌, ◌<◌, ◌≡◌, refl, List, [], ◌∷◌, ◌⊎◌}
use Rattle.std.proofs.Common.{arith, sym, ◌∙◌, subst, inl, inr, ⊎_elim}
use Rattle.choice.specs.Choice.{le?}
use Rattle.definition.specs.Blocks.{Block, free, used, last, gap, total, ◌⟨⟩◌, room}
use Rattle.invariants.specs.Order.{busy, Inside, Ordered, OrderedL, order_split, BlockAt}
use Rattle.invariants.proofs.Order.{total_zip}
use Rattle.script.specs.Memory.{Memory, Next, Prev}
use Rattle.script.specs.Script.{Gives}
use Rattle.tags.specs.Tag.{Tag, flags, START, FREE, Tagged, TaggedL}
use Rattle.tags.proofs.Tagged.{tagged_split}
use Rattle.tags.proofs.Decode.{free_here, small_here, large_here, pad_here, behind_tag, before_tag}
use Rattle.chains.specs.Links.{Head}
use Rattle.chains.specs.Closed.{Headed}
use Rattle.plans.specs.Checks.{Owner, see_owner, see_after, see_before}
use Rattle.plans.specs.Checked.{StartsFree, FreeTag}
use Rattle.plans.proofs.Checked.{ListedFree, Owns, small, large, wide, owner_checked, after_checked, before_checked}
use Rattle.armour.specs.Row.{Row, Free}
use Rattle.armour.specs.Known.{Beside}

module _ (n c : ℕ) (m : Memory) (xs : List Block) (o : Row n c m xs) where
  pub starts_free : (x s : ℕ) → StartsFree n m x s → BlockAt x (free s) 0 xs
  starts_free x s f =
      let e : m Tag x / flags ≡ s = omega (arith, f.tag) in
      subst (λ (s : ℕ). BlockAt x (free s) 0 xs) e (free_here (m Tag) xs o.order o.tags x (omega (arith, f.inside, o.whole)) (omega (arith, f.tag)))

  pub free_known : (x : ℕ) → FreeTag n m x → Free xs x
  free_known x f = (f.0, starts_free x f.0 f.1)

  pub headed_known : (k : ℕ) → Headed (FreeTag n m) m k → Headed (Free xs) m k
  headed_known k (inl e) = inl e
  headed_known k (inr f) = inr (free_known (m Head k) f)

  -- the block of a payload
  pub owner_known : (q : ℕ) {u : Owner} → Gives m (see_owner n q) u → BlockAt u.at (used u.grains (q - 2 * u.at)) 0 xs × (2 * u.at ≤ q)
  owner_known q {u} g = let w = owner_checked m n q g in go w.below w.ends w.kind
    where
      fill : (s d : ℕ) → s ≡ u.grains → q ≡ 2 * u.at + d → BlockAt u.at (used s d) 0 xs → BlockAt u.at (used u.grains (q - 2 * u.at)) 0 xs × (2 * u.at ≤ q)
      fill s d e f b =
          let p : d ≡ q - 2 * u.at = omega arith in
          (subst (λ (s : ℕ). BlockAt u.at (used s (q - 2 * u.at)) 0 xs) e (subst (λ (d : ℕ). BlockAt u.at (used s d) 0 xs) p b), omega arith)

      go : q < 2 * n → u.at + u.grains < n → Owns m n q u → BlockAt u.at (used u.grains (q - 2 * u.at)) 0 xs × (2 * u.at ≤ q)
      go low ends (small e f s) = fill (m Tag u.at / flags) 1 s e (small_here (m Tag) xs o.order o.tags u.at (omega (arith, o.whole)) f)
      go low ends (large e f s) = fill (m Tag u.at / flags) 2 s e (large_here (m Tag) xs o.order o.tags u.at (omega (arith, o.whole)) f)
      go low ends (wide p e two le f pe g s) =
          let h = pad_here (m Tag) xs o.order o.tags (u.at + p - 1) (omega (arith, o.whole)) f in
          let z : h.0 ≡ u.at = omega (arith, h.2, pe) in
          fill (m Tag u.at / flags) (2 * p) s e
          (subst (λ (v : ℕ). BlockAt u.at (used (m Tag u.at / flags) (2 * v)) 0 xs) pe
          (subst (λ (x : ℕ). BlockAt x (used (m Tag x / flags) (2 * (m Tag (u.at + p - 1) / flags))) 0 xs) z h.1))

-- ---- beside a used block

-- at the arena's start there is nothing before it
pub no_room : (l : List Block) → OrderedL l → total l ≡ 0 → room l ≡ 0
no_room [] w e = refl
no_room (free t ∷ l) w e = absurd (omega (arith, w.1))
no_room (used t v ∷ l) w e = refl
no_room (last ∷ l) w e = refl
no_room (gap ∷ l) w e = refl

beside_none : (c : ℕ) (m : Memory) (xs : List Block) (y t : ℕ) → t ≡ 0 → Beside c m xs y t
beside_none c m xs y t e = record { list = λ n. absurd (n e); next = λ n. absurd (n e); prev = λ n. absurd (n e) }

module _ (n c : ℕ) (m : Memory) (l r : List Block) (s d : ℕ) (o : Row n c m (l ⟨⟩ used s d ∷ r)) where
  beside_some : (y t : ℕ) → ListedFree m n c y t → Beside c m (l ⟨⟩ used s d ∷ r) y t
  beside_some y t f = record {
    list = λ _. f.list;
    next = λ _. free_known n c m (l ⟨⟩ used s d ∷ r) o (m Next y) f.entry.next;
    prev = λ _. free_known n c m (l ⟨⟩ used s d ∷ r) o (m Prev y) f.entry.prev;
  }

  parts : OrderedL l × Ordered busy r
  parts = let i = order_split l (used s d ∷ r) o.order in (i.0, i.1.2)

  pub whole_block : (1 ≤ s) × Inside s d
  whole_block = (order_split l (used s d ∷ r) o.order).1.1

  rows : TaggedL (m Tag) l × Tagged (m Tag) (total l) (used s d ∷ r)
  rows = tagged_split (m Tag) l (used s d ∷ r) o.tags

  pub after_known : {b : ℕ} → Gives m (see_after n c (total l + s)) b → (b ≡ room r) × Beside c m (l ⟨⟩ used s d ∷ r) (total l + s) b
  after_known {b} g = go (behind_tag (m Tag) (total l + s) r parts.1 rows.1.1).room (after_checked m n c (total l + s) g).1
    where
      go : ((m Tag (total l + s) % flags ≡ START + FREE) × (m Tag (total l + s) / flags ≡ room r) × (1 ≤ room r)) ⊎ ((m Tag (total l + s) % flags ≡ START + FREE → ⊥) × (room r ≡ 0))
          → ((m Tag (total l + s) % flags ≡ START + FREE) × ListedFree m n c (total l + s) b) ⊎ ((m Tag (total l + s) % flags ≡ START + FREE → ⊥) × (b ≡ 0))
          → (b ≡ room r) × Beside c m (l ⟨⟩ used s d ∷ r) (total l + s) b
      go (inl h) (inl k) = (omega (arith, h.1, k.1.starts.tag), beside_some (total l + s) b k.1)
      go (inl h) (inr k) = absurd (k.0 h.0)
      go (inr h) (inl k) = absurd (h.0 k.0)
      go (inr h) (inr k) = (k.1 ∙ sym h.1, beside_none c m _ (total l + s) b k.1)

  pub before_known : {a : ℕ} → Gives m (see_before n c (total l)) a → (a ≡ room l) × Beside c m (l ⟨⟩ used s d ∷ r) (total l - a) a
  before_known {a} g = go (before_checked m n c (total l) (omega (arith, whole_block.0, total_zip l (used s d ∷ r), o.whole)) g)
    where
      none : (room l ≡ 0) → (a ≡ 0) → (a ≡ room l) × Beside c m (l ⟨⟩ used s d ∷ r) (total l - a) a
      none e f = (f ∙ sym e, beside_none c m _ (total l - a) a f)

      some : m Tag (total l - 1) % START ≡ FREE → m Tag (total l - 1) / flags ≡ a → ListedFree m n c (total l - a) a
          → ((m Tag (total l - 1) % START ≡ FREE) × (m Tag (total l - 1) / flags ≡ room l) × (1 ≤ room l)) ⊎ ((m Tag (total l - 1) % START ≡ FREE → ⊥) × (room l ≡ 0))
          → (a ≡ room l) × Beside c m (l ⟨⟩ used s d ∷ r) (total l - a) a
      some e p f (inl h) = (sym p ∙ h.1, beside_some (total l - a) a f)
      some e p f (inr h) = absurd (h.0 e)

      full : (m Tag (total l - 1) % START ≡ FREE → ⊥) → 1 ≤ total l → room l ≡ 0
      full e p = ⊎_elim
          (λ (h : (m Tag (total l - 1) % START ≡ FREE) × (m Tag (total l - 1) / flags ≡ room l) × (1 ≤ room l)). absurd (e h.0))
          (λ (h : (m Tag (total l - 1) % START ≡ FREE → ⊥) × (room l ≡ 0)). h.1)
          (before_tag (m Tag) l parts.0 rows.0 p).room

      go : ((1 ≤ total l) × (m Tag (total l - 1) % START ≡ FREE) × (m Tag (total l - 1) / flags ≡ a) × (a ≤ total l) × ListedFree m n c (total l - a) a) ⊎ (((total l ≡ 0) ⊎ (m Tag (total l - 1) % START ≡ FREE → ⊥)) × (a ≡ 0))
          → (a ≡ room l) × Beside c m (l ⟨⟩ used s d ∷ r) (total l - a) a
      go (inl k) = some k.1 k.2 k.4 (before_tag (m Tag) l parts.0 rows.0 k.0).room
      go (inr k) = none (⊎_elim (λ (e : total l ≡ 0). no_room l parts.0 e)
          (λ (e : m Tag (total l - 1) % START ≡ FREE → ⊥). ⊎_elim (λ (p : 1 ≤ total l). full e p) (λ (p : total l < 1). no_room l parts.0 (omega arith)) (le? 1 (total l)))
          k.0) k.1
