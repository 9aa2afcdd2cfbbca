-- What follows from specs/Seen.antt.
use Rattle.std.specs.Prelude.{ℕ, suc, ◌+◌, ◌*◌, ◌/◌, ◌%◌, ◌^◌, ◌≤◌, ◌<◌, ◌≡◌, List, [], ◌∷◌}
use Rattle.std.proofs.Common.{arith, ap, sym, ◌∙◌, inl, ⊎_elim}
use Rattle.std.proofs.Math.Path.{refl}
use Rattle.choice.specs.Choice.{if_eq, eq_yes, eq_no, eq_case}
use Rattle.class.proofs.Class.{list_small}
use Rattle.definition.specs.Blocks.{Block, free, used, last, gap, total, ◌⟨⟩◌}
use Rattle.definition.specs.Lists.{Lists}
use Rattle.definition.specs.Calls.{Heap}
use Rattle.invariants.specs.Order.{idle, Ordered, order_split, BlockAt, stands_at}
use Rattle.invariants.proofs.Order.{total_zip}
use Rattle.invariants.specs.Members.{Mem}
use Rattle.invariants.proofs.Pieces.{free_listed}
use Rattle.script.specs.Memory.{Memory, Size, Before, Next, Prev, Mark, Live, none, root, free_word, used_word, last_word}
use Rattle.script.specs.Script.{Script, read, ◌>>◌, run, no, unless_eq, must_eq, must_differ, Gives}
use Rattle.script.proofs.Script.{gives_bind, gives_get, gives_eq, gives_le, gives_differ, gives_done, reads, halts, halts_eq}
use Rattle.sound.specs.Row.{Row}
use Rattle.sound.proofs.Row.{row_split}
use Rattle.sound.specs.Chain.{Chain, Real}
use Rattle.sound.proofs.Chain.{next_mem, prev_mem, node_leads, next_back}
use Rattle.sound.specs.Strung.{Strung, Marked}
use Rattle.sound.proofs.Strung.{mark_of}
use Rattle.sound.specs.Sound.{Sound}
use Rattle.sound.specs.Checks.{Word, is_free, is_used, is_last, word_of, must_grain, must_lead, must_back, as_busy, as_free, as_used, must_busy, must_free, must_used, see_prev, see_entry, see_head, see_owner}
use Rattle.sound.specs.Links.{node}
use Rattle.sound.specs.Seen.{FreeFacts}

-- ---- what the three size words say

-- that of a free block
pub word_free : (s : ℕ) → 1 ≤ s → word_of (free_word s) ≡ is_free s
unfolding word_of
word_free s h =
    eq_no (4 * s) 7 _ _ (omega arith) ∙ eq_no (4 * s / 4) 0 _ _ (omega arith) ∙ eq_yes (4 * s % 4) 0 _ _ (omega arith)
    ∙ ap is_free (omega arith)

-- that of a used one
pub word_used : (s : ℕ) → 1 ≤ s → word_of (used_word s) ≡ is_used s
unfolding word_of
word_used s h =
    eq_no (4 * s + 1) 7 _ _ (omega arith) ∙ eq_no ((4 * s + 1) / 4) 0 _ _ (omega arith)
    ∙ eq_no ((4 * s + 1) % 4) 0 _ _ (omega arith) ∙ eq_yes ((4 * s + 1) % 4) 1 _ _ (omega arith) ∙ ap is_used (omega arith)

-- the sentinel's
pub word_last : word_of last_word ≡ is_last
unfolding word_of
word_last = refl

module _ (m : Memory) where
  -- a word that is read and decoded
  pub gives_word : {A : Type 0} (f x v : ℕ) (w : Word) (k : Word → Script A) {a : A} → m f x ≡ v → word_of v ≡ w → Gives m (k w) a → Gives m (read f x (λ u. k (word_of u))) a
  gives_word f x v w k e d g = reads m f x _ e ∙ ap (λ (u : Word). run m (k u)) d ∙ g

  -- a link that leads where it must
  pub gives_lead : (f x y : ℕ) → m f x ≡ y → Gives m (must_lead f x y) (tt {0})
  gives_lead f x y e = reads m f x _ e ∙ gives_eq m 5 y y refl

  -- a grain of the arena
  pub gives_grain : (n x : ℕ) → x < n → Gives m (must_grain n x) (tt {0})
  gives_grain n x h = gives_le m 5 (suc x) n (omega arith)

  -- a block that is free, or used, where it must be
  pub gives_free : (y s : ℕ) → 1 ≤ s → m Size y ≡ free_word s → Gives m (must_free y) s
  gives_free y s h e = gives_word Size y (free_word s) (is_free s) as_free e (word_free s h) (gives_done m s)

  pub gives_used : (y s : ℕ) → 1 ≤ s → m Size y ≡ used_word s → Gives m (must_used y) s
  gives_used y s h e = gives_word Size y (used_word s) (is_used s) as_used e (word_used s h) (gives_done m s)

  -- no block where no payload is live
  pub not_owner : (q : ℕ) → (m Live q ≡ 1 → ⊥) → run m (see_owner q) ≡ no 3
  unfolding see_owner
  not_owner q n = reads m Live q _ refl ∙ halts m (unless_eq 3 (m Live q) 1) _ (halts_eq m 3 (m Live q) 1 n)

-- ---- the head of a list is seen

-- what seeHead checks
abbrev head_check : ℕ → ℕ → ℕ → Script (Unit {0})
head_check n h b = if_eq h none (must_eq b 0) (must_grain n h >> (must_eq b 1 >> must_lead Prev h none))

-- for that the lists are strung, and their members are grains
pub head_strung : (n : ℕ) (m : Memory) (f : Lists) (k : ℕ) → n ≤ none → Strung m f → ((y : ℕ) → Mem y (f k) → y < n) → Gives m (see_head n k) (m Next (root k))
unfolding see_head
head_strung n m f k small s inside = gives_get m Next (root k) _ refl (gives_get m Mark k _ refl
    (gives_bind m (head_check n (m Next (root k)) (m Mark k)) _ (go (f k) (s.links k) (s.marks k) inside) (gives_done m _)))
  where
    go : (l : List ℕ) → Chain (m Next) (m Prev) (root k) none l → Marked (m Mark k) l → ((y : ℕ) → Mem y l → y < n)
        → Gives m (head_check n (m Next (root k)) (m Mark k)) (tt {0})
    go [] c e b = ap (run m) (eq_yes (m Next (root k)) none _ _ c) ∙ gives_eq m 5 (m Mark k) 0 e
    go (y ∷ l) c e b =
        let i : m Next (root k) < n = omega (arith, c.0, b y (inl refl)) in
        ap (run m) (eq_no (m Next (root k)) none _ _ (λ q. omega arith))
        ∙ gives_bind m (must_grain n (m Next (root k))) _ (gives_grain m n (m Next (root k)) i)
        (gives_bind m (must_eq (m Mark k) 1) _ (gives_eq m 5 (m Mark k) 1 e)
        (gives_lead m Prev (m Next (root k)) none (ap (m Prev) c.0 ∙ c.1)))

-- ---- free blocks

-- behind a free block stands one that is not, and it knows where the free one starts
record Follows (m : Memory) (y p : ℕ) (r : List Block) : Type 0 where
  some : 1 ≤ total r
  back : m Before y ≡ p
  busy : Gives m (must_busy y) (tt {0})

follows : (m : Memory) (y p : ℕ) (r : List Block) → Ordered idle r → Row (m Size) (m Before) y p r → Follows m y p r
follows m y p [] w h = absurd w
follows m y p (free s ∷ r) w h = absurd w.0
follows m y p (gap ∷ r) w h = absurd w.0
follows m y p (used s d ∷ r) w h = record {
  some = omega (arith, w.1.0);
  back = h.0.1;
  busy = gives_word m Size y (used_word s) (is_used s) as_busy h.0.0 (word_used s w.1.0) (gives_done m (tt {0}));
}
follows m y p (last ∷ r) w h = record {
  some = omega arith;
  back = h.0.1;
  busy = gives_word m Size y last_word is_last as_busy h.0.0 word_last (gives_done m (tt {0}));
}

-- a list with a member has a head, which stands behind nothing
first_of : (nx pv : ℕ → ℕ) (n w y : ℕ) (l : List ℕ) → Chain nx pv n w l → Mem y l → Mem (nx n) l × (pv (nx n) ≡ w)
first_of nx pv n w y [] c i = elim i [ ]
first_of nx pv n w y (z ∷ l) c i = (inl c.0, ap pv c.0 ∙ c.1)

module _ (n c : ℕ) (m : Memory) (h : Heap) (o : Sound n c m h) where
  -- a free block of the heap is one in memory
  pub free_facts : (y s : ℕ) → BlockAt y (free s) 0 h.blocks → FreeFacts n c m y s
  free_facts y s b = let p = stands_at y (free s) h.blocks b in go p.before p.behind p.whole p.place
    where
      go : (l r : List Block) → h.blocks ≡ l ⟨⟩ free s ∷ r → y ≡ total l → FreeFacts n c m y s
      go l r e q =
          let i = order_split l (free s ∷ r) (rw e at o.heap.order) in
          let k = row_split (m Size) (m Before) l (free s ∷ r) (rw e at o.row) in
          let a = follows m (total l + s) (total l) r i.1.2 k.1.1 in
          let g : s < 2 ^ c = free_listed c l r s i.1.2 (rw e at o.heap.short) in
          let t : n ≡ total l + (total r + s) = sym o.whole ∙ rw e (total_zip l (free s ∷ r)) in
          rw q (record {
            word = k.1.0.0;
            some = i.1.1;
            inside = omega (arith, t, a.some);
            listed = g;
            list = list_small s i.1.1 c g;
            behind = a.back;
            busy = a.busy;
          })

  -- a member of a list is a grain
  pub member_inside : (k y : ℕ) → Mem y (h.lists k) → y < n
  member_inside k y i = let g = o.heap.exact.there k y i in omega (arith, (free_facts y g.0 g.1).inside)

  -- so no member is none
  pub lists_real : Real h.lists
  lists_real k y i = omega (arith, member_inside k y i, o.small)

  -- ---- entries of the lists

  -- the block behind it in its list links back
  pub back_seen : (k y : ℕ) → Mem y (h.lists k) → Gives m (must_back n Prev (m Next y) y) (tt {0})
  back_seen k y i = eq_case (λ (t : Script (Unit {0})). Gives m t (tt {0})) (m Next y) none _ _
      (λ _. gives_done m (tt {0}))
      (λ e. gives_bind m (must_grain n (m Next y)) _ (gives_grain m n (m Next y) (inside e))
      (gives_lead m Prev (m Next y) y (next_back (m Next) (m Prev) h.lists o.heap.exact.apiece lists_real o.strung.links k y i e)))
    where
      inside : (m Next y ≡ none → ⊥) → m Next y < n
      inside e = ⊎_elim (λ (q : m Next y ≡ none). absurd (e q)) (member_inside k (m Next y))
          (next_mem (m Next) (m Prev) h.lists o.heap.exact.apiece lists_real o.strung.links k y i)

  -- the block before it leads to it, or else it is the head
  prev_seen : (k y : ℕ) → Mem y (h.lists k) → Gives m (see_prev n (m Next (root k)) y (m Prev y)) (tt {0})
  prev_seen k y i = eq_case (λ (t : Script (Unit {0})). Gives m t (tt {0})) (m Prev y) none _ _
      (λ e. gives_eq m 5 (m Next (root k)) y (ap (m Next) (sym (eq_yes (m Prev y) none (root k) (m Prev y) e)) ∙ leads))
      (λ e. gives_bind m (must_grain n (m Next (root k))) _ (gives_grain m n (m Next (root k)) (member_inside k (m Next (root k)) first.0))
      (gives_bind m (must_differ (m Next (root k)) y) _ (gives_differ m (m Next (root k)) y (λ q. e (ap (m Prev) (sym q) ∙ first.1)))
      (gives_bind m (must_grain n (m Prev y)) _ (gives_grain m n (m Prev y) (inside e))
      (gives_lead m Next (m Prev y) y (ap (m Next) (sym (eq_no (m Prev y) none (root k) (m Prev y) e)) ∙ leads)))))
    where
      leads : m Next (node k (m Prev y)) ≡ y
      leads = node_leads (m Next) (m Prev) h.lists o.heap.exact.apiece lists_real o.strung.links k y i

      first : Mem (m Next (root k)) (h.lists k) × (m Prev (m Next (root k)) ≡ none)
      first = first_of (m Next) (m Prev) (root k) none y (h.lists k) (o.strung.links k) i

      inside : (m Prev y ≡ none → ⊥) → m Prev y < n
      inside e = ⊎_elim (λ (q : m Prev y ≡ none). absurd (e q)) (member_inside k (m Prev y))
          (prev_mem (m Next) (m Prev) h.lists o.heap.exact.apiece lists_real o.strung.links k y i)

  -- what a free block's list says of it
  pub entry_seen : (k y : ℕ) → Mem y (h.lists k) → Gives m (see_entry n k y) (record { next = m Next y; prev = m Prev y })
  unfolding see_entry
  entry_seen k y i =
      gives_get m Next y _ refl
      (gives_bind m (must_back n Prev (m Next y) y) _ (back_seen k y i)
      (gives_get m Next (root k) _ refl
      (gives_get m Mark k _ (mark_of m h.lists o.heap.exact.apiece lists_real o.strung k y i)
      (gives_bind m (must_eq 1 1) _ (gives_eq m 5 1 1 refl)
      (gives_get m Prev y _ refl
      (gives_bind m (see_prev n (m Next (root k)) y (m Prev y)) _ (prev_seen k y i) (gives_done m _)))))))

  -- the head of any list, empty or not
  pub head_seen : (k : ℕ) → Gives m (see_head n k) (m Next (root k))
  head_seen k = head_strung n m h.lists k o.small o.strung (member_inside k)

  -- ---- the block that a take gets: the head of list k

  -- its size word is read as free
  pub free_seen : (y s : ℕ) → BlockAt y (free s) 0 h.blocks → Gives m (must_free y) s
  free_seen y s b = let g = free_facts y s b in gives_free m y s g.some g.word

  module _ (k y : ℕ) (rest : List ℕ) (e : h.lists k ≡ y ∷ rest) where
    chained : Chain (m Next) (m Prev) (root k) none (y ∷ rest)
    chained = rw e at (o.strung.links k)

    -- the list's root leads to it
    pub head_leads : m Next (root k) ≡ y
    head_leads = chained.0

    -- nothing stands before it
    pub head_prev : m Prev y ≡ none
    head_prev = chained.1

    -- what stands behind it links back
    pub head_back : Gives m (must_back n Prev (m Next y) y) (tt {0})
    head_back = back_seen k y (rw e (inl refl))
