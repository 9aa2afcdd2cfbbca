-- The checks give what they ask of the words: a free block, an entry, a head.
use Rattle.std.specs.Prelude.{ℕ, ◌+◌, ◌-◌, ◌/◌, ◌%◌, ◌≡◌, Bool, true, false, List, eqb}
use Rattle.std.proofs.Common.{arith, ◌∙◌, subst, ⊎_elim, eq-eqb, ne_eqb}
use Rattle.std.proofs.Math.Path.{refl, ap, sym}
use Rattle.choice.specs.Choice.{if_eq, eq_yes, eq_no, same?}
use Rattle.choice.specs.Says.{Says}
use Rattle.bits.specs.Map.{map_bit}
use Rattle.bits.proofs.Map.{map_bit_lt}
use Rattle.script.specs.Memory.{Memory, Next, Prev, Mark}
use Rattle.script.specs.Script.{Script, ok, run, ◌>>=◌, must_eq, must_le}
use Rattle.script.proofs.Script.{reads, gives_done}
use Rattle.tags.specs.Tag.{Tag, flags, START, FREE, SMALL}
use Rattle.tags.specs.Decode.{Busy}
use Rattle.chains.specs.Links.{Head}
use Rattle.plans.specs.Checks.{must_grain, must_be, must_busy, must_free, see_free, one_if, see_entry, see_head}
use Rattle.lent.specs.Slices.{grains, memory_of, next_at, prev_at, head_at}
use Rattle.entries.specs.Answers.{held, verdict, chosen}
use Rattle.entries.specs.Decides.{Decides, decided, decides_as, decides_eq, decides_le, decides_lt, decides_read, decides_then, decides_last}
use Rattle.entries.specs.Agrees.{entry_tag, Begins, Whole, Entered, Leads, Heads}

-- a choice by a test is one by an equality
pub chosen_is : (a b x y : ℕ) → chosen (eqb a b) x y ≡ if_eq a b x y
chosen_is a b x y = ⊎_elim
    (λ (e : a ≡ b). ap (λ (c : Bool). chosen c x y) (eq-eqb a b e) ∙ sym (eq_yes a b x y e))
    (λ (n : a ≡ b → ⊥). ap (λ (c : Bool). chosen c x y) (ne_eqb a b n) ∙ sym (eq_no a b x y n))
    (same? a b)

-- a word that is to be the one chosen
decides_chosen : (m : Memory) (v a b x y : ℕ) → Decides m (must_eq v (if_eq a b x y)) (tt {0}) (v ≡ chosen (eqb a b) x y)
decides_chosen m v a b x y = decides_as m (must_eq v (if_eq a b x y)) (λ e. e ∙ sym (chosen_is a b x y)) (λ e. e ∙ chosen_is a b x y) (decides_eq m v (if_eq a b x y))

pub decides_busy : (m : Memory) (v : ℕ) → Decides m (must_busy v) (tt {0}) (Busy v)
decides_busy m v = decides_then m (must_le START (v % flags)) _ (decides_le m START (v % flags)) (decides_le m (v % flags) (START + SMALL))

-- what is asked of the head h of a list that is marked
abbrev leading : ℕ → ℕ → Script (Unit {0})
leading n h = do
  _ ← must_free n h
  must_be Prev h h

decides_be : (m : Memory) (f x y : ℕ) → Decides m (must_be f x y) (tt {0}) (m f x ≡ y)
decides_be m f x y = decides_read m f x _ (decides_eq m (m f x) y)

module _ (a l t g : List ℕ) where
  abbrev m : Memory
  m = held a l t g

  -- ---- free blocks

  pub begins_decides : (x : ℕ) → Decides m (must_free (grains a) x) (entry_tag t x / flags) (Begins a t x)
  unfolding memory_of must_free
  begins_decides x =
      let v = entry_tag t x in
      decides_then m (must_grain (grains a) x) _ (decides_lt m x (grains a))
      (decides_read m Tag x _
      (decides_then m (must_eq (v % flags) (START + FREE)) _ (decides_eq m (v % flags) (START + FREE))
      (decides_last m (must_le 1 (v / flags)) (v / flags) (decides_le m 1 (v / flags)))))

  whole_decides : (x : ℕ) → let s = entry_tag t x / flags in Decides m (see_free (grains a) x) s (Whole a t x s)
  unfolding memory_of see_free
  whole_decides x =
      let s = entry_tag t x / flags in
      let e = entry_tag t (x + s - 1) in
      let v = entry_tag t (x + s) in
      decides_as m (see_free (grains a) x)
      (λ h. (h.0, (h.1.0, ((h.1.1.0, h.1.1.1.0), h.1.1.1.1))))
      (λ h. (h.0, (h.1.0, (h.1.1.0.0, (h.1.1.0.1, h.1.1.1)))))
      (decides_then m (must_free (grains a) x) _ (begins_decides x)
      (decides_then m (must_grain (grains a) (x + s)) _ (decides_lt m (x + s) (grains a))
      (decides_read m Tag (x + s - 1) _
      (decides_then m (must_eq (e % START) FREE) _ (decides_eq m (e % START) FREE)
      (decides_then m (must_eq (e / flags) s) _ (decides_eq m (e / flags) s)
      (decides_read m Tag (x + s) _
      (decides_last m (must_busy v) s (decides_busy m v))))))))

  -- where s is the count of its tag
  pub whole_seen : (x s : ℕ) → s ≡ entry_tag t x / flags → Decides m (see_free (grains a) x) s (Whole a t x s)
  whole_seen x s e = subst (λ (z : ℕ). Decides m (see_free (grains a) x) z (Whole a t x z)) (sym e) (whole_decides x)

  -- ---- entries

  pub entry_decides : (k y : ℕ) → Decides m (see_entry (grains a) k y) (tt {0}) (Entered a l t k y (next_at a y) (prev_at a y))
  unfolding memory_of see_entry
  entry_decides k y =
      let x = next_at a y in
      let p = prev_at a y in
      let h = head_at l k in
      decides_read m Next y _
      (decides_read m Prev y _
      (decides_then m (must_free (grains a) x) _ (begins_decides x)
      (decides_then m (must_be Prev x (if_eq x y p y)) _ (decides_read m Prev x _ (decides_chosen m (prev_at a x) x y p y))
      (decides_then m (must_free (grains a) p) _ (begins_decides p)
      (decides_then m (must_be Next p (if_eq p y x y)) _ (decides_read m Next p _ (decides_chosen m (next_at a p) p y x y))
      (decides_then m (must_be Mark k 1) _ (decides_be m Mark k 1)
      (decides_read m Head k _
      (decides_as m (must_eq (one_if h y) (one_if p y))
      (λ e. chosen_is h y 1 0 ∙ e ∙ sym (chosen_is p y 1 0))
      (λ e. sym (chosen_is h y 1 0) ∙ e ∙ chosen_is p y 1 0)
      (decides_eq m (one_if h y) (one_if p y))))))))))

  -- where x and p are the words of y
  pub entry_seen : (k y x p : ℕ) → x ≡ next_at a y → p ≡ prev_at a y → (r : Bool) → Says (Entered a l t k y x p) r → run m (see_entry (grains a) k y) ≡ verdict r
  entry_seen k y x p e q r h = decided (entry_decides k y) r
      (subst (λ (v : ℕ). Says (Entered a l t k y v (prev_at a y)) r) e (subst (λ (w : ℕ). Says (Entered a l t k y x w) r) q h))

  -- ---- heads

  module _ (k : ℕ) where
    -- a list that is not marked may have any head
    pub head_missing : (map_bit l k ≡ 1 → ⊥) → run m (see_head (grains a) k) ≡ ok (tt {0})
    unfolding memory_of see_head
    head_missing n =
        reads m Mark k _ refl ∙ reads m Head k _ refl
        ∙ ap (run m) (eq_yes (map_bit l k) 0 _ _ (omega (arith, n, map_bit_lt l k))) ∙ gives_done m (tt {0})

    pub head_there : map_bit l k ≡ 1 → run m (see_head (grains a) k) ≡ run m (leading (grains a) (head_at l k))
    unfolding memory_of see_head
    head_there e = reads m Mark k _ refl ∙ reads m Head k _ refl ∙ ap (run m) (eq_no (map_bit l k) 0 _ _ (λ z. omega arith))

    leads_decides : (h : ℕ) → Decides m (leading (grains a) h) (tt {0}) (Leads a t h)
    unfolding memory_of
    leads_decides h = decides_then m (must_free (grains a) h) _ (begins_decides h) (decides_be m Prev h h)

    -- b says whether the list is marked
    pub head_seen : (h : ℕ) → h ≡ head_at l k → (b : Bool) → Says (map_bit l k ≡ 1) b → (r : Bool) → Says (Heads a t b h) r → run m (see_head (grains a) k) ≡ verdict r
    head_seen h e true s r w = head_there s ∙ decided (subst (λ (z : ℕ). Decides m (leading (grains a) z) (tt {0}) (Leads a t h)) e (leads_decides h)) r w
    head_seen h e false s true w = head_missing s
    head_seen h e false s false w = absurd (w tt)
