-- The first block of a list, as a take checks it: a grain of the arena, a free block of that list, nothing before it in the
-- list, and a block in use behind it in the arena, whose link leads back. The script checks before the last of these that
-- what is next leads back; the code does so behind all else, and since each check refuses with 5, the answer is the same.
-- Each law is one return of the code.
use Rattle.std.specs.Prelude.{ℕ, suc, ◌+◌, ◌*◌, ◌≤◌, ◌<◌, ◌≡◌, refl, Bool, true, false, List, length, Option, Some, None, is_some, unwrap_or, Result, Ok, Err, IfOk}
use Rattle.std.proofs.Common.{arith, ap, sym, ◌∙◌, true≢false}
use Rattle.choice.specs.Says.{Says}
use Rattle.word.specs.Word.{word_at}
use Rattle.table.specs.Table.{entry}
use Rattle.bits.specs.Map.{map_words, lists}
use Rattle.class.specs.Class.{list_of}
use Rattle.script.specs.Memory.{Memory, Size, Before, Next, Prev, none, root}
use Rattle.script.specs.Script.{Script, no, run, ◌>>=◌, ◌>>◌, get, must_eq}
use Rattle.script.proofs.Script.{goes, halts, alike, reads, runs_stop, gives_eq, gives_le, halts_eq, halts_le}
use Rattle.sound.specs.Checks.{Word, is_free, is_used, is_last, is_bad, word_of, as_free, as_busy, must_grain, must_lead, must_back, must_busy, must_free}
use Rattle.sound.specs.Plans.{Plan}
use Rattle.sound.proofs.Refused.{stops_then, stops_back}
use Rattle.slices.specs.Decode.{grains, wrong_link, Inside}
use Rattle.slices.specs.Arena.{size_at, link_at}
use Rattle.slices.proofs.Arena.{link_in, size_inside}
use Rattle.slices.proofs.Slices.{memory_size, memory_before}
use Rattle.refusal.specs.Number.{number}
use Rattle.refusal.specs.declared.Refusal.{Refusal}
use Rattle.refusal.specs.declared.Refusal.TheVariants.{Damaged}
use Rattle.header.specs.Turned.{turned}
use Rattle.header.specs.Told.{free_of, busy_of}
use Rattle.free_list.specs.Lent.{lent, held, no_link, link, Holds, link_none, link_some, link_grain, link_past}
use Rattle.free_list.specs.Back.{reading_next, reading_prev}
use Rattle.free_list.specs.Seen.{head_read}
use Rattle.allocate.specs.declared.First.{First}

-- ---- the checks, part by part: what follows them is told the block's grain y, its size s and what is next, x

abbrev pub Onward : Type 0
Onward = ℕ → ℕ → ℕ → Script Plan

-- a block in use is behind it
abbrev end_then : ℕ → ℕ → ℕ → Onward → Script Plan
end_then y s x f = do
  must_busy (y + s)
  must_lead Before (y + s) y
  f y s x

-- it is the first of its list
abbrev links_then : ℕ → ℕ → ℕ → Onward → Script Plan
links_then n y s f = do
  must_lead Prev y none
  x ← get Next y
  must_back n Prev x y
  end_then y s x f

-- it is free, and of that list
abbrev size_then : ℕ → ℕ → ℕ → Onward → Script Plan
size_then n k y f = do
  s ← must_free y
  must_eq (list_of s) k
  links_then n y s f

abbrev pub first_then : ℕ → ℕ → Onward → Script Plan
first_then n k f = do
  y ← get Next (root k)
  must_grain n y
  size_then n k y f

-- what is next leads back to it: as the code checks it, behind all else
abbrev pub back_then : ℕ → Onward → Onward
back_then n f y s x = do
  must_back n Prev x y
  f y s x

-- ---- what the code asks

-- a block in use is at z, behind the block at y
abbrev pub IsBounded : List ℕ → ℕ → ℕ → Type 0
IsBounded a y z = (busy_of (word_of (size_at 8 a z)) ≡ true) × (link_at 8 a Before 0 z ≡ y)

-- two facts, of which the first is known
pub both_say : (P Q : Type 0) (r : Bool) → P → Says Q r → Says (P × Q) r
both_say P Q true p q = (p, q)
both_say P Q false p q = λ b. q b.1

-- no block in use is there
pub idle_not : (a : List ℕ) (y z : ℕ) (r : Bool) → r ≡ busy_of (word_of (size_at 8 a z)) → r ≡ false → IsBounded a y z → ⊥
idle_not a y z r e n b = true≢false (sym b.0 ∙ sym e ∙ n)

-- the first block of list k, for what follows the checks
pub record FirstSeen (a : List ℕ) (k : ℕ) (r : First) : Type 0 where
  pub inside : r.at + r.grains < grains 8 a
  pub some : 0 < r.grains
  pub listed : list_of r.grains ≡ k
  pub holds : Holds a r.at r.next no_link

-- the checks of list k, whatever follows them, end with what follows, where the check of what is next is still to come; or
-- they are refused
abbrev pub ChecksFirst : List ℕ → List ℕ → ℕ → Result First Refusal → Type 0
ChecksFirst a l k (Ok r) = (v t : List ℕ) (f : Onward) → run (held a l v t) (first_then (grains 8 a) k f) ≡ run (held a l v t) (back_then (grains 8 a) f r.at r.grains (link a r.next))
ChecksFirst a l k (Err e) = (v t : List ℕ) (f : Onward) → run (held a l v t) (first_then (grains 8 a) k f) ≡ no (number e)

abbrev pub SeenFirst : List ℕ → List ℕ → ℕ → Result First Refusal → Type 0
SeenFirst a l k r = ChecksFirst a l k r × IfOk r (FirstSeen a k)

-- ---- the check of what is next, before or behind the others

module _ (m : Memory) (n y x : ℕ) (f : Script Plan) where
  -- what is refused behind it is refused
  pub back_refused : run m f ≡ no 5 → run m (must_back n Prev x y >> f) ≡ no 5
  back_refused h = stops_then m 5 (must_back n Prev x y) (λ _. f) (stops_back (λ (r : ℕ). r ≡ 5) refl n Prev x y) (λ _. h)

  -- what has one answer behind it has one with it
  back_same : (g : Script Plan) → run m f ≡ run m g → run m (must_back n Prev x y >> f) ≡ run m (must_back n Prev x y >> g)
  back_same g h = alike m (must_back n Prev x y) (λ _. f) (λ _. g) (λ _. h)

-- ---- the parts, on any memory

module _ (m : Memory) (n y s : ℕ) (f : Onward) where
  module _ (x : ℕ) where
    ends : (w : Word) → word_of (m Size (y + s)) ≡ w → busy_of w ≡ true → m Before (y + s) ≡ y → run m (end_then y s x f) ≡ run m (f y s x)
    ends (is_free t) e b q = let z : ◌≡◌ {A = ℕ} 0 1 = cc in absurd (omega arith)
    ends (is_used t) e b q = reads m Size (y + s) _ refl ∙ ap (λ (w : Word). run m (as_busy w >> (must_lead Before (y + s) y >> f y s x))) e ∙ reads m Before (y + s) _ q ∙ goes m (must_eq y y) _ (gives_eq m 5 y y refl)
    ends is_last e b q = reads m Size (y + s) _ refl ∙ ap (λ (w : Word). run m (as_busy w >> (must_lead Before (y + s) y >> f y s x))) e ∙ reads m Before (y + s) _ q ∙ goes m (must_eq y y) _ (gives_eq m 5 y y refl)
    ends is_bad e b q = let z : ◌≡◌ {A = ℕ} 0 1 = cc in absurd (omega arith)

    -- one of the two doesn't hold
    endless : (w : Word) → word_of (m Size (y + s)) ≡ w → ((busy_of w ≡ true) × (m Before (y + s) ≡ y) → ⊥) → run m (end_then y s x f) ≡ no 5
    endless (is_free t) e b = reads m Size (y + s) _ refl ∙ ap (λ (w : Word). run m (as_busy w >> (must_lead Before (y + s) y >> f y s x))) e ∙ runs_stop m 5
    endless (is_used t) e b = reads m Size (y + s) _ refl ∙ ap (λ (w : Word). run m (as_busy w >> (must_lead Before (y + s) y >> f y s x))) e ∙ reads m Before (y + s) _ refl ∙ halts m (must_eq (m Before (y + s)) y) _ (halts_eq m 5 (m Before (y + s)) y (λ q. b (refl, q)))
    endless is_last e b = reads m Size (y + s) _ refl ∙ ap (λ (w : Word). run m (as_busy w >> (must_lead Before (y + s) y >> f y s x))) e ∙ reads m Before (y + s) _ refl ∙ halts m (must_eq (m Before (y + s)) y) _ (halts_eq m 5 (m Before (y + s)) y (λ q. b (refl, q)))
    endless is_bad e b = reads m Size (y + s) _ refl ∙ ap (λ (w : Word). run m (as_busy w >> (must_lead Before (y + s) y >> f y s x))) e ∙ runs_stop m 5

    links : m Prev y ≡ none → m Next y ≡ x → run m (links_then n y s f) ≡ run m (must_back n Prev x y >> end_then y s x f)
    links p q = reads m Prev y _ p ∙ goes m (must_eq none none) _ (gives_eq m 5 none none refl) ∙ reads m Next y _ q

  prev_astray : (m Prev y ≡ none → ⊥) → run m (links_then n y s f) ≡ no 5
  prev_astray p = reads m Prev y _ refl ∙ halts m (must_eq (m Prev y) none) _ (halts_eq m 5 (m Prev y) none p)

  module _ (k : ℕ) where
    sized : word_of (m Size y) ≡ is_free s → list_of s ≡ k → run m (size_then n k y f) ≡ run m (links_then n y s f)
    sized e q = reads m Size y _ refl ∙ ap (λ (w : Word). run m (as_free w >>= λ s. must_eq (list_of s) k >> links_then n y s f)) e ∙ goes m (must_eq (list_of s) k) _ (gives_eq m 5 (list_of s) k q)

    listed_elsewhere : word_of (m Size y) ≡ is_free s → (list_of s ≡ k → ⊥) → run m (size_then n k y f) ≡ no 5
    listed_elsewhere e q = reads m Size y _ refl ∙ ap (λ (w : Word). run m (as_free w >>= λ s. must_eq (list_of s) k >> links_then n y s f)) e ∙ halts m (must_eq (list_of s) k) _ (halts_eq m 5 (list_of s) k q)

    not_free : (w : Word) → word_of (m Size y) ≡ w → Inside n y w → free_of w ≡ None → run m (size_then n k y f) ≡ no 5
    not_free (is_free t) e i z = absurd (true≢false (ap is_some z))
    not_free (is_used t) e i z = reads m Size y _ refl ∙ ap (λ (w : Word). run m (as_free w >>= λ s. must_eq (list_of s) k >> links_then n y s f)) e ∙ runs_stop m 5
    not_free is_last e i z = reads m Size y _ refl ∙ ap (λ (w : Word). run m (as_free w >>= λ s. must_eq (list_of s) k >> links_then n y s f)) e ∙ runs_stop m 5
    not_free is_bad e i z = reads m Size y _ refl ∙ ap (λ (w : Word). run m (as_free w >>= λ s. must_eq (list_of s) k >> links_then n y s f)) e ∙ runs_stop m 5

    headed : m Next (root k) ≡ y → y < n → run m (first_then n k f) ≡ run m (size_then n k y f)
    headed e h = reads m Next (root k) _ e ∙ goes m (must_grain n y) _ (gives_le m 5 (suc y) n (omega arith))

    headless : m Next (root k) ≡ y → n ≤ y → run m (first_then n k f) ≡ no 5
    headless e h = reads m Next (root k) _ e ∙ halts m (must_grain n y) _ (halts_le m 5 (suc y) n (omega arith))

-- a free block of g grains
free_word_lem : (w : Word) (n y g : ℕ) → Inside n y w → Some g ≡ free_of w → (w ≡ is_free g) × (0 < g) × (y + g < n)
free_word_lem (is_free t) n y g i e = let q : g ≡ t = ap (λ (r : Option ℕ). unwrap_or r 0) e in (ap is_free (sym q), omega (arith, i), omega (arith, i))
free_word_lem (is_used t) n y g i e = absurd (true≢false (ap is_some e))
free_word_lem is_last n y g i e = absurd (true≢false (ap is_some e))
free_word_lem is_bad n y g i e = absurd (true≢false (ap is_some e))

pub free_inside : (a : List ℕ) (y g : ℕ) → Some g ≡ free_of (word_of (size_at 8 a y)) → (0 < g) × (y + g < grains 8 a)
free_inside a y g e = let h = free_word_lem (word_of (size_at 8 a y)) (grains 8 a) y g (size_inside 8 a y) e in (h.1, h.2)

-- ---- the returns

reading_before : (a l v t : List ℕ) (g : ℕ) → g < grains 8 a → held a l v t Before g ≡ link_at 8 a Before 0 g
reading_before a l v t g h = memory_before 8 (lent a l v t) g ∙ link_in 8 a g Before wrong_link h ∙ sym (link_in 8 a g Before 0 h)

module _ (a l : List ℕ) (k h y : ℕ) (s : length a < 18446744073709551616) (j : k < lists) (head_is : h ≡ entry l (map_words + k)) (e : y ≡ turned h) where
  -- the head is no grain
  pub first_outside : grains 8 a ≤ y → ChecksFirst a l k (Err Damaged)
  first_outside q v t f = headless (held a l v t) (grains 8 a) (link a h) 0 f k (head_read a l v t k h j head_is) (link_past a h s (omega arith))

  module _ (i : y < grains 8 a) where
    head_is_lem : (v t : List ℕ) (f : Onward) → run (held a l v t) (first_then (grains 8 a) k f) ≡ run (held a l v t) (size_then (grains 8 a) k y f)
    head_is_lem v t f = headed (held a l v t) (grains 8 a) y 0 f k (head_read a l v t k h j head_is ∙ link_grain a h s (omega arith) ∙ sym e) i

    -- no free block is there
    pub first_busy : None ≡ free_of (word_of (size_at 8 a y)) → ChecksFirst a l k (Err Damaged)
    first_busy c v t f = head_is_lem v t f
        ∙ not_free (held a l v t) (grains 8 a) y 0 f k (word_of (size_at 8 a y)) (ap word_of (memory_size 8 (lent a l v t) y)) (size_inside 8 a y) (sym c)

    module _ (g : ℕ) (c : Some g ≡ free_of (word_of (size_at 8 a y))) where
      first_inside : y + g < grains 8 a
      first_inside = (free_inside a y g c).1

      is_free_lem : (v t : List ℕ) → word_of (held a l v t Size y) ≡ is_free g
      is_free_lem v t = ap word_of (memory_size 8 (lent a l v t) y) ∙ (free_word_lem (word_of (size_at 8 a y)) (grains 8 a) y g (size_inside 8 a y) c).0

      -- a block of another list
      pub first_elsewhere : (list_of g ≡ k → ⊥) → ChecksFirst a l k (Err Damaged)
      first_elsewhere ne v t f = head_is_lem v t f ∙ listed_elsewhere (held a l v t) (grains 8 a) y g f k (is_free_lem v t) ne

      module _ (z : list_of g ≡ k) where
        size_is : (v t : List ℕ) (f : Onward) → run (held a l v t) (first_then (grains 8 a) k f) ≡ run (held a l v t) (links_then (grains 8 a) y g f)
        size_is v t f = head_is_lem v t f ∙ sized (held a l v t) (grains 8 a) y g f k (is_free_lem v t) z

        prev_read : (v t : List ℕ) → held a l v t Prev y ≡ link a (word_at 8 a (4 * y + Prev))
        prev_read v t = reading_prev a l v t y i ∙ link_in 8 a y Prev 0 i

        -- something is before it
        pub first_preceded : (word_at 8 a (4 * y + Prev) ≡ no_link → ⊥) → ChecksFirst a l k (Err Damaged)
        first_preceded u v t f = size_is v t f ∙ prev_astray (held a l v t) (grains 8 a) y g f
            (λ d. link_some a (word_at 8 a (4 * y + Prev)) s u (sym (prev_read v t) ∙ d))

        module _ (u : word_at 8 a (4 * y + Prev) ≡ no_link) (x : ℕ) (next_is : x ≡ word_at 8 a (4 * y + Next)) where
          next_read : (v t : List ℕ) → held a l v t Next y ≡ link a x
          next_read v t = reading_next a l v t s y i ∙ link_in 8 a y Next 0 i ∙ ap (link a) (sym next_is)

          links_are : (v t : List ℕ) (f : Onward) → run (held a l v t) (first_then (grains 8 a) k f) ≡ run (held a l v t) (must_back (grains 8 a) Prev (link a x) y >> end_then y g (link a x) f)
          links_are v t f = size_is v t f ∙ links (held a l v t) (grains 8 a) y g f (link a x)
              (prev_read v t ∙ link_none a (word_at 8 a (4 * y + Prev)) s u) (next_read v t)

          -- no block in use is behind it
          pub first_unbounded : (IsBounded a y (y + g) → ⊥) → ChecksFirst a l k (Err Damaged)
          first_unbounded b v t f = links_are v t f
              ∙ back_refused (held a l v t) (grains 8 a) y (link a x) (end_then y g (link a x) f)
              (endless (held a l v t) (grains 8 a) y g f (link a x) (word_of (size_at 8 a (y + g))) (ap word_of (memory_size 8 (lent a l v t) (y + g)))
              (λ d. b (d.0, sym (reading_before a l v t (y + g) first_inside) ∙ d.1)))

          -- all agrees
          pub first_seen : IsBounded a y (y + g) → SeenFirst a l k (Ok (record { at = y; grains = g; next = x }))
          first_seen b = (
            λ v t f. links_are v t f
                ∙ back_same (held a l v t) (grains 8 a) y (link a x) (end_then y g (link a x) f) (f y g (link a x))
                (ends (held a l v t) (grains 8 a) y g f (link a x) (word_of (size_at 8 a (y + g))) (ap word_of (memory_size 8 (lent a l v t) (y + g))) b.0 (reading_before a l v t (y + g) first_inside ∙ b.1)),
            record { inside = first_inside; some = (free_inside a y g c).0; listed = z; holds = (sym next_is, u) },
          )
