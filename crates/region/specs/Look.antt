-- The look through the table of the regions, on any memory that has this table: the code's answer (`LookedThrough`) is that of
-- the script. `Passed` is what holds behind each entry; each law below is one step of the loop or one of its ends.
use Rattle.std.specs.Prelude.{ℕ, suc, ◌+◌, ◌-◌, ◌*◌, ◌≤◌, ◌<◌, ◌≡◌, Bool, true, false, List, Result, ◌||◌, nat_eq}
use native.Mathlib.Omega.{arith}
use Rattle.std.proofs.Math.Path.{ap, sym, refl}
use Rattle.std.proofs.Math.Bool.{or-true, or-false}
use Rattle.std.proofs.lemmas.Bool.Decides.{eqb_tells}
use Rattle.std.proofs.Common.{◌∙◌, ⊎_elim}
use Rattle.choice.specs.Choice.{if_eq, if_le, eq_yes, eq_no, eq_case, le_yes, le_no, le_case, le?}
use Rattle.choice.specs.Says.{Says}
use Rattle.table.specs.Table.{entry}
use Rattle.script.specs.Memory.{Memory, Table}
use Rattle.script.specs.Script.{ok, no, run, done, unless_le, Gives}
use Rattle.script.proofs.Script.{goes, halts, reads, gives_done, gives_le, halts_le}
use Rattle.sound.specs.RegionPlan.{Looked, wrong_of, see_regions}
use Rattle.sound.specs.RegionSound.{nothing_seen}
use Rattle.refusal.specs.Answered.{answered_as}
use Rattle.refusal.specs.declared.Refusal.{Refusal}
use Rattle.region.specs.declared.Findings.{Findings}

-- the region from s to e overlaps len grains from g on
abbrev pub Overlap : ℕ → ℕ → ℕ → ℕ → Type 0
Overlap s e g len = (g < e) × (s < g + len)

-- m has the table t
abbrev pub Holds : Memory → List ℕ → Type 0
Holds m t = (i : ℕ) → m Table i ≡ entry t i

-- the region from s to e can't be one of an arena of n grains
abbrev pub Wrong : ℕ → ℕ → ℕ → Type 0
Wrong n s e = (s + 2 ≤ e) × (e ≤ n) → ⊥

-- a yes or no, as the script counts it
abbrev pub bit : Bool → ℕ
bit true = 1
bit false = 0

-- what was found, as the script says it
abbrev pub said : Findings → Looked
said f = record { meets = bit f.meets; wrong = bit f.wrong }

-- the answer on the first k entries is that of the script
abbrev pub LookedThrough : List ℕ → ℕ → ℕ → ℕ → ℕ → Result Findings Refusal → Type 0
LookedThrough t n g len k r = (m : Memory) → Holds m t → answered_as said r ≡ run m (see_regions n g len k 0 nothing_seen)

-- i of k entries were passed, and told l
abbrev pub Passed : List ℕ → ℕ → ℕ → ℕ → ℕ → ℕ → Looked → Type 0
Passed t n g len k i l = (m : Memory) → Holds m t → run m (see_regions n g len k 0 nothing_seen) ≡ run m (see_regions n g len (k - i) i l)

-- ---- one entry

module _ (m : Memory) (n g len r i s e : ℕ) (l : Looked) (first : m Table (2 * i + 1) ≡ s) (end : m Table (2 * i + 2) ≡ e) where
  -- it overlaps
  entry_stop : Overlap s e g len → run m (see_regions n g len (suc r) i l) ≡ no 4
  unfolding see_regions
  entry_stop o =
      reads m Table (2 * i + 1) _ first ∙ reads m Table (2 * i + 2) _ end
      ∙ halts m (if_le e g (done (tt {0})) (unless_le 4 (g + len) s)) _
      (ap (run m) (le_no e g (done (tt {0})) (unless_le 4 (g + len) s) (λ q. omega (arith, o.0))) ∙ halts_le m 4 (g + len) s o.1)

  -- it doesn't
  entry_off : (Overlap s e g len → ⊥) → Gives m (if_le e g (done (tt {0})) (unless_le 4 (g + len) s)) (tt {0})
  entry_off o = ⊎_elim
      (λ (h : e ≤ g). ap (run m) (le_yes e g (done (tt {0})) (unless_le 4 (g + len) s) h) ∙ gives_done m (tt {0}))
      (λ (h : g < e). ap (run m) (le_no e g (done (tt {0})) (unless_le 4 (g + len) s) (λ q. omega arith)) ∙ gives_le m 4 (g + len) s (⊎_elim
      (λ (k : g + len ≤ s). k)
      (λ (k : s < g + len). absurd (o (h, k)))
      (le? (g + len) s)))
      (le? e g)

  entry_next : (Overlap s e g len → ⊥) → run m (see_regions n g len (suc r) i l)
      ≡ run m (see_regions n g len r (suc i) (record { meets = if_eq e g 1 l.meets; wrong = wrong_of n s e l.wrong }))
  unfolding see_regions
  entry_next o = reads m Table (2 * i + 1) _ first ∙ reads m Table (2 * i + 2) _ end ∙ goes m (if_le e g (done (tt {0})) (unless_le 4 (g + len) s)) _ (entry_off o)

-- ---- what is known behind it

meets_after : (e g : ℕ) (b : Bool) → if_eq e g 1 (bit b) ≡ bit (b || nat_eq e g)
meets_after e g true = eq_case (λ x. x ≡ 1) e g 1 1 (λ _. refl) (λ _. refl)
meets_after e g false = ⊎_elim
    (λ p. eq_yes e g 1 0 p.1 ∙ sym (ap bit p.0))
    (λ p. eq_no e g 1 0 p.1 ∙ sym (ap bit p.0))
    (eqb_tells e g)

wrong_after : (n s e : ℕ) (w b : Bool) → Says (Wrong n s e) b → wrong_of n s e (bit w) ≡ bit (w || b)
wrong_after n s e w true h = le_case (λ x. x ≡ 1) (s + 2) e _ _
    (λ a. le_case (λ x. x ≡ 1) e n (bit w) 1 (λ b. absurd (h (a, b))) (λ _. refl))
    (λ _. refl) ∙ sym (ap bit (or-true w))
wrong_after n s e w false h = le_case (λ x. x ≡ bit w) (s + 2) e _ _
    (λ a. le_case (λ x. x ≡ bit w) e n (bit w) 1 (λ _. refl) (λ b. absurd (h (λ p. omega (arith, p.1)))))
    (λ a. absurd (h (λ p. omega (arith, p.0)))) ∙ sym (ap bit (or-false w))

-- ---- the loop

module _ (t : List ℕ) (n g len k : ℕ) where
  -- before the first entry
  pub passed_none : Passed t n g len k 0 nothing_seen
  passed_none m h = ap (λ (j : ℕ). run m (see_regions n g len j 0 nothing_seen)) (omega arith)

  -- behind the last
  pub passed_all : (i : ℕ) (l : Looked) → i ≡ k → Passed t n g len k i l → (m : Memory) → Holds m t → ok l ≡ run m (see_regions n g len k 0 nothing_seen)
  unfolding see_regions
  passed_all i l e p m h =
      let z : k - i ≡ 0 = omega arith in
      sym (p m h ∙ ap (λ (j : ℕ). run m (see_regions n g len j i l)) z ∙ gives_done m l)

  module _ (i s e : ℕ) (f : Findings) (inside : i < k) (first : s ≡ entry t (2 * i + 1)) (end : e ≡ entry t (2 * i + 2)) (p : Passed t n g len k i (said f)) where
    -- this entry, as one of those that are left
    left_over : (m : Memory) → Holds m t → run m (see_regions n g len k 0 nothing_seen) ≡ run m (see_regions n g len (suc (k - (i + 1))) i (said f))
    left_over m h = p m h ∙ ap (λ (j : ℕ). run m (see_regions n g len j i (said f))) (omega arith)

    -- it overlaps
    pub passed_stop : Overlap s e g len → (m : Memory) → Holds m t → no 4 ≡ run m (see_regions n g len k 0 nothing_seen)
    passed_stop o m h = sym (left_over m h ∙ entry_stop m n g len (k - (i + 1)) i s e (said f) (h (2 * i + 1) ∙ sym first) (h (2 * i + 2) ∙ sym end) o)

    -- it doesn't
    pub passed_more : (Overlap s e g len → ⊥) → (b : Bool) → Says (Wrong n s e) b → Passed t n g len k (i + 1) (said (record { meets = f.meets || nat_eq e g; wrong = f.wrong || b }))
    passed_more o b w m h =
        let q : suc i ≡ i + 1 = omega arith in
        left_over m h ∙ entry_next m n g len (k - (i + 1)) i s e (said f) (h (2 * i + 1) ∙ sym first) (h (2 * i + 2) ∙ sym end) o
        ∙ rw (meets_after e g f.meets, wrong_after n s e f.wrong b w, q)

-- ---- what is wrong with an entry, as the script counts it

-- it has fewer than two grains
pub wrong_short : (n s e w : ℕ) → (s + 2 ≤ e → ⊥) → 1 ≡ wrong_of n s e w
wrong_short n s e w h = sym (le_no (s + 2) e (if_le e n w 1) 1 h)

-- it has two, and ends outside the arena
pub wrong_outside : (n s e w : ℕ) → s + 2 ≤ e → (e ≤ n → ⊥) → 1 ≡ wrong_of n s e w
wrong_outside n s e w a b = sym (le_yes (s + 2) e (if_le e n w 1) 1 a ∙ le_no e n w 1 b)

-- nothing
pub wrong_not : (n s e w : ℕ) → s + 2 ≤ e → e ≤ n → w ≡ wrong_of n s e w
wrong_not n s e w a b = sym (le_yes (s + 2) e (if_le e n w 1) 1 a ∙ le_yes e n w 1 b)
