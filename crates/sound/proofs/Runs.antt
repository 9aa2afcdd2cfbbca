-- What follows from specs/Runs.antt.
use Rattle.std.specs.Prelude.{ℕ, ◌+◌, ◌≤◌, ◌≡◌, refl, List, [], ◌∷◌}
use Rattle.std.proofs.Common.{arith, ap, sym, ◌∙◌, subst}
use Rattle.definition.specs.Calls.{Heap, Answer, refused, granted, empty}
use Rattle.script.specs.Memory.{Memory, Next, Mark, Live, Table, none, root, apply}
use Rattle.script.proofs.Memory.{apply_untouched}
use Rattle.script.specs.Script.{Script, Result, ok, no, run, Gives}
use Rattle.script.proofs.Script.{ends_gives}
use Rattle.sound.specs.Sound.{Sound}
use Rattle.sound.specs.Plans.{Plan, take_script, give_back_script, resize_script}
use Rattle.sound.specs.Meets.{Meets}
use Rattle.sound.proofs.Fresh.{fresh}
use Rattle.sound.specs.Calls.{Call, Take, Return, Resize, Give, Append, script_of, answer_of, Fair}
use Rattle.sound.proofs.Calls.{call_meets}
use Rattle.sound.specs.TableWrites.{Spared}
use Rattle.sound.proofs.TableWrites.{take_table, back_table, resize_table, region_table}
use Rattle.sound.specs.Runs.{yes, reply, written, after, replies, end, FairRun, said, left, answers, heap_end, Aligned, AllAligned, regions_of, regions_in}

-- ---- they agree

-- one call
pub one : (n c : ℕ) (m : Memory) (h : Heap) (s : Script Plan) (w : Answer) → Sound n c m h → Meets n c m s w → (reply (run m s) ≡ said w) × Sound n c (written m (run m s)) (left h w)
one n c m h s (refused w) o k = (ap reply k, subst (λ (r : Result Plan). Sound n c (written m r) h) (sym k) o)
one n c m h s (granted v g) o k = (ap reply k.gives ∙ ap yes k.answer, subst (λ (r : Result Plan). Sound n c (written m r) g) (sym k.gives) k.sound)

-- all of them
pub runs : (n c most : ℕ) (m : Memory) (h : Heap) → Sound n c m h → 1 ≤ c → (l : List Call) → FairRun n c most m l
    → (replies n c most m l ≡ answers c h l) × Sound n c (end n c most m l) (heap_end c h l)
runs n c most m h o big [] f = (refl, o)
runs n c most m h o big (k ∷ l) f =
    let i = one n c m h (script_of n c most k) (answer_of c k h) o (call_meets n c most m h o big k f.0) in
    let j = runs n c most (after n c most m k) (left h (answer_of c k h)) i.1 big l f.1 in
    (cc (i.0, j.0), j.1)

-- ---- fair from the start: alignments that are ones, and a table with room for all regions

-- a table that is left alone
same : (m : Memory) (t : Plan) → Spared t → apply m t.writes Table 0 ≤ m Table 0 + 0
same m t u = omega (arith, ap (λ (f : ℕ → ℕ). f 0) (apply_untouched m t.writes Table u))

module _ (n c most : ℕ) where
  -- what is granted raises the number of regions by one, or not at all
  pub granted_table : (m : Memory) (k : Call) (t : Plan) → Gives m (script_of n c most k) t → apply m t.writes Table 0 ≤ m Table 0 + regions_of k
  granted_table m (Take p a) t g = same m t (ends_gives Spared m (take_script n c p a) (take_table n c p a) g)
  granted_table m (Return q) t g = same m t (ends_gives Spared m (give_back_script n c q) (back_table n c q) g)
  granted_table m (Resize q p a) t g = same m t (ends_gives Spared m (resize_script n c q p a) (resize_table n c q p a) g)
  granted_table m (Give u len) t g = omega (arith, region_table most 0 n c u len m t g)
  granted_table m (Append u len) t g = omega (arith, region_table most 1 n c u len m t g)

  -- so does a call
  after_table : (m : Memory) (k : Call) → after n c most m k Table 0 ≤ m Table 0 + regions_of k
  after_table m k = go (run m (script_of n c most k)) refl
    where
      go : (r : Result Plan) → run m (script_of n c most k) ≡ r → written m r Table 0 ≤ m Table 0 + regions_of k
      go (ok t) e = granted_table m k t e
      go (no i) e = omega arith

  -- where there is room a call is fair
  call_fair : (m : Memory) (k : Call) → Aligned k → m Table 0 + regions_of k ≤ most → Fair m most k
  call_fair m (Take p a) al h = al
  call_fair m (Return q) al h = tt
  call_fair m (Resize q p a) al h = al
  call_fair m (Give g len) al h = omega arith
  call_fair m (Append g len) al h = omega arith

  -- then each call is fair where it comes
  pub fair_run : (m : Memory) (l : List Call) → AllAligned l → m Table 0 + regions_in l ≤ most → FairRun n c most m l
  fair_run m [] al h = tt
  fair_run m (k ∷ l) al h = (call_fair m k al.0 (omega arith), fair_run (after n c most m k) l al.1 (omega (arith, after_table m k)))

-- from a new memory on: heads that lead nowhere, no mark, no live bit and no region
pub runs_fresh : (n c most : ℕ) (m : Memory) → n ≤ none → ((k : ℕ) → m Next (root k) ≡ none) → ((k : ℕ) → m Mark k ≡ 0) → ((q : ℕ) → m Live q ≡ 0) → m Table 0 ≡ 0
    → 1 ≤ c → (l : List Call) → AllAligned l → regions_in l ≤ most
    → (replies n c most m l ≡ answers c (empty n) l) × Sound n c (end n c most m l) (heap_end c (empty n) l)
runs_fresh n c most m small roots marks live table big l al h =
    runs n c most m (empty n) (fresh n c m small roots marks live table) big l (fair_run n c most m l al (omega arith))
