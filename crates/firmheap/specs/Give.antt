-- Giving a region: which calls ask for it, and that plan and apply make them.
use Rattle.std.specs.Prelude.{ℕ, ◌+◌, ◌-◌, ◌*◌, ◌/◌, ◌^◌, ◌≤◌, ◌<◌, ◌≡◌, refl, List, [], length, Result, Ok, Err}
use Rattle.std.proofs.Common.{arith, ap, sym, ◌∙◌, subst}
use Rattle.table.specs.Table.{entry}
use Rattle.bits.specs.Map.{map_words}
use Rattle.bits.specs.Map.{lists as list_count}
use Rattle.definition.specs.Units.{first_grain, whole_grains}
use Rattle.script.specs.Script.{run}
use Rattle.sound.specs.Plans.{Plan}
use Rattle.sound.specs.RegionPlan.{region_script}
use Rattle.sound.proofs.RegionChecked.{region_checked}
use Rattle.sound.specs.Calls.{Call, Give, Append, script_of}
use Rattle.sound.specs.Runs.{Reply, yes, not}
use Rattle.slices.specs.Decode.{grains}
use Rattle.slices.specs.Slices.{Slices, memory_of, stores}
use Rattle.free_list.specs.Lent.{lent}
use Rattle.refusal.specs.Number.{number}
use Rattle.refusal.specs.declared.Refusal.{Refusal}
use Rattle.calls.specs.Bytes.{ByteCall, insert, append, following, Asks, give, follow, bytes, in_bytes}
use Rattle.calls.proofs.Promised.{promised}
use Rattle.firmheap.specs.Contract.{Inserts, Appends}
use Rattle.calls.specs.Performs.{Long, Inside, outcome, short, Goes, stored, Performs, early, refused, granted}
use Rattle.region.specs.Admit.{most_of}
use Rattle.give.specs.declared.Plan.{Plan as GivePlan}
use Rattle.give.specs.Shown.{shown, plan_of, given_writes, RegionPlanned}
use Rattle.give.specs.Given.{Given}

-- the call k asks for len grains from g on; behind is 1 where they must follow another region
pub data Regional : ByteCall → ℕ → ℕ → ℕ → Type 0 where
  inserts : {x n : ℕ} → Regional (insert x n) 0 (first_grain 16 x) (whole_grains 16 x n)
  follows : {x n : ℕ} → Regional (append x n) 1 (x / 32) (following x n)

-- its tables are the lists and the regions
regional_long : (S : Slices) (k : ByteCall) (behind g len : ℕ) → Regional k behind g len
    → (Long S k → (map_words + list_count ≤ length S.lists) × (1 ≤ length S.regions)) × ((map_words + list_count ≤ length S.lists) × (1 ≤ length S.regions) → Long S k)
regional_long S k behind g len inserts = ((λ l. l), (λ l. l))
regional_long S k behind g len follows = ((λ l. l), (λ l. l))

-- what it asks for, and its script
pub record Asked (n most : ℕ) (k : ByteCall) (behind g len : ℕ) : Type 0 where
  call : Call
  asks : Asks k call
  inside : Inside n call
  script : script_of n 12 most call ≡ region_script most behind n 12 g len
  plain : (S : Slices) (p : Plan) → stored S call p ≡ stores 8 S p.writes

regional_asked : (n most : ℕ) (k : ByteCall) (behind g len : ℕ) → Regional k behind g len → Asked n most k behind g len
regional_asked n most k behind g len inserts = record { call = Give g len; asks = give; inside = tt; script = refl; plain = λ S p. refl }
regional_asked n most k behind g len follows = record { call = Append g len; asks = follow; inside = tt; script = refl; plain = λ S p. refl }

-- ---- in grains

-- every call that asks for this does it, with a number r of grains, or refused; and what is used ends inside the arena
pub record Lays (a l t : List ℕ) (behind g len : ℕ) (r : Reply) (b m u : List ℕ) : Type 0 where
  pub performs : (v : List ℕ) (k : ByteCall) → Regional k behind g len → Performs (lent a l v t) k (in_bytes k r) (lent b m v u)
  pub inside : (s : ℕ) → r ≡ yes s → g + s ≤ grains 8 a

-- a refusal uses nothing
not_used : (i s : ℕ) {P : Type 0} → not i ≡ yes s → P
not_used i s e = let z : ◌≡◌ {A = ℕ} 0 1 = cc in absurd (omega arith)

module _ (a l t : List ℕ) (behind g len : ℕ) where
  -- the table of the lists, or that of the regions, is too short
  pub lay_short : ((map_words + list_count ≤ length l) × (1 ≤ length t) → ⊥) → Lays a l t behind g len (not 6) a l t
  lay_short e = record {
    performs = λ v k c. early 6 (short (λ i. e ((regional_long (lent a l v t) k behind g len c).0 i)));
    inside = λ s f. not_used 6 s f;
  }

  module _ (e : (map_words + list_count ≤ length l) × (1 ≤ length t)) (r : Result GivePlan Refusal) (s : RegionPlanned a l t behind g len r) (v : List ℕ) (k : ByteCall) (c : Regional k behind g len) where
    asked : Asked (grains 8 a) (most_of t) k behind g len
    asked = regional_asked (grains 8 a) (most_of t) k behind g len c

    goes : Goes (lent a l v t) k asked.call
    goes = record { long = (regional_long (lent a l v t) k behind g len c).1 e; asks = asked.asks; inside = asked.inside }

    -- what its script answers is what was planned
    answers : outcome (lent a l v t) asked.call ≡ shown a t r
    answers = ap (run (memory_of 8 (lent a l v t))) asked.script ∙ sym (s.answers v)

  module _ (e : (map_words + list_count ≤ length l) × (1 ≤ length t)) where
    -- refused
    pub lay_refused : (r : Refusal) → RegionPlanned a l t behind g len (Err r) → Lays a l t behind g len (not (number r)) a l t
    lay_refused r s = record {
      performs = λ v k c. refused (asked e (Err r) s v k c).call (number r) (goes e (Err r) s v k c) (answers e (Err r) s v k c);
      inside = λ i f. not_used (number r) i f;
    }

    -- done
    pub lay_done : (r : GivePlan) → RegionPlanned a l t behind g len (Ok r) → (b m u : List ℕ) → Given a l t (given_writes a t r) b m u → Lays a l t behind g len (yes r.used) b m u
    lay_done r s b m u w = record {
      performs = λ v k c. subst (λ (T : Slices). Performs (lent a l v t) k (yes (bytes k r.used)) T) ((asked e (Ok r) s v k c).plain (lent a l v t) (plan_of a (entry t 0) r) ∙ sym (w.slices v))
          (granted (asked e (Ok r) s v k c).call (plan_of a (entry t 0) r) (goes e (Ok r) s v k c) (answers e (Ok r) s v k c));
      inside = λ i q.
          let z : r.used ≡ i = cc in
          let c = region_checked (most_of t) behind (grains 8 a) 12 g len (memory_of 8 (lent a l [] t)) (plan_of a (entry t 0) r) (sym (s.answers [])) in
          omega (arith, z, c.inside, ap (λ (p : Plan). p.answer) c.plan);
    }

-- ---- in bytes

-- r is what was laid out: len grains from g on, which are those of the bytes that were given
module _ (a l t : List ℕ) (x n : ℕ) (z : length a < 2 ^ 64) (g len : ℕ) (r : Reply) (b m u : List ℕ) where
  module _ (g_is : g ≡ first_grain 16 x) (len_is : len ≡ whole_grains 16 x n) (k : Lays a l t 0 g len r b m u) where
    insert_laid : Inserts a l t x n (in_bytes (insert x n) r) b m u
    insert_laid v = promised (lent a l v t) (insert x n) (in_bytes (insert x n) r) (lent b m v u) z ((rw (g_is, len_is) at k).performs v (insert x n) inserts)

    pub insert_done : (p s : ℕ) → p ≡ 32 * first_grain 16 x - x → r ≡ yes s → Inserts a l t x n (yes (p + 32 * s)) b m u
    insert_done p s e f = rw (e, ap (in_bytes (insert x n)) (sym f)) insert_laid

    -- the answer's number fits: it is that of bytes of the arena
    pub insert_fits : (p s : ℕ) → p ≡ 32 * first_grain 16 x - x → r ≡ yes s → p + 32 * s < 2 ^ 64
    unfolding grains
    insert_fits p s e f = omega (arith, e, g_is, k.inside s f)

    pub insert_refused : (i : ℕ) → r ≡ not i → Inserts a l t x n (not i) b m u
    insert_refused i f = rw (ap (in_bytes (insert x n)) (sym f)) insert_laid

  module _ (g_is : g ≡ x / 32) (len_is : len ≡ following x n) (k : Lays a l t 1 g len r b m u) where
    append_laid : Appends a l t x n (in_bytes (append x n) r) b m u
    append_laid v = promised (lent a l v t) (append x n) (in_bytes (append x n) r) (lent b m v u) z ((rw (g_is, len_is) at k).performs v (append x n) follows)

    pub append_done : (s : ℕ) → r ≡ yes s → Appends a l t x n (yes (32 * s)) b m u
    append_done s f = rw (ap (in_bytes (append x n)) (sym f)) append_laid

    pub append_fits : (s : ℕ) → r ≡ yes s → 32 * s < 2 ^ 64
    unfolding grains
    append_fits s f = omega (arith, k.inside s f)

    pub append_refused : (i : ℕ) → r ≡ not i → Appends a l t x n (not i) b m u
    append_refused i f = rw (ap (in_bytes (append x n)) (sym f)) append_laid
