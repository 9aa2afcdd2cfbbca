-- What a plan of a take says: the writes, spelled from its numbers, or a refusal; and that this is what the script of a
-- take answers. Each law is one return of the code.
use Rattle.std.specs.Prelude.{ℕ, suc, ◌+◌, ◌-◌, ◌*◌, ◌/◌, ◌≤◌, ◌<◌, ◌≡◌, refl, List, [], ◌∷◌, ◌++◌, length, Result, Ok, Err, IfOk}
use Rattle.std.proofs.Common.{arith, ◌∙◌, subst, inl, inr}
use Rattle.std.proofs.Math.Path.{ap, sym}
use Rattle.bits.specs.First.{first_set}
use Rattle.bits.proofs.First.{first_from, first_agree}
use Rattle.bits.specs.Map.{lists, map_bit}
use Rattle.class.specs.Class.{start_of}
use Rattle.class.proofs.Class.{start_fits, start_large}
use Rattle.definition.specs.Calls.{wanted, place, keeps}
use Rattle.invariants.proofs.Placing.{place_some, keeps_wanted}
use Rattle.script.specs.Memory.{Live, Mark, Prev, none, Write, ◌at◌≔◌}
use Rattle.script.specs.Script.{Script, ok, no, run, done, unless_le, ◌>>=◌, ◌>>◌}
use Rattle.script.specs.Script.{Result as Told}
use Rattle.script.proofs.Script.{goes, halts, searches, gives_done, gives_le, halts_le}
use Rattle.sound.specs.Checks.{must_back}
use Rattle.sound.specs.Links.{unlink_writes}
use Rattle.sound.specs.Plans.{leave_script, pad_writes, take_script}
use Rattle.sound.specs.Plans.{Plan as Answer}
use Rattle.slices.specs.Decode.{grains}
use Rattle.slices.proofs.Slices.{memory_mark}
use Rattle.refusal.specs.Number.{number}
use Rattle.refusal.specs.declared.Refusal.{Refusal}
use Rattle.refusal.specs.declared.Refusal.TheVariants.{NoList, Damaged}
use Rattle.free_list.specs.Lent.{lent, held, classes, Room, no_link, link, Leads, Holds}
use Rattle.free_list.specs.Back.{Back, reading_prev, back_yes, back_no}
use Rattle.allocate.specs.declared.Plan.{Plan}
use Rattle.allocate.specs.declared.First.{First}
use Rattle.carve.specs.declared.Rest.{Rest}
use Rattle.allocate.specs.First.{first_then, back_then, back_refused, ChecksFirst, SeenFirst}
use Rattle.allocate.specs.Rest.{left_writes, RestSeen, SeenRest}

-- ---- what a plan says

-- the writes w that leave the block, the pad, and the live bit, for a payload at place d of the block at y
abbrev made_of : ℕ → ℕ → List Write → Answer
made_of y d w = record { answer = 2 * y + d; writes = w ++ (pad_writes y d ++ ((Live at 2 * y + d ≔ 1) ∷ [])); moved = 0; early = 0 }

abbrev pub made_by : List ℕ → Plan → Answer
made_by a r = made_of r.at r.place (left_writes a r.list r.next r.at r.grains r.keep r.rest_list r.head)

abbrev pub shown : List ℕ → Result Plan Refusal → Told Answer
shown a (Ok p) = ok (made_by a p)
shown a (Err r) = no (number r)

-- room for all that is written, and the links of the block, as they were found
pub record Bounded (a l : List ℕ) (p : Plan) : Type 0 where
  pub list : Room p.list l
  pub next : Leads a p.next
  pub holds : Holds a p.at p.next no_link
  pub kept : p.keep ≤ p.grains
  pub block : p.at + p.grains < grains 8 a
  pub rest : (p.keep ≡ p.grains → ⊥) → Room p.rest_list l × Leads a p.head
  pub some : 0 < p.place
  pub pad : p.at + p.place / 2 < grains 8 a

-- it is what the script answers
pub record Plans (a l : List ℕ) (p u : ℕ) (r : Result Plan Refusal) : Type 0 where
  pub answers : (v t : List ℕ) → shown a r ≡ run (held a l v t) (take_script (grains 8 a) classes p u)
  pub bounds : IfOk r (Bounded a l)

-- the part of the script behind the checks of the first block
abbrev cut_script : ℕ → ℕ → ℕ → ℕ → ℕ → ℕ → ℕ → Script Answer
cut_script n k p u y s x = do
  w ← leave_script n classes (unlink_writes k x none) y s (keeps (place u y) p)
  done (made_of y (place u y) w)

-- it is what this answers of the first block o of list k, where the check of what is next is still to come
pub record Cuts (a l : List ℕ) (k : ℕ) (o : First) (p u : ℕ) (r : Result Plan Refusal) : Type 0 where
  pub answers : (v t : List ℕ) → shown a r ≡ run (held a l v t) (back_then (grains 8 a) (cut_script (grains 8 a) k p u) o.at o.grains (link a o.next))
  pub bounds : IfOk r (Bounded a l)

-- ---- behind the first block

-- what is kept is no more than what was wanted, which the block has
pub keeps_within : (u y p s d m : ℕ) → 0 < u → d ≡ place u y → m ≡ keeps d p → wanted p u ≤ s → m ≤ s
keeps_within u y p s d m h e q l =
    let g : m ≡ keeps (place u y) p = q ∙ ap (λ (z : ℕ). keeps z p) e in
    omega (arith, g, keeps_wanted u y p h)

-- a link that leads back leads
back_leads : (a : List ℕ) (y x : ℕ) → Back a Prev x y → Leads a x
back_leads a y x (inl e) = inl e
back_leads a y x (inr q) = inr q.0

-- d is the payload's place, and m what the block keeps
module _ (a l : List ℕ) (k : ℕ) (o : First) (p u d m : ℕ) (e : d ≡ place u o.at) (q : m ≡ keeps d p) where
  kept_is : m ≡ keeps (place u o.at) p
  kept_is = q ∙ ap (λ (z : ℕ). keeps z p) e

  abbrev leaves : ℕ → Script (List Write)
  leaves z = leave_script (grains 8 a) classes (unlink_writes k (link a o.next) none) o.at o.grains z

  -- the rest is refused
  pub cut_damaged : (r : Refusal) → SeenRest a l k o.next o.grains m (Err r) → Cuts a l k o p u (Err r)
  cut_damaged r w = record {
    answers = λ v t.
        let c = held a l v t in
        ap no w.0
        ∙ sym (back_refused c (grains 8 a) o.at (link a o.next) (cut_script (grains 8 a) k p u o.at o.grains (link a o.next))
        (halts c (leaves (keeps (place u o.at) p)) _ (subst (λ (z : ℕ). run c (leaves z) ≡ no 5) kept_is (sym (w.1 v t o.at)))));
    bounds = tt;
  }

  module _ (i : length a < 18446744073709551616) where
    -- what is next does not lead back
    pub cut_astray : (Back a Prev o.next o.at → ⊥) → Cuts a l k o p u (Err Damaged)
    cut_astray b = record {
      answers = λ v t.
          sym (halts (held a l v t) (must_back (grains 8 a) Prev (link a o.next) o.at) _ (back_no (held a l v t) a Prev o.next o.at i (reading_prev a l v t) b));
      bounds = tt;
    }

    -- all agrees, and there is room
    pub cut_made : (w : Rest) → 0 < u → Room k l → Back a Prev o.next o.at → Holds a o.at o.next no_link → o.at + o.grains < grains 8 a → wanted p u ≤ o.grains → RestSeen a l k o.next o.grains m w
        → Cuts a l k o p u (Ok (record { list = k; at = o.at; grains = o.grains; next = o.next; place = d; keep = m; rest_list = w.list; head = w.head }))
    cut_made w h g f t x j s =
        let n = keeps_within u o.at p o.grains d m h e q j in
        let b = back_leads a o.at o.next f in record {
          answers = λ v t.
              let c = held a l v t in
              ap (λ (z : ℕ). ok (made_of o.at z (left_writes a k o.next o.at o.grains m w.list w.head))) e
              ∙ sym (goes c (must_back (grains 8 a) Prev (link a o.next) o.at) _ (back_yes c a Prev o.next o.at i (reading_prev a l v t) f)
              ∙ goes c (leaves (keeps (place u o.at) p)) _ (subst (λ (z : ℕ). run c (leaves z) ≡ ok (left_writes a k o.next o.at o.grains m w.list w.head)) kept_is (sym (s.seen v t o.at)))
              ∙ gives_done c _);
          bounds = record {
            list = g;
            next = b;
            holds = t;
            kept = n;
            block = x;
            rest = λ c. let z = s.ready c in (record { known = z.0; room = g.room }, z.1 b);
            some = omega (arith, place_some u o.at h);
            pad = omega (arith, n, x);
          };
        }

-- ---- the search

-- what is searched: the lists from k on
abbrev found : List ℕ → ℕ → ℕ
found l k = first_set (map_bit l) (lists - k) k

-- the part of the script behind the search
abbrev from_list : ℕ → ℕ → ℕ → ℕ → Script Answer
from_list n p u k = unless_le 1 (suc k) (16 * classes) >> first_then n k (λ y s x. cut_script n k p u y s x)

-- it starts at list c and finds list k
module _ (a l : List ℕ) (p u c k : ℕ) (start_is : c ≡ start_of (wanted p u)) (list_is : k ≡ found l c) where
  searched : (v t : List ℕ) → run (held a l v t) (take_script (grains 8 a) classes p u) ≡ run (held a l v t) (from_list (grains 8 a) p u k)
  unfolding take_script
  searched v t =
      let m = held a l v t in
      let i : found l (start_of (wanted p u)) ≡ k = ap (found l) (sym start_is) ∙ sym list_is in
      searches m (lists - start_of (wanted p u)) (start_of (wanted p u)) _
      (first_agree (m Mark) (map_bit l) (lists - start_of (wanted p u)) (start_of (wanted p u)) (λ j _ _. memory_mark 8 (lent a l v t) j) ∙ i)

  -- no list has a block
  pub plan_none : lists ≤ k → Plans a l p u (Err NoList)
  plan_none h = record {
    answers = λ v t.
        let m = held a l v t in
        sym (searched v t ∙ halts m (unless_le 1 (suc k) (16 * classes)) _ (halts_le m 1 (suc k) (16 * classes) (omega arith)));
    bounds = tt;
  }

  module _ (h : k < lists) where
    from_first : (v t : List ℕ) → run (held a l v t) (take_script (grains 8 a) classes p u)
        ≡ run (held a l v t) (first_then (grains 8 a) k (λ y s x. cut_script (grains 8 a) k p u y s x))
    from_first v t =
        let m = held a l v t in
        searched v t ∙ goes m (unless_le 1 (suc k) (16 * classes)) _ (gives_le m 1 (suc k) (16 * classes) (omega arith))

    -- its first block is damaged
    pub plan_damaged : (e : Refusal) → ChecksFirst a l k (Err e) → Plans a l p u (Err e)
    plan_damaged e w = record { answers = λ v t. sym (from_first v t ∙ w v t (cut_script (grains 8 a) k p u)); bounds = tt }

    -- its first block is taken
    module _ (o : First) (w : SeenFirst a l k (Ok o)) where
      pub plan_cut : (r : Result Plan Refusal) → Cuts a l k o p u r → Plans a l p u r
      plan_cut r q = record { answers = λ v t. q.answers v t ∙ sym (from_first v t ∙ w.0 v t (cut_script (grains 8 a) k p u)); bounds = q.bounds }

      -- and has what is wanted
      pub plan_enough : 0 < wanted p u → wanted p u ≤ o.grains
      plan_enough i = start_fits (wanted p u) o.grains i w.1.some (omega (arith, w.1.listed, start_is, list_is, first_from (map_bit l) (lists - c) c))

-- so much is wanted that no list has it
pub plan_large : (a l : List ℕ) (p u w : ℕ) → w ≡ wanted p u → 4096 ≤ w → Plans a l p u (Err NoList)
plan_large a l p u w i h =
    plan_none a l p u (start_of (wanted p u)) (found l (start_of (wanted p u))) refl refl
    (omega (arith, start_large (wanted p u) 12 (omega arith) (omega arith), first_from (map_bit l) (lists - start_of (wanted p u)) (start_of (wanted p u))))
