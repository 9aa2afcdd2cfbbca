-- What is left of a block: its list, and the head that it is put before. The block was the first of list k, so where the
-- rest goes to the same list, its head will be what is next. Each law is one return of the code.
use Rattle.std.specs.Prelude.{ℕ, ◌-◌, ◌≤◌, ◌<◌, ◌≡◌, refl, List, [], ◌++◌, length, Result, Ok, Err, MatchResult}
use Rattle.std.proofs.Common.{arith, ap, sym, ◌∙◌, subst, ⊎_elim}
use Rattle.choice.specs.Choice.{if_eq, eq_yes, eq_no, eq_case, same?}
use Rattle.bits.specs.Map.{lists}
use Rattle.class.specs.Class.{list_of}
use Rattle.class.proofs.Class.{list_mono}
use Rattle.script.specs.Memory.{Next, none, root, Write, latest}
use Rattle.script.specs.Script.{ok, no, run}
use Rattle.sound.specs.Checks.{see_head}
use Rattle.sound.specs.Links.{node, unlink_writes}
use Rattle.sound.specs.Plans.{leave_script}
use Rattle.sound.proofs.Refused.{stops_with, stops_head}
use Rattle.slices.specs.Decode.{grains}
use Rattle.refusal.specs.Number.{number}
use Rattle.refusal.specs.declared.Refusal.{Refusal}
use Rattle.free_list.specs.Lent.{held, classes, link, Leads}
use Rattle.free_list.specs.Seen.{SeenHead}
use Rattle.free_list.specs.Leading.{head_leads}
use Rattle.carve.specs.Made.{left_behind}
use Rattle.carve.specs.Left.{left_nothing, left_headless, left_listed}
use Rattle.carve.specs.declared.Rest.{Rest}

-- the first block of list k, of s grains at y, whose next is the word x, leaves its list and keeps m grains; the rest, if
-- any, goes before the word h, the head of list q
abbrev pub left_writes : List ℕ → ℕ → ℕ → ℕ → ℕ → ℕ → ℕ → ℕ → List Write
left_writes a k x y s m q h = unlink_writes k (link a x) none ++ left_behind y s m q (link a h)

-- it is what the script leaves, wherever the block is; and the rest can be put before its head
pub record RestSeen (a l : List ℕ) (k x s m : ℕ) (r : Rest) : Type 0 where
  pub seen : (v t : List ℕ) (y : ℕ) →
      ok (left_writes a k x y s m r.list r.head) ≡ run (held a l v t) (leave_script (grains 8 a) classes (unlink_writes k (link a x) none) y s m)
  pub ready : (m ≡ s → ⊥) → (r.list < lists) × (Leads a x → Leads a r.head)

-- the answer is that of the script, which refuses with 5 alone
abbrev pub SeenRest : List ℕ → List ℕ → ℕ → ℕ → ℕ → ℕ → Result Rest Refusal → Type 0
SeenRest a l k x s m r = MatchResult r (RestSeen a l k x s m)
    (λ e. (number e ≡ 5) × ((v t : List ℕ) (y : ℕ) → no 5 ≡ run (held a l v t) (leave_script (grains 8 a) classes (unlink_writes k (link a x) none) y s m)))

-- the head of list q, as it is after the first block of list k left
head_latest : (k x q v : ℕ) → latest (unlink_writes k x none) Next (root q) v ≡ if_eq q k x v
head_latest k x q v =
    eq_case (λ (w : List Write). latest w Next (root q) (if_eq (root q) (node k none) x v) ≡ if_eq (root q) (node k none) x v) x none _ _
    (λ _. eq_case (λ (w : List Write). latest w Next (root q) (if_eq (root q) (node k none) x v) ≡ if_eq (root q) (node k none) x v) none none _ _ (λ _. refl) (λ _. refl))
    (λ _. refl)
    ∙ ap (λ (z : ℕ). if_eq (root q) z x v) (eq_yes none none (root k) none refl)
    ∙ ⊎_elim
    (λ (e : q ≡ k). eq_yes (root q) (root k) x v (ap root e) ∙ sym (eq_yes q k x v e))
    (λ (n : q ≡ k → ⊥). eq_no (root q) (root k) x v (λ e. n (omega arith)) ∙ sym (eq_no q k x v n))
    (same? q k)

link_either : (a : List ℕ) (q k x h : ℕ) → link a (if_eq q k x h) ≡ if_eq q k (link a x) (link a h)
link_either a q k x h = ⊎_elim
    (λ (e : q ≡ k). ap (link a) (eq_yes q k x h e) ∙ sym (eq_yes q k (link a x) (link a h) e))
    (λ (n : q ≡ k → ⊥). ap (link a) (eq_no q k x h n) ∙ sym (eq_no q k (link a x) (link a h) n))
    (same? q k)

-- the rest of a block that has a list has one
pub rest_listed : (s m k : ℕ) → m ≤ s → (m ≡ s → ⊥) → list_of s ≡ k → k < lists → list_of (s - m) < lists
rest_listed s m k h n e j = omega (arith, list_mono (s - m) s (omega (arith, n)) (omega arith))

-- nothing is left
pub rest_none : (a l : List ℕ) (k x s m : ℕ) → m ≡ s → SeenRest a l k x s m (Ok (record { list = 0; head = 0 }))
rest_none a l k x s m e = record {
  seen = λ v t y. left_nothing a l v t (unlink_writes k (link a x) none) y s m e 0 (link a 0);
  ready = λ n. absurd (n e);
}

-- the rest goes to list q
module _ (a l : List ℕ) (k x s m q : ℕ) (n : m ≡ s → ⊥) (e : q ≡ list_of (s - m)) (j : q < lists) where
  abbrev u : List Write
  u = unlink_writes k (link a x) none

  -- whose head is damaged
  pub rest_damaged : (r : Refusal) → SeenHead a l q (Err r) → SeenRest a l k x s m (Err r)
  rest_damaged r w =
      let five : number r ≡ 5 = stops_with (λ (i : ℕ). i ≡ 5) (held a l [] []) (see_head (grains 8 a) q) (stops_head (λ (i : ℕ). i ≡ 5) refl (grains 8 a) q) (sym (w [] [])) in
      (five, λ v t y. left_headless a l v t u y s m n q e j 5 (ap no (sym five) ∙ w v t))

  -- whose head is g, and h behind the take
  pub rest_some : (g h : ℕ) → length a < 18446744073709551616 → SeenHead a l q (Ok g) → h ≡ if_eq q k x g → SeenRest a l k x s m (Ok (record { list = q; head = h }))
  rest_some g h f w d = record {
    seen = λ v t y. left_listed a l v t u y s m n q e j g h (w v t) head;
    ready = λ _. (j, λ b. subst (Leads a) (sym d) (eq_case (Leads a) q k x g (λ _. b) (λ _. head_leads a l q g f w)));
  }
    where
      head : link a h ≡ latest u Next (root q) (link a g)
      head = ap (link a) d ∙ link_either a q k x g ∙ sym (head_latest k (link a x) q (link a g))
