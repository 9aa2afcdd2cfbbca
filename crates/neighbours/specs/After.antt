-- A free neighbour of a used block leaves its list: what is written then, and what its leaving changes of what was read
-- before it. The two neighbours may be beside each other in one list, and one of them may be the head of the list to which
-- a joined or left-over block goes. Links are words of the arena.
use Prim.Native.Nat.{ℕ, ◌*◌, ◌<◌}
use native.Mathlib.Omega.{arith}
use Rattle.std.specs.Prelude.{◌≡◌, List, [], ◌∷◌, ◌++◌, length, Option, Some, None, IfSome}
use Rattle.std.proofs.Math.Path.{refl, ap, sym}
use Rattle.std.proofs.Common.{◌∙◌, inl, inr, ⊎_elim}
use Rattle.choice.specs.Choice.{if_eq, eq_yes, eq_no, eq_case, same?}
use Rattle.script.specs.Memory.{Next, Prev, Mark, none, root, Write, ◌at◌≔◌, latest}
use Rattle.sound.specs.Links.{node, unlink_writes}
use Rattle.slices.specs.Decode.{grains}
use Rattle.header.specs.Turned.{grains_few}
use Rattle.header.specs.Told.{link_leads, link_only}
use Rattle.neighbours.specs.declared.Neighbour.{Neighbour}
use Rattle.free_list.specs.Lent.{no_link, link, Leads, below_none, link_none, link_grain}

-- the head h of list j, but x where a neighbour was there behind nothing and before x
abbrev pub headed : Option Neighbour → ℕ → ℕ → ℕ
headed None j h = h
headed (Some e) j h = if_eq e.prev no_link (if_eq e.list j e.next h) h

-- a neighbour leaves
abbrev pub leaving_of : List ℕ → Option Neighbour → List Write
leaving_of a None = []
leaving_of a (Some e) = unlink_writes e.list (link a e.next) (link a e.prev)

pub latest_append : (u w : List Write) (f y v : ℕ) → latest (u ++ w) f y v ≡ latest w f y (latest u f y v)
latest_append [] w f y v = refl
latest_append (e ∷ u) w f y v = latest_append u w f y _

-- ---- what an unlinking changes

-- one Next
behind_next : (k x p z u : ℕ) → latest (if_eq x none (if_eq p none ((Mark at k ≔ 0) ∷ []) []) ((Prev at x ≔ p) ∷ [])) Next z u ≡ u
behind_next k x p z u =
    eq_case (λ (w : List Write). latest w Next z u ≡ u) x none _ _
    (λ _. eq_case (λ (w : List Write). latest w Next z u ≡ u) p none _ _ (λ _. refl) (λ _. refl))
    (λ _. refl)

-- and one Prev, of what is behind
behind_prev : (k x p z u : ℕ) → (z ≡ none → ⊥) → latest (if_eq x none (if_eq p none ((Mark at k ≔ 0) ∷ []) []) ((Prev at x ≔ p) ∷ [])) Prev z u ≡ if_eq z x p u
behind_prev k x p z u n =
    eq_case (λ (w : List Write). latest w Prev z u ≡ if_eq z x p u) x none _ _
    (λ e. let d = sym (eq_no z x p u (λ q. n (q ∙ e))) in eq_case (λ (w : List Write). latest w Prev z u ≡ if_eq z x p u) p none _ _ (λ _. d) (λ _. d))
    (λ _. refl)

-- each list has its own root
same_root : (k j w v : ℕ) → if_eq k j w v ≡ if_eq (root j) (root k) w v
same_root k j w v = ⊎_elim
    (λ (e : k ≡ j). eq_yes k j w v e ∙ sym (eq_yes (root j) (root k) w v (ap root (sym e))))
    (λ (e : k ≡ j → ⊥). eq_no k j w v e ∙ sym (eq_no (root j) (root k) w v (λ q. e (omega arith))))
    (same? k j)

module _ (a : List ℕ) (k x p : ℕ) (s : length a < 18446744073709551616) where
  -- a link that is a choice
  link_choice : (b c w v : ℕ) → link a (if_eq b c w v) ≡ if_eq b c (link a w) (link a v)
  link_choice b c w v = ⊎_elim
      (λ (e : b ≡ c). ap (link a) (eq_yes b c w v e) ∙ sym (eq_yes b c (link a w) (link a v) e))
      (λ (e : b ≡ c → ⊥). ap (link a) (eq_no b c w v e) ∙ sym (eq_no b c (link a w) (link a v) e))
      (same? b c)

  -- only the word of a grain says that grain
  word_choice : (z b w v : ℕ) → z < grains 8 a → link a (if_eq b (32 * z) w v) ≡ if_eq z (link a b) (link a w) (link a v)
  word_choice z b w v h = link_choice b (32 * z) w v ∙ ⊎_elim
      (λ (e : b ≡ 32 * z).
      eq_yes b (32 * z) (link a w) (link a v) e ∙ sym (eq_yes z (link a b) (link a w) (link a v) (sym (link_leads (grains 8 a) b z h (grains_few a s) e))))
      (λ (e : b ≡ 32 * z → ⊥).
      eq_no b (32 * z) (link a w) (link a v) e ∙ sym (eq_no z (link a b) (link a w) (link a v) (λ q. link_only (grains 8 a) b z h (grains_few a s) e (sym q))))
      (same? b (32 * z))

  -- z is no head
  node_choice : (z w v : ℕ) → z < grains 8 a → if_eq z (node k (link a p)) w v ≡ if_eq z (link a p) w v
  node_choice z w v h = ⊎_elim
      (λ (e : link a p ≡ none).
      ap (λ (n : ℕ). if_eq z n w v) (eq_yes (link a p) none (root k) (link a p) e) ∙ eq_no z (root k) w v (λ q. omega (arith, below_none a s))
      ∙ sym (eq_no z (link a p) w v (λ q. omega (arith, below_none a s))))
      (λ (e : link a p ≡ none → ⊥). ap (λ (n : ℕ). if_eq z n w v) (eq_no (link a p) none (root k) (link a p) e))
      (same? (link a p) none)

  -- the next of z
  pub next_after : (z v : ℕ) → z < grains 8 a → link a (if_eq p (32 * z) x v) ≡ latest (unlink_writes k (link a x) (link a p)) Next z (link a v)
  next_after z v h = word_choice z p x v h ∙ sym (behind_next k (link a x) (link a p) z _ ∙ node_choice z (link a x) (link a v) h)

  -- the previous of z
  pub prev_after : (z v : ℕ) → z < grains 8 a → link a (if_eq x (32 * z) p v) ≡ latest (unlink_writes k (link a x) (link a p)) Prev z (link a v)
  prev_after z v h = word_choice z x p v h ∙ sym (behind_prev k (link a x) (link a p) z (link a v) (λ e. omega (arith, below_none a s)))

  -- the head of list j
  headed_after : (j h : ℕ) → Leads a p → link a (if_eq p no_link (if_eq k j x h) h) ≡ latest (unlink_writes k (link a x) (link a p)) Next (root j) (link a h)
  headed_after j h d = go d ∙ sym (behind_next k (link a x) (link a p) (root j) _)
    where
      go : Leads a p → link a (if_eq p no_link (if_eq k j x h) h) ≡ if_eq (root j) (node k (link a p)) (link a x) (link a h)
      go (inl e) =
          ap (link a) (eq_yes p no_link (if_eq k j x h) h e) ∙ link_choice k j x h ∙ same_root k j (link a x) (link a h)
          ∙ ap (λ (n : ℕ). if_eq (root j) n (link a x) (link a h)) (sym (eq_yes (link a p) none (root k) (link a p) (link_none a p s e)))
      go (inr i) =
          let f = link_grain a p s i in
          let b = below_none a s in
          let n : link a p ≡ none → ⊥ = λ e. omega arith in
          ap (link a) (eq_no p no_link (if_eq k j x h) h (λ e. n (link_none a p s e)))
          ∙ sym (eq_no (root j) (link a p) (link a x) (link a h) (λ e. omega arith))
          ∙ ap (λ (n : ℕ). if_eq (root j) n (link a x) (link a h)) (sym (eq_no (link a p) none (root k) (link a p) n))

pub head_after : (a : List ℕ) (e : Option Neighbour) (j h : ℕ) → length a < 18446744073709551616 → IfSome e (λ n. Leads a n.prev)
    → link a (headed e j h) ≡ latest (leaving_of a e) Next (root j) (link a h)
head_after a None j h s d = refl
head_after a (Some e) j h s d = headed_after a e.list e.next e.prev s j h d
