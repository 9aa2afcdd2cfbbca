-- What follows from specs/Strung.antt.
use Rattle.std.specs.Prelude.{ℕ, ◌<◌, ◌≡◌, refl, List, [], ◌∷◌, ◌++◌}
use Rattle.std.proofs.Common.{arith, ap, sym, ◌∙◌, subst, inl, inr, ⊎_elim}
use Rattle.choice.specs.Choice.{eq_case, upd, upd_same, upd_other, upd_each, upd_pair, same?}
use Rattle.definition.specs.Lists.{Lists, remove, push, drop}
use Rattle.invariants.specs.Members.{Mem, Parts, Apiece}
use Rattle.invariants.proofs.Members.{parts}
use Rattle.script.specs.Memory.{Memory, Next, Prev, Mark, none, root, Write, ◌at◌≔◌, apply, Untouched, Spared}
use Rattle.sound.specs.Links.{unlink_writes, push_writes, node}
use Rattle.sound.specs.Chain.{Chain, Real, last_or}
use Rattle.sound.proofs.Chain.{links_unlink, links_push, not_none, prev_is_lem, tail_of, last_mem}
use Rattle.sound.specs.Strung.{Marked, Strung}

-- ---- what those writes leave alone

module _ (g : ℕ) (a : Next ≡ g → ⊥) (b : Prev ≡ g → ⊥) (c : Mark ≡ g → ⊥) where
  pub unlink_untouched : (k x p : ℕ) → Untouched g (unlink_writes k x p)
  unlink_untouched k x p = (a, eq_case (Untouched g) x none _ _ (λ _. eq_case (Untouched g) p none _ _ (λ _. (c, tt)) (λ _. tt)) (λ _. (b, tt)))

  pub push_untouched : (k y h : ℕ) → Untouched g (push_writes k y h)
  push_untouched k y h = eq_case (Untouched g) h none _ _ (λ _. (c, (b, (a, (a, tt))))) (λ _. (b, (b, (a, (a, tt)))))

-- a link at z that is not one of theirs
pub unlink_spares : (z k x p : ℕ) → (z ≡ none → ⊥) → (z ≡ x → ⊥) → Spared Prev z (unlink_writes k x p)
unlink_spares z k x p n e = (
  (λ q. omega arith),
  eq_case (Spared Prev z) x none _ _ (λ _. eq_case (Spared Prev z) p none _ _ (λ _. ((λ q. omega arith), tt)) (λ _. tt)) (λ _. ((λ _ q. e (sym q)), tt)),
)

pub push_spares : (z k y h : ℕ) → (z ≡ y → ⊥) → (z ≡ h → ⊥) → Spared Prev z (push_writes k y h)
push_spares z k y h a b = eq_case (Spared Prev z) h none _ _
    (λ _. ((λ q. omega arith), ((λ _ q. a (sym q)), ((λ q. omega arith), ((λ q. omega arith), tt)))))
    (λ _. ((λ _ q. b (sym q)), ((λ _ q. a (sym q)), ((λ q. omega arith), ((λ q. omega arith), tt)))))

-- ---- and what they keep

marked_some : (v : ℕ) (a b : List ℕ) (y : ℕ) → Marked v (a ++ y ∷ b) → v ≡ 1
marked_some v [] b y h = h
marked_some v (z ∷ a) b y h = h

module _ (m : Memory) (f : Lists) (o : Apiece f) (real : Real f) (s : Strung m f) where
  -- the list that y is in is marked
  pub mark_of : (k y : ℕ) → Mem y (f k) → m Mark k ≡ 1
  mark_of k y i = let p = parts y (f k) (o.once k) i in marked_some (m Mark k) p.front p.back y (rw p.is at (s.marks k))

  pub strung_unlink : (k y x p : ℕ) → Mem y (f k) → x ≡ m Next y → p ≡ m Prev y → Strung (apply m (unlink_writes k x p)) (drop k y f)
  strung_unlink k y x p i ex ep = rw (ex, ep) (eq_case (λ (w : List Write). Strung (apply m ((Next at node k (m Prev y) ≔ m Next y) ∷ w)) (drop k y f)) (m Next y) none _ _
      (λ a. eq_case (λ (w : List Write). Strung (apply m ((Next at node k (m Prev y) ≔ m Next y) ∷ w)) (drop k y f)) (m Prev y) none _ _
      (λ b. record {
        links = links_unlink (m Next) (m Prev) f o real s.links k y i (m Prev) (same a);
        marks = upd_pair Marked (m Mark) f k 0 (remove y (f k)) (alone a b) (λ j n. s.marks j);
      })
      (λ b. record {
        links = links_unlink (m Next) (m Prev) f o real s.links k y i (m Prev) (same a);
        marks = upd_each (λ j l. Marked (m Mark j) l) f k (remove y (f k)) (inr_one (λ e. b e)) (λ j n. s.marks j);
      }))
      (λ a. record {
        links = links_unlink (m Next) (m Prev) f o real s.links k y i (upd (m Prev) (m Next y) (m Prev y)) (λ z n. refl);
        marks = upd_each (λ j l. Marked (m Mark j) l) f k (remove y (f k)) (inl_one (λ e. a e)) (λ j n. s.marks j);
      }))
    where
      pt : Parts y (f k)
      pt = parts y (f k) (o.once k) i

      same : m Next y ≡ none → (z : ℕ) → (z ≡ none → ⊥) → m Prev z ≡ upd (m Prev) (m Next y) (m Prev y) z
      same a z n = sym (upd_other (m Prev) (m Next y) (m Prev y) z (λ e. n (e ∙ a)))

      chained : Chain (m Next) (m Prev) (root k) none (pt.front ++ y ∷ pt.back)
      chained = rw pt.is at (s.links k)

      nothing_before : (l : List ℕ) → m Prev y ≡ last_or none l → (Mem none (l ++ y ∷ pt.back) → ⊥) → m Prev y ≡ none → l ≡ []
      nothing_before [] e n q = refl
      nothing_before (z ∷ l) e n q = absurd (n (subst (λ (i : ℕ). Mem i (z ∷ l ++ y ∷ pt.back)) (sym e ∙ q) (last_mem z l (y ∷ pt.back))))

      nothing_behind : (l : List ℕ) → Chain (m Next) (m Prev) y y l → (Mem none l → ⊥) → m Next y ≡ none → l ≡ []
      nothing_behind [] c n q = refl
      nothing_behind (z ∷ l) c n q = absurd (n (inl (sym q ∙ c.0)))

      no_none : Mem none (pt.front ++ y ∷ pt.back) → ⊥
      no_none = rw pt.is at (not_none (m Next) (m Prev) f o real s.links k)

      front_is : m Prev y ≡ none → pt.front ≡ []
      front_is q = nothing_before pt.front (prev_is_lem (m Next) (m Prev) (root k) none y pt.front pt.back chained) no_none q

      back_is : m Next y ≡ none → pt.back ≡ []
      back_is q = nothing_behind pt.back (tail_of (m Next) (m Prev) (root k) none y pt.front pt.back chained) (λ h. no_none (in_tail pt.front h)) q
        where
          in_tail : (l : List ℕ) → Mem none pt.back → Mem none (l ++ y ∷ pt.back)
          in_tail [] h = inr h
          in_tail (z ∷ l) h = inr (in_tail l h)

      alone : m Next y ≡ none → m Prev y ≡ none → Marked 0 (remove y (f k))
      alone a b = rw (pt.less, front_is b, back_is a) refl

      one : m Mark k ≡ 1
      one = mark_of k y i

      still : (a b : List ℕ) → ((a ≡ []) × (b ≡ []) → ⊥) → Marked (m Mark k) (a ++ b)
      still [] [] n = absurd (n (refl, refl))
      still [] (z ∷ b) n = one
      still (z ∷ a) b n = one

      first_none : (l : List ℕ) → l ≡ [] → m Prev y ≡ last_or none l → m Prev y ≡ none
      first_none l e q = q ∙ ap (last_or none) e

      next_none : (l : List ℕ) → l ≡ [] → Chain (m Next) (m Prev) y y l → m Next y ≡ none
      next_none l e c = subst (λ (t : List ℕ). Chain (m Next) (m Prev) y y t) e c

      inr_one : (m Prev y ≡ none → ⊥) → Marked (m Mark k) (remove y (f k))
      inr_one b = rw pt.less (still pt.front pt.back (λ e. b (first_none pt.front e.0 (prev_is_lem (m Next) (m Prev) (root k) none y pt.front pt.back chained))))

      inl_one : (m Next y ≡ none → ⊥) → Marked (m Mark k) (remove y (f k))
      inl_one a = rw pt.less (still pt.front pt.back (λ e. a (next_none pt.back e.1 (tail_of (m Next) (m Prev) (root k) none y pt.front pt.back chained))))

  pub strung_push : (k y h : ℕ) → y < none → ((j : ℕ) → Mem y (f j) → ⊥) → h ≡ m Next (root k) → Strung (apply m (push_writes k y h)) (push k y f)
  strung_push k y h r new eh = rw eh (eq_case (λ (w : List Write). Strung (apply m w) (push k y f)) (m Next (root k)) none _ _
      (λ a. record {
        links = links_push (m Next) (m Prev) f o real s.links k y r new (upd (m Prev) y none) (λ z n. upd_two z n a);
        marks = upd_pair Marked (m Mark) f k 1 (y ∷ f k) refl (λ j n. s.marks j);
      })
      (λ a. record {
        links = links_push (m Next) (m Prev) f o real s.links k y r new (upd (upd (m Prev) (m Next (root k)) y) y none) (λ z n. refl);
        marks = upd_each (λ j l. Marked (m Mark j) l) f k (y ∷ f k) (full (f k) (s.links k) (s.marks k) a) (λ j n. s.marks j);
      }))
    where
      upd_two : (z : ℕ) → (z ≡ none → ⊥) → m Next (root k) ≡ none → upd (m Prev) y none z ≡ upd (upd (m Prev) (m Next (root k)) y) y none z
      upd_two z n a = ⊎_elim
          (λ (e : z ≡ y). upd_same (m Prev) y none z e ∙ sym (upd_same _ y none z e))
          (λ (e : z ≡ y → ⊥). upd_other (m Prev) y none z e ∙ sym (upd_other _ y none z e ∙ upd_other (m Prev) (m Next (root k)) y z (λ q. n (q ∙ a))))
          (same? z y)

      full : (l : List ℕ) → Chain (m Next) (m Prev) (root k) none l → Marked (m Mark k) l → (m Next (root k) ≡ none → ⊥) → m Mark k ≡ 1
      full [] c q n = absurd (n c)
      full (z ∷ l) c q n = q
