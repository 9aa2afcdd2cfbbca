-- What follows from specs/Finish.antt.
use Rattle.std.specs.Prelude.{ℕ, ◌+◌, ◌-◌, ◌/◌, ◌%◌, ◌≡◌, refl, List, [], ◌∷◌, ◌++◌}
use Rattle.std.proofs.Common.{arith, ap, sym, ◌∙◌, subst}
use Rattle.choice.specs.Choice.{eq_yes, eq_case, upd_same}
use Rattle.definition.specs.Blocks.{used}
use Rattle.definition.specs.Lists.{Lists}
use Rattle.definition.specs.Calls.{Heap}
use Rattle.invariants.specs.Members.{Mem}
use Rattle.invariants.specs.Order.{BlockAt}
use Rattle.invariants.specs.Moves.{Ok}
use Rattle.script.specs.Memory.{Memory, Size, Before, Next, Prev, Mark, Live, Table, none, root, Write, ◌at◌≔◌, apply, Untouched, Spared}
use Rattle.script.proofs.Memory.{apply_append, apply_alike, apply_untouched, apply_spared, untouched_append, spared_append}
use Rattle.sound.proofs.Chain.{chain_keep}
use Rattle.sound.specs.Strung.{Strung, Marked}
use Rattle.sound.specs.Plans.{pad_writes}
use Rattle.sound.specs.Leave.{LeavesIn}
use Rattle.sound.proofs.Leave.{row_as}
use Rattle.sound.proofs.Swaps.{pad_free}
use Rattle.sound.specs.Finish.{Lives, Finished}

lives_untouched : (i : ℕ) (l : List Write) → Lives l → (Live ≡ i → ⊥) → Untouched i l
lives_untouched i [] v n = tt
lives_untouched i (w ∷ l) v n = ((λ e. n (sym v.0 ∙ e)), lives_untouched i l v.1 n)

lives_spared : (y : ℕ) (l : List Write) → Lives l → Spared Prev y l
lives_spared y [] v = tt
lives_spared y (w ∷ l) v = ((λ e q. omega (arith, v.0, e)), lives_spared y l v.1)

pad_untouched : (i x d : ℕ) → (Prev ≡ i → ⊥) → Untouched i (pad_writes x d)
pad_untouched i x d n = eq_case (Untouched i) (d % 2) 0 _ _ (λ _. (n, tt)) (λ _. tt)

pad_spared : (y x d : ℕ) → (d % 2 ≡ 0 → y ≡ x + d / 2 - 1 → ⊥) → Spared Prev y (pad_writes x d)
pad_spared y x d n = eq_case (Spared Prev y) (d % 2) 0 _ _ (λ e. ((λ _ q. n e (sym q)), tt)) (λ _. tt)

-- lists stay strung where no link of a member, and no mark, changes
pub strung_keep : (m u : Memory) (f : Lists) → u Next ≡ m Next → u Mark ≡ m Mark → ((k y : ℕ) → Mem y (f k) → u Prev y ≡ m Prev y) → Strung m f → Strung u f
strung_keep m u f a b p s = record {
  links = λ k. chain_keep (m Next) (m Prev) (u Next) (u Prev) (root k) none (f k) (ap (λ (g : ℕ → ℕ). g (root k)) a) (λ y i. ap (λ (g : ℕ → ℕ). g y) a) (λ y i. p k y i) (s.links k);
  marks = λ k. subst (λ (g : ℕ → ℕ). Marked (g k) (f k)) (sym b) (s.marks k);
}

pub finish_memory : (c : ℕ) (m : Memory) (f : Lists) (w : List Write) (g : Heap) (z k d : ℕ) (l : List Write) → LeavesIn m f (apply m w) g → Ok c g → BlockAt z (used k d) 0 g.blocks → Lives l
    → Finished m f (apply m (w ++ (pad_writes z d ++ l))) g z d l
finish_memory c m f w g z k d l s o b v = subst (λ (u : Memory). Finished m f u g z d l) (sym (apply_append m w (pad_writes z d ++ l))) (record {
  row = row_as _ _ _ _ g.blocks (same Size (omega arith) (omega arith)) (same Before (omega arith) (omega arith)) s.row;
  strung = strung_keep a u g.lists (same Next (omega arith) (omega arith)) (same Mark (omega arith) (omega arith))
      (λ j y i. spared y (λ e q. pad_free c g.blocks g.lists z k d o b e j (subst (λ (x : ℕ). Mem x (g.lists j)) q i))) s.strung;
  pad = λ e. ap (λ (x : Memory). x Prev (z + d / 2 - 1)) (apply_append a (pad_writes z d) l)
      ∙ apply_spared (apply a (pad_writes z d)) l Prev (z + d / 2 - 1) (lives_spared (z + d / 2 - 1) l v)
      ∙ ap (λ (x : List Write). apply a x Prev (z + d / 2 - 1)) (eq_yes (d % 2) 0 ((Prev at z + d / 2 - 1 ≔ z) ∷ []) [] e)
      ∙ upd_same (a Prev) (z + d / 2 - 1) z (z + d / 2 - 1) refl;
  quiet = λ y n p q i. spared y i ∙ s.quiet y n p q;
  live = ap (λ (x : Memory). x Live) (apply_append a (pad_writes z d) l)
      ∙ apply_alike (apply a (pad_writes z d)) m l Live (apply_untouched a (pad_writes z d) Live (pad_untouched Live z d (omega arith)) ∙ s.live);
  table = same Table (omega arith) (omega arith) ∙ s.table;
})
  where
    a : Memory
    a = apply m w

    u : Memory
    u = apply (apply m w) (pad_writes z d ++ l)

    same : (i : ℕ) → (Prev ≡ i → ⊥) → (Live ≡ i → ⊥) → apply (apply m w) (pad_writes z d ++ l) i ≡ apply m w i
    same i p q = apply_untouched (apply m w) (pad_writes z d ++ l) i (untouched_append i (pad_writes z d) l (pad_untouched i z d p) (lives_untouched i l v q))

    spared : (y : ℕ) → (d % 2 ≡ 0 → y ≡ z + d / 2 - 1 → ⊥) → apply (apply m w) (pad_writes z d ++ l) Prev y ≡ apply m w Prev y
    spared y n = apply_spared (apply m w) (pad_writes z d ++ l) Prev y (spared_append Prev y (pad_writes z d) l (pad_spared y z d n) (lives_spared y l v))
