-- What follows from specs/Relists.antt.
use Rattle.std.specs.Prelude.{ℕ, ◌<◌, ◌≡◌, refl, List, [], ◌∷◌, ◌++◌}
use Rattle.std.proofs.Common.{ap, sym, ◌∙◌, subst, inl, ⊎_elim}
use Rattle.choice.specs.Choice.{upd_same}
use Rattle.definition.specs.Lists.{Lists, push, drop}
use Rattle.invariants.specs.Members.{Mem, Apiece, apiece_drop, apiece_push, mem_drop, mem_push}
use Rattle.script.specs.Memory.{Memory, Next, Prev, none, root, Write, apply}
use Rattle.script.proofs.Memory.{apply_append, apply_spared, untouched_append}
use Rattle.sound.specs.Chain.{Real}
use Rattle.sound.proofs.Chain.{head_is_lem, next_mem}
use Rattle.sound.specs.Strung.{Strung}
use Rattle.sound.proofs.Strung.{strung_unlink, strung_push, unlink_untouched, push_untouched, unlink_spares, push_spares}
use Rattle.sound.specs.Links.{unlink_writes, push_writes}
use Rattle.sound.specs.Relists.{NotIn, Fewer, Relists}

-- ---- the steps

pub relists_none : (m : Memory) (f : Lists) → Apiece f → Real f → Strung m f → Relists m f [] f
relists_none m f o r s = record { strung = s; apiece = o; real = r; quiet = λ y n a b. refl; rest = λ i a b c. tt }

module _ (m : Memory) (f : Lists) (o : Apiece f) (r : Real f) (s : Strung m f) where
  pub relists_drop : (k y x p : ℕ) → Mem y (f k) → x ≡ m Next y → p ≡ m Prev y → Relists m f (unlink_writes k x p) (drop k y f)
  relists_drop k y x p i ex ep = record {
    strung = strung_unlink m f o r s k y x p i ex ep;
    apiece = apiece_drop f o k y;
    real = λ j u h. r j u (mem_drop f o k y j u h);
    quiet = λ u n a b. apply_spared m (unlink_writes k x p) Prev u
        (unlink_spares u k x p n (λ e. ⊎_elim (λ (q : m Next y ≡ none). n (e ∙ ex ∙ q)) (λ (h : Mem (m Next y) (f k)). a k (subst (λ (v : ℕ). Mem v (f k)) (sym (e ∙ ex)) h))
        (next_mem (m Next) (m Prev) f o r s.links k y i)));
    rest = λ i a b c. unlink_untouched i a b c k x p;
  }

  pub relists_push : (k y h : ℕ) → y < none → NotIn f y → h ≡ m Next (root k) → Relists m f (push_writes k y h) (push k y f)
  relists_push k y h l new eh = record {
    strung = strung_push m f o r s k y h l new eh;
    apiece = apiece_push f o k y new;
    real = λ j u i. ⊎_elim (λ q. subst (λ (v : ℕ). v < none) (sym q.0) l) (λ i. r j u i) (mem_push f o k y j u i);
    quiet = λ u n a b. apply_spared m (push_writes k y h) Prev u
        (push_spares u k y h (λ e. b k (subst (λ (v : ℕ). Mem v (push k y f k)) (sym e) here))
        (λ e. ⊎_elim (λ (q : m Next (root k) ≡ none). n (e ∙ eh ∙ q)) (λ (i : Mem (m Next (root k)) (f k)). a k (subst (λ (v : ℕ). Mem v (f k)) (sym (e ∙ eh)) i))
        (head_is_lem (m Next) (m Prev) f o r s.links k)));
    rest = λ i a b c. push_untouched i a b c k y h;
  }
    where
      here : Mem y (push k y f k)
      here = rw (upd_same f k (y ∷ f k) k refl) (inl refl)

-- one after the other, where the first only takes out
pub relists_then : (m : Memory) (f g h : Lists) (w v : List Write) → Fewer g f → Relists m f w g → Relists (apply m w) g v h → Relists m f (w ++ v) h
relists_then m f g h w v less a b = record {
  strung = subst (λ (d : Memory). Strung d h) (sym (apply_append m w v)) b.strung;
  apiece = b.apiece;
  real = b.real;
  quiet = λ y n i j. ap (λ (d : Memory). d Prev y) (apply_append m w v) ∙ b.quiet y n (λ k q. i k (less k y q)) j ∙ a.quiet y n i (λ k q. i k (less k y q));
  rest = λ i p q r. untouched_append i w v (a.rest i p q r) (b.rest i p q r);
}
