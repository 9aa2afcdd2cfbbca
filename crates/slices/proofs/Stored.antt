-- Storing a word is one update of the memory (`store_is`), and storing the writes of a plan is applying them
-- (`stores_are`), wherever they can be stored. So what is proved of memories and writes holds of the lent slices.
use Rattle.std.specs.Prelude.{ℕ, zero, suc, ◌≡◌, refl, List, [], ◌∷◌}
use Rattle.std.proofs.Common.{arith, ap, sym, ◌∙◌, subst}
use Rattle.std.proofs.Math.Path.{fun_ext}
use Rattle.choice.specs.Choice.{upd}
use Rattle.definition.specs.Calls.{Heap}
use Rattle.script.specs.Memory.{Memory, pick, Write, put, apply}
use Rattle.sound.specs.Sound.{Sound}
use Rattle.slices.specs.Decode.{Wide}
use Rattle.slices.proofs.Decode.{wide_keep}
use Rattle.slices.specs.Slices.{Slices, memory_of, store, stores, Valid, AllValid}
use Rattle.slices.specs.Fields.{Becomes}
use Rattle.slices.proofs.Fields.{field_stored}
use Rattle.slices.proofs.Kept.{store_lengths, all_valid_keep}

-- what holds of each of the two holds of the one picked
pick_case : {A : Type 0} (P : A → Type 0) (f g : ℕ) (x y : A) → (f ≡ g → P x) → ((f ≡ g → ⊥) → P y) → P (pick f g x y)
pick_case P zero zero x y a b = a refl
pick_case P zero (suc g) x y a b = b (λ e. omega arith)
pick_case P (suc f) zero x y a b = b (λ e. omega arith)
pick_case P (suc f) (suc g) x y a b = pick_case P f g x y (λ e. a (ap suc e)) (λ n. b (λ e. n (omega arith)))

-- one field that changed is one write
becomes_is : (w : ℕ) (S T : Slices) (x : Write) → Becomes w S x.field x.place x.value T → (g y : ℕ) → memory_of w T g y ≡ put (memory_of w S) x g y
becomes_is w S T x b g y = pick_case (λ (m : ℕ → ℕ). memory_of w T g y ≡ m y) x.field g (upd (memory_of w S g) x.place x.value) (memory_of w S g)
    (λ e. subst (λ (h : ℕ). memory_of w T h y ≡ upd (memory_of w S h) x.place x.value y) e (b.here y))
    (λ n. b.elsewhere g n y)

-- storing a word is one update of the memory
pub store_is : (w : ℕ) (S : Slices) (x : Write) → Wide w S.arena → Valid w S x → (g y : ℕ) → memory_of w (store w S x) g y ≡ put (memory_of w S) x g y
store_is w S x k h = becomes_is w S (store w S x) x (field_stored w S k x.place x.value x.field h)

-- storing the writes of a list is applying them
pub stores_memory : (w : ℕ) (S : Slices) (l : List Write) → Wide w S.arena → AllValid w S l → memory_of w (stores w S l) ≡ apply (memory_of w S) l
stores_memory w S [] k h = refl
stores_memory w S (x ∷ l) k h =
    let e = store_lengths w S x in
    stores_memory w (store w S x) l (wide_keep e.arena k) (all_valid_keep w S (store w S x) l e h.1)
    ∙ ap (λ (m : Memory). apply m l) (fun_ext (λ g. fun_ext (λ y. store_is w S x k h.0 g y)))

-- word by word
pub stores_are : (w : ℕ) (S : Slices) (l : List Write) → Wide w S.arena → AllValid w S l
    → (g y : ℕ) → memory_of w (stores w S l) g y ≡ apply (memory_of w S) l g y
stores_are w S l k h g y = ap (λ (m : Memory). m g y) (stores_memory w S l k h)

-- what the memory with the writes stands for, the slices stand for once they are stored
pub sound_stored : (n c w : ℕ) (S : Slices) (l : List Write) (h : Heap) → Wide w S.arena → AllValid w S l
    → Sound n c (apply (memory_of w S) l) h → Sound n c (memory_of w (stores w S l)) h
sound_stored n c w S l h k v s = subst (λ (m : Memory). Sound n c m h) (sym (stores_memory w S l k v)) s
