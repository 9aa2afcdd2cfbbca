-- Storing a word is one update of the memory (`store_is`), and storing the writes of a plan is applying them
-- (`stores_memory`), wherever they can be stored. So what is proved of memories and writes holds of the lent slices.
use Rattle.std.specs.Prelude.{ℕ, zero, suc, ◌≡◌, refl, List, [], ◌∷◌}
use Rattle.std.proofs.Common.{arith, ap, ◌∙◌, subst}
use Rattle.std.proofs.Math.Path.{fun_ext}
use Rattle.choice.specs.Choice.{upd}
use Rattle.script.specs.Memory.{Memory, pick, Write, put, apply}
use Rattle.lent.specs.Slices.{Slices, memory_of, store, stores, Valid, AllValid}
use Rattle.lent.specs.Fields.{Becomes}
use Rattle.lent.proofs.Fields.{field_becomes}
use Rattle.lent.proofs.Kept.{store_lengths, all_valid_keep}

-- what holds of each of the two holds of the one picked
pick_case : {A : Type 0} (P : A → Type 0) (f g : ℕ) (x y : A) → (f ≡ g → P x) → ((f ≡ g → ⊥) → P y) → P (pick f g x y)
pick_case P zero zero x y a b = a refl
pick_case P zero (suc g) x y a b = b (λ e. omega arith)
pick_case P (suc f) zero x y a b = b (λ e. omega arith)
pick_case P (suc f) (suc g) x y a b = pick_case P f g x y (λ e. a (ap suc e)) (λ n. b (λ e. n (omega arith)))

-- one field that changed is one write
becomes_is : (S T : Slices) (w : Write) → Becomes S w.field w.place w.value T → (g y : ℕ) → memory_of T g y ≡ put (memory_of S) w g y
becomes_is S T w b g y = pick_case (λ (m : ℕ → ℕ). memory_of T g y ≡ m y) w.field g (upd (memory_of S g) w.place w.value) (memory_of S g)
    (λ e. subst (λ (h : ℕ). memory_of T h y ≡ upd (memory_of S h) w.place w.value y) e (b.here y))
    (λ n. b.elsewhere g n y)

-- storing a word is one update of the memory
pub store_is : (S : Slices) (w : Write) → Valid S w → (g y : ℕ) → memory_of (store S w) g y ≡ put (memory_of S) w g y
store_is S w h = becomes_is S (store S w) w (field_becomes S w.place w.value w.field h)

-- storing the writes of a list is applying them
pub stores_memory : (S : Slices) (l : List Write) → AllValid S l → memory_of (stores S l) ≡ apply (memory_of S) l
stores_memory S [] h = refl
stores_memory S (w ∷ l) h =
    stores_memory (store S w) l (all_valid_keep S (store S w) l (store_lengths S w) h.1)
    ∙ ap (λ (m : Memory). apply m l) (fun_ext (λ g. fun_ext (λ y. store_is S w h.0 g y)))

-- word by word
pub stores_are : (S : Slices) (l : List Write) → AllValid S l → (g y : ℕ) → memory_of (stores S l) g y ≡ apply (memory_of S) l g y
stores_are S l h g y = ap (λ (m : Memory). m g y) (stores_memory S l h)
