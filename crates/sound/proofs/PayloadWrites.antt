-- What follows from specs/PayloadWrites.antt.
use Rattle.std.specs.Prelude.{ℕ, ◌+◌, ◌-◌, ◌*◌, ◌/◌, ◌%◌, ◌≤◌, ◌<◌, ◌≡◌, refl, List, [], ◌∷◌, ◌++◌, ◌⊎◌}
use Rattle.std.proofs.Common.{arith, sym, inl, inr, ⊎_elim}
use Rattle.choice.specs.Choice.{eq_case}
use Rattle.class.specs.Class.{list_of}
use Rattle.definition.specs.Blocks.{Block, free, used, last, gap}
use Rattle.definition.specs.Lists.{Lists}
use Rattle.invariants.specs.Members.{Mem, Apiece}
use Rattle.script.specs.Memory.{Memory, Next, Prev, none, root, Write, ◌at◌≔◌, latest, apply}
use Rattle.script.proofs.Memory.{apply_is}
use Rattle.sound.specs.Chain.{Real}
use Rattle.sound.proofs.Chain.{node_mem, next_mem, head_is_lem}
use Rattle.sound.specs.Strung.{Strung}
use Rattle.sound.specs.Relists.{Relists}
use Rattle.sound.specs.Finish.{Lives}
use Rattle.sound.specs.Leave.{leave_writes}
use Rattle.sound.specs.Plans.{pad_writes, whole_writes, split_writes, free_writes, leaves, afterwards}
use Rattle.sound.specs.SeenBeside.{beside}
use Rattle.sound.specs.Links.{node, unlink_writes, push_writes}
use Rattle.sound.specs.PayloadWrites.{InPayload, Spares, Off, Edge, Unlisted, Aside}

-- one list of writes after another
pub spares_append : (y s d : ℕ) (v w : List Write) → Spares y s d v → Spares y s d w → Spares y s d (v ++ w)
spares_append y s d [] w a b = b
spares_append y s d (u ∷ v) w a b = (a.0, spares_append y s d v w a.1 b)

-- from place 1 on, behind the first two words of a block, lie its payload, wherever it is placed, and the word before it
pub spares_from : (y s d : ℕ) → 1 ≤ d → (l : List Write) → Spares y s 1 l → Spares y s d l
spares_from y s d h [] a = tt
spares_from y s d h (w ∷ l) a = ((λ b i. a.0 b (omega arith, omega arith)), spares_from y s d h l a.1)

-- ---- the parts of plans

module _ (y s : ℕ) where
  -- a table's word
  pub table_word : (f x : ℕ) → 4 ≤ f → f < 4 → InPayload f x y s 1 → ⊥
  table_word f x a b = absurd (omega arith)

  -- a block leaves its list
  pub unlink_off : (k x p : ℕ) → Off y s (node k p) → Off y s x → Spares y s 1 (unlink_writes k x p)
  unlink_off k x p a b = (
    (λ _ i. a (omega arith) (omega arith)),
    eq_case (Spares y s 1) x none _ _
        (λ _. eq_case (Spares y s 1) p none _ _ (λ _. (table_word 4 k (omega arith), tt)) (λ _. tt))
        (λ _. ((λ _ i. b (omega arith) (omega arith)), tt)),
  )

  -- the block at x goes to the head of a list
  pub push_off : (k x h : ℕ) → y + s ≤ none → Off y s x → Off y s h → Spares y s 1 (push_writes k x h)
  push_off k x h a b e = eq_case (Spares y s 1) h none _ _ (λ _. (table_word 4 k (omega arith), linked)) (λ _. ((λ _ i. e (omega arith) (omega arith)), linked))
    where
      linked : Spares y s 1 ((Prev at x ≔ none) ∷ (Next at x ≔ h) ∷ (Next at root k ≔ x) ∷ [])
      linked = ((λ _ i. b (omega arith) (omega arith)), ((λ _ i. b (omega arith) (omega arith)), ((λ _ i. omega arith), tt)))

  -- a block of t grains at x, of which k are kept
  pub leave_off : (m : Memory) (w : List Write) (x t k : ℕ) → y + s ≤ none → Spares y s 1 w → Edge y s x → Edge y s (x + t) → ((k ≡ t → ⊥) → Off y s (x + k))
      → Off y s (latest w Next (root (list_of (t - k))) (m Next (root (list_of (t - k))))) → Spares y s 1 (leave_writes m w x t k)
  leave_off m w x t k small a b e i h = eq_case (Spares y s 1) k t _ _
      (λ _. spares_append y s 1 w (whole_writes x t) a ((λ _ j. b (omega arith) (omega arith)), ((λ _ j. e (omega arith) (omega arith)), tt)))
      (λ ne. spares_append y s 1 (w ++ push_writes (list_of (t - k)) (x + k) _) (split_writes x t k)
      (spares_append y s 1 w _ a (push_off (list_of (t - k)) (x + k) _ small (i ne) h)) (
        (λ _ j. b (omega arith) (omega arith)),
        ((λ _ j. i ne (omega arith) (omega arith)), ((λ _ j. i ne (omega arith) (omega arith)), ((λ _ j. e (omega arith) (omega arith)), tt))),
      ))

  -- the word before a payload placed at d in the block at x
  pub pad_off : (x d : ℕ) → (d % 2 ≡ 0 → Off y s (x + d / 2 - 1)) → Spares y s 1 (pad_writes x d)
  pad_off x d h = eq_case (Spares y s 1) (d % 2) 0 _ _ (λ e. ((λ _ i. h e (omega arith) (omega arith)), tt)) (λ _. tt)

  -- a block of t grains at z that becomes free
  pub free_off : (q z t : ℕ) → Edge y s z → Edge y s (z + t) → Spares y s 1 (free_writes q z t)
  free_off q z t a b = ((λ _ i. a (omega arith) (omega arith)), ((λ _ i. b (omega arith) (omega arith)), (table_word 5 q (omega arith), tt)))

-- ---- what goes by the lists: their members are the starts of free blocks

module _ (m : Memory) (f : Lists) (o : Apiece f) (r : Real f) (st : Strung m f) (y s : ℕ) (small : y + s ≤ none) (un : Unlisted f y s) where
  -- a link to a member, or to none
  link_off : (k x : ℕ) → (x ≡ none) ⊎ Mem x (f k) → Off y s x
  link_off k x (inl e) a b = omega arith
  link_off k x (inr i) a b = un x a b k i

  -- so is the head of a list
  pub head_off : (k h : ℕ) → h ≡ m Next (root k) → Off y s h
  head_off k h e = rw e (link_off k (m Next (root k)) (head_is_lem (m Next) (m Prev) f o r st.links k))

  -- a member leaves its list
  pub drop_off : (k u x p : ℕ) → Mem u (f k) → x ≡ m Next u → p ≡ m Prev u → Spares y s 1 (unlink_writes k x p)
  drop_off k u x p i ex ep = rw (ex, ep) (unlink_off y s k (m Next u) (m Prev u)
      (⊎_elim (λ (e : node k (m Prev u) ≡ root k). λ a b. omega arith) (λ (j : Mem (node k (m Prev u)) (f k)). λ a b. un _ a b k j) (node_mem (m Next) (m Prev) f o r st.links k u i))
      (link_off k (m Next u) (next_mem (m Next) (m Prev) f o r st.links k u i)))

-- ---- t grains at x that lie beside the block

-- none of them is the block's
pub aside_off : (y s x t u : ℕ) → Aside y s x t → x ≤ u → u < x + t → Off y s u
aside_off y s x t u (inl h) i j a b = omega arith
aside_off y s x t u (inr h) i j a b = omega arith

-- nor does one that begins where they end cut it
pub aside_edge : (y s x t u : ℕ) → Aside y s x t → x ≤ u → u ≤ x + t → Edge y s u
aside_edge y s x t u (inl h) i j a b = omega arith
aside_edge y s x t u (inr h) i j a b = omega arith

-- ---- after the writes w, by which the lists become g

module _ (m : Memory) (f g : Lists) (w : List Write) (r : Relists m f w g) (y s : ℕ) (small : y + s ≤ none) (un : Unlisted g y s) where
  -- a head that is read before and put right
  pub after_off : (k : ℕ) → Off y s (latest w Next (root k) (m Next (root k)))
  after_off k = head_off (apply m w) g r.apiece r.real r.strung y s small un k _ (sym (apply_is m w Next (root k)))

  -- a free block at z that stands first in l leaves its list
  pub leaves_off : (l : List Block) (z : ℕ) → ((k : ℕ) (q : List Block) → l ≡ free k ∷ q → Mem z (g (list_of k))) → Spares y s 1 (leaves (afterwards w z (beside m l z)))
  leaves_off [] z i = tt
  leaves_off (free k ∷ l) z i = drop_off (apply m w) g r.apiece r.real r.strung y s small un (list_of k) z _ _ (i k l refl) (sym (apply_is m w Next z)) (sym (apply_is m w Prev z))
  leaves_off (used k d ∷ l) z i = tt
  leaves_off (last ∷ l) z i = tt
  leaves_off (gap ∷ l) z i = tt

  -- t grains at x of which k are kept, with a payload placed at d; then live bits
  pub placed_off : (x t k d : ℕ) (v : List Write) → Lives v → Spares y s 1 w → Aside y s x t → k ≤ t → 1 ≤ d → d ≤ 2 * t → Spares y s 1 (leave_writes m w x t k ++ (pad_writes x d ++ v))
  placed_off x t k d v l a b e p q = spares_append y s 1 (leave_writes m w x t k) (pad_writes x d ++ v)
      (leave_off y s m w x t k small a (aside_edge y s x t x b (omega arith) (omega arith)) (aside_edge y s x t (x + t) b (omega arith) (omega arith))
      (λ ne. aside_off y s x t (x + k) b (omega arith) (omega (arith, ne))) (after_off (list_of (t - k))))
      (spares_append y s 1 (pad_writes x d) v (pad_off y s x d (λ h. aside_off y s x t (x + d / 2 - 1) b (omega arith) (omega arith))) (lives_off v l))
    where
      lives_off : (v : List Write) → Lives v → Spares y s 1 v
      lives_off [] h = tt
      lives_off (u ∷ v) h = (table_word y s u.field u.place (omega (arith, h.0)), lives_off v h.1)
