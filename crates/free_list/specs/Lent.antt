-- The lent slices, and the links in them: a link is a word, which is none, leads to a grain, or leads nowhere.
use Rattle.std.specs.Prelude.{ℕ, ◌+◌, ◌*◌, ◌/◌, ◌%◌, ◌≤◌, ◌<◌, ◌≡◌, List, ◌⊎◌, length}
use Rattle.std.proofs.Common.{arith, ◌∙◌, inl, inr}
use Rattle.std.proofs.Math.Path.{refl, ap, sym}
use Rattle.choice.specs.Choice.{eq_yes, eq_no, eq_case, le_case}
use Rattle.word.specs.Word.{word_at, put_at, put_at_length}
use Rattle.bits.specs.Map.{map_words, lists}
use Rattle.script.specs.Memory.{Memory, Next, Prev, none}
use Rattle.slices.specs.Decode.{link_of, link_word, grains, top_of}
use Rattle.slices.proofs.Decode.{grains_keep}
use Rattle.slices.specs.Slices.{Slices, memory_of}
use Rattle.header.specs.Turned.{turned, grains_few, turned_in, turned_out}
use Rattle.header.specs.Told.{link_leads}

abbrev pub lent : List ℕ → List ℕ → List ℕ → List ℕ → Slices
lent a l v t = record { arena = a; lists = l; live = v; regions = t }

-- the memory that they are read as
abbrev pub held : List ℕ → List ℕ → List ℕ → List ℕ → Memory
held a l v t = memory_of 8 (lent a l v t)

-- the first-level classes, of 16 lists each
abbrev pub classes : ℕ
classes = 12

-- the table of the lists has a place for each head
abbrev pub Long : List ℕ → Type 0
Long l = map_words + lists ≤ length l

-- and k is one of the lists
pub record Room (k : ℕ) (l : List ℕ) : Type 0 where
  pub known : k < lists
  pub room : Long l

-- the word for none
abbrev pub no_link : ℕ
no_link = 18446744073709551615

-- what the word x says, as a link in the arena a
abbrev pub link : List ℕ → ℕ → ℕ
link a x = link_of 32 (grains 8 a) (top_of 8) x

-- it is none, or leads to a grain
abbrev pub Leads : List ℕ → ℕ → Type 0
Leads a x = (x ≡ no_link) ⊎ (turned x < grains 8 a)

-- the words of y, as a free block, are the links x and p
abbrev pub Holds : List ℕ → ℕ → ℕ → ℕ → Type 0
Holds a y x p = (word_at 8 a (4 * y + Next) ≡ x) × (word_at 8 a (4 * y + Prev) ≡ p)

-- a link that is not none leads to a grain
pub leads_grain : {x n : ℕ} → (x ≡ no_link) ⊎ (turned x < n) → (x ≡ no_link → ⊥) → turned x < n
leads_grain (inl e) n = absurd (n e)
leads_grain (inr h) n = h

-- only the arena's length counts
pub link_keep : (a b : List ℕ) (x : ℕ) → length b ≡ length a → link b x ≡ link a x
link_keep a b x e = ap (λ (n : ℕ). link_of 32 n (top_of 8) x) (grains_keep 8 a b e)

pub leads_keep : (a b : List ℕ) (x : ℕ) → length b ≡ length a → Leads a x → Leads b x
leads_keep a b x e (inl h) = inl h
leads_keep a b x e (inr h) = inr (rw (grains_keep 8 a b e) h)

-- a grain is one as before where a word was put
pub grain_put : (a b : List ℕ) (i v y : ℕ) → b ≡ put_at 8 a i v → y < grains 8 a → y < grains 8 b
grain_put a b i v y e h = rw (grains_keep 8 a b (ap length e ∙ put_at_length 8 a i v)) h

-- no grain is none
pub below_none : (a : List ℕ) → length a < 18446744073709551616 → grains 8 a ≤ none
unfolding none
below_none a s = omega (arith, grains_few a s)

module _ (a : List ℕ) (x : ℕ) (s : length a < 18446744073709551616) where
  -- the word for none says none
  pub link_none : x ≡ no_link → link a x ≡ none
  unfolding link_of
  link_none e = eq_yes x (top_of 8) _ _ e

  -- and no other does
  pub link_some : (x ≡ no_link → ⊥) → link a x ≡ none → ⊥
  unfolding link_of none
  link_some ne =
      let few = grains_few a s in
      eq_case (λ (z : ℕ). z ≡ none → ⊥) x (top_of 8) _ _ (λ e _. ne e) λ _.
      eq_case (λ (z : ℕ). z ≡ none → ⊥) (x % 32) 0 _ _
      (λ _. le_case (λ (z : ℕ). z ≡ none → ⊥) (x / 32 + 1) (grains 8 a) _ _ (λ h q. omega arith) (λ _ q. omega arith))
      (λ _ q. omega arith)

  -- the word of a grain
  pub grain_word : turned x < grains 8 a → x ≡ 32 * turned x
  grain_word h = omega (arith, turned_in (grains 8 a) x (grains_few a s) h)

  pub link_grain : turned x < grains 8 a → link a x ≡ turned x
  link_grain h = link_leads (grains 8 a) x (turned x) h (grains_few a s) (grain_word h)

  -- any other leads to no grain
  pub link_past : grains 8 a ≤ turned x → grains 8 a ≤ link a x
  unfolding link_of none
  link_past h =
      let few = grains_few a s in
      eq_case (λ (z : ℕ). grains 8 a ≤ z) x (top_of 8) _ _ (λ _. omega arith) λ _.
      eq_case (λ (z : ℕ). grains 8 a ≤ z) (x % 32) 0 _ _
      (λ e. le_case (λ (z : ℕ). grains 8 a ≤ z) (x / 32 + 1) (grains 8 a) _ _ (λ _. turned_out (grains 8 a) x h e) (λ _. omega arith))
      (λ _. omega arith)

  -- what a link that leads says is stored as the same word
  pub link_stored : Leads a x → link_word 32 (top_of 8) (link a x) ≡ x
  unfolding link_word none
  link_stored (inl e) = ap (link_word 32 (top_of 8)) (link_none e) ∙ eq_yes none none _ _ refl ∙ sym e
  link_stored (inr h) = ap (link_word 32 (top_of 8)) (link_grain h) ∙ eq_no (turned x) none _ _ (λ q. omega (arith, grains_few a s)) ∙ sym (grain_word h)

-- and so are none and a grain
pub none_stored : link_word 32 (top_of 8) none ≡ no_link
unfolding link_word
none_stored = eq_yes none none _ _ refl

pub grain_stored : (a : List ℕ) (y : ℕ) → length a < 18446744073709551616 → y < grains 8 a → link_word 32 (top_of 8) y ≡ 32 * y
unfolding link_word
grain_stored a y s h = eq_no y none _ _ (λ q. omega (arith, below_none a s))
