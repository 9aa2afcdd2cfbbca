-- What follows from specs/Laid.antt.
use Rattle.std.specs.Prelude.{ℕ, zero, suc, ◌+◌, ◌-◌, ◌%◌, ◌^◌, ◌≤◌, ◌<◌, min, ◌≡◌, refl, List, ◌∷◌}
use Rattle.std.proofs.Common.{arith, mod-eq_of_lt, ap, sym, ◌∙◌, subst, inl, inr, ⊎_elim}
use Rattle.std.proofs.Math.Nat.{add-mod_right, zero-mod}
use Rattle.choice.specs.Choice.{if_le, le?, le_yes, le_no, le_case}
use Rattle.class.specs.Class.{list_of}
use Rattle.class.proofs.Class.{list_small}
use Rattle.definition.specs.Blocks.{Block, free, last, total, ◌⟨⟩◌, gaps}
use Rattle.definition.specs.Lists.{Lists, push}
use Rattle.definition.specs.Calls.{Laid, lay}
use Rattle.invariants.specs.Order.{LeftAt}
use Rattle.invariants.proofs.Gaps.{gaps_add}
use Rattle.invariants.proofs.Regions.{two_grains, lay_old}
use Rattle.script.specs.Memory.{Memory, Write, apply}
use Rattle.script.proofs.Memory.{apply_append}
use Rattle.tags.specs.Tag.{Tag, Tagged}
use Rattle.tags.specs.Each.{Each}
use Rattle.tags.proofs.Each.{each_append}
use Rattle.tags.specs.Writes.{piece_tags}
use Rattle.tags.specs.Within.{ToTag}
use Rattle.tags.proofs.Within.{piece_field}
use Rattle.tags.proofs.Stamped.{piece_tagged}
use Rattle.chains.specs.Closed.{Headed, Ready}
use Rattle.plans.specs.Regions.{piece_size, lay_tags, lay_steps, lay_over}
use Rattle.armour.specs.Row.{Free}
use Rattle.armour.specs.Turns.{link_bounds}
use Rattle.armour.proofs.Changed.{either_headed}
use Rattle.armour.specs.Laid.{Heads}

-- what holds in both cases holds of two choices with one test
pub le_pair : {A B : Type 0} (P : A → B → Type 0) (a b : ℕ) (x y : A) (u v : B) → (a ≤ b → P x u) → (b < a → P y v) → P (if_le a b x y) (if_le a b u v)
le_pair P a b x y u v f g = ⊎_elim
    (λ (e : a ≤ b). rw (le_yes a b x y e, le_yes a b u v e) (f e))
    (λ (e : b < a). let n : a ≤ b → ⊥ = (λ q. omega arith) in rw (le_no a b x y n, le_no a b u v n) (g e))
    (le? a b)

-- ---- the blocks do not depend on the lists

pub lay_blocks : (c i : ℕ) (f g : Lists) (l : List Block) (n : ℕ) → ((lay c i f l n).left ≡ (lay c i g l n).left) × ((lay c i f l n).over ≡ (lay c i g l n).over)
unfolding lay
lay_blocks c zero f g l n = (refl, refl)
lay_blocks c (suc i) f g l n = le_pair (λ (w v : Laid). (w.left ≡ v.left) × (w.over ≡ v.over)) n 1 _ _ _ _ (λ _. (refl, refl))
    (λ _. lay_blocks c i _ _ (last ∷ free (min n (2 ^ c) - 1) ∷ l) (n - min n (2 ^ c)))

-- ---- what is left over

pub over_is : (c i : ℕ) (f : Lists) (l : List Block) (n : ℕ) → lay_over c i n ≡ (lay c i f l n).over
unfolding lay lay_over
over_is c zero f l n = refl
over_is c (suc i) f l n = le_pair (λ (w : ℕ) (v : Laid). w ≡ v.over) n 1 _ _ _ _ (λ _. refl) (λ _. over_is c i _ (last ∷ free (min n (2 ^ c) - 1) ∷ l) (n - min n (2 ^ c)))

-- ---- tags

pub lay_field : (c i x n : ℕ) → Each ToTag (lay_tags c i x n)
unfolding lay_tags
lay_field c zero x n = tt
lay_field c (suc i) x n = le_case (Each ToTag) n 1 _ _ (λ _. tt)
    (λ _. each_append ToTag (piece_tags x (piece_size c n)) (lay_tags c i (x + piece_size c n) (n - piece_size c n)) (piece_field x (piece_size c n)) (lay_field c i (x + piece_size c n) (n - piece_size c n)))

pub lay_tagged : (c i : ℕ) (f : Lists) (m : Memory) (l r : List Block) (x n : ℕ) → 1 ≤ c → x ≡ total l → Tagged (m Tag) 0 (l ⟨⟩ gaps n r)
    → Tagged (apply m (lay_tags c i x n) Tag) 0 ((lay c i f l n).left ⟨⟩ gaps (lay c i f l n).over r)
unfolding lay lay_tags
lay_tagged c zero f m l r x n big e h = h
lay_tagged c (suc i) f m l r x n big e h = le_pair (λ (w : List Write) (v : Laid). Tagged (apply m w Tag) 0 (v.left ⟨⟩ gaps v.over r)) n 1 _ _ _ _ (λ _. h)
    (λ a.
    let k = min n (2 ^ c) in
    let g : n ≡ k + (n - k) = omega arith in
    let w = piece_tags x k in
    let v = lay_tags c i (x + k) (n - k) in
    let p : Tagged (apply m (piece_tags (total l) k) Tag) 0 (l ⟨⟩ free (k - 1) ∷ last ∷ gaps (n - k) r) = piece_tagged m l (gaps (n - k) r) k (omega (arith, two_grains c big))
    (subst (λ (zs : List Block). Tagged (m Tag) 0 (l ⟨⟩ zs)) (ap (λ (j : ℕ). gaps j r) g ∙ gaps_add k (n - k) r) h) in
    subst (λ (u : Memory). Tagged (u Tag) 0 ((lay c i (push (list_of (k - 1)) (total l) f) (last ∷ free (k - 1) ∷ l) (n - k)).left ⟨⟩ gaps (lay c i (push (list_of (k - 1)) (total l) f) (last ∷ free (k - 1) ∷ l) (n - k)).over r))
    (sym (apply_append m w v))
    (lay_tagged c i (push (list_of (k - 1)) (total l) f) (apply m w) (last ∷ free (k - 1) ∷ l) r (x + k) (n - k) big (omega (arith, two_grains c big))
    (subst (λ (y : ℕ). Tagged (apply m (piece_tags y k) Tag) 0 (l ⟨⟩ free (k - 1) ∷ last ∷ gaps (n - k) r)) (sym e) p)))

-- ---- steps

pub lay_ready : (c i : ℕ) (f : Lists) (m : Memory) (xs ys : List Block) (l r : List Block) (x n : ℕ) → 1 ≤ c → x ≡ total l → Heads c (Headed (Free xs) m) n
    → ((y s : ℕ) → LeftAt y (free s) (lay c i f l n).left → Free ys y) → Ready (link_bounds c xs ys) m (lay_steps c i x n)
unfolding lay lay_steps
lay_ready c zero f m xs ys l r x n big e h new = tt
lay_ready c (suc i) f m xs ys l r x n big e h new = ⊎_elim
    (λ (a : n ≤ 1). rw (le_yes n 1 _ _ a) tt)
    (λ (a : 1 < n).
    let k = min n (2 ^ c) in
    let b : n ≤ 1 → ⊥ = (λ q. omega arith) in
    let g = push (list_of (k - 1)) (total l) f in
    let old : (y s : ℕ) → LeftAt y (free s) (lay c i g (last ∷ free (k - 1) ∷ l) (n - k)).left → Free ys y = λ y s q.
    new y s (subst (λ (w : Laid). LeftAt y (free s) w.left) (sym (le_no n 1 (record { left = l; over = n; lists = f }) (lay c i g (last ∷ free (k - 1) ∷ l) (n - k)) b)) q) in
    let two = two_grains c big in
    rw (le_no n 1 _ _ b) (
      (
        list_small (k - 1) (omega arith) c (omega arith),
        inr (subst (Free ys) (sym e) (old (total l) (k - 1) (lay_old c big i g (last ∷ free (k - 1) ∷ l) (n - k) (total l) (free (k - 1)) (inr (inl (refl, refl)))))),
        either_headed c m xs ys (list_of (min n (2 ^ c) - 1)) (head_of a),
      ),
      lay_ready c i g m xs ys (last ∷ free (k - 1) ∷ l) r (x + k) (n - k) big (omega arith) others old,
    ))
    (le? n 1)
  where
    head_of : 1 < n → Headed (Free xs) m (list_of (min n (2 ^ c) - 1))
    head_of a = ⊎_elim
        (λ (q : 2 ^ c ≤ n). let z : 2 ^ c ≡ min n (2 ^ c) = omega arith in subst (λ (k : ℕ). Headed (Free xs) m (list_of (k - 1))) z (h.full q))
        (λ (q : n < 2 ^ c). let z : n ≡ min n (2 ^ c) = omega arith in
        subst (λ (k : ℕ). Headed (Free xs) m (list_of (k - 1))) z (subst (λ (k : ℕ). Headed (Free xs) m (list_of (k - 1))) (mod-eq_of_lt q) (h.short (omega (arith, mod-eq_of_lt q)))))
        (le? (2 ^ c) n)

    others : Heads c (Headed (Free xs) m) (n - min n (2 ^ c))
    others = ⊎_elim
        (λ (q : 2 ^ c ≤ n). let z : n - min n (2 ^ c) ≡ n - 2 ^ c = omega arith in
        let w : (n - 2 ^ c) % 2 ^ c ≡ n % 2 ^ c = sym (add-mod_right (n - 2 ^ c) (2 ^ c)) ∙ ap (λ (j : ℕ). j % 2 ^ c) (let v : n - 2 ^ c + 2 ^ c ≡ n = omega arith in v) in
        subst (Heads c (Headed (Free xs) m)) (sym z) (record {
          full = λ g. h.full q;
          short = λ g. subst (λ (k : ℕ). Headed (Free xs) m (list_of (k - 1))) (sym w) (h.short (omega (arith, w)));
        }))
        (λ (q : n < 2 ^ c). let z : n - min n (2 ^ c) ≡ 0 = omega arith in
        subst (Heads c (Headed (Free xs) m)) (sym z) (record { full = λ g. absurd (omega arith); short = λ g. absurd (omega (arith, zero-mod (2 ^ c))) }))
        (le? (2 ^ c) n)
