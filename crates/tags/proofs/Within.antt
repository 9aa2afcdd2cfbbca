-- What follows from specs/Within.antt.
use Rattle.std.specs.Prelude.{ℕ, ◌+◌, ◌-◌, ◌/◌, ◌≤◌, ◌≡◌, refl, List, ◌++◌, length}
use Rattle.std.proofs.Common.{arith, length-append}
use Rattle.choice.specs.Choice.{eq_case, le_case}
use Rattle.invariants.specs.Order.{Inside}
use Rattle.script.specs.Memory.{Write, ◌at◌≔◌}
use Rattle.tags.specs.Tag.{Tag, flags, first_tag}
use Rattle.tags.specs.Each.{Each}
use Rattle.tags.proofs.Each.{each_append}
use Rattle.tags.specs.Writes.{lay_pad_tags, clear_pad_tags, split_tags, clear_after_tags, clear_before_tags, clear_room_tags, allocate_tags, deallocate_tags, stretch_tags, down_tags, piece_tags}
use Rattle.tags.specs.Within.{ToTag, Within}

-- ---- to the field of tags alone

module _ (P : Write → Type 0) (h : (y v : ℕ) → P (Tag at y ≔ v)) where
  split_each : (x s k d : ℕ) → Each P (split_tags x s k d)
  split_each x s k d = eq_case (Each P) k s _ _ (λ _. (h _ _, tt)) (λ _. (h _ _, (h _ _, (h _ _, tt))))

  allocate_each : (x s k d : ℕ) → Each P (allocate_tags x s k d)
  allocate_each x s k d = (h _ _, each_append P (lay_pad_tags x d) (split_tags x s k d) (le_case (Each P) 2 (d / 2) _ _ (λ _. (h _ _, tt)) (λ _. tt)) (split_each x s k d))

  -- a used block goes, and then comes what is in l
  clear_each : (x s d a b : ℕ) (l : List Write) → Each P l → Each P (clear_pad_tags x d ++ (clear_after_tags (x + s) b ++ (clear_before_tags x a ++ l)))
  clear_each x s d a b l i = each_append P (clear_pad_tags x d) _ (le_case (Each P) 2 (d / 2) _ _ (λ _. (h _ _, tt)) (λ _. tt))
      (each_append P (clear_after_tags (x + s) b) _ (eq_case (Each P) b 0 _ _ (λ _. tt) (λ _. (h _ _, tt)))
      (each_append P (clear_before_tags x a) l (eq_case (Each P) a 0 _ _ (λ _. tt) (λ _. (h _ _, (h _ _, tt)))) i))

  stretch_each : (x s d b k : ℕ) → Each P (stretch_tags x s d b k)
  stretch_each x s d b k = each_append P (clear_room_tags (x + s) b) _ (eq_case (Each P) b 0 _ _ (λ _. tt) (λ _. (h _ _, (h _ _, tt)))) (split_each x (s + b) k d)

pub allocate_field : (x s k d : ℕ) → Each ToTag (allocate_tags x s k d)
allocate_field x s k d = allocate_each ToTag (λ y v. refl) x s k d

pub deallocate_field : (x s d a b : ℕ) → Each ToTag (deallocate_tags x s d a b)
deallocate_field x s d a b = clear_each ToTag (λ y v. refl) x s d a b _ (refl, (refl, tt))

pub stretch_field : (x s d b k : ℕ) → Each ToTag (stretch_tags x s d b k)
stretch_field x s d b k = stretch_each ToTag (λ y v. refl) x s d b k

pub down_field : (x s e a b k d : ℕ) → Each ToTag (down_tags x s e a b k d)
down_field x s e a b k d = clear_each ToTag (λ y v. refl) x s e a b _ (allocate_field (x - a) (a + (s + b)) k d)

pub piece_field : (x k : ℕ) → Each ToTag (piece_tags x k)
piece_field x k = (refl, (refl, (refl, tt)))

-- ---- how many

lay_pad_length : (x d : ℕ) → length (lay_pad_tags x d) ≤ 1
lay_pad_length x d = le_case (λ (w : List Write). length w ≤ 1) 2 (d / 2) _ _ (λ _. omega arith) (λ _. omega arith)

split_length : (x s k d : ℕ) → length (split_tags x s k d) ≤ 3
split_length x s k d = eq_case (λ (w : List Write). length w ≤ 3) k s _ _ (λ _. omega arith) (λ _. omega arith)

clear_length : (x s d a b n : ℕ) (l : List Write) → length l ≤ n → length (clear_pad_tags x d ++ (clear_after_tags (x + s) b ++ (clear_before_tags x a ++ l))) ≤ n + 4
clear_length x s d a b n l h = rw (length-append, length-append, length-append) (omega (arith, pad, after, before))
  where
    pad : length (clear_pad_tags x d) ≤ 1
    pad = le_case (λ (w : List Write). length w ≤ 1) 2 (d / 2) _ _ (λ _. omega arith) (λ _. omega arith)

    after : length (clear_after_tags (x + s) b) ≤ 1
    after = eq_case (λ (w : List Write). length w ≤ 1) b 0 _ _ (λ _. omega arith) (λ _. omega arith)

    before : length (clear_before_tags x a) ≤ 2
    before = eq_case (λ (w : List Write). length w ≤ 2) a 0 _ _ (λ _. omega arith) (λ _. omega arith)

pub allocate_length : (x s k d : ℕ) → length (allocate_tags x s k d) ≤ 5
allocate_length x s k d = rw length-append (omega (arith, lay_pad_length x d, split_length x s k d))

pub deallocate_length : (x s d a b : ℕ) → length (deallocate_tags x s d a b) ≤ 6
deallocate_length x s d a b = clear_length x s d a b 2 _ (omega arith)

pub stretch_length : (x s d b k : ℕ) → length (stretch_tags x s d b k) ≤ 5
stretch_length x s d b k = rw length-append (omega (arith, room, split_length x (s + b) k d))
  where
    room : length (clear_room_tags (x + s) b) ≤ 2
    room = eq_case (λ (w : List Write). length w ≤ 2) b 0 _ _ (λ _. omega arith) (λ _. omega arith)

pub down_length : (x s e a b k d : ℕ) → length (down_tags x s e a b k d) ≤ 9
down_length x s e a b k d = clear_length x s e a b 5 _ (allocate_length (x - a) (a + (s + b)) k d)

pub piece_length : (x k : ℕ) → length (piece_tags x k) ≤ 3
piece_length x k = omega arith

-- ---- where: inside the n grains at x, with a count of at most n

-- the first tag's count is the block's size
first_count : (k d : ℕ) → first_tag k d / flags ≡ k
first_count k d = eq_case (λ (v : ℕ). v / flags ≡ k) d 1 _ _ (λ _. omega arith) (λ _. eq_case (λ (v : ℕ). v / flags ≡ k) d 2 _ _ (λ _. omega arith) (λ _. omega arith))

split_within : (x s k d : ℕ) → 1 ≤ k → k ≤ s → Each (Within x s) (split_tags x s k d)
split_within x s k d p q = eq_case (Each (Within x s)) k s _ _ (λ _. (first, tt))
    (λ n. (first, ((omega arith, omega (arith, n), omega arith), ((omega arith, omega (arith, n), omega arith), tt))))
  where
    first : Within x s (Tag at x ≔ first_tag k d)
    first = (omega arith, omega arith, omega (arith, first_count k d))

module _ (x s d a b : ℕ) (p : 1 ≤ s) (i : Inside s d) (q : a ≤ x) where
  abbrev P : Write → Type 0
  P = Within (x - a) (a + (s + b))

  clear_within : (l : List Write) → Each P l → Each P (clear_pad_tags x d ++ (clear_after_tags (x + s) b ++ (clear_before_tags x a ++ l)))
  clear_within l h = each_append P (clear_pad_tags x d) _ (le_case (Each P) 2 (d / 2) _ _ (λ e. ((omega arith, omega (arith, i.within), omega arith), tt)) (λ _. tt))
      (each_append P (clear_after_tags (x + s) b) _ (eq_case (Each P) b 0 _ _ (λ _. tt) (λ n. ((omega arith, omega (arith, n), omega arith), tt)))
      (each_append P (clear_before_tags x a) l (eq_case (Each P) a 0 _ _ (λ _. tt) (λ n. ((omega arith, omega arith, omega arith), ((omega (arith, n), omega arith, omega arith), tt)))) h))

pub allocate_within : (x s k d : ℕ) → 1 ≤ k → k ≤ s → Inside k d → Each (Within x s) (allocate_tags x s k d)
allocate_within x s k d p q i = (
  (omega arith, omega arith, omega arith),
  each_append (Within x s) (lay_pad_tags x d) (split_tags x s k d)
      (le_case (Each (Within x s)) 2 (d / 2) _ _ (λ e. ((omega arith, omega (arith, i.within), omega (arith, i.within)), tt)) (λ _. tt))
      (split_within x s k d p q),
)

pub deallocate_within : (x s d a b : ℕ) → 1 ≤ s → Inside s d → a ≤ x → Each (Within (x - a) (a + (s + b))) (deallocate_tags x s d a b)
deallocate_within x s d a b p i q = clear_within x s d a b p i q _ ((omega arith, omega arith, omega arith), ((omega arith, omega arith, omega arith), tt))

pub stretch_within : (x s d b k : ℕ) → 1 ≤ k → k ≤ s + b → Each (Within x (s + b)) (stretch_tags x s d b k)
stretch_within x s d b k p q = each_append (Within x (s + b)) (clear_room_tags (x + s) b) _
    (eq_case (Each (Within x (s + b))) b 0 _ _ (λ _. tt) (λ n. ((omega arith, omega (arith, n), omega arith), ((omega (arith, n), omega (arith, n), omega arith), tt))))
    (split_within x (s + b) k d p q)

pub down_within : (x s e a b k d : ℕ) → 1 ≤ s → Inside s e → a ≤ x → 1 ≤ k → k ≤ a + (s + b) → Inside k d → Each (Within (x - a) (a + (s + b))) (down_tags x s e a b k d)
down_within x s e a b k d p i q u v j = clear_within x s e a b p i q _ (allocate_within (x - a) (a + (s + b)) k d u v j)

pub piece_within : (x k : ℕ) → 2 ≤ k → Each (Within x k) (piece_tags x k)
piece_within x k p = ((omega arith, omega arith, omega arith), ((omega arith, omega arith, omega arith), ((omega arith, omega arith, omega arith), tt)))
