-- Constant cost: on any memory, damaged or not, take, return and resize read at most so many words, search the map at most
-- once, and write at most so many words. The numbers are in the statements.
use Rattle.std.specs.Prelude.{ℕ, suc, ◌+◌, ◌-◌, ◌*◌, ◌%◌, ◌≤◌, List, ◌∷◌, length}
use Rattle.std.proofs.Common.{arith, length-append}
use Rattle.choice.specs.Choice.{eq_case, le_case}
use Rattle.class.specs.Class.{list_of}
use Rattle.definition.specs.Calls.{place, keeps}
use Rattle.script.specs.Memory.{Next, Prev, none, Write, ◌at◌≔◌}
use Rattle.script.specs.Script.{Script, unless_le, must_eq, over, AtMost, few_bind, Ends}
use Rattle.script.proofs.Script.{few_eq, few_le, few_then, few_after, over_few, ends_bind, ends_any, ends_over}
use Rattle.sound.specs.Checks.{word_of, as_free, as_busy, must_grain, must_back, must_list, see_head, see_behind, see_before, see_owner, Beside, nobody, somebody}
use Rattle.sound.proofs.Checks.{few_back, few_head, few_behind, few_before, few_owner, few_free, few_busy}
use Rattle.sound.specs.Plans.{Plan, leave_script, pad_writes, leaves, afterwards, both_leave, room_of, take_script, join_script, give_back_script, elsewhere_script, down_script, move_script, stretch_script, grow_script, resize_script}
use Rattle.sound.specs.Links.{node, unlink_writes, push_writes}

-- ---- reads

few_leave : (n c : ℕ) (w : List Write) (x t k : ℕ) → AtMost 0 (leave_script n c w x t k) 3
unfolding leave_script
few_leave n c w x t k = eq_case (λ (s : Script (List Write)). AtMost 0 s 3) k t _ _ (λ _. tt)
    (λ _. few_then 0 (must_list c (t - k)) _ 3 (few_le 0 5 _ _) λ _. few_bind 0 (see_head n (list_of (t - k))) _ 3 0 (few_head n (list_of (t - k))) λ _. tt)

-- a take: ten words, and one search of the map
pub take_reads : (n c p a : ℕ) → AtMost 1 (take_script n c p a) 10
unfolding take_script
take_reads n c p a k =
    few_then 0 (unless_le 1 (suc k) (16 * c)) _ 10 (few_le 0 1 _ _) λ _ y.
    few_then 0 (must_grain n y) _ 9 (few_le 0 5 _ _) λ _ v.
    few_then 0 (as_free (word_of v)) _ 8 (few_free 0 (word_of v)) λ s.
    few_then 0 (must_eq (list_of s) k) _ 8 (few_eq 0 5 _ _) λ _ u.
    few_then 0 (must_eq u none) _ 7 (few_eq 0 5 _ _) λ _ x.
    few_bind 0 (must_back n Prev x y) _ 1 5 (few_back n Prev x y) λ _ b.
    few_then 0 (as_busy (word_of b)) _ 4 (few_busy 0 (word_of b)) λ _ e.
    few_then 0 (must_eq e y) _ 3 (few_eq 0 5 _ _) λ _.
    few_bind 0 (leave_script n c (unlink_writes k x none) y s (keeps (place a y) p)) _ 3 0 (few_leave n c (unlink_writes k x none) y s (keeps (place a y) p)) λ _. tt

few_join : (n c q z t : ℕ) (w : List Write) → AtMost 0 (join_script n c q z t w) 3
unfolding join_script
few_join n c q z t w = few_then 0 (must_list c t) _ 3 (few_le 0 5 _ _) λ _. few_bind 0 (see_head n (list_of t)) _ 3 0 (few_head n (list_of t)) λ _. tt

-- a return: 24 words
pub back_reads : (n c q : ℕ) → AtMost 0 (give_back_script n c q) 24
unfolding give_back_script
back_reads n c q =
    few_bind 0 (see_owner q) _ 4 20 (few_owner q) λ o.
    few_bind 0 (see_behind n c _) _ 9 11 (few_behind n c _) λ a.
    few_bind 0 (see_before n c _) _ 8 3 (few_before n c _) λ b. few_join n c q _ _ _

few_elsewhere : (n c q p a u : ℕ) → AtMost 1 (elsewhere_script n c q p a u) 34
unfolding elsewhere_script
few_elsewhere n c q p a u = few_after 1 (take_script n c p a) _ 10 24 (take_reads n c p a) λ t.
    few_bind 0 (over t.writes (give_back_script n c q)) _ 24 0 (over_few 0 t.writes (give_back_script n c q) 24 (back_reads n c q)) λ _. tt

few_down : (n c q p a u z t : ℕ) (w : List Write) → AtMost 1 (down_script n c q p a u z t w) 34
unfolding down_script
few_down n c q p a u z t w = le_case (λ (s : Script Plan). AtMost 1 s 34) (keeps (place a z) p) t _ _
    (λ _. few_bind 1 (leave_script n c w z t (keeps (place a z) p)) _ 3 31 (few_leave n c w z t (keeps (place a z) p)) λ _. tt)
    (λ _. few_elsewhere n c q p a u)

few_move : (n c q p a x s : ℕ) (b : Beside) → AtMost 1 (move_script n c q p a x s b) 42
unfolding move_script
few_move n c q p a x s b =
    few_bind 1 (see_before n c x) _ 8 34 (few_before n c x) λ f.
    eq_case (λ (s : Script Plan). AtMost 1 s 34) (room_of f) 0 _ _ (λ _. few_elsewhere n c q p a _) (λ _. few_down n c q p a _ _ _ _)

-- a resize: 55 words, and one search of the map
pub resize_reads : (n c q p a : ℕ) → AtMost 1 (resize_script n c q p a) 55
unfolding resize_script grow_script stretch_script
resize_reads n c q p a =
    few_bind 1 (see_owner q) _ 4 51 (few_owner q) λ o.
    eq_case (λ (s : Script Plan). AtMost 1 s 51) (keeps (q - 2 * o.at) p) o.grains _ _ (λ _. tt) λ _.
    few_bind 1 (see_behind n c (o.at + o.grains)) _ 9 42 (few_behind n c (o.at + o.grains)) λ b.
    le_case (λ (s : Script Plan). AtMost 1 s 42) (keeps (q - 2 * o.at) p) (o.grains + room_of b) _ _
    (λ _. few_bind 1 (leave_script n c _ _ _ _) _ 3 39 (few_leave n c (leaves b) o.at (o.grains + room_of b) (keeps (q - 2 * o.at) p)) λ _. tt)
    (λ _. few_move n c q p a o.at o.grains b)

-- ---- writes

unlink_length : (k x p : ℕ) → length (unlink_writes k x p) ≤ 2
unlink_length k x p = eq_case (λ (w : List Write). length ((Next at node k p ≔ x) ∷ w) ≤ 2) x none _ _
    (λ _. eq_case (λ (w : List Write). length ((Next at node k p ≔ x) ∷ w) ≤ 2) p none _ _ (λ _. omega arith) (λ _. omega arith)) (λ _. omega arith)

push_length : (k y h : ℕ) → length (push_writes k y h) ≤ 4
push_length k y h = eq_case (λ (w : List Write). length w ≤ 4) h none _ _ (λ _. omega arith) (λ _. omega arith)

pad_length : (x d : ℕ) → length (pad_writes x d) ≤ 1
pad_length x d = eq_case (λ (w : List Write). length w ≤ 1) (d % 2) 0 _ _ (λ _. omega arith) (λ _. omega arith)

leaves_length : (b : Beside) → length (leaves b) ≤ 2
leaves_length nobody = omega arith
leaves_length (somebody t e) = unlink_length (list_of t) e.next e.prev

both_length : (a : Beside) (z : ℕ) (b : Beside) → length (both_leave a z b) ≤ 4
both_length a z b = rw length-append (omega (arith, leaves_length a, leaves_length (afterwards (leaves a) z b)))

-- three parts, of known lengths at the most
three : {a b c : ℕ} (i j k : ℕ) → a ≤ i → b ≤ j → c ≤ k → a + b + c ≤ i + (j + k)
three i j k p q r = omega arith

leave_length : (n c : ℕ) (w : List Write) (x t k i : ℕ) → length w ≤ i → Ends (λ v. length v ≤ i + 8) (leave_script n c w x t k)
unfolding leave_script
leave_length n c w x t k i h = eq_case (Ends (λ v. length v ≤ i + 8)) k t _ _
    (λ _. rw length-append (omega arith))
    (λ _. ends_any _ (must_list c (t - k)) _ λ _. ends_any _ (see_head n (list_of (t - k))) _ λ g.
    rw (length-append, length-append) (three i 4 4 h (push_length _ _ _) (omega arith)))

-- a take: 12 words
pub take_writes : (n c p a : ℕ) → Ends (λ (t : Plan). length t.writes ≤ 12) (take_script n c p a)
unfolding take_script
take_writes n c p a k =
    ends_any _ (unless_le 1 (suc k) (16 * c)) _ λ _ y.
    ends_any _ (must_grain n y) _ λ _ v.
    ends_any _ (as_free (word_of v)) _ λ s.
    ends_any _ (must_eq (list_of s) k) _ λ _ u.
    ends_any _ (must_eq u none) _ λ _ x.
    ends_any _ (must_back n Prev x y) _ λ _ b.
    ends_any _ (as_busy (word_of b)) _ λ _ e.
    ends_any _ (must_eq e y) _ λ _.
    ends_bind (λ w. length w ≤ 10) _ (leave_script n c (unlink_writes k x none) y s (keeps (place a y) p)) _ (leave_length n c (unlink_writes k x none) y s (keeps (place a y) p) 2 (unlink_length k x none)) λ w h.
    rw (length-append, length-append) (omega (arith, pad_length y (place a y)))

join_length : (n c q z t : ℕ) (w : List Write) → length w ≤ 4 → Ends (λ (p : Plan). length p.writes ≤ 11) (join_script n c q z t w)
unfolding join_script
join_length n c q z t w i =
    ends_any _ (must_list c t) _ λ _.
    ends_any _ (see_head n (list_of t)) _ λ h.
    rw (length-append, length-append) (three 4 4 3 i (push_length _ _ _) (omega arith))

-- a return: 11 words
pub back_writes_lem : (n c q : ℕ) → Ends (λ (t : Plan). length t.writes ≤ 11) (give_back_script n c q)
unfolding give_back_script
back_writes_lem n c q =
    ends_any _ (see_owner q) _ λ o.
    ends_any _ (see_behind n c _) _ λ a.
    ends_any _ (see_before n c _) _ λ b.
    join_length n c q _ _ _ (both_length a (o.at - room_of b) b)

elsewhere_writes : (n c q p a u : ℕ) → Ends (λ (t : Plan). length t.writes ≤ 23) (elsewhere_script n c q p a u)
unfolding elsewhere_script
elsewhere_writes n c q p a u =
    ends_bind (λ (t : Plan). length t.writes ≤ 12) _ (take_script n c p a) _ (take_writes n c p a) λ t h.
    ends_bind (λ (t : Plan). length t.writes ≤ 11) _ (over t.writes (give_back_script n c q)) _ (ends_over _ t.writes (give_back_script n c q) (back_writes_lem n c q)) λ b g.
    rw length-append (omega arith)

-- a resize: 23 words, beside what it moves
pub resize_writes : (n c q p a : ℕ) → Ends (λ (t : Plan). length t.writes ≤ 23) (resize_script n c q p a)
unfolding resize_script grow_script stretch_script move_script down_script
resize_writes n c q p a =
    ends_any _ (see_owner q) _ λ o.
    eq_case (Ends (λ (t : Plan). length t.writes ≤ 23)) (keeps (q - 2 * o.at) p) o.grains _ _ (λ _. omega arith) λ _.
    ends_any _ (see_behind n c (o.at + o.grains)) _ λ b.
    le_case (Ends (λ (t : Plan). length t.writes ≤ 23)) (keeps (q - 2 * o.at) p) (o.grains + room_of b) _ _
    (λ _. ends_bind (λ w. length w ≤ 10) _ (leave_script n c (leaves b) o.at (o.grains + room_of b) (keeps (q - 2 * o.at) p)) _
    (leave_length n c (leaves b) o.at (o.grains + room_of b) (keeps (q - 2 * o.at) p) 2 (leaves_length b)) λ w h. omega arith)
    (λ _. ends_any _ (see_before n c o.at) _ λ f.
    eq_case (Ends (λ (t : Plan). length t.writes ≤ 23)) (room_of f) 0 _ _ (λ _. elsewhere_writes n c q p a _) λ _.
    le_case (Ends (λ (t : Plan). length t.writes ≤ 23)) (keeps (place a (o.at - room_of f)) p) (room_of f + (o.grains + room_of b)) _ _
    (λ _. ends_bind (λ w. length w ≤ 12) _ (leave_script n c _ _ _ _) _ (leave_length n c _ _ _ _ 4 (both_length b (o.at - room_of f) f)) λ w h.
    rw (length-append, length-append) (omega (arith, pad_length (o.at - room_of f) (place a (o.at - room_of f)))))
    (λ _. elsewhere_writes n c q p a _))
