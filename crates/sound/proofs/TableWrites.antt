-- What follows from specs/TableWrites.antt.
use Rattle.std.specs.Prelude.{ℕ, suc, ◌+◌, ◌-◌, ◌*◌, ◌%◌, ◌≡◌, refl, List, [], ◌++◌}
use Rattle.std.proofs.Common.{arith, ap, ◌∙◌}
use Rattle.choice.specs.Choice.{if_eq, eq_case, le_case, upd_same}
use Rattle.class.specs.Class.{list_of}
use Rattle.definition.specs.Calls.{place, keeps}
use Rattle.script.specs.Memory.{Memory, Prev, Table, none, Write, apply, Untouched}
use Rattle.script.proofs.Memory.{apply_append, untouched_append}
use Rattle.script.specs.Script.{done, stop, Gives, unless_le, must_eq, must_le, over, Ends}
use Rattle.script.proofs.Script.{ends_bind, ends_any, ends_over, ends_gives, inv_get}
use Rattle.sound.proofs.Strung.{unlink_untouched, push_untouched}
use Rattle.sound.specs.Checks.{word_of, as_free, as_busy, must_grain, must_back, must_list, see_head, see_behind, see_before, see_owner, Beside, nobody, somebody}
use Rattle.sound.specs.Plans.{Plan, leave_script, pad_writes, whole_writes, split_writes, free_writes, leaves, afterwards, both_leave, room_of, take_script, join_script, give_back_script, elsewhere_script, down_script, move_script, stretch_script, grow_script, resize_script}
use Rattle.sound.specs.RegionPlan.{see_regions, lay_script, region_script}
use Rattle.sound.specs.Links.{unlink_writes, push_writes}
use Rattle.sound.specs.TableWrites.{Spared}

-- ---- take, return and resize

-- a block leaves its list, or joins one
unlinked : (k x p : ℕ) → Untouched Table (unlink_writes k x p)
unlinked = unlink_untouched Table (omega arith) (omega arith) (omega arith)

pushed : (k y h : ℕ) → Untouched Table (push_writes k y h)
pushed = push_untouched Table (omega arith) (omega arith) (omega arith)

-- the word before a payload
padded : (x d : ℕ) → Untouched Table (pad_writes x d)
padded x d = eq_case (Untouched Table) (d % 2) 0 _ _ (λ _. ((omega arith), tt)) (λ _. tt)

-- free neighbours leave their lists
left : (b : Beside) → Untouched Table (leaves b)
left nobody = tt
left (somebody t e) = unlinked (list_of t) e.next e.prev

both_left : (a : Beside) (z : ℕ) (b : Beside) → Untouched Table (both_leave a z b)
both_left a z b = untouched_append Table (leaves a) _ (left a) (left (afterwards (leaves a) z b))

-- what is not needed is left
leave_table : (n c : ℕ) (w : List Write) (x t k : ℕ) → Untouched Table w → Ends (Untouched Table) (leave_script n c w x t k)
unfolding leave_script
leave_table n c w x t k h = eq_case (Ends (Untouched Table)) k t _ _
    (λ _. untouched_append Table w (whole_writes x t) h ((omega arith), ((omega arith), tt)))
    (λ _. ends_any _ (must_list c (t - k)) _ λ _. ends_any _ (see_head n (list_of (t - k))) _ λ g.
    untouched_append Table (w ++ push_writes (list_of (t - k)) (x + k) _) (split_writes x t k)
    (untouched_append Table w _ h (pushed (list_of (t - k)) (x + k) _)) ((omega arith), ((omega arith), ((omega arith), ((omega arith), tt)))))

-- a take
pub take_table : (n c p a : ℕ) → Ends Spared (take_script n c p a)
unfolding take_script
take_table n c p a k =
    ends_any _ (unless_le 1 (suc k) (16 * c)) _ λ _ y.
    ends_any _ (must_grain n y) _ λ _ v.
    ends_any _ (as_free (word_of v)) _ λ s.
    ends_any _ (must_eq (list_of s) k) _ λ _ u.
    ends_any _ (must_eq u none) _ λ _ x.
    ends_any _ (must_back n Prev x y) _ λ _ b.
    ends_any _ (as_busy (word_of b)) _ λ _ e.
    ends_any _ (must_eq e y) _ λ _.
    ends_bind (Untouched Table) _ (leave_script n c (unlink_writes k x none) y s (keeps (place a y) p)) _ (leave_table n c (unlink_writes k x none) y s (keeps (place a y) p) (unlinked k x none)) λ w h.
    untouched_append Table w _ h (untouched_append Table (pad_writes y (place a y)) _ (padded y (place a y)) ((omega arith), tt))

-- a return
pub back_table : (n c q : ℕ) → Ends Spared (give_back_script n c q)
unfolding give_back_script join_script
back_table n c q =
    ends_any _ (see_owner q) _ λ o.
    ends_any _ (see_behind n c (o.at + o.grains)) _ λ a.
    ends_any _ (see_before n c o.at) _ λ b.
    let z = o.at - room_of b in
    let t = room_of b + (o.grains + room_of a) in
    ends_any _ (must_list c t) _ λ _.
    ends_any _ (see_head n (list_of t)) _ λ h.
    untouched_append Table (both_leave a z b ++ push_writes (list_of t) z _) (free_writes q z t)
    (untouched_append Table (both_leave a z b) _ (both_left a z b) (pushed (list_of t) z _)) ((omega arith), ((omega arith), ((omega arith), tt)))

-- step 4 of a resize
elsewhere_table : (n c q p a u : ℕ) → Ends Spared (elsewhere_script n c q p a u)
unfolding elsewhere_script
elsewhere_table n c q p a u =
    ends_bind Spared _ (take_script n c p a) _ (take_table n c p a) λ t h.
    ends_bind Spared _ (over t.writes (give_back_script n c q)) _ (ends_over Spared t.writes (give_back_script n c q) (back_table n c q)) λ b g.
    untouched_append Table t.writes b.writes h g

-- a resize
pub resize_table : (n c q p a : ℕ) → Ends Spared (resize_script n c q p a)
unfolding resize_script grow_script stretch_script move_script down_script
resize_table n c q p a =
    ends_any _ (see_owner q) _ λ o.
    eq_case (Ends Spared) (keeps (q - 2 * o.at) p) o.grains _ _ (λ _. tt) λ _.
    ends_any _ (see_behind n c (o.at + o.grains)) _ λ b.
    le_case (Ends Spared) (keeps (q - 2 * o.at) p) (o.grains + room_of b) _ _
    (λ _. ends_bind (Untouched Table) _ (leave_script n c (leaves b) o.at (o.grains + room_of b) (keeps (q - 2 * o.at) p)) _
    (leave_table n c (leaves b) o.at (o.grains + room_of b) (keeps (q - 2 * o.at) p) (left b)) λ w h. h)
    (λ _. ends_any _ (see_before n c o.at) _ λ f.
    let z = o.at - room_of f in
    eq_case (Ends Spared) (room_of f) 0 _ _ (λ _. elsewhere_table n c q p a _) λ _.
    le_case (Ends Spared) (keeps (place a z) p) (room_of f + (o.grains + room_of b)) _ _
    (λ _. ends_bind (Untouched Table) _ (leave_script n c _ _ _ _) _ (leave_table n c (both_leave b z f) z (room_of f + (o.grains + room_of b)) (keeps (place a z) p) (both_left b z f)) λ w h.
    untouched_append Table w _ h (untouched_append Table (pad_writes z (place a z)) _ (padded z (place a z)) ((omega arith), ((omega arith), tt))))
    (λ _. elsewhere_table n c q p a _))

-- ---- regions

-- the last word written is the number of regions
pub region_table : (most join n c g len : ℕ) (m : Memory) (t : Plan) → Gives m (region_script most join n c g len) t → apply m t.writes Table 0 ≡ suc (m Table 0)
unfolding region_script
region_table most join n c g len m t k =
    let r = m Table 0 in
    ends_gives (λ (t : Plan). apply m t.writes Table 0 ≡ suc r) m _
    (ends_any _ (if_eq r most (stop 6) (done (tt {0}))) _ λ _.
    ends_any _ (unless_le 4 2 len) _ λ _.
    ends_any _ (unless_le 4 (g + len) n) _ λ _.
    ends_any _ (must_le r most) _ λ _.
    ends_any _ (see_regions n g len r 0 (record { meets = 0; wrong = 0 })) _ λ l.
    ends_any _ (unless_le 4 join l.meets) _ λ _.
    ends_any _ (must_eq l.wrong 0) _ λ _.
    ends_any _ (lay_script n c len [] g len) _ λ w.
    ap (λ (d : Memory). d Table 0) (apply_append m w.writes _) ∙ upd_same _ 0 (suc r) 0 refl)
    (inv_get m Table 0 _ k)
