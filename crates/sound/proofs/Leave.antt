-- What follows from specs/Leave.antt.
use Rattle.std.specs.Prelude.{ℕ, ◌+◌, ◌-◌, ◌*◌, ◌≤◌, ◌<◌, ◌≡◌, List, ◌∷◌, ◌++◌}
use Rattle.std.proofs.Common.{arith, ap, sym, subst, ⊎_elim}
use Rattle.choice.specs.Choice.{eq_yes, eq_no, upd, same?}
use Rattle.class.specs.Class.{list_of}
use Rattle.definition.specs.Blocks.{Block, free, used, total, ◌⟨⟩◌}
use Rattle.definition.specs.Lists.{Lists, push}
use Rattle.definition.specs.Calls.{leave}
use Rattle.invariants.specs.Order.{idle, Ordered, OrderedL}
use Rattle.script.specs.Memory.{Memory, Size, Before, Next, Live, Table, none, root, used_word, Write, apply, latest}
use Rattle.script.proofs.Memory.{apply_is, apply_append, apply_untouched}
use Rattle.script.specs.Script.{done, Gives}
use Rattle.script.proofs.Script.{gives_bind, gives_done, gives_le}
use Rattle.sound.specs.Row.{Row}
use Rattle.sound.specs.Checks.{see_head, must_list}
use Rattle.sound.specs.Plans.{leave_script, whole_writes, split_writes}
use Rattle.sound.specs.Core.{Core, split_size, split_before}
use Rattle.sound.proofs.Core.{row_used, row_split_used}
use Rattle.sound.specs.Relists.{Relists, NotIn, Fewer}
use Rattle.sound.proofs.Relists.{relists_push, relists_then}
use Rattle.sound.specs.Links.{push_writes}
use Rattle.sound.specs.Leave.{rest_writes, leave_writes, LeavesIn, Leaves}

-- the script plans them, where the rest has a list
pub leave_gives : (n c : ℕ) (m : Memory) (w : List Write) (x t k : ℕ) → ((j : ℕ) → Gives m (see_head n j) (m Next (root j))) → ((k ≡ t → ⊥) → list_of (t - k) < 16 * c)
    → Gives m (leave_script n c w x t k) (leave_writes m w x t k)
unfolding leave_script
leave_gives n c m w x t k heads list = ⊎_elim
    (λ (e : k ≡ t). rw (eq_yes k t (w ++ whole_writes x t) (rest_writes m w x t k) e, eq_yes k t (done (w ++ whole_writes x t)) _ e) (gives_done m _))
    (λ (ne : k ≡ t → ⊥). rw (eq_no k t (w ++ whole_writes x t) (rest_writes m w x t k) ne, eq_no k t (done (w ++ whole_writes x t)) _ ne)
    (gives_bind m (must_list c (t - k)) _ (gives_le m 5 _ _ (list ne)) (gives_bind m (see_head n (list_of (t - k))) _ (heads (list_of (t - k))) (gives_done m _))))
    (same? k t)

-- a row of two fields that are the same
pub row_as : (a b c d : ℕ → ℕ) (xs : List Block) → a ≡ b → c ≡ d → Row b d 0 none xs → Row a c 0 none xs
row_as a b c d xs p q h = subst (λ (u : ℕ → ℕ). Row u c 0 none xs) (sym p) (subst (λ (u : ℕ → ℕ). Row b u 0 none xs) (sym q) h)

module _ (m : Memory) (f g : Lists) (w : List Write) (s : Relists m f w g) (l r : List Block) (t : ℕ) (k : Core (m Size) (m Before) l t r)
    (ol : OrderedL l) (or : Ordered idle r) (pt : 1 ≤ t) where
  -- all of it is used
  whole_memory : (d : ℕ) → Leaves m f (w ++ whole_writes (total l) t) (record { blocks = l ⟨⟩ used t d ∷ r; lists = g })
  whole_memory d =
      let x = total l in
      subst (λ (u : Memory). LeavesIn m f u (record { blocks = l ⟨⟩ used t d ∷ r; lists = g })) (sym (apply_append m w (whole_writes x t)))
      (record {
        row = row_as _ _ _ _ (l ⟨⟩ used t d ∷ r)
            (ap (λ (z : ℕ → ℕ). upd z x (used_word t)) (apply_untouched m w Size (s.rest Size (omega arith) (omega arith) (omega arith))))
            (ap (λ (z : ℕ → ℕ). upd z (x + t) x) (apply_untouched m w Before (s.rest Before (omega arith) (omega arith) (omega arith))))
            (row_used (m Size) (m Before) l r t k ol idle or pt d);
        strung = record { links = s.strung.links; marks = s.strung.marks };
        quiet = s.quiet;
        live = apply_untouched m w Live (s.rest Live (omega arith) (omega arith) (omega arith));
        table = apply_untouched m w Table (s.rest Table (omega arith) (omega arith) (omega arith));
      })

-- what is left goes to the head of its list
pub leave_memory : (m : Memory) (f g : Lists) (w : List Write) → Fewer g f → Relists m f w g → (l r : List Block) (t : ℕ) → Core (m Size) (m Before) l t r
    → OrderedL l → Ordered idle r → 1 ≤ t → (k d : ℕ) → 1 ≤ k → k ≤ t → total l + t ≤ none → ((y : ℕ) → total l < y → y < total l + t → NotIn g y)
    → Leaves m f (leave_writes m w (total l) t k) (leave g l r t k d)
unfolding leave
leave_memory m f g w less s l r t co ol or pt k d pk le sm new = ⊎_elim
    (λ (e : k ≡ t). rw (eq_yes k t (w ++ whole_writes (total l) t) (rest_writes m w (total l) t k) e, eq_yes k t _ _ e) (whole_memory m f g w s l r t co ol or pt d))
    (λ (ne : k ≡ t → ⊥). rw (eq_no k t (w ++ whole_writes (total l) t) (rest_writes m w (total l) t k) ne, eq_no k t _ _ ne) (rest_memory ne))
    (same? k t)
  where
    rest_memory : (k ≡ t → ⊥) → Leaves m f (rest_writes m w (total l) t k) (record { blocks = l ⟨⟩ used k d ∷ free (t - k) ∷ r; lists = push (list_of (t - k)) (total l + k) g })
    rest_memory ne =
        let x = total l in
        let h = latest w Next (root (list_of (t - k))) (m Next (root (list_of (t - k)))) in
        let v = push_writes (list_of (t - k)) (x + k) h in
        let z : Relists m f (w ++ v) (push (list_of (t - k)) (x + k) g) = relists_then m f g (push (list_of (t - k)) (x + k) g) w v less s
        (relists_push (apply m w) g s.apiece s.real s.strung (list_of (t - k)) (x + k) h (omega (arith, ne)) (new (x + k) (omega arith) (omega (arith, ne)))
        (sym (apply_is m w Next (root (list_of (t - k)))))) in
        subst (λ (u : Memory). LeavesIn m f u (record { blocks = l ⟨⟩ used k d ∷ free (t - k) ∷ r; lists = push (list_of (t - k)) (x + k) g })) (sym (apply_append m (w ++ v) (split_writes x t k)))
        (record {
          row = row_as _ _ _ _ (l ⟨⟩ used k d ∷ free (t - k) ∷ r)
              (ap (λ (a : ℕ → ℕ). split_size a x t k) (apply_untouched m (w ++ v) Size (z.rest Size (omega arith) (omega arith) (omega arith))))
              (ap (λ (a : ℕ → ℕ). split_before a x t k) (apply_untouched m (w ++ v) Before (z.rest Before (omega arith) (omega arith) (omega arith))))
              (row_split_used (m Size) (m Before) l r t co ol idle or pt k pk (omega (arith, ne)) d);
          strung = record { links = z.strung.links; marks = z.strung.marks };
          quiet = z.quiet;
          live = apply_untouched m (w ++ v) Live (z.rest Live (omega arith) (omega arith) (omega arith));
          table = apply_untouched m (w ++ v) Table (z.rest Table (omega arith) (omega arith) (omega arith));
        })
