-- The check of a list's head, on the memory that the pieces of full length leave: the list is another than theirs. Where the
-- head is a piece or the old head of theirs, its previous link decides; any other head is seen as before.
use Rattle.std.specs.Prelude.{ℕ, suc, ◌+◌, ◌*◌, ◌≤◌, ◌<◌, ◌≡◌, refl}
use Rattle.std.proofs.Common.{arith, ap, sym, ◌∙◌, inl, inr, ⊎_elim}
use Rattle.choice.specs.Choice.{if_eq, eq_no, eq_case, le_case, same?}
use Rattle.class.specs.Class.{list_of}
use Rattle.script.specs.Memory.{Memory, Next, Prev, Mark, none, root, apply}
use Rattle.script.specs.Script.{Script, no, run, done, ◌>>◌, must_eq, Gives}
use Rattle.script.proofs.Script.{goes, halts, reads, gives_eq, halts_eq}
use Rattle.script.specs.Locality.{Reads}
use Rattle.script.proofs.Locality.{same_run}
use Rattle.sound.specs.Checks.{must_grain, must_lead, see_head}
use Rattle.sound.proofs.Seen.{gives_grain}
use Rattle.region.specs.Pushed.{head_there}
use Rattle.region.specs.Pieces.{head_of, full_writes}
use Rattle.give.specs.Behind.{Behind, row_first, row_second, row_other, row_next, row_mark}

-- ---- any memory

-- the head y of list k is a grain, but the list is not marked or something is before y
head_wrong : (n : ℕ) (m : Memory) (k y : ℕ) → n ≤ none → y < n → m Next (root k) ≡ y → (m Mark k ≡ 1 → m Prev y ≡ none → ⊥) → run m (see_head n k) ≡ no 5
unfolding see_head
head_wrong n m k y small i next_is wrong = reads m Next (root k) _ next_is ∙ reads m Mark k _ refl
    ∙ halts m (if_eq y none (must_eq (m Mark k) 0) (must_grain n y >> (must_eq (m Mark k) 1 >> must_lead Prev y none))) _
    (ap (run m) (eq_no y none _ _ (λ q. omega arith)) ∙ goes m (must_grain n y) _ (gives_grain m n y i) ∙ ⊎_elim
    (λ (e : m Mark k ≡ 1). goes m (must_eq (m Mark k) 1) _ (gives_eq m 5 (m Mark k) 1 e) ∙ reads m Prev y _ refl ∙ halts_eq m 5 (m Prev y) none (wrong e))
    (λ (e : m Mark k ≡ 1 → ⊥). halts m (must_eq (m Mark k) 1) _ (halts_eq m 5 (m Mark k) 1 e))
    (same? (m Mark k) 1))

-- two memories that have the same head, mark and previous link
head_alike : (n : ℕ) (m d : Memory) (k : ℕ) → d Next (root k) ≡ m Next (root k) → d Mark k ≡ m Mark k → d Prev (m Next (root k)) ≡ m Prev (m Next (root k))
    → run d (see_head n k) ≡ run m (see_head n k)
unfolding see_head
head_alike n m d k next_is mark_is prev_is = reads d Next (root k) _ next_is ∙ reads d Mark k _ mark_is
    ∙ same_run m d (if_eq y none (must_eq b 0) (must_grain n y >> (must_eq b 1 >> must_lead Prev y none)) >> done y) alike
    ∙ sym (reads m Next (root k) _ refl ∙ reads m Mark k _ refl)
  where
    y : ℕ
    y = m Next (root k)

    b : ℕ
    b = m Mark k

    -- what is read of the memory, behind a check
    Alike : Script (Unit {0}) → Type 0
    Alike s = (g z : ℕ) → Reads m (s >> done y) g z → d g z ≡ m g z

    must : (a c : ℕ) → Alike (must_eq a c)
    must a c = eq_case Alike a c _ _ (λ _ g z r. absurd r) (λ _ g z r. absurd r)

    lead : Alike (must_lead Prev y none)
    lead g z (inl e) = rw (e.0, e.1) prev_is
    lead g z (inr r) = must (m Prev y) none g z r

    alike : Alike (if_eq y none (must_eq b 0) (must_grain n y >> (must_eq b 1 >> must_lead Prev y none)))
    alike = eq_case Alike y none _ _ (λ _. must b 0) (λ _. le_case (λ (s : Script (Unit {0})). Alike (s >> (must_eq b 1 >> must_lead Prev y none))) (suc y) n _ _
        (λ _. eq_case (λ (s : Script (Unit {0})). Alike (s >> must_lead Prev y none)) b 1 _ _ (λ _. lead) (λ _ g z r. absurd r))
        (λ _ g z r. absurd r))

-- ---- behind i pieces from g on, put before h

module _ (m : Memory) (n g h k i : ℕ) (small : n ≤ none) (other : k ≡ list_of 4095 → ⊥) (inside : g + 4096 * i ≤ n) where
  next_same : apply m (full_writes g h i) Next (root k) ≡ m Next (root k)
  next_same = row_next m g h k other i (omega arith)

  -- the head is the last piece: it is seen where the list is marked
  pub behind_last : (j : ℕ) → i ≡ suc j → m Next (root k) ≡ g + 4096 * j → m Mark k ≡ 1 → Gives (apply m (full_writes g h i)) (see_head n k) (g + 4096 * j)
  behind_last j e q b = head_there n _ k (g + 4096 * j) small (omega arith) (next_same ∙ q) (row_mark m g h k other i ∙ b)
      (ap (λ (i : ℕ). apply m (full_writes g h i) Prev (g + 4096 * j)) e ∙ row_first m g h j)

  pub behind_unmarked : (j : ℕ) → i ≡ suc j → m Next (root k) ≡ g + 4096 * j → (m Mark k ≡ 1 → ⊥) → run (apply m (full_writes g h i)) (see_head n k) ≡ no 5
  behind_unmarked j e q b = head_wrong n _ k (g + 4096 * j) small (omega arith) (next_same ∙ q) (λ z _. b (sym (row_mark m g h k other i) ∙ z))

  -- something was put before it
  pub behind_second : (y : ℕ) → m Next (root k) ≡ y → y < n → Behind m g h i y → (y ≡ head_of g h i → ⊥) → run (apply m (full_writes g h i)) (see_head n k) ≡ no 5
  behind_second y q p b d = head_wrong n _ k y small p (next_same ∙ q) (λ _. row_second m g h y (λ z. omega arith) i (omega arith) b d)

  -- nothing was
  pub behind_other : (y : ℕ) → m Next (root k) ≡ y → (y ≡ h → h ≡ none) → ((j : ℕ) → j < i → y ≡ g + 4096 * j → ⊥)
      → run (apply m (full_writes g h i)) (see_head n k) ≡ run m (see_head n k)
  behind_other y q old new = head_alike n m _ k next_same (row_mark m g h k other i)
      (rw (← q) at (row_other m g h y old i new))
