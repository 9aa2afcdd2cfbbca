-- The writes of unlinking a block and of pushing one, as the code makes them: in parts, each with its own choice.
use Rattle.std.specs.Prelude.{ℕ, ◌+◌, ◌*◌, ◌<◌, ◌≡◌, refl, List, [], ◌∷◌, ◌++◌, length}
use Rattle.std.proofs.Common.{arith, ap, sym, ◌∙◌, subst, ⊎_elim}
use Rattle.choice.specs.Choice.{if_eq, eq_yes, eq_no, eq_case, same?}
use Rattle.word.specs.Word.{put_at}
use Rattle.table.specs.Table.{entry, enter, enter_own}
use Rattle.bits.specs.Map.{map_words, mark_bit, unmark_bit}
use Rattle.script.specs.Memory.{Next, Prev, Mark, none, root, Write, ◌at◌≔◌}
use Rattle.sound.specs.Links.{node, unlink_writes, push_writes}
use Rattle.slices.specs.Decode.{grains}
use Rattle.header.specs.Turned.{turned}
use Rattle.free_list.specs.Lent.{no_link, link, Leads, leads_grain, link_keep, below_none, link_none, link_some, link_grain, link_stored, none_stored, grain_stored}
use Rattle.free_list.specs.Written.{Written, written_none, written_then, written_as, written_length, wrote_prev, wrote_next, wrote_head, wrote_mark, wrote_unmark}

-- ---- unlinking

-- x behind what is before it
abbrev pub join_next : ℕ → ℕ → ℕ → List Write
join_next k x p = (Next at node k p ≔ x) ∷ []

-- p before what is behind it; a list without blocks is not marked
abbrev pub join_prev : ℕ → ℕ → ℕ → List Write
join_prev k x p = if_eq x none (if_eq p none ((Mark at k ≔ 0) ∷ []) []) ((Prev at x ≔ p) ∷ [])

module _ (a l : List ℕ) (k x p : ℕ) (s : length a < 18446744073709551616) (f : Leads a x) (g : Leads a p) where
  -- the head
  pub next_head : (m : List ℕ) → p ≡ no_link → m ≡ enter l (map_words + k) x → Written a l (join_next k (link a x) (link a p)) a m
  next_head m e q = written_as (ap (λ (y : ℕ). (Next at y ≔ link a x) ∷ []) (eq_yes (link a p) none _ _ (link_none a p s e)))
      (wrote_head a l m k (link a x) x (link_stored a x s f) q)

  -- the next of the grain y
  pub next_grain : (b : List ℕ) (y : ℕ) → (p ≡ no_link → ⊥) → y ≡ turned p → b ≡ put_at 8 a (4 * y + Next) x → Written a l (join_next k (link a x) (link a p)) b l
  next_grain b y n e q =
      let h = leads_grain g n in
      let d : node k (link a p) ≡ y = eq_no (link a p) none _ _ (link_some a p s n) ∙ link_grain a p s h ∙ sym e in
      written_as (ap (λ (y : ℕ). (Next at y ≔ link a x) ∷ []) d)
      (wrote_next a l b y (link a x) x (omega (arith, h, below_none a s)) (link_stored a x s f) q)

  -- the previous of the grain y
  pub prev_grain : (b : List ℕ) (y : ℕ) → (x ≡ no_link → ⊥) → y ≡ turned x → b ≡ put_at 8 a (4 * y + Prev) p → Written a l (join_prev k (link a x) (link a p)) b l
  prev_grain b y n e q =
      let d : link a x ≡ y = link_grain a x s (leads_grain f n) ∙ sym e in
      written_as (eq_no (link a x) none _ _ (link_some a x s n) ∙ ap (λ (y : ℕ). (Prev at y ≔ link a p) ∷ []) d)
      (wrote_prev a l b y (link a p) p (link_stored a p s g) q)

  -- nothing, behind a block that is the last
  pub prev_last : x ≡ no_link → (p ≡ no_link → ⊥) → Written a l (join_prev k (link a x) (link a p)) a l
  prev_last e n = written_as (eq_yes (link a x) none _ _ (link_none a x s e) ∙ eq_no (link a p) none _ _ (link_some a p s n)) (written_none a l)

  -- the mark, where it was the only one
  pub prev_only : (m : List ℕ) → x ≡ no_link → p ≡ no_link → m ≡ unmark_bit l k → Written a l (join_prev k (link a x) (link a p)) a m
  prev_only m e d q = written_as (eq_yes (link a x) none _ _ (link_none a x s e) ∙ eq_yes (link a p) none _ _ (link_none a p s d)) (wrote_unmark a l m k q)

  -- where nothing hangs on whether p is none: the head's word is stored in either case
  pub next_led : (b m : List ℕ) (h : ℕ) → b ≡ if_eq p no_link a (put_at 8 a (4 * turned p + Next) x) → h ≡ if_eq p no_link x (entry l (map_words + k)) → m ≡ enter l (map_words + k) h
      → Written a l (join_next k (link a x) (link a p)) b m
  next_led b m h q c d = ⊎_elim
      (λ (e : p ≡ no_link).
      subst (λ (w : List ℕ). Written a l (join_next k (link a x) (link a p)) w m) (sym (q ∙ eq_yes p no_link _ _ e))
      (next_head m e (d ∙ ap (enter l (map_words + k)) (c ∙ eq_yes p no_link _ _ e))))
      (λ (n : p ≡ no_link → ⊥).
      subst (λ (w : List ℕ). Written a l (join_next k (link a x) (link a p)) b w) (sym (d ∙ ap (enter l (map_words + k)) (c ∙ eq_no p no_link _ _ n) ∙ enter_own l (map_words + k)))
      (next_grain b (turned p) n refl (q ∙ eq_no p no_link _ _ n)))
      (same? p no_link)

  -- nor on whether x is: w is none where both are
  pub prev_led : (b m : List ℕ) (w : ℕ) → b ≡ if_eq x no_link a (put_at 8 a (4 * turned x + Prev) p) → w ≡ if_eq p no_link x p → m ≡ if_eq w no_link (unmark_bit l k) l
      → Written a l (join_prev k (link a x) (link a p)) b m
  prev_led b m w q c d = ⊎_elim
      (λ (e : x ≡ no_link). subst (λ (z : List ℕ). Written a l (join_prev k (link a x) (link a p)) z m) (sym (q ∙ eq_yes x no_link _ _ e)) (last e))
      (λ (n : x ≡ no_link → ⊥). marked b (λ r. n (both r).0) (prev_grain b (turned x) n refl (q ∙ eq_no x no_link _ _ n)))
      (same? x no_link)
    where
      both : w ≡ no_link → (x ≡ no_link) × (p ≡ no_link)
      both r = ⊎_elim
          (λ (y : p ≡ no_link). (sym (c ∙ eq_yes p no_link x p y) ∙ r, y))
          (λ (n : p ≡ no_link → ⊥). absurd (n (sym (c ∙ eq_no p no_link x p n) ∙ r)))
          (same? p no_link)

      -- the table stays where they are not
      marked : (z : List ℕ) → (w ≡ no_link → ⊥) → Written a l (join_prev k (link a x) (link a p)) z l → Written a l (join_prev k (link a x) (link a p)) z m
      marked z n h = subst (λ (o : List ℕ). Written a l (join_prev k (link a x) (link a p)) z o) (sym (d ∙ eq_no w no_link _ _ n)) h

      last : x ≡ no_link → Written a l (join_prev k (link a x) (link a p)) a m
      last e = ⊎_elim
          (λ (y : p ≡ no_link). prev_only m e y (d ∙ eq_yes w no_link _ _ (c ∙ eq_yes p no_link x p y ∙ e)))
          (λ (n : p ≡ no_link → ⊥). marked a (λ r. n (both r).1) (prev_last e n))
          (same? p no_link)

-- both
pub unlinked : (k x p : ℕ) {a l b m c o : List ℕ} → Written a l (join_next k (link a x) (link a p)) b m → Written b m (join_prev k (link b x) (link b p)) c o
    → Written a l (unlink_writes k (link a x) (link a p)) c o
unlinked k x p {a} {b = b} f g =
    let e = written_length f in
    written_then f (written_as (ap (λ (z : ℕ). join_prev k z (link a p)) (sym (link_keep a b x e)) ∙ ap (λ (z : ℕ). join_prev k (link b x) z) (sym (link_keep a b p e))) g)

-- ---- pushing

-- y before h; a list with a block is marked
abbrev pub join_head : ℕ → ℕ → ℕ → List Write
join_head k y h = if_eq h none ((Mark at k ≔ 1) ∷ []) ((Prev at h ≔ y) ∷ [])

-- the links of y, and the head
abbrev entry_writes : ℕ → ℕ → ℕ → List Write
entry_writes k y h = (Prev at y ≔ none) ∷ (Next at y ≔ h) ∷ (Next at root k ≔ y) ∷ []

push_parts : (k y h : ℕ) → push_writes k y h ≡ join_head k y h ++ entry_writes k y h
push_parts k y h = eq_case (λ (w : List Write). push_writes k y h ≡ w ++ entry_writes k y h) h none _ _
    (λ e. eq_yes h none _ _ e)
    (λ n. eq_no h none _ _ n)

module _ (a l : List ℕ) (k y h : ℕ) (s : length a < 18446744073709551616) (i : y < grains 8 a) where
  pub head_none : (m : List ℕ) → h ≡ no_link → m ≡ mark_bit l k → Written a l (join_head k y (link a h)) a m
  head_none m e q = written_as (eq_yes (link a h) none _ _ (link_none a h s e)) (wrote_mark a l m k q)

  -- the previous of the grain g; z is the word of y
  pub head_some : Leads a h → (b : List ℕ) (g z : ℕ) → (h ≡ no_link → ⊥) → g ≡ turned h → z ≡ 32 * y → b ≡ put_at 8 a (4 * g + Prev) z → Written a l (join_head k y (link a h)) b l
  head_some f b g z n e d q =
      let c : link a h ≡ g = link_grain a h s (leads_grain f n) ∙ sym e in
      written_as (eq_no (link a h) none _ _ (link_some a h s n) ∙ ap (λ (x : ℕ). (Prev at x ≔ y) ∷ []) c)
      (wrote_prev a l b g y z (grain_stored a y s i ∙ sym d) q)

  -- all of them
  pub pushed : Leads a h → {b m c o : List ℕ} (z : ℕ) → z ≡ 32 * y → Written a l (join_head k y (link a h)) b m
      → c ≡ put_at 8 (put_at 8 b (4 * y + Prev) no_link) (4 * y + Next) h → o ≡ enter m (map_words + k) z → Written a l (push_writes k y (link a h)) c o
  pushed f {b} {m} {c} {o} z d w p q =
      written_as (push_parts k y (link a h))
      (written_then w
      (written_then (wrote_prev b m (put_at 8 b (4 * y + Prev) no_link) y none no_link none_stored refl)
      (written_then (wrote_next (put_at 8 b (4 * y + Prev) no_link) m c y (link a h) h (omega (arith, below_none a s)) (link_stored a h s f) p)
      (wrote_head c m o k y z (grain_stored a y s i ∙ sym d) q))))
