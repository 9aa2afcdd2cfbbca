-- Take: on a sound memory its script does what the definition says.
use Rattle.std.specs.Prelude.{ℕ, suc, ◌+◌, ◌-◌, ◌*◌, ◌≤◌, ◌<◌, ◌≡◌, List, [], ◌∷◌, ◌++◌}
use Rattle.std.proofs.Common.{arith, ap, ◌∙◌, subst, inl, inr}
use Rattle.std.proofs.Math.Path.{refl, sym}
use Rattle.bits.specs.First.{first_set}
use Rattle.bits.proofs.First.{first_is}
use Rattle.class.specs.Class.{list_of, start_of}
use Rattle.class.proofs.Class.{list_small}
use Rattle.definition.specs.Blocks.{Block, free, used, total, ◌⟨⟩◌}
use Rattle.definition.specs.Lists.{Lists, drop, Found, nothing, found, search}
use Rattle.definition.specs.Calls.{Heap, leave, wanted, place, keeps, take, take_at}
use Rattle.invariants.specs.Order.{order_split, BlockAt, at_here, Apart, same, before, behind}
use Rattle.invariants.proofs.Order.{total_zip, apart, at_whole}
use Rattle.invariants.specs.Members.{Mem, mem_drop}
use Rattle.invariants.specs.Moves.{Ok}
use Rattle.invariants.specs.Placing.{Align}
use Rattle.invariants.proofs.Placing.{align_pos, place_some, keeps_some, keeps_wanted}
use Rattle.invariants.specs.Promises.{sought, search_empty}
use Rattle.invariants.proofs.Promises.{finds, take_found, leave_here, leave_keeps, leave_only}
use Rattle.script.specs.Memory.{Memory, Size, Before, Next, Prev, Mark, Live, none, root, Write, ◌at◌≔◌, apply}
use Rattle.script.specs.Script.{run, no, Gives, unless_le, must_eq}
use Rattle.script.proofs.Script.{gives_bind, gives_get, gives_done, gives_eq, gives_le, halts, halts_le, searches}
use Rattle.sound.specs.Strung.{Strung, Marked}
use Rattle.sound.specs.Sound.{Sound}
use Rattle.sound.specs.Checks.{must_grain, must_free, must_lead, must_back, must_busy}
use Rattle.sound.specs.Plans.{Plan, take_script, leave_script, pad_writes}
use Rattle.sound.specs.Meets.{Grants, Meets}
use Rattle.sound.proofs.Core.{core_free}
use Rattle.sound.specs.Relists.{Relists, NotIn}
use Rattle.sound.proofs.Relists.{relists_drop}
use Rattle.sound.specs.Leave.{leave_writes}
use Rattle.sound.proofs.Leave.{leave_gives, leave_memory}
use Rattle.sound.specs.Swaps.{Swaps}
use Rattle.sound.proofs.Swaps.{lively_add}
use Rattle.sound.proofs.Finish.{finish_memory}
use Rattle.sound.proofs.Settle.{settle, leave_total}
use Rattle.sound.specs.Seen.{FreeFacts}
use Rattle.sound.proofs.Seen.{free_facts, lists_real, head_seen, free_seen, head_leads, head_prev, head_back, gives_lead, gives_grain}
use Rattle.sound.specs.SeenBeside.{Here}
use Rattle.sound.specs.Links.{unlink_writes}
use Rattle.invariants.proofs.Gaps.{gap_free}

-- ---- the search of the map finds the list that the definition finds

unmarked : (v : ℕ) (l : List ℕ) → l ≡ [] → Marked v l → v ≡ 1 → ⊥
unmarked v l e h p = let z : v ≡ 0 = subst (Marked v) e h in omega arith

marked : (v x : ℕ) (l r : List ℕ) → l ≡ x ∷ r → Marked v l → v ≡ 1
marked v x l r e h = subst (Marked v) e h

module _ (m : Memory) (f : Lists) (s : Strung m f) (i k : ℕ) where
  pub map_none : search f i k ≡ nothing → first_set (m Mark) i k ≡ k + i
  map_none e = first_is (m Mark) i k (k + i) (omega arith) (omega arith)
      (λ j a b. unmarked (m Mark j) (f j) (search_empty f i k e j a b) (s.marks j)) (λ h. absurd (omega arith))

  pub map_found : (j y : ℕ) → search f i k ≡ found j y → first_set (m Mark) i k ≡ j
  map_found j y e =
      let d = finds f i k j y e in
      first_is (m Mark) i k j d.low (omega (arith, d.high))
      (λ u a b. unmarked (m Mark u) (f u) (d.first u a b) (s.marks u)) (λ _. marked (m Mark j) y (f j) d.rest d.list (s.marks j))

-- ---- the block at the head of the list

module _ (n c p a : ℕ) (m : Memory) (f : Lists) (l r : List Block) (s : ℕ) (al : Align a) (o : Sound n c m (Here f l (free s) r)) (rest : List ℕ) (li : f (list_of s) ≡ total l ∷ rest)
    (enough : wanted p a ≤ s) (fs : first_set (m Mark) (16 * c - start_of (wanted p a)) (start_of (wanted p a)) ≡ list_of s)
    (ok : Ok c (leave (drop (list_of s) (total l) f) l r s (keeps (place a (total l)) p) (place a (total l)))) where
  y : ℕ
  y = total l

  facts : FreeFacts n c m (total l) s
  facts = free_facts n c m (Here f l (free s) r) o (total l) s (at_here l r (free s))

  keep_some : 1 ≤ keeps (place a (total l)) p
  keep_some = keeps_some (place a (total l)) p (place_some a (total l) (align_pos a al))

  keep_fits : keeps (place a (total l)) p ≤ s
  keep_fits = omega (arith, keeps_wanted a (total l) p (align_pos a al))

  out : List Write
  out = unlink_writes (list_of s) (m Next (total l)) none

  member : Mem (total l) (f (list_of s))
  member = rw li (inl refl)

  first_prev : m Prev (total l) ≡ none
  first_prev = head_prev n c m (Here f l (free s) r) o (list_of s) (total l) rest li

  gone : Relists m f (unlink_writes (list_of s) (m Next (total l)) none) (drop (list_of s) (total l) f)
  gone = relists_drop m f o.heap.exact.apiece (lists_real n c m (Here f l (free s) r) o) o.strung (list_of s) (total l) (m Next (total l)) none member refl (sym first_prev)

  -- inside the block no other starts
  new : (u : ℕ) → total l < u → u < total l + s → NotIn (drop (list_of s) (total l) f) u
  new u g h k i =
      let t = o.heap.exact.there k u (mem_drop f o.heap.exact.apiece (list_of s) (total l) k u i) in
      go t.0 (at_whole u (free t.0) 0 _ (l ⟨⟩ free s ∷ r) o.heap.order t.1) (apart (total l) u 0 (free s) (free t.0) (l ⟨⟩ free s ∷ r) (at_here l r (free s)) t.1)
    where
      go : (t : ℕ) → 1 ≤ t → Apart (total l) (free s) u (free t) → ⊥
      go t q (same e v) = omega arith
      go t q (before e) = omega arith
      go t q (behind e) = omega arith

  after : Heap
  after = leave (drop (list_of s) (total l) f) l r s (keeps (place a (total l)) p) (place a (total l))

  rests : (keeps (place a (total l)) p ≡ s → ⊥) → list_of (s - keeps (place a (total l)) p) < 16 * c
  rests ne = list_small (s - keeps (place a (total l)) p) (omega (arith, ne, keep_fits)) c (omega (arith, facts.listed))

  pub the_plan : Plan
  the_plan = record {
    answer = 2 * total l + place a (total l);
    writes = leave_writes m (unlink_writes (list_of s) (m Next (total l)) none) (total l) s (keeps (place a (total l)) p)
        ++ (pad_writes (total l) (place a (total l)) ++ ((Live at 2 * total l + place a (total l) ≔ 1) ∷ []));
    moved = 0;
    early = 0;
  }

  take_gives : Gives m (take_script n c p a) the_plan
  unfolding take_script the_plan
  take_gives =
      let x = total l in
      let h = Here f l (free s) r in
      searches m (16 * c - start_of (wanted p a)) (start_of (wanted p a)) _ fs
      ∙ gives_bind m (unless_le 1 (suc (list_of s)) (16 * c)) _ (gives_le m 1 _ _ facts.list)
      (gives_get m Next (root (list_of s)) _ (head_leads n c m h o (list_of s) x rest li)
      (gives_bind m (must_grain n x) _ (gives_grain m n x (omega (arith, facts.inside)))
      (gives_bind m (must_free x) _ (free_seen n c m h o x s (at_here l r (free s)))
      (gives_bind m (must_eq (list_of s) (list_of s)) _ (gives_eq m 5 _ _ refl)
      (gives_bind m (must_lead Prev x none) _ (gives_lead m Prev x none first_prev)
      (gives_get m Next x _ refl
      (gives_bind m (must_back n Prev (m Next x) x) _ (head_back n c m h o (list_of s) x rest li)
      (gives_bind m (must_busy (x + s)) _ facts.busy
      (gives_bind m (must_lead Before (x + s) x) _ (gives_lead m Before (x + s) x facts.behind)
      (gives_bind m (leave_script n c (unlink_writes (list_of s) (m Next x) none) x s (keeps (place a x) p)) _
      (leave_gives n c m (unlink_writes (list_of s) (m Next x) none) x s (keeps (place a x) p) (head_seen n c m h o) rests) (gives_done m _)))))))))))

  swaps : Swaps (l ⟨⟩ free s ∷ r) (leave (drop (list_of s) (total l) f) l r s (keeps (place a (total l)) p) (place a (total l))).blocks (total l) (free s) (total l) (used (keeps (place a (total l)) p) (place a (total l)))
  swaps = record {
    forth = λ u b v i. inr (leave_keeps (drop (list_of s) (total l) f) l r s (keeps (place a (total l)) p) (place a (total l)) keep_fits u b v i);
    back = λ u b v i. leave_only (drop (list_of s) (total l) f) l r s (keeps (place a (total l)) p) (place a (total l)) keep_fits u b v i;
  }

  here : BlockAt (total l) (used (keeps (place a (total l)) p) (place a (total l))) 0 (leave (drop (list_of s) (total l) f) l r s (keeps (place a (total l)) p) (place a (total l))).blocks
  here = leave_here (drop (list_of s) (total l) f) l r s (keeps (place a (total l)) p) (place a (total l)) keep_fits

  -- where the block is free none is in use
  not_yet : BlockAt (total l) (used (keeps (place a (total l)) p) (place a (total l))) 0 (l ⟨⟩ free s ∷ r) → ⊥
  not_yet b = go (apart (total l) (total l) 0 (free s) (used (keeps (place a (total l)) p) (place a (total l))) (l ⟨⟩ free s ∷ r) (at_here l r (free s)) b)
    where
      go : Apart (total l) (free s) (total l) (used (keeps (place a (total l)) p) (place a (total l))) → ⊥
      go (same e v) = let z : ◌≡◌ {A = ℕ} 0 1 = cc in omega arith
      go (before e) = omega (arith, facts.some)
      go (behind e) = omega (arith, keep_some)

  take_sound : Sound n c (apply m the_plan.writes) (leave (drop (list_of s) (total l) f) l r s (keeps (place a (total l)) p) (place a (total l)))
  unfolding the_plan
  take_sound =
      let x = total l in
      let d = place a x in
      let k = keeps d p in
      let g = leave (drop (list_of s) x f) l r s k d in
      let w = unlink_writes (list_of s) (m Next x) none in
      let i = order_split l (free s ∷ r) o.heap.order in
      let wh : total l + (total r + s) ≡ n = sym (total_zip l (free s ∷ r)) ∙ o.whole in
      let lv = leave_memory m f (drop (list_of s) x f) w (λ j u q. mem_drop f o.heap.exact.apiece (list_of s) x j u q) gone l r s (core_free (m Size) (m Before) l r s o.row)
      i.0 i.1.2 i.1.1 k d keep_some keep_fits (omega (arith, o.small)) new in
      let fin = finish_memory c m f (leave_writes m w x s k) g x k d ((Live at 2 * x + d ≔ 1) ∷ []) lv ok here (refl, tt) in
      let tt' : total g.blocks ≡ total (l ⟨⟩ free s ∷ r) = leave_total (drop (list_of s) x f) l r s k d keep_fits ∙ omega (arith, total_zip l (free s ∷ r)) in
      settle n c m _ (Here f l (free s) r) g o ok x (free s) x k d swaps gap_free here not_yet tt' _ fin
      (lively_add m _ (l ⟨⟩ free s ∷ r) g.blocks o.lively x (free s) x k d (λ v. v) swaps here fin.live)

  pub take_grants : Grants n c m (take_script n c p a) (2 * total l + place a (total l)) (leave (drop (list_of s) (total l) f) l r s (keeps (place a (total l)) p) (place a (total l)))
  unfolding the_plan
  take_grants = record { plan = the_plan; gives = take_gives; answer = refl; sound = take_sound }

-- ---- take

-- the parts of the list of blocks given
take_there : (n c p a : ℕ) (m : Memory) (f : Lists) (xs l r : List Block) (s j y : ℕ) → Align a → Sound n c m (record { blocks = xs; lists = f })
    → search f (16 * c - start_of (wanted p a)) (start_of (wanted p a)) ≡ found j y → xs ≡ l ⟨⟩ free s ∷ r → y ≡ total l → list_of s ≡ j → wanted p a ≤ s
    → Ok c (leave (drop j y f) l r s (keeps (place a y) p) (place a y))
    → Grants n c m (take_script n c p a) (2 * y + place a y) (leave (drop j y f) l r s (keeps (place a y) p) (place a y))
take_there n c p a m f xs l r s j y al o e b q i w ok =
    let g = finds f (16 * c - start_of (wanted p a)) (start_of (wanted p a)) j y e in
    let o' : Sound n c m (Here f l (free s) r) = subst (λ (u : List Block). Sound n c m (record { blocks = u; lists = f })) b o in
    subst (λ (u : ℕ). Grants n c m (take_script n c p a) (2 * u + place a u) (leave (drop j u f) l r s (keeps (place a u) p) (place a u))) (sym q)
    (subst (λ (u : ℕ). Grants n c m (take_script n c p a) (2 * total l + place a (total l)) (leave (drop u (total l) f) l r s (keeps (place a (total l)) p) (place a (total l)))) i
    (take_grants n c p a m f l r s al o' g.rest (ap f i ∙ g.list ∙ ap (λ (u : ℕ). u ∷ g.rest) q) w
    (map_found m f o.strung (16 * c - start_of (wanted p a)) (start_of (wanted p a)) j y e ∙ sym i)
    (subst (λ (u : ℕ). Ok c (leave (drop u (total l) f) l r s (keeps (place a (total l)) p) (place a (total l)))) (sym i)
    (subst (λ (u : ℕ). Ok c (leave (drop j u f) l r s (keeps (place a u) p) (place a u))) q ok))))

-- no list: refused with 1
take_no : (n c p a : ℕ) (m : Memory) (f : Lists) → Strung m f → search f (16 * c - start_of (wanted p a)) (start_of (wanted p a)) ≡ nothing → run m (take_script n c p a) ≡ no 1
unfolding take_script
take_no n c p a m f s e =
    let k = start_of (wanted p a) in
    let q = map_none m f s (16 * c - k) k e in
    searches m (16 * c - k) k _ refl ∙ halts m (unless_le 1 (suc (first_set (m Mark) (16 * c - k) k)) (16 * c)) _ (halts_le m 1 _ _ (omega arith))

pub take_meets : (n c p a : ℕ) (m : Memory) (h : Heap) → Align a → Sound n c m h → Meets n c m (take_script n c p a) (take c h p a)
unfolding take take_at
take_meets n c p a m h al o = go (sought c h p a) refl
  where
    go : (w : Found) → sought c h p a ≡ w → Meets n c m (take_script n c p a) (take c h p a)
    go nothing e = subst (λ (w : Found). Meets n c m (take_script n c p a) (take_at h p a w)) (sym e) (take_no n c p a m h.lists o.strung e)
    go (found j y) e =
        let t = take_found c h p a j y o.heap al e in
        subst (Meets n c m (take_script n c p a)) (sym t.answer)
        (take_there n c p a m h.lists h.blocks t.l t.r t.s j y al o e t.whole t.stands t.list t.enough t.ok)
