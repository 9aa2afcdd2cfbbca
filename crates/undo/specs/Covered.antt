-- Writes that go to nothing but what was saved leave all else as it was.
use Rattle.std.specs.Prelude.{ℕ, suc, ◌+◌, ◌-◌, ◌*◌, ◌/◌, ◌≤◌, ◌<◌, ◌≡◌, List, [], ◌∷◌, ◌++◌, ◌⊎◌}
use Rattle.std.proofs.Common.{arith, ◌∙◌, subst, inl, inr}
use Rattle.choice.specs.Choice.{eq_case, le_case}
use Rattle.word.specs.Number.{Apart}
use Rattle.table.specs.Table.{enter_length, entry_other}
use Rattle.bits.proofs.TableBit.{set_table_length, clear_table_length, set_table_entry, clear_table_entry}
use Rattle.bits.specs.Map.{map_words}
use Rattle.bits.proofs.Map.{mark_length, unmark_length, mark_entry, unmark_entry}
use Rattle.bits.specs.Map.{lists as list_count}
use Rattle.script.specs.Memory.{Size, Before, Next, Prev, Mark, Live, none, pick, Write}
use Rattle.slices.specs.Arena.{put_size, put_link}
use Rattle.slices.proofs.Arena.{put_size_length, put_link_length, put_size_byte, put_link_byte}
use Rattle.slices.specs.Heads.{put_head}
use Rattle.slices.specs.Slices.{Slices, store_at, store, stores}
use Rattle.slices.proofs.Fields.{by_field}
use Rattle.undo.specs.declared.Saved.{Saved}
use Rattle.undo.specs.Agree.{Clear, Agree, agree_refl, agree_trans, Else, Alike, alike_refl, alike_trans}
use Rattle.undo.specs.Saved.{words_of, entries_of}

-- ---- one of some places

abbrev pub In : ℕ → List ℕ → Type 0
In i [] = ⊥
In i (k ∷ p) = (k ≡ i) ⊎ In i p

clear_in : (i j : ℕ) (p : List ℕ) → In i p → Clear j p → Apart (8 * i) 8 j 1
clear_in i j [] x'' c = elim x'' [ ]
clear_in i j (k ∷ p) (inl e) c = subst (λ (z : ℕ). Apart (8 * z) 8 j 1) e c.0
clear_in i j (k ∷ p) (inr h) c = clear_in i j p h c.1

else_in : (i j : ℕ) (p : List ℕ) → In i p → Else j p → i ≡ j → ⊥
else_in i j [] x3 c q = elim x3 [ ]
else_in i j (k ∷ p) (inl e) c q = c.0 (e ∙ q)
else_in i j (k ∷ p) (inr h) c q = else_in i j p h c.1 q

-- ---- one write

-- T is S, but for what was saved in s
pub record Same (s : Saved) (S T : Slices) : Type 0 where
  pub arena : Agree S.arena T.arena (words_of s)
  pub lists : Alike S.lists T.lists (entries_of s)
  pub live : Alike S.live T.live (s.live.at ∷ [])

-- x writes to what was saved in s
abbrev pub Covered : Saved → Write → Type 0
Covered s x =
    pick x.field Size (In (4 * x.place) (words_of s))
    (pick x.field Before (In (4 * x.place + Before) (words_of s))
    (pick x.field Next (((none < x.place) × In (map_words + (x.place - suc none)) (entries_of s)) ⊎ ((x.place ≤ none) × In (4 * x.place + Next) (words_of s)))
    (pick x.field Prev (In (4 * x.place + Prev) (words_of s))
    (pick x.field Mark (x.place < list_count)
    (pick x.field Live (s.live.at ≡ x.place / 64)
    (Unit {0}))))))

abbrev pub AllCovered : Saved → List Write → Type 0
AllCovered s [] = Unit {0}
AllCovered s (x ∷ w) = Covered s x × AllCovered s w

pub covered_then : (s : Saved) (p q : List Write) → AllCovered s p → AllCovered s q → AllCovered s (p ++ q)
covered_then s [] q a b = b
covered_then s (x ∷ p) q a b = (a.0, covered_then s p q a.1 b)

module _ (s : Saved) where
  size_agrees : (a : List ℕ) (g v : ℕ) → In (4 * g) (words_of s) → Agree a (put_size 8 a g v) (words_of s)
  size_agrees a g v h = record { size = put_size_length 8 a g v; same = λ j c. put_size_byte 8 a g v j (clear_in (4 * g) j (words_of s) h c) }

  link_agrees : (a : List ℕ) (f g v : ℕ) → In (4 * g + f) (words_of s) → Agree a (put_link 8 a f g v) (words_of s)
  link_agrees a f g v h = record { size = put_link_length 8 a f g v; same = λ j c. put_link_byte 8 a f g v j (clear_in (4 * g + f) j (words_of s) h c) }

  head_alike : (l : List ℕ) (k v : ℕ) → In (map_words + k) (entries_of s) → Alike l (put_head 32 l k v) (entries_of s)
  unfolding put_head
  head_alike l k v h = record { size = enter_length l (map_words + k) _; same = λ j c. entry_other l (map_words + k) _ j (else_in (map_words + k) j (entries_of s) h c) }

  -- an entry behind the map
  behind : (j : ℕ) → Else j (entries_of s) → map_words ≤ j
  behind j c = past j c.0 c.1.0 c.1.1.0
    where
      past : (j : ℕ) → (0 ≡ j → ⊥) → (1 ≡ j → ⊥) → (2 ≡ j → ⊥) → 3 ≤ j
      past j p q r = omega (arith, p, q, r)

  store_same : (S : Slices) (x : Write) → Covered s x → Same s S (store 8 S x)
  store_same S x = by_field (λ f. Covered s (record { field = f; place = p; value = v }) → Same s S (store_at 8 S f p v))
      (λ h. arena_only (size_agrees a p v h))
      (λ h. arena_only (link_agrees a Before p v h))
      (λ h. record {
        arena = le_case (λ (b : List ℕ). Agree a b (words_of s)) (suc none) p _ _ (λ _. agree_refl a (words_of s)) (λ k. link_agrees a Next p v (low h k));
        lists = le_case (λ (m : List ℕ). Alike l m (entries_of s)) (suc none) p _ _ (λ k. head_alike l (p - suc none) v (high h k)) (λ _. alike_refl l (entries_of s));
        live = alike_refl o (s.live.at ∷ []);
      })
      (λ h. arena_only (link_agrees a Prev p v h))
      (λ h. record {
        arena = agree_refl a (words_of s);
        lists = eq_case (λ (m : List ℕ). Alike l m (entries_of s)) v 0 _ _
            (λ _. record { size = unmark_length l p; same = λ j c. unmark_entry l p h j (behind j c) })
            (λ _. record { size = mark_length l p; same = λ j c. mark_entry l p h j (behind j c) });
        live = alike_refl o (s.live.at ∷ []);
      })
      (λ h. record {
        arena = agree_refl a (words_of s);
        lists = alike_refl l (entries_of s);
        live = eq_case (λ (m : List ℕ). Alike o m (s.live.at ∷ [])) v 0 _ _
            (λ _. record { size = clear_table_length o p; same = λ j c. clear_table_entry o p j (λ e. c.0 (h ∙ e)) })
            (λ _. record { size = set_table_length o p; same = λ j c. set_table_entry o p j (λ e. c.0 (h ∙ e)) });
      })
      (λ h. arena_only (agree_refl a (words_of s)))
      (λ f h. arena_only (agree_refl a (words_of s)))
      x.field
    where
      p : ℕ
      p = x.place

      v : ℕ
      v = x.value

      a : List ℕ
      a = S.arena

      l : List ℕ
      l = S.lists

      o : List ℕ
      o = S.live

      arena_only : {b c : List ℕ} → Agree a b (words_of s) → Same s S (record { arena = b; lists = l; live = o; regions = c })
      arena_only g = record { arena = g; lists = alike_refl l (entries_of s); live = alike_refl o (s.live.at ∷ []) }

      low : ((none < p) × In (map_words + (p - suc none)) (entries_of s)) ⊎ ((p ≤ none) × In (4 * p + Next) (words_of s)) → p < suc none → In (4 * p + Next) (words_of s)
      low (inl e) k = absurd (omega (arith, e.0))
      low (inr e) k = e.1

      high : ((none < p) × In (map_words + (p - suc none)) (entries_of s)) ⊎ ((p ≤ none) × In (4 * p + Next) (words_of s)) → suc none ≤ p → In (map_words + (p - suc none)) (entries_of s)
      high (inl e) k = e.1
      high (inr e) k = absurd (omega (arith, e.0))

  -- ---- all of them

  pub stores_same : (S : Slices) (w : List Write) → AllCovered s w → Same s S (stores 8 S w)
  stores_same S [] c = record { arena = agree_refl S.arena (words_of s); lists = alike_refl S.lists (entries_of s); live = alike_refl S.live (s.live.at ∷ []) }
  stores_same S (x ∷ w) c =
      let f = store_same S x c.0 in
      let g = stores_same (store 8 S x) w c.1 in record {
        arena = agree_trans _ _ _ (words_of s) f.arena g.arena;
        lists = alike_trans _ _ _ (entries_of s) f.lists g.lists;
        live = alike_trans _ _ _ (s.live.at ∷ []) f.live g.live;
      }
