-- What was seen can be written: the links of an entry that agrees, and the head of a list that does, are none or lead to a
-- grain. So they are what unlinking and pushing ask for; where the block is named, its words must be these links, too.
use Rattle.std.specs.Prelude.{ℕ, ◌<◌, ◌≡◌, List, [], length, Ok}
use Rattle.std.proofs.Common.{arith, sym, inl, inr, ⊎_elim}
use Rattle.choice.specs.Choice.{same?, le?}
use Rattle.script.specs.Memory.{Memory}
use Rattle.script.specs.Script.{Gives}
use Rattle.sound.specs.Checks.{see_entry, see_head}
use Rattle.sound.specs.Checks.{Entry as Neighbours}
use Rattle.sound.proofs.Checked.{entry_checked, head_checked}
use Rattle.slices.specs.Decode.{ValidLink, grains}
use Rattle.header.specs.Turned.{turned}
use Rattle.free_list.specs.declared.Entry.{Entry}
use Rattle.free_list.specs.Lent.{held, no_link, link, Leads, link_some, link_past}
use Rattle.free_list.specs.Seen.{SeenEntry, SeenHead}

-- a word that says none or a grain
pub leads_valid : (a : List ℕ) (x : ℕ) → length a < 18446744073709551616 → ValidLink (grains 8 a) (link a x) → Leads a x
leads_valid a x s (inl e) = ⊎_elim (λ (h : x ≡ no_link). inl h) (λ (h : x ≡ no_link → ⊥). absurd (link_some a x s h e)) (same? x no_link)
leads_valid a x s (inr h) = ⊎_elim (λ q. absurd (omega (arith, link_past a x s q))) (λ (q : turned x < grains 8 a). inr q) (le? (grains 8 a) (turned x))

-- both links of an entry
pub entry_leads : (a l : List ℕ) (k y : ℕ) (e : Entry) → length a < 18446744073709551616 → SeenEntry a l k y (Ok e) → Leads a e.next × Leads a e.prev
entry_leads a l k y e s h =
    let g : Gives m (see_entry (grains 8 a) k y) n = sym (h [] []) in
    let c = entry_checked (grains 8 a) m k y n g in (
      leads_valid a e.next s (⊎_elim (λ q. inl q) (λ q. inr q.0) c.back),
      leads_valid a e.prev s (⊎_elim (λ q. inl q.0) (λ q. inr q.2) c.head),
    )
  where
    m : Memory
    m = held a l [] []

    n : Neighbours
    n = record { next = link a e.next; prev = link a e.prev }

-- a head
pub head_leads : (a l : List ℕ) (k w : ℕ) → length a < 18446744073709551616 → SeenHead a l k (Ok w) → Leads a w
head_leads a l k w s h =
    let g : Gives m (see_head (grains 8 a) k) (link a w) = sym (h [] []) in
    let c = head_checked (grains 8 a) m k (link a w) g in
    leads_valid a w s (⊎_elim (λ q. inl q.0) (λ q. inr q.0) c.marked)
  where
    m : Memory
    m = held a l [] []
