-- A planned take, carried out: what the slices have room for before it, and what they are after it.
use Rattle.std.specs.Prelude.{ℕ, ◌+◌, ◌*◌, ◌<◌, ◌≡◌, refl, List, [], ◌∷◌, ◌++◌, length}
use Rattle.std.proofs.Common.{arith, ap, sym, ◌∙◌, subst, append_assoc}
use Rattle.choice.specs.Choice.{eq_no}
use Rattle.bits.specs.TableBit.{set_table_bit, clear_table_bit}
use Rattle.script.specs.Memory.{Live, none, Write, ◌at◌≔◌}
use Rattle.sound.specs.Links.{unlink_writes}
use Rattle.sound.specs.Plans.{pad_writes}
use Rattle.slices.specs.Slices.{stores}
use Rattle.free_list.specs.Lent.{lent, no_link, link, link_keep, link_none}
use Rattle.free_list.specs.Written.{Written, WrittenLive, live_then, written_then, written_as, written_length}
use Rattle.carve.specs.Made.{WrittenInArena, left_behind}
use Rattle.allocate.specs.declared.Plan.{Plan}
use Rattle.allocate.specs.Rest.{left_writes}
use Rattle.allocate.specs.Plan.{made_by, Bounded}

-- room for all that is written, and the block's links as they were found; and the live bits reach to the payload
pub record Ready (a l v : List ℕ) (p : Plan) : Type 0 where
  pub bounds : Bounded a l p
  pub live : 2 * p.at + p.place < 64 * length v

-- the writes of the plan
abbrev pub taken_writes : List ℕ → Plan → List Write
taken_writes a p = left_writes a p.list p.next p.at p.grains p.keep p.rest_list p.head ++ (pad_writes p.at p.place ++ ((Live at 2 * p.at + p.place ≔ 1) ∷ []))

-- the writes w, and then those of the pad and of the live bit
ordered : (u w p z : List Write) → (u ++ (w ++ p)) ++ z ≡ (u ++ w) ++ (p ++ z)
ordered u w p z = simp append_assoc

-- the four steps
pub take_made : (a l v b n c o e i : List ℕ) (p : Plan) → length a < 18446744073709551616
    → Written a l (unlink_writes p.list (link a p.next) (link a no_link)) b n → Written b n (left_behind p.at p.grains p.keep p.rest_list (link b p.head)) c o
    → WrittenInArena c (pad_writes p.at p.place) e → i ≡ set_table_bit v (2 * p.at + p.place)
    → WrittenLive a l v (taken_writes a p) e o i
take_made a l v b n c o e i p f w1 w2 w3 g =
    subst (λ (w : List Write). WrittenLive a l v w e o i) (ordered u r (pad_writes p.at p.place) bit) (live_then bit whole lit)
  where
    u : List Write
    u = unlink_writes p.list (link a p.next) none

    r : List Write
    r = left_behind p.at p.grains p.keep p.rest_list (link a p.head)

    bit : List Write
    bit = (Live at 2 * p.at + p.place ≔ 1) ∷ []

    whole : Written a l (u ++ (r ++ pad_writes p.at p.place)) e o
    whole = written_then
        (written_as (ap (unlink_writes p.list (link a p.next)) (sym (link_none a no_link f refl))) w1)
        (written_then (written_as (ap (left_behind p.at p.grains p.keep p.rest_list) (sym (link_keep a b p.head (written_length w1)))) w2) (w3 o))

    lit : (t : List ℕ) → lent e o i t ≡ stores 8 (lent e o v t) bit
    lit t = ap (λ (z : List ℕ). lent e o z t)
        (g ∙ sym (eq_no 1 0 (clear_table_bit v (2 * p.at + p.place)) (set_table_bit v (2 * p.at + p.place)) (λ q. omega arith)))

-- ---- a plan

module _ (a l v : List ℕ) (r : Plan) where
  -- has room for its writes, where the live bits reach to its payload
  pub plan_ready : Bounded a l r → 2 * r.at + r.place < 64 * length v → Ready a l v r
  plan_ready b h = record { bounds = b; live = h }

  -- and these are its writes
  pub plan_writes : taken_writes a r ≡ (made_by a r).writes
  plan_writes = refl
