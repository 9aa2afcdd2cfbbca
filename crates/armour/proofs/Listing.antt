-- What follows from specs/Listing.antt.
use Rattle.std.specs.Prelude.{ℕ, ◌+◌, ◌≡◌, refl, List, [], ◌∷◌}
use Rattle.std.proofs.Common.{arith, sym, subst, inl, inr, ⊎_elim}
use Rattle.choice.specs.Choice.{upd_same}
use Rattle.class.specs.Class.{list_of}
use Rattle.definition.specs.Blocks.{Block, free, used, last, gap, size}
use Rattle.definition.specs.Lists.{Lists, push}
use Rattle.invariants.specs.Order.{Side, out, Ordered, BlockAt, at_low}
use Rattle.invariants.specs.Members.{Mem, Apiece, mem_push, mem_pushed, apiece_push}
use Rattle.invariants.specs.Pieces.{pieces, Listed}
use Rattle.invariants.specs.Moves.{Sane, free_used}
use Rattle.invariants.proofs.Moves.{free_last_lem, free_gap}
use Rattle.armour.specs.Listing.{listing, From}

-- a block that is not free comes before
skipped : (x : ℕ) (b : Block) (r : List Block) (f : Lists) → ((s : ℕ) → b ≡ free s → ⊥) → From (x + size b) r f → From x (b ∷ r) f
skipped x b r f n h = record {
  apiece = h.apiece;
  there = λ k y i. let g = h.there k y i in (g.0, inr g.1, g.2);
  listed = λ y s i. ⊎_elim (λ (e : (y ≡ x) × (b ≡ free s)). absurd (n s e.1)) (λ (j : BlockAt y (free s) (x + size b) r). h.listed y s j) i;
}

pub listing_from : (x : ℕ) (a : Side) (xs : List Block) → Ordered a xs → From x xs (listing x xs)
listing_from x a [] o = record {
  apiece = record { once = λ k. tt; one = λ j k y i. absurd i };
  there = λ k y i. absurd i;
  listed = λ y s i. absurd i;
}
listing_from x a (used s d ∷ r) o = skipped x (used s d) r _ (λ t e. free_used e) (listing_from (x + s) _ r o.2)
listing_from x a (last ∷ r) o = skipped x last r _ (λ t e. free_last_lem e) (listing_from (x + 1) _ r o.2)
listing_from x a (gap ∷ r) o = skipped x gap r _ (λ t e. free_gap e) (listing_from (x + 1) _ r o.2)
listing_from x a (free s ∷ r) o =
    let h = listing_from (x + s) _ r o.2 in
    let f = listing (x + s) r in
    record {
      apiece = apiece_push f h.apiece (list_of s) x (λ j i. let g = h.there j x i in omega (arith, at_low x (free g.0) (x + s) r g.1, o.1));
      there = λ k y i. ⊎_elim
          (λ q. (s, inl (q.0, refl), sym q.1))
          (λ q. let g = h.there k y q in (g.0, inr g.1, g.2))
          (mem_push f h.apiece (list_of s) x k y i);
      listed = λ y t i. back f h.apiece y t (h.listed y t) i;
    }
  where
    back : (f : Lists) → Apiece f → (y t : ℕ) → (BlockAt y (free t) (x + s) r → Mem y (f (list_of t))) → BlockAt y (free t) x (free s ∷ r) → Mem y (push (list_of s) x f (list_of t))
    back f p y t g (inl h) =
        let e : free s ≡ free t = h.1 in
        let q : s ≡ t = cc in
        subst (λ (t : ℕ). Mem y (push (list_of s) x f (list_of t))) q (rw (upd_same f (list_of s) (x ∷ f (list_of s)) (list_of s) refl) (inl h.0))
    back f p y t g (inr h) = mem_pushed f p (list_of s) x (list_of t) y (g h)

pub listing_sane : (c : ℕ) (xs : List Block) → Ordered out xs → Listed c (pieces 0 xs) → Sane c xs (listing 0 xs)
listing_sane c xs o s =
    let h = listing_from 0 out xs o in
    record { order = o; exact = record { apiece = h.apiece; there = h.there; listed = h.listed }; short = s }
