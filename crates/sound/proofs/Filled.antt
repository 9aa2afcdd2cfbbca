-- What follows from specs/Filled.antt.
use Rattle.std.specs.Prelude.{ℕ, ◌+◌, ◌-◌, ◌*◌, ◌/◌, ◌≤◌, ◌<◌, ◌≡◌, refl, List, [], ◌∷◌}
use Rattle.std.proofs.Common.{arith, ap, sym, ◌∙◌, subst, inl, inr}
use Rattle.std.proofs.Math.Path.{fun_ext}
use Rattle.definition.specs.Blocks.{Block, free, used, last, gap, size}
use Rattle.definition.specs.Calls.{Heap}
use Rattle.invariants.specs.Order.{BlockAt, Ordered, out, Apart, same, before, behind}
use Rattle.invariants.proofs.Order.{at_whole, at_end_lem, apart}
use Rattle.invariants.specs.Members.{Mem}
use Rattle.invariants.proofs.Gaps.{gap_used}
use Rattle.invariants.specs.Moves.{free_used}
use Rattle.script.specs.Memory.{Memory, Size, Before, Next, Prev, Mark, Live, Table, none, root}
use Rattle.sound.specs.Row.{Row, link}
use Rattle.sound.proofs.Row.{head_keep}
use Rattle.sound.proofs.Chain.{chain_keep}
use Rattle.sound.specs.Strung.{Marked}
use Rattle.sound.specs.Sound.{Sound}
use Rattle.sound.specs.Filled.{NotPayload, Filled}

-- ---- which words are no payload's

last_used : {s d : ℕ} → used s d ≡ last → ⊥
last_used e = let z : ◌≡◌ {A = ℕ} 0 1 = cc in omega arith

module _ (h : Heap) (o : Ordered out h.blocks) where
  -- a word of a block that is not used
  other_word : (z : ℕ) (b : Block) → BlockAt z b 0 h.blocks → ((s d : ℕ) → b ≡ used s d → ⊥) → (f x : ℕ) → f < 4 → z ≤ x → x < z + size b → NotPayload h f x
  other_word z b i n f x l p q y s d k j = go (apart y z 0 (used s d) b h.blocks k i)
    where
      go : Apart y (used s d) z b → ⊥
      go (same e u) = n s d (sym u)
      go (before e) = omega (arith, j.1)
      go (behind e) = omega (arith, j.0)

  -- a word of a used block before its payload
  own_word : (z t e : ℕ) → BlockAt z (used t e) 0 h.blocks → (f x : ℕ) → f < 4 → z ≤ x → x < z + t → 4 * x + f < 4 * z + 2 * e → NotPayload h f x
  own_word z t e i f x l p q r y s d k j = go (apart y z 0 (used s d) (used t e) h.blocks k i)
    where
      place : Block → ℕ
      place (free s) = 0
      place (used s d) = d
      place last = 0
      place gap = 0

      go : Apart y (used s d) z (used t e) → ⊥
      go (same u v) = omega (arith, u, ap place v, j.0)
      go (before u) = omega (arith, j.1)
      go (behind u) = omega (arith, j.0)

  -- the two words of any header
  header_word : (z : ℕ) (b : Block) → BlockAt z b 0 h.blocks → (f : ℕ) → f < 2 → NotPayload h f z
  header_word z (used t e) i f l =
      let k = at_whole z (used t e) 0 out h.blocks o i in
      own_word z t e i f z (omega arith) (omega arith) (omega (arith, k.0)) (omega (arith, k.1.some))
  header_word z (free t) i f l = other_word z (free t) i (λ s d e. free_used (sym e)) f z (omega arith) (omega arith) (omega (arith, at_whole z (free t) 0 out h.blocks o i))
  header_word z last i f l = other_word z last i (λ s d e. last_used (sym e)) f z (omega arith) (omega arith) (omega arith)
  header_word z gap i f l = other_word z gap i (λ s d e. gap_used (sym e)) f z (omega arith) (omega arith) (omega arith)

-- ---- the parts of a sound memory

-- headers that are the same
row_same : (sz up sz' up' : ℕ → ℕ) (x p : ℕ) (r : List Block) → ((y : ℕ) (b : Block) → BlockAt y b x r → (sz' y ≡ sz y) × (up' y ≡ up y)) → Row sz up x p r → Row sz' up' x p r
row_same sz up sz' up' x p [] f k = tt
row_same sz up sz' up' x p (b ∷ r) f k =
    let i = f x b (inl (refl, refl)) in
    (head_keep sz up sz' up' x p p b i.0 (λ e. i.1 ∙ e) k.0, row_same sz up sz' up' (x + size b) (link x b) r (λ y c j. f y c (inr j)) k.1)

-- so the memory stands for the same heap
pub filled_sound : (n c : ℕ) (m w : Memory) (h : Heap) → Sound n c m h → Filled h m w → Sound n c w h
filled_sound n c m w h o k = record {
  heap = o.heap;
  whole = o.whole;
  small = o.small;
  row = row_same (m Size) (m Before) (w Size) (w Before) 0 none h.blocks
      (λ y b i. (k.arena Size y (omega arith) (header_word h order y b i Size (omega arith)), k.arena Before y (omega arith) (header_word h order y b i Before (omega arith)))) o.row;
  strung = record {
    links = λ j. chain_keep (m Next) (m Prev) (w Next) (w Prev) (root j) none (h.lists j)
        (k.arena Next (root j) (omega arith) (λ y s d b i. omega (arith, i.1, at_end_lem y (used s d) 0 h.blocks b, o.whole, o.small)))
        (λ y i. k.arena Next y (omega arith) (listed j y i Next (omega arith))) (λ y i. k.arena Prev y (omega arith) (listed j y i Prev (omega arith))) (o.strung.links j);
    marks = λ j. subst (λ (v : ℕ). Marked v (h.lists j)) (sym (k.tables Mark j (omega arith))) (o.strung.marks j);
  };
  lively = record {
    set = λ x s d b. k.tables Live (2 * x + d) (omega arith) ∙ o.lively.set x s d b;
    real = λ q e. o.lively.real q (sym (k.tables Live q (omega arith)) ∙ e);
  };
  padded = λ x s d b e.
      let i = (at_whole x (used s d) 0 out h.blocks order b).1 in
      k.arena Prev (x + d / 2 - 1) (omega arith) (own_word h order x s d b Prev (x + d / 2 - 1) (omega arith) (omega (arith, i.some)) (omega (arith, i.some, i.within)) (omega (arith, i.some)))
      ∙ o.padded x s d b e;
  given = record { sane = rw table o.given.sane; either = rw table o.given.either; never = rw table o.given.never };
}
  where
    order : Ordered out h.blocks
    order = o.heap.order

    table : w Table ≡ m Table
    table = fun_ext (λ i. k.tables Table i (omega arith))

    -- the links of a free block
    listed : (j y : ℕ) → Mem y (h.lists j) → (f : ℕ) → f < 4 → NotPayload h f y
    listed j y i f l =
        let g = o.heap.exact.there j y i in
        other_word h order y (free g.0) g.1 (λ s d e. free_used (sym e)) f y l (omega arith) (omega (arith, at_whole y (free g.0) 0 out h.blocks order g.1))
