-- What is saved of the slices before a take, with the places that it stood at.
use Rattle.std.specs.Prelude.{ℕ, ◌+◌, ◌-◌, ◌*◌, ◌/◌, ◌≤◌, ◌<◌, ◌≡◌, refl, List, [], ◌∷◌, length}
use Rattle.std.proofs.Common.{arith, ap, sym, ◌∙◌, subst, inl}
use Rattle.choice.specs.Choice.{if_eq, eq_case}
use Rattle.word.specs.Word.{word_at}
use Rattle.table.specs.Table.{entry}
use Rattle.bits.specs.Map.{map_words}
use Rattle.script.specs.Memory.{Size, Before, Next, Prev, Write}
use Rattle.slices.specs.Decode.{grains}
use Rattle.slices.proofs.Decode.{grains_keep}
use Rattle.slices.proofs.Arena.{field_inside}
use Rattle.slices.proofs.Kept.{stores_lengths}
use Rattle.header.specs.Turned.{turned}
use Rattle.free_list.specs.Lent.{lent, Room, no_link, Leads, leads_grain}
use Rattle.free_list.specs.Written.{WrittenLive}
use Rattle.allocate.specs.declared.Plan.{Plan}
use Rattle.occupy.specs.Taken.{Ready}
use Rattle.undo.specs.declared.Was.{Was}
use Rattle.undo.specs.declared.Links.{Links}
use Rattle.undo.specs.declared.Block.{Block}
use Rattle.undo.specs.declared.Header.{Header}
use Rattle.undo.specs.declared.Heads.{Heads}
use Rattle.undo.specs.declared.Saved.{Saved}
use Rattle.undo.specs.Agree.{Bytes, AllIn, AllBelow}

-- ---- words

-- word f of grain g
abbrev pub was_at : List ℕ → ℕ → ℕ → Was
was_at a g f = record { at = g; word = word_at 8 a (4 * g + f) }

-- entry i of a table
abbrev pub was_in : List ℕ → ℕ → Was
was_in t i = record { at = i; word = entry t i }

-- the grain that x leads to, and y where it is none
abbrev pub led_to : ℕ → ℕ → ℕ
led_to x y = if_eq x no_link y (turned x)

abbrev pub links_of : List ℕ → ℕ → ℕ → ℕ → Links
links_of a x h y = record { next = was_at a (led_to x y) Prev; head = was_at a (led_to h y) Prev }

abbrev pub block_of : List ℕ → ℕ → ℕ → ℕ → Block
block_of a y s d = record { size = was_at a y Size; before = was_at a (y + s) Before; pad = was_at a (y + (d - 1) / 2) Prev }

abbrev pub header_of : List ℕ → ℕ → Header
header_of a g = record {
  at = g;
  size = word_at 8 a (4 * g + Size);
  before = word_at 8 a (4 * g + Before);
  next = word_at 8 a (4 * g + Next);
  prev = word_at 8 a (4 * g + Prev);
}

abbrev pub heads_of : List ℕ → ℕ → ℕ → Heads
heads_of l k q = record { first = entry l 0; second = entry l 1; third = entry l 2; list = was_in l (map_words + k); rest = was_in l (map_words + q) }

-- all of them
abbrev pub saved_of : List ℕ → List ℕ → List ℕ → Plan → Saved
saved_of a l v p = record {
  links = links_of a p.next p.head p.at;
  block = block_of a p.at p.grains p.place;
  rest = header_of a (p.at + p.keep);
  heads = heads_of l p.list p.rest_list;
  live = was_in v ((2 * p.at + p.place) / 64);
}

-- a plan whose rest goes to list q, before h
abbrev pub resting : Plan → ℕ → ℕ → Plan
resting p q h = record { list = p.list; at = p.at; grains = p.grains; next = p.next; place = p.place; keep = p.keep; rest_list = q; head = h }

-- before a take: where nothing is left of the block, the list and the head of the rest are not looked at
pub record SavedTake (a l v : List ℕ) (p : Plan) (r : Saved) : Type 0 where
  pub words : r ≡ if_eq p.keep p.grains (saved_of a l v (resting p p.list no_link)) (saved_of a l v p)
  pub bytes : Bytes a

-- ---- their places

-- the words of the arena: of the rest, of the block, and all
abbrev pub rest_words : Saved → List ℕ
rest_words s = (4 * s.rest.at + Size) ∷ (4 * s.rest.at + Before) ∷ (4 * s.rest.at + Next) ∷ (4 * s.rest.at + Prev) ∷ []

abbrev pub block_words : Saved → List ℕ
block_words s = (4 * s.block.size.at + Size) ∷ (4 * s.block.before.at + Before) ∷ (4 * s.block.pad.at + Prev) ∷ rest_words s

abbrev pub words_of : Saved → List ℕ
words_of s = (4 * s.links.next.at + Prev) ∷ (4 * s.links.head.at + Prev) ∷ block_words s

-- the entries of the table of the lists: the map and the heads
abbrev pub entries_of : Saved → List ℕ
entries_of s = 0 ∷ 1 ∷ 2 ∷ s.heads.list.at ∷ s.heads.rest.at ∷ []

-- they are in the slices
pub record Inside (a l v : List ℕ) (s : Saved) : Type 0 where
  pub links : (s.links.next.at < grains 8 a) × (s.links.head.at < grains 8 a)
  pub block : (s.block.size.at < grains 8 a) × (s.block.before.at < grains 8 a) × (s.block.pad.at < grains 8 a)
  pub rest : s.rest.at < grains 8 a
  pub heads : (2 < length l) × (s.heads.list.at < length l) × (s.heads.rest.at < length l)
  pub live : s.live.at < length v

module _ {a l v : List ℕ} {s : Saved} (i : Inside a l v s) where
  within : {g : ℕ} (f : ℕ) → g < grains 8 a → f < 4 → 8 * (4 * g + f) + 8 ≤ length a
  within {g} f h k = field_inside 8 a g f h k

  -- the header of the rest
  rest_in : AllIn (length a) (rest_words s)
  rest_in =
      let h = i.rest in
      (within Size h (omega arith), (within Before h (omega arith), (within Next h (omega arith), (within Prev h (omega arith), tt))))

  -- and the words of the block
  block_in : AllIn (length a) (block_words s)
  block_in =
      let h = i.block in
      (within Size h.0 (omega arith), (within Before h.1 (omega arith), (within Prev h.2 (omega arith), rest_in)))

  pub words_in : AllIn (length a) (words_of s)
  words_in = let h = i.links in (within Prev h.0 (omega arith), (within Prev h.1 (omega arith), block_in))

  pub entries_in : AllBelow (length l) (entries_of s)
  entries_in = (omega (arith, i.heads.0), (omega (arith, i.heads.0), (i.heads.0, (i.heads.1, (i.heads.2, tt)))))

-- only the lengths count
pub inside_keep : (a l v b m o : List ℕ) (s : Saved) → length b ≡ length a → length m ≡ length l → length o ≡ length v → Inside a l v s → Inside b m o s
inside_keep a l v b m o s e f g i = record {
  links = rw (grains_keep 8 a b e) i.links;
  block = rw (grains_keep 8 a b e) i.block;
  rest = rw (grains_keep 8 a b e) i.rest;
  heads = rw f i.heads;
  live = rw g i.live;
}

-- ---- before a take

-- where x leads
pub led_in : (a : List ℕ) (x y : ℕ) → Leads a x → y < grains 8 a → led_to x y < grains 8 a
led_in a x y h k = eq_case (λ (z : ℕ). z < grains 8 a) x no_link y (turned x) (λ _. k) (λ n. leads_grain h n)

module _ (a l v : List ℕ) (p : Plan) (r : Ready a l v p) where
  -- as if the rest went to the block's own list, before none
  pub none_left : Ready a l v (resting p p.list no_link)
  none_left = record {
    bounds = record {
      list = r.bounds.list;
      next = r.bounds.next;
      holds = r.bounds.holds;
      kept = r.bounds.kept;
      block = r.bounds.block;
      rest = λ _. (r.bounds.list, inl refl);
      some = r.bounds.some;
      pad = r.bounds.pad;
    };
    live = r.live;
  }

  -- what is saved stands in the slices
  pub saved_in : (q h : ℕ) → Room q l → Leads a h → Inside a l v (saved_of a l v (resting p q h))
  saved_in q h o e =
      let b = r.bounds.block in
      let t = r.bounds.kept in
      let k = r.bounds.list in record {
        links = (led_in a p.next p.at r.bounds.next (omega arith), led_in a h p.at e (omega arith));
        block = (omega arith, b, omega (arith, r.bounds.pad, r.bounds.some));
        rest = omega arith;
        heads = (omega (arith, o.room), omega (arith, k.known, o.room), omega (arith, o.known, o.room));
        live = omega (arith, r.live);
      }

  pub taken_in : (w : Saved) → SavedTake a l v p w → Inside a l v w
  taken_in w f = subst (Inside a l v) (sym f.words) (eq_case (Inside a l v) p.keep p.grains _ _
      (λ e. saved_in p.list no_link r.bounds.list (inl refl))
      (λ n. let s = r.bounds.rest n in saved_in p.rest_list p.head s.0 s.1))

  -- and in the slices as they are after any writes
  pub written_in : (w : Saved) (t : List Write) (b n o : List ℕ) → SavedTake a l v p w → WrittenLive a l v t b n o → Inside b n o w
  written_in w t b n o f g =
      let e = stores_lengths 8 (lent a l v []) t in
      inside_keep a l v b n o w (ap length (g.arena []) ∙ e.arena) (ap length (g.lists []) ∙ e.lists) (ap length (g.live []) ∙ e.live) (taken_in w f)
