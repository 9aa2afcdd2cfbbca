-- T6 of insert and append: refused with 6 exactly where the table of the regions has no room, on any slices; and on slices that stand
-- for a heap, where it has, refused with 4 alone, exactly where the grains are fewer than two, or were given before, or, for
-- append, no region ended there.
use Rattle.std.specs.Prelude.{ℕ, suc, ◌+◌, ◌-◌, ◌/◌, ◌≤◌, ◌<◌, ◌≡◌, refl, List, [], ◌∷◌, ◌⊎◌, length}
use Rattle.std.proofs.Common.{arith, ap, sym, ◌∙◌, subst, inl, inr, ⊎_elim}
use Rattle.choice.specs.Choice.{if_eq, eq_no, same?, le?}
use Rattle.table.specs.Table.{entry}
use Rattle.definition.specs.Blocks.{Block, last, total, ◌⟨⟩◌, Place, find, offset, gaps, bare}
use Rattle.definition.specs.Units.{first_grain, whole_grains}
use Rattle.definition.specs.Calls.{Heap, Answer, no_region}
use Rattle.definition.specs.Calls.{insert as insert_of, append as append_of}
use Rattle.invariants.specs.Order.{out, Ordered, OrderedL, some, order_split, BlockAt, LeftAt, at_split, at_low, at_here, left_high}
use Rattle.invariants.specs.Gaps.{Spot}
use Rattle.invariants.proofs.Gaps.{find_spot, bare_spot, gaps_spot, spot_gap, gaps_bare}
use Rattle.invariants.proofs.Regions.{insert_spot, insert_none, append_spot, append_none, append_alone}
use Rattle.script.specs.Memory.{Memory, Table}
use Rattle.script.specs.Script.{done, stop, no, run}
use Rattle.script.proofs.Script.{goes, reads, gives_done}
use Rattle.sound.proofs.Refused.{stops_with}
use Rattle.sound.specs.RefusedCalls.{Among}
use Rattle.machine.specs.Machine.{half, grain, classes, map_words}
use Rattle.machine.specs.Machine.{lists as list_count}
use Rattle.plans.specs.Regions.{region_script}
use Rattle.plans.specs.Calls.{Call, Insert, Append}
use Rattle.refines.specs.Sounds.{Meets}
use Rattle.refines.proofs.Calls.{full_refused}
use Rattle.refines.proofs.RegionMeets.{insert_meets, append_meets}
use Rattle.refines.specs.Runs.{Reply, not}
use Rattle.lent.specs.Slices.{Slices, memory_of}
use Rattle.lent.proofs.Fields.{memory_table}
use Rattle.promises.specs.Bytes.{ByteCall, insert, append, following, give, follow}
use Rattle.promises.specs.Performs.{grains_of, most_of, AllLong, outcome, Early, short, Goes, Performs, early, Stand}
use Rattle.promises.specs.Terms.{Full, Bare, Ended}
use Rattle.promises.proofs.One.{no_ok, performs_one, refused_by, refused_in}
use Rattle.promises.proofs.Stops.{stops_given}
use Rattle.promises.proofs.Refines.{stand_model}

-- ---- 6

-- a table that is not full is refused with 4 or 5
room_stops : (most behind n c g len : ℕ) (m : Memory) → (m Table 0 ≡ most → ⊥) → (i : ℕ) → run m (region_script most behind n c g len) ≡ no i → Among (4 ∷ 5 ∷ []) i
unfolding region_script
room_stops most behind n c g len m ne i e = stops_with (Among (4 ∷ 5 ∷ [])) m _ (stops_given (Among (4 ∷ 5 ∷ [])) (inr (inl refl)) (inl refl) n c g len most behind (m Table 0))
    (sym (reads m Table 0 _ refl ∙ goes m (if_eq (m Table 0) most (stop 6) (done (tt {0}))) _ (ap (run m) (eq_no (m Table 0) most _ _ ne) ∙ gives_done m (tt {0}))) ∙ e)

not_6 : Among (4 ∷ 5 ∷ []) 6 → ⊥
not_6 (inl e) = omega arith
not_6 (inr (inl e)) = omega arith
not_6 (inr (inr e)) = e

-- the tables are long enough or not
long? : (S : Slices) → AllLong S ⊎ (AllLong S → ⊥)
long? S = ⊎_elim
    (λ (a : map_words + list_count ≤ length S.lists). ⊎_elim
    (λ (b : suc (grains_of S) ≤ length S.tags). ⊎_elim
    (λ (c : 1 ≤ length S.regions). inl (record { tables = record { lists = a; tags = omega arith }; some = c }))
    (λ (c : length S.regions < 1). inr (λ l. omega (arith, c, l.some)))
    (le? 1 (length S.regions)))
    (λ (b : length S.tags < suc (grains_of S)). inr (λ l. omega (arith, b, l.tables.tags)))
    (le? (suc (grains_of S)) (length S.tags)))
    (λ (a : length S.lists < map_words + list_count). inr (λ l. omega (arith, a, l.tables.lists)))
    (le? (map_words + list_count) (length S.lists))

-- a call for a region of len grains from g on, which must begin where another ended (1) or not (0)
module _ (S : Slices) (k : ByteCall) (K : Call) (behind g len : ℕ) (is : outcome S K ≡ run (memory_of S) (region_script (most_of S) behind (grains_of S) classes g len))
    (going : AllLong S → Goes S k K) (six : (AllLong S → ⊥) → Early S k 6) (r : Reply) (T : Slices) (p : Performs S k r T) where
  -- with room it is refused with 4 or 5
  stops : (AllLong S) → (entry S.regions 0 ≡ most_of S → ⊥) → (i : ℕ) → r ≡ not i → Among (4 ∷ 5 ∷ []) i
  stops l ne i e = room_stops (most_of S) behind (grains_of S) classes g len (memory_of S) (λ q. ne (sym (memory_table S 0) ∙ q)) i (sym is ∙ refused_in S k K (going l) r T i p e)

  full_exactly : (r ≡ not 6 → Full S) × (Full S → r ≡ not 6)
  full_exactly = ⊎_elim
      (λ (l : AllLong S). (
        (λ e. ⊎_elim (λ (q : entry S.regions 0 ≡ most_of S). inr q) (λ (q : entry S.regions 0 ≡ most_of S → ⊥). absurd (not_6 (stops l q 6 e))) (same? (entry S.regions 0) (most_of S))),
        ⊎_elim
            (λ (n : AllLong S → ⊥). absurd (n l))
            (λ (q : entry S.regions 0 ≡ most_of S). refused_by S k K (going l) r T 6 p (is ∙ full_refused (most_of S) behind (grains_of S) classes g len (memory_of S) (memory_table S 0 ∙ q))),
      ))
      (λ (n : AllLong S → ⊥). ((λ e. inl n), (λ _. (performs_one S k r (not 6) T S p (early 6 (six n))).0)))
      (long? S)

  -- what is not full has long tables
  not_full : (Full S → ⊥) → AllLong S
  not_full n = ⊎_elim (λ (l : AllLong S). l) (λ (m : AllLong S → ⊥). absurd (n (inl m))) (long? S)

  -- on slices that stand for a heap, where the definition answers w
  module _ (h : Heap) (o : Stand S h) (n : Full S → ⊥) (w : Answer) (meets : memory_of S Table 0 < most_of S → Meets (grains_of S) classes (memory_of S) (region_script (most_of S) behind (grains_of S) classes g len) w) where
    room : memory_of S Table 0 < most_of S
    room =
        let s = stand_model S h o in
        let f : entry S.regions 0 ≡ most_of S → ⊥ = λ q. n (inr q) in
        omega (arith, s.few, s.count, f)

    refused_4 : w ≡ Answer.refused no_region → r ≡ not 4
    refused_4 e = refused_by S k K (going (not_full n)) r T 4 p (is ∙ subst (Meets (grains_of S) classes (memory_of S) (region_script (most_of S) behind (grains_of S) classes g len)) e (meets room))

    granted_never : (v : ℕ) (f : Heap) → w ≡ Answer.granted v f → (i : ℕ) → r ≡ not i → ⊥
    granted_never v f e i q =
        let m = subst (Meets (grains_of S) classes (memory_of S) (region_script (most_of S) behind (grains_of S) classes g len)) e (meets room) in
        no_ok (outcome S K) i m.plan (refused_in S k K (going (not_full n)) r T i p q) (is ∙ m.gives)

-- ---- insert

module _ (S : Slices) (b n : ℕ) (r : Reply) (T : Slices) (p : Performs S (insert b n) r T) where
  abbrev g : ℕ
  g = first_grain half b

  abbrev len : ℕ
  len = whole_grains half b n

  giving : AllLong S → Goes S (insert b n) (Insert (first_grain half b) (whole_grains half b n))
  giving l = record { long = (l.tables, l.some); asks = give }

  too_short_insert : (AllLong S → ⊥) → Early S (insert b n) 6
  too_short_insert m = short (λ l. m (record { tables = l.0; some = l.1 }))

  pub insert_full : (r ≡ not 6 → Full S) × (Full S → r ≡ not 6)
  insert_full = full_exactly S (insert b n) (Insert g len) 0 g len refl giving too_short_insert r T p

  module _ (h : Heap) (o : Stand S h) (m : Full S → ⊥) where
    abbrev meets : memory_of S Table 0 < most_of S → Meets (grains_of S) classes (memory_of S) (region_script (most_of S) 0 (grains_of S) classes (first_grain half b) (whole_grains half b n)) (insert_of classes h (first_grain half b) (whole_grains half b n))
    meets = insert_meets (most_of S) (grains_of S) classes (first_grain half b) (whole_grains half b n) (memory_of S) h o (omega arith)

    pub bare_granted : Bare h.blocks g len → (i : ℕ) → r ≡ not i → ⊥
    bare_granted u i e =
        let s = gaps_spot g len h.blocks (omega (arith, u.two)) o.row.order u.gaps in
        granted_never S (insert b n) (Insert g len) 0 g len refl giving too_short_insert r T p h o m _ meets _ _ (insert_spot classes h g len o.row.order u.two s) i e

    pub not_bare : (Bare h.blocks g len → ⊥) → r ≡ not 4
    not_bare u = refused_4 S (insert b n) (Insert g len) 0 g len refl giving too_short_insert r T p h o m _ meets
        (insert_none classes h g len o.row.order (λ two s. u (record { two = two; gaps = spot_gap g len h.blocks s })))

-- ---- append

-- a spot, or none
spot? : (g n : ℕ) (xs : List Block) → 1 ≤ n → Ordered out xs → Spot g n xs ⊎ (Spot g n xs → ⊥)
spot? g n xs some o = ⊎_elim
    (λ (h : n ≤ bare (find offset g [] xs).behind). inl (bare_spot g n xs some o h))
    (λ (h : bare (find offset g [] xs).behind < n). inr (λ p. omega (arith, h, ap (λ (b : Place). bare b.behind) (find_spot g n xs some o p), gaps_bare n p.rest)))
    (le? n (bare (find offset g [] xs).behind))

-- a region ended before a spot exactly where a sentinel stands last before it
ended_before : (g n : ℕ) (xs : List Block) → Ordered out xs → (p : Spot g n xs) → Ended xs g → (l : List Block) × (p.before ≡ last ∷ l)
ended_before g n xs o p u = ⊎_elim
    (λ (k : LeftAt (g - 1) last p.before). go p.before refl (order_split p.before (gaps n p.rest) (subst (Ordered out) p.whole o)).0 k)
    (λ (k : BlockAt (g - 1) last (total p.before) (gaps n p.rest)). absurd (omega (arith, at_low (g - 1) last (total p.before) (gaps n p.rest) k, p.place, u.some)))
    (at_split (g - 1) last p.before (gaps n p.rest) (subst (λ (t : List Block). BlockAt (g - 1) last 0 t) p.whole u.sentinel))
  where
    go : (b : List Block) → p.before ≡ b → OrderedL b → LeftAt (g - 1) last b → (l : List Block) × (p.before ≡ last ∷ l)
    go [] e w x3 = elim x3 [ ]
    go (c ∷ l) e w (inl k) = (l, e ∙ ap (λ (c : Block). c ∷ l) k.1)
    go (c ∷ l) e w (inr k) = absurd (omega (arith, left_high (g - 1) last l k, p.place, ap total e, some c w.1, u.some))

before_ended : (g n : ℕ) (xs : List Block) (p : Spot g n xs) (l : List Block) → p.before ≡ last ∷ l → Ended xs g
before_ended g n xs p l e =
    let x : g ≡ total l + 1 = sym p.place ∙ ap total e in
    let y : total l ≡ g - 1 = omega arith in
    record {
      some = omega arith;
      sentinel = subst (λ (x : ℕ). BlockAt x last 0 xs) y (subst (λ (t : List Block). BlockAt (total l) last 0 t) (sym (p.whole ∙ ap (λ (t : List Block). t ⟨⟩ gaps n p.rest) e)) (at_here l (gaps n p.rest) last));
    }

module _ (S : Slices) (b n : ℕ) (r : Reply) (T : Slices) (p : Performs S (append b n) r T) where
  abbrev from : ℕ
  from = b / grain

  abbrev more : ℕ
  more = following b n

  appending : AllLong S → Goes S (append b n) (Append (b / grain) (following b n))
  appending l = record { long = (l.tables, l.some); asks = follow }

  too_short : (AllLong S → ⊥) → Early S (append b n) 6
  too_short m = short (λ l. m (record { tables = l.0; some = l.1 }))

  pub append_full : (r ≡ not 6 → Full S) × (Full S → r ≡ not 6)
  append_full = full_exactly S (append b n) (Append from more) 1 from more refl appending too_short r T p

  module _ (h : Heap) (o : Stand S h) (m : Full S → ⊥) where
    abbrev appends : memory_of S Table 0 < most_of S → Meets (grains_of S) classes (memory_of S) (region_script (most_of S) 1 (grains_of S) classes (b / grain) (following b n)) (append_of classes h (b / grain) (following b n))
    appends = append_meets (most_of S) (grains_of S) classes (b / grain) (following b n) (memory_of S) h o (omega arith)

    pub ended_granted : Bare h.blocks from more → Ended h.blocks from → (i : ℕ) → r ≡ not i → ⊥
    ended_granted u v i e =
        let s = gaps_spot from more h.blocks (omega (arith, u.two)) o.row.order u.gaps in
        let w = ended_before from more h.blocks o.row.order s v in
        granted_never S (append b n) (Append from more) 1 from more refl appending too_short r T p h o m _ appends _ _ (append_spot classes h from more o.row.order u.two s w.0 w.1) i e

    refusing : append_of classes h from more ≡ Answer.refused no_region → r ≡ not 4
    refusing e = refused_4 S (append b n) (Append from more) 1 from more refl appending too_short r T p h o m _ appends e

    pub not_ended : (Bare h.blocks from more → Ended h.blocks from → ⊥) → r ≡ not 4
    not_ended u = ⊎_elim
        (λ (two : 2 ≤ more). ⊎_elim
        (λ (s : Spot from more h.blocks). refusing (append_alone classes h from more o.row.order (omega arith) s
        (λ l e. u (record { two = two; gaps = spot_gap from more h.blocks s }) (before_ended from more h.blocks s l e))))
        (λ (s : Spot from more h.blocks → ⊥). refusing (append_none classes h from more o.row.order (λ _. s)))
        (spot? from more h.blocks (omega arith) o.row.order))
        (λ (two : more < 2). refusing (append_none classes h from more o.row.order (λ t. absurd (omega (arith, two, t)))))
        (le? 2 more)
