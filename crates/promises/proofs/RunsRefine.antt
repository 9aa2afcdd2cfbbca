-- T5: from tables that `init` made, and from any slices that stand for a heap, the replies of a fair run are the definition's, one by
-- one, and the slices at the end stand for the definition's heap: for every list of calls, whatever their numbers, refused
-- regions included.
use Rattle.std.specs.Prelude.{ℕ, ◌-◌, ◌/◌, ◌≡◌, refl, List}
use Rattle.std.proofs.Common.{ap, sym, subst}
use Rattle.definition.specs.Blocks.{Block}
use Rattle.definition.specs.Calls.{Heap, empty}
use Rattle.machine.specs.Machine.{classes}
use Rattle.refines.specs.Runs.{Reply, Model}
use Rattle.lent.specs.Slices.{Slices, memory_of}
use Rattle.lent.specs.Kept.{Lengths}
use Rattle.promises.specs.Bytes.{ByteCall}
use Rattle.promises.specs.Performs.{grains_of, most_of, AllLong, Sized, Stand, model_of}
use Rattle.promises.specs.Terms.{Fills}
use Rattle.promises.specs.Begins.{Begun}
use Rattle.promises.proofs.One.{defines_one, performs_lengths}
use Rattle.promises.proofs.Filling.{row_unique, fills_lengths, fills_stand}
use Rattle.promises.proofs.Refines.{long_each, performs_refines}
use Rattle.promises.proofs.Damage.{all_long_keep}
use Rattle.promises.proofs.Sizes.{sized_keep, performs_sized}
use Rattle.promises.proofs.Fresh.{begun_lengths, begun_sized, begun_stands}
use Rattle.promises.specs.Runs.{Runs, DefinesAll, RunRefined}

-- the table holds as many regions as before
same_most : (S T : Slices) → Lengths S T → most_of T ≡ most_of S
same_most S T e = ap (λ (n : ℕ). (n - 1) / 2) e.regions

pub runs_refine : (S : Slices) (ks : List ByteCall) (rs : List Reply) (T : Slices) (h : Heap) → Runs S ks rs T → Sized S → AllLong S → Stand S h → RunRefined S h ks rs T
runs_refine S ks rs T h Runs.stop z l o = record { heap = h; defined = DefinesAll.stop; stands = o }
runs_refine S ks rs T h (Runs.call {T = U} {k = k} {r = r} {ks = js} {rs = qs} p q) z l o =
    let a = performs_refines S z h o k (long_each S k l) r U p in
    let e = performs_lengths S k r U p in
    let b = runs_refine U js qs T a.heap q (performs_sized S k r U z p) (all_long_keep S U e l) a.stands in
    record {
      heap = b.heap;
      defined = DefinesAll.call a.defined (subst (λ (n : ℕ). DefinesAll n (model_of U a.heap) js qs (model_of T b.heap)) (same_most S U e) b.defined);
      stands = b.stands;
    }
runs_refine S ks rs T h (Runs.write {T = U} {xs = xs} w f d q) z l o =
    let i = row_unique (grains_of S) classes (memory_of S) xs h.blocks w o.row in
    let f' = subst (λ (ys : List Block). Fills ys S U) i f in
    let e = fills_lengths h S U f' in
    let b = runs_refine U ks rs T h q (sized_keep S U e d z) (all_long_keep S U e l) (fills_stand h S U f' o) in
    record {
      heap = b.heap;
      defined = subst (λ (s : Model). DefinesAll (most_of S) s ks rs (model_of T b.heap)) (model_kept S U h f')
          (subst (λ (n : ℕ). DefinesAll n (model_of U h) ks rs (model_of T b.heap)) (same_most S U e) b.defined);
      stands = b.stands;
    }
  where
    model_kept : (S T : Slices) (h : Heap) → Fills h.blocks S T → model_of T h ≡ model_of S h
    model_kept S T h f = rw f.tables.regions

-- from tables that were made empty
pub runs_from_init : (S T U : Slices) → Sized S → AllLong S → Begun S T → (ks : List ByteCall) (rs : List Reply) → Runs T ks rs U → RunRefined T (empty (grains_of T)) ks rs U
runs_from_init S T U z l b ks rs q =
    runs_refine T ks rs U (empty (grains_of T)) q (begun_sized S T l b z) (all_long_keep S T (begun_lengths S T l b) l) (begun_stands S T l b)

-- and the definition has one list of answers, with one heap
pub defines_all_one : (most : ℕ) (s : Model) (ks : List ByteCall) (rs qs : List Reply) (u v : Model) → DefinesAll most s ks rs u → DefinesAll most s ks qs v → (rs ≡ qs) × (u ≡ v)
defines_all_one most s ks rs qs u v DefinesAll.stop DefinesAll.stop = (refl, refl)
defines_all_one most s ks rs qs u v (DefinesAll.call {u = a} {k = k} {r = r} {ks = js} {rs = rt} p c) (DefinesAll.call {u = b} {r = q} {rs = qt} w d) =
    let e = defines_one most s k r q a b p w in
    let i = defines_all_one most a js rt qt u v c (subst (λ (x : Model). DefinesAll most x js qt v) (sym e.1) d) in
    (cc (e.0, i.0), i.1)
