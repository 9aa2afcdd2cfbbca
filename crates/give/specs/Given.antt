-- A planned region, laid out and entered in the table: what the slices are after it.
use Rattle.std.specs.Prelude.{ℕ, ◌+◌, ◌*◌, ◌≡◌, refl, List, [], length, Option, Some, None}
use Rattle.std.proofs.Common.{ap, sym, ◌∙◌}
use Rattle.table.specs.Table.{entry}
use Rattle.script.specs.Memory.{Write}
use Rattle.sound.specs.RegionPlan.{piece_writes, entry_writes}
use Rattle.slices.proofs.Decode.{grains_keep}
use Rattle.slices.specs.Slices.{Slices, stores}
use Rattle.slices.proofs.Kept.{stores_append, stores_lengths}
use Rattle.free_list.specs.Lent.{lent, link, link_keep, leads_keep}
use Rattle.free_list.specs.Written.{Written, written_then, written_as, written_length}
use Rattle.region.specs.Pieces.{full_writes}
use Rattle.region.specs.Entered.{with_region, region_stored}
use Rattle.give.specs.declared.Plan.{Plan as PlanAnswer}
use Rattle.give.specs.declared.Last.{Last}
use Rattle.give.specs.Shown.{LastAble, last_writes, layout_writes, given_writes}

-- the slices into which the writes w were stored; the live bits stay, whatever they are
pub record Given (a l t : List ℕ) (w : List Write) (b m o : List ℕ) : Type 0 where
  pub arena : (v : List ℕ) → b ≡ (stores 8 (lent a l v t) w).arena
  pub lists : (v : List ℕ) → m ≡ (stores 8 (lent a l v t) w).lists
  pub regions : (v : List ℕ) → o ≡ (stores 8 (lent a l v t) w).regions
  pub slices : (v : List ℕ) → lent b m v o ≡ stores 8 (lent a l v t) w

-- ---- a last piece, if there is one

-- it can be laid out as before, whatever was written
pub last_keep : {a l b o : List ℕ} {w : List Write} (x : ℕ) (p : Option Last) → Written a l w b o → LastAble a l x p → LastAble b o x p
last_keep x None f q = tt
last_keep {a} {l} {b} {o} {w} x (Some p) f q = record {
  long = q.long;
  short = q.short;
  inside = rw (grains_keep 8 a b (written_length f)) q.inside;
  heads = rw (ap length (f.lists [] []) ∙ (stores_lengths 8 (lent a l [] []) w).lists) q.heads;
  before = leads_keep a b p.head (written_length f) q.before;
}

-- its writes are the same
last_same : (a b : List ℕ) (x : ℕ) (p : Option Last) → length b ≡ length a → last_writes a x p ≡ last_writes b x p
last_same a b x None e = refl
last_same a b x (Some p) e = ap (piece_writes x p.grains) (sym (link_keep a b p.head e))

-- ---- the three steps

pub given : (a l t : List ℕ) (r : PlanAnswer) (b m c o u : List ℕ) → Written a l (full_writes r.at (link a r.head) r.full) b m
    → Written b m (last_writes b (r.at + 4096 * r.full) r.last) c o → u ≡ with_region t r.at (r.at + r.used)
    → Given a l t (given_writes a t r) c o u
given a l t r b m c o u full last table = record {
  arena = λ v. ap (λ (S : Slices). S.arena) (all v);
  lists = λ v. ap (λ (S : Slices). S.lists) (all v);
  regions = λ v. ap (λ (S : Slices). S.regions) (all v);
  slices = all;
}
  where
    row : List Write
    row = full_writes r.at (link a r.head) r.full

    pieces : Written a l (layout_writes a r) c o
    pieces = written_then {p = row} full
        (written_as (last_same a b (r.at + 4096 * r.full) r.last (written_length {w = row} full)) last)

    new : List Write
    new = entry_writes (entry t 0) r.at (r.at + r.used)

    all : (v : List ℕ) → lent c o v u ≡ stores 8 (lent a l v t) (given_writes a t r)
    all v =
        ap (lent c o v) table ∙ sym (region_stored 8 (lent c o v t) r.at (r.at + r.used))
        ∙ ap (λ (S : Slices). stores 8 S new) (pieces.slices v t) ∙ sym (stores_append 8 (lent a l v t) (layout_writes a r) new)
