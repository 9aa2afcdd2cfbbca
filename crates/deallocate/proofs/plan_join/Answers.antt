-- `deallocate::plan_join`: the list of the joined block is known, or there is none; its head is the one that stands there
-- when both neighbours left.
use native.Mathlib.Omega.{arith}
use mathlib.Core.Path.{ap, ◌∙◌}
use Rattle.std.proofs.lemmas.Result.{err_from_is_err_and}
use Rattle.header.specs.Turned.{grains_few}
use Rattle.free_list.specs.Lent.{link}
use Rattle.free_list.specs.Leading.{head_leads}
use Rattle.neighbours.specs.Leaving.{both_leaving, head_both}
use Rattle.neighbours.specs.Within.{both_leads}
use Rattle.deallocate.specs.Join.{join_unlisted, join_headless, joined}
use Rattle.deallocate.proofs.plan_join.Goals as goal

pub map_floor-list-requires : goal.map_floor-list-requires
map_floor-list-requires c =
    (c.requires.0, omega (arith, c.requires.1, grains_few c.args.a.now c.well_formed.0.0))

pub returns-then-list-ge-LISTS : goal.returns-then-list-ge-LISTS
returns-then-list-ge-LISTS c =
    let s = c.args in record {
      answer = λ q v u. join_unlisted s.a.now s.lists.now v u q s.z s.t c.map_floor-list.result (both_leaving s.a.now s.behind s.before) c.map_floor-list.ensures c.if-list-ge-LISTS.true;
      able = tt;
    }

pub returns-in_err-h : goal.returns-in_err-h
returns-in_err-h c =
    let s = c.args in
    let p = err_from_is_err_and c.from_residual.result c.from_residual.ensures.1 in
    rw (p.1, p.2) (record {
      answer = λ q v u. join_headless s.a.now s.lists.now v u q s.z s.t c.map_floor-list.result (both_leaving s.a.now s.behind s.before) c.map_floor-list.ensures c.if-list-ge-LISTS.false
          _ (c.in_err-h.ensures v u);
      able = tt;
    })

pub returns : goal.returns
returns c =
    let s = c.args in
    let a = s.a.now in
    let n = c.map_floor-list.result in
    let h = c.in_ok-h.h in record {
      answer = λ q v u. joined a s.lists.now v u q s.z s.t n (both_leaving a s.behind s.before) c.map_floor-list.ensures c.if-list-ge-LISTS.false
          h c.head_after_both-head.result (c.in_ok-h.ensures v u)
          (ap (link a) c.head_after_both-head.ensures ∙ head_both a s.behind s.before n h c.well_formed.0.0 c.requires.3 c.requires.4);
      able = (
        record {
          behind = c.requires.3;
          before = c.requires.4;
          inside = c.requires.1;
          list = c.if-list-ge-LISTS.false;
          head = rw c.head_after_both-head.ensures
              (both_leads a s.behind s.before n h c.requires.3 c.requires.4 (head_leads a s.lists.now n h c.well_formed.0.0 c.in_ok-h.ensures));
        },
        c.requires.5,
      );
    }
