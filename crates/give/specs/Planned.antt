-- The plans of the code, against the script that lays out a region: one piece, pieces of full length, and a last piece behind
-- them. Each law is one return of the code.
use Rattle.std.specs.Prelude.{ℕ, ◌+◌, ◌-◌, ◌*◌, ◌≤◌, ◌<◌, ◌≡◌, length, Some, None, Result, Ok, Err}
use native.Mathlib.Omega.{arith}
use Rattle.std.proofs.Math.Path.{refl, sym}
use Rattle.std.proofs.Common.{◌∙◌, subst, inr, ⊎_elim}
use mathlib.Core.List.{List, [], ◌++◌, append-nil}
use Rattle.std.proofs.Math.Logic.{inl}
use Rattle.class.specs.Class.{list_of}
use Rattle.script.specs.Memory.{Memory}
use Rattle.script.specs.Script.{no, run, Gives}
use Rattle.sound.specs.Checks.{see_head}
use Rattle.sound.proofs.Checked.{head_checked}
use Rattle.sound.specs.RegionPlan.{piece_writes, lay_script}
use Rattle.slices.specs.Decode.{grains}
use Rattle.free_list.specs.Lent.{held, Long, no_link, link, Leads, below_none}
use Rattle.free_list.specs.Seen.{SeenHead}
use Rattle.free_list.specs.Leading.{leads_valid, head_leads}
use Rattle.region.specs.Layout.{lay_end}
use Rattle.region.specs.Pieces.{full_writes, Layable}
use Rattle.refusal.specs.Number.{number}
use Rattle.refusal.specs.declared.Refusal.{Refusal}
use Rattle.give.specs.Shown.{LayoutPlanned}
use Rattle.give.specs.Last.{Row, SeenLast}
use Rattle.give.specs.Laid.{laid_planned, laid_refused, piece_refused, last_laid, last_refused, row_behind}

-- ---- a layout that the script refuses

layout_refused : (a l : List ℕ) (g len : ℕ) (r : Refusal) → ((v t : List ℕ) → run (held a l v t) (lay_script (grains 8 a) 12 len [] g len) ≡ no (number r))
    → LayoutPlanned a l g len (Err r)
layout_refused a l g len r q = record { answers = λ c v t. sym (laid_refused (held a l v t) (grains 8 a) g len c (number r) (q v t)); able = tt }

-- ---- what was seen

-- the head of a list, under its other name
pub seen_as : (a l : List ℕ) {k j : ℕ} → k ≡ j → (r : Result ℕ Refusal) → SeenHead a l k r → SeenHead a l j r
seen_as a l e r q = subst (λ (k : ℕ). SeenHead a l k r) e q

-- a head that was seen leads
given_leads : (m : Memory) (a : List ℕ) (k w : ℕ) → length a < 18446744073709551616 → Gives m (see_head (grains 8 a) k) (link a w) → Leads a w
given_leads m a k w s q = leads_valid a w s (⊎_elim (λ z. inl z.0) (λ z. inr z.0) (head_checked (grains 8 a) m k (link a w) q).marked)

-- ---- one piece

module _ (a l : List ℕ) (g len : ℕ) (s : length a < 18446744073709551616) (heads : Long l) (inside : g + len ≤ grains 8 a) where
  module _ (long : 2 ≤ len) (short : len < 4096) where
    pub one_refused : (r : Refusal) → SeenHead a l (list_of (len - 1)) (Err r) → LayoutPlanned a l g len (Err r)
    one_refused r seen = layout_refused a l g len r (λ v t. last_refused (held a l v t) (grains 8 a) [] g len long (omega arith) len (omega arith) (number r) (sym (seen v t)))

    pub one_planned : (h : ℕ) → SeenHead a l (list_of (len - 1)) (Ok h)
        → LayoutPlanned a l g len (Ok (record { at = g; full = 0; head = no_link; last = Some (record { grains = len; head = h }); used = len }))
    unfolding full_writes
    one_planned h seen = record {
      answers = λ c v t. sym (laid_planned (held a l v t) (grains 8 a) g len c (piece_writes g len (link a h)) 0
          (last_laid (held a l v t) (grains 8 a) [] g len long (omega arith) len (omega arith) (link a h) (sym (seen v t)))
          ∙ rw (start, kept));
      able = record {
        full = record { inside = omega arith; heads = heads; before = inl refl };
        last = record { long = long; short = omega arith; inside = omega arith; heads = heads; before = head_leads a l (list_of (len - 1)) h s seen };
        end = inside;
      };
    }
      where
        kept : len - 0 ≡ len
        kept = omega arith

        start : g + 4096 * 0 ≡ g
        start = omega arith

  -- ---- pieces of full length

  module _ (long : 4096 ≤ len) where
    pub row_refused : (r : Refusal) → SeenHead a l (list_of 4095) (Err r) → LayoutPlanned a l g len (Err r)
    row_refused r seen = layout_refused a l g len r
        (λ v t. piece_refused (held a l v t) (grains 8 a) [] g len 4096 (omega arith) (omega arith) len (omega arith) (number r) (sym (seen v t)))

    module _ (h : ℕ) (seen : SeenHead a l (list_of 4095) (Ok h)) where
      -- what the check of the last piece's list asks for
      pub row_there : (i : ℕ) → 1 ≤ i → 4096 * i ≤ len → Row a l g i h
      row_there i some fits = record { some = some; inside = omega arith; seen = seen }

      module _ (i q : ℕ) (parts : 4096 * i + q ≡ len) where
        -- the script behind them
        rest_script : (v t : List ℕ) → run (held a l v t) (lay_script (grains 8 a) 12 len [] g len)
            ≡ run (held a l v t) (lay_script (grains 8 a) 12 (len - i) (full_writes g (link a h) i) (g + 4096 * i) q)
        rest_script v t = row_behind (held a l v t) (grains 8 a) g (link a h) len (below_none a s) (sym (seen v t)) inside i q parts

        -- they can be laid out
        row_able : Layable a l g i h
        row_able = record { inside = omega arith; heads = heads; before = head_leads a l (list_of 4095) h s seen }

        -- nothing is left, or one grain
        pub row_planned : q ≤ 1 → LayoutPlanned a l g len (Ok (record { at = g; full = i; head = h; last = None; used = len - q }))
        row_planned few = record {
          answers = λ c v t. sym (laid_planned (held a l v t) (grains 8 a) g len c (full_writes g (link a h) i) q
              (rest_script v t ∙ lay_end (held a l v t) (grains 8 a) 12 (len - i) (full_writes g (link a h) i) (g + 4096 * i) q few)
              ∙ rw (append-nil (full_writes g (link a h) i)));
          able = record { full = row_able; last = tt; end = omega arith };
        }

        -- a last piece
        module _ (two : 2 ≤ q) (short : q < 4096) where
          pub last_damaged : (r : Refusal) → SeenLast a l g i h (list_of (q - 1)) (Err r) → LayoutPlanned a l g len (Err r)
          last_damaged r there = layout_refused a l g len r (λ v t. rest_script v t
              ∙ last_refused (held a l v t) (grains 8 a) (full_writes g (link a h) i) (g + 4096 * i) q two (omega arith) (len - i) (omega arith) (number r)
              (sym (there v t)))

          pub last_planned : (w : ℕ) → SeenLast a l g i h (list_of (q - 1)) (Ok w)
              → LayoutPlanned a l g len (Ok (record { at = g; full = i; head = h; last = Some (record { grains = q; head = w }); used = len }))
          last_planned w there = record {
            answers = λ c v t. sym (laid_planned (held a l v t) (grains 8 a) g len c
                (full_writes g (link a h) i ++ piece_writes (g + 4096 * i) q (link a w)) 0
                (rest_script v t
                ∙ last_laid (held a l v t) (grains 8 a) (full_writes g (link a h) i) (g + 4096 * i) q two (omega arith) (len - i) (omega arith) (link a w)
                (sym (there v t)))
                ∙ rw kept);
            able = record {
              full = row_able;
              last = record {
                long = two;
                short = omega arith;
                inside = omega arith;
                heads = heads;
                before = given_leads _ a (list_of (q - 1)) w s (sym (there [] []));
              };
              end = inside;
            };
          }
            where
              kept : len - 0 ≡ len
              kept = omega arith
