-- The steps of the script of a stretch, as the code takes them: at each return one law says what the script answers.
use Rattle.std.specs.Prelude.{ℕ, ◌+◌, ◌-◌, ◌≤◌, ◌<◌, ◌≡◌, length, Option, Result, Ok, Err}
use Rattle.std.proofs.Common.{arith, ◌∙◌}
use Rattle.std.proofs.Math.Path.{ap, sym}
use mathlib.Core.List.{List, []}
use Rattle.choice.specs.Choice.{eq_yes, eq_no, le_yes, le_no}
use Rattle.bits.specs.Map.{lists}
use Rattle.class.specs.Class.{list_of}
use Rattle.definition.specs.Calls.{keeps}
use Rattle.script.specs.Memory.{Write}
use Rattle.script.specs.Script.{Script, ok, no, run, done, ◌>>=◌}
use Rattle.script.proofs.Script.{goes, halts, gives_done}
use Rattle.refusal.specs.Number.{number}
use Rattle.refusal.specs.declared.Refusal.{Refusal}
use Rattle.refusal.specs.declared.Refusal.TheVariants.{Damaged}
use Rattle.sound.specs.Checks.{see_behind}
use Rattle.sound.specs.Plans.{Plan, room_of, leaves, leave_script, move_script, stretch_script, grow_script}
use Rattle.slices.specs.Decode.{grains}
use Rattle.free_list.specs.Lent.{held, classes, no_link, link}
use Rattle.free_list.specs.Seen.{SeenHead}
use Rattle.free_list.specs.Leading.{head_leads}
use Rattle.neighbours.specs.declared.Neighbour.{Neighbour}
use Rattle.neighbours.specs.Shown.{seen_of, grains_of, SeenBehind}
use Rattle.neighbours.specs.After.{headed, leaving_of}
use Rattle.neighbours.specs.Leaving.{room_is, leaves_is, one_head}
use Rattle.neighbours.specs.Within.{Behind, headed_leads, known_next}
use Rattle.carve.specs.Left.{left_nothing, left_unlisted, left_headless, left_listed}
use Rattle.stretch.specs.declared.Plan.{Plan as PlanAnswer}
use Rattle.stretch.specs.declared.Plan.TheVariants.{Same, Fitted, Short}
use Rattle.stretch.specs.Shown.{stays, Planned}

-- ---- what stands behind was seen

module _ (a l v o : List ℕ) (x s m : ℕ) (e : Option Neighbour) (b : Behind a x s e) (q p u d : ℕ) (k : keeps d p ≡ m) where
  room : s + room_of (seen_of a e) ≡ s + grains_of e
  room = ap (λ (g : ℕ). s + g) (room_is a e)

  -- both together are too small
  too_small : s + grains_of e < m → run (held a l v o) (move_script (grains 8 a) classes q p u x s (seen_of a e))
      ≡ run (held a l v o) (stretch_script (grains 8 a) classes q p u d x s (seen_of a e))
  unfolding stretch_script
  too_small h = sym (ap (run (held a l v o)) (le_no (keeps d p) (s + room_of (seen_of a e)) _ _ (λ i. omega (arith, room, k))))

  -- they are enough: the block leaves what it doesn't need
  enough : m ≤ s + grains_of e → run (held a l v o) (stretch_script (grains 8 a) classes q p u d x s (seen_of a e))
      ≡ run (held a l v o) (leave_script (grains 8 a) classes (leaving_of a e) x (s + grains_of e) m >>= λ w. done (stays q w))
  unfolding stretch_script
  enough h =
      let c = held a l v o in
      let n = grains 8 a in
      ap (run c) (le_yes (keeps d p) (s + room_of (seen_of a e)) _ _ (omega (arith, room, k)))
      ∙ ap (λ (t : ℕ). run c (leave_script n classes (leaves (seen_of a e)) x t (keeps d p) >>= λ w. done (stays q w))) room
      ∙ ap (λ (i : ℕ). run c (leave_script n classes (leaves (seen_of a e)) x (s + grains_of e) i >>= λ w. done (stays q w))) k
      ∙ ap (λ (y : List Write). run c (leave_script n classes y x (s + grains_of e) m >>= λ w. done (stays q w))) (leaves_is a e b.list)

  -- as it can, or not
  fits : m ≤ s + grains_of e → {w : List Write} → ok w ≡ run (held a l v o) (leave_script (grains 8 a) classes (leaving_of a e) x (s + grains_of e) m)
      → ok (stays q w) ≡ run (held a l v o) (stretch_script (grains 8 a) classes q p u d x s (seen_of a e))
  fits h {w} f =
      let c = held a l v o in
      sym (enough h ∙ goes c (leave_script (grains 8 a) classes (leaving_of a e) x (s + grains_of e) m) _ (sym f) ∙ gives_done c (stays q w))

  fails : m ≤ s + grains_of e → (r : ℕ) → no r ≡ run (held a l v o) (leave_script (grains 8 a) classes (leaving_of a e) x (s + grains_of e) m)
      → no r ≡ run (held a l v o) (stretch_script (grains 8 a) classes q p u d x s (seen_of a e))
  fails h r f = sym (enough h ∙ halts (held a l v o) (leave_script (grains 8 a) classes (leaving_of a e) x (s + grains_of e) m) _ (sym f))

-- ---- the plan, where what stands behind was seen

module _ (a l : List ℕ) (x s m : ℕ) (e : Option Neighbour) (b : Behind a x s e) where
  -- the script from there on
  abbrev fitting : ℕ → ℕ → ℕ → ℕ → Script Plan
  fitting q p u d = stretch_script (grains 8 a) classes q p u d x s (seen_of a e)

  -- both together are too small
  pub fit_short : s + grains_of e < m → Planned a l fitting x s m (Ok (Short e))
  fit_short h = record { answers = λ q p u d k v o. too_small a l v o x s m e b q p u d k h; ready = (b, h) }

  -- nothing is left over
  pub fit_whole : m ≡ s + grains_of e → Planned a l fitting x s m (Ok (Fitted (record { behind = e; list = 0; head = no_link })))
  fit_whole h = record {
    answers = λ q p u d k v o. fits a l v o x s m e b q p u d k (omega arith) (left_nothing a l v o (leaving_of a e) x (s + grains_of e) m h 0 (link a no_link));
    ready = (b, record { behind = b.known; inside = b.inside; kept = omega arith; rest = λ n. absurd (n h) });
  }

  -- list k is that of what is left
  module _ (f : m ≤ s + grains_of e) (n : m ≡ s + grains_of e → ⊥) (k : ℕ) (g : k ≡ list_of (s + grains_of e - m)) where
    -- there is none
    pub fit_unlisted : lists ≤ k → Planned a l fitting x s m (Err Damaged)
    fit_unlisted h = record {
      answers = λ q p u d j v o. fails a l v o x s m e b q p u d j f 5 (left_unlisted a l v o (leaving_of a e) x (s + grains_of e) m n k g h);
      ready = tt;
    }

    module _ (h : k < lists) where
      -- what is beside its head doesn't agree
      pub fit_headless : (r : Refusal) → SeenHead a l k (Err r) → Planned a l fitting x s m (Err r)
      fit_headless r z = record {
        answers = λ q p u d j v o. fails a l v o x s m e b q p u d j f (number r) (left_headless a l v o (leaving_of a e) x (s + grains_of e) m n k g h (number r) (z v o));
        ready = tt;
      }

      -- all agrees: the head is the one that stands there when the neighbour left
      pub fit_listed : length a < 18446744073709551616 → (y : ℕ) → SeenHead a l k (Ok y) → Planned a l fitting x s m (Ok (Fitted (record { behind = e; list = k; head = headed e k y })))
      fit_listed t y z = record {
        answers = λ q p u d i v o. fits a l v o x s m e b q p u d i f
            (left_listed a l v o (leaving_of a e) x (s + grains_of e) m n k g h y _ (z v o) (one_head a e k y t b.known));
        ready = (
          b,
          record {
            behind = b.known;
            inside = b.inside;
            kept = f;
            rest = λ _. (h, headed_leads a e k y (known_next a e b.known) (head_leads a l k y t z));
          },
        );
      }

-- ---- the plan of the whole

module _ (a l : List ℕ) (x s m : ℕ) where
  abbrev growing : ℕ → ℕ → ℕ → ℕ → Script Plan
  growing q p u d = grow_script (grains 8 a) classes q p u d x s

  -- nothing to do
  pub plan_same : m ≡ s → Planned a l growing x s m (Ok Same)
  unfolding grow_script
  plan_same h = record {
    answers = λ q p u d k v o. sym (ap (run (held a l v o)) (eq_yes (keeps d p) s _ _ (k ∙ h)) ∙ gives_done (held a l v o) (stays q []));
    ready = tt;
  }

  module _ (n : m ≡ s → ⊥) where
    grows : (q p u d : ℕ) → keeps d p ≡ m → (v o : List ℕ) → run (held a l v o) (growing q p u d)
        ≡ run (held a l v o) (see_behind (grains 8 a) classes (x + s) >>= λ b. stretch_script (grains 8 a) classes q p u d x s b)
    unfolding grow_script
    grows q p u d k v o = ap (run (held a l v o)) (eq_no (keeps d p) s _ _ (λ i. n (sym k ∙ i)))

    -- what stands behind doesn't agree
    pub plan_damaged : (r : Refusal) → SeenBehind a l (x + s) (Err r) → Planned a l growing x s m (Err r)
    plan_damaged r z = record {
      answers = λ q p u d k v o. sym (grows q p u d k v o ∙ halts (held a l v o) (see_behind (grains 8 a) classes (x + s)) _ (sym (z.answer v o)));
      ready = tt;
    }

    -- the rest hangs on it
    pub plan_fit : (e : Option Neighbour) → SeenBehind a l (x + s) (Ok e) → (r : Result PlanAnswer Refusal)
        → Planned a l (λ q p u d. stretch_script (grains 8 a) classes q p u d x s (seen_of a e)) x s m r → Planned a l growing x s m r
    plan_fit e z r f = record {
      answers = λ q p u d j v o. f.answers q p u d j v o ∙ sym (grows q p u d j v o ∙ goes (held a l v o) (see_behind (grains 8 a) classes (x + s)) _ (sym (z.answer v o)));
      ready = f.ready;
    }
