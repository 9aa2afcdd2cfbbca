-- The steps of the script of a slide, as the code takes them: at each return one law says what the script answers.
use Rattle.std.specs.Prelude.{ℕ, ◌+◌, ◌-◌, ◌*◌, ◌≤◌, ◌<◌, ◌≡◌, refl, List, [], ◌++◌, length, Option, Some, None, IfSome, Result, Ok, Err, IfOk}
use Rattle.std.proofs.Common.{arith, ◌∙◌, append_assoc}
use Rattle.std.proofs.Math.Path.{ap, sym}
use Rattle.choice.specs.Choice.{if_eq, eq_yes, eq_no, le_yes, le_no}
use Rattle.bits.specs.Map.{lists}
use Rattle.class.specs.Class.{list_of}
use Rattle.definition.specs.Calls.{place, keeps}
use Rattle.invariants.proofs.Placing.{keeps_holds}
use Rattle.script.specs.Memory.{Write}
use Rattle.script.specs.Script.{ok, run, done, ◌>>=◌}
use Rattle.script.proofs.Script.{goes, halts, gives_done}
use Rattle.refusal.specs.Number.{number}
use Rattle.refusal.specs.declared.Refusal.{Refusal}
use Rattle.refusal.specs.declared.Refusal.TheVariants.{Damaged}
use Rattle.sound.specs.Checks.{see_head, see_before}
use Rattle.sound.specs.Plans.{Plan, room_of, both_leave, leave_script, elsewhere_script, down_script, move_script}
use Rattle.sound.proofs.Refused.{stops_with, stops_head}
use Rattle.slices.specs.Decode.{grains}
use Rattle.free_list.specs.Lent.{held, classes, no_link, link}
use Rattle.free_list.specs.Seen.{SeenHead}
use Rattle.free_list.specs.Leading.{head_leads}
use Rattle.neighbours.specs.declared.Neighbour.{Neighbour}
use Rattle.neighbours.specs.Shown.{seen_of, grains_of, SeenBefore}
use Rattle.neighbours.specs.Leaving.{Linked, Known, both_leaving, headed_both, second_of, room_is, both_leave_lem, head_both}
use Rattle.neighbours.specs.Within.{Behind, both_leads}
use Rattle.carve.specs.Made.{left_behind}
use Rattle.carve.specs.Left.{left_nothing, left_unlisted, left_headless, left_listed}
use Rattle.slide.specs.declared.Plan.{Plan as PlanAnswer}
use Rattle.carve.specs.declared.Rest.{Rest}
use Rattle.slide.specs.Shown.{turn_writes, SeenRest, Downs, Joined, Slides}

-- ---- what is left of t grains where k are kept

module _ (a l : List ℕ) (t k : ℕ) (e f : Option Neighbour) where
  -- nothing
  pub rest_nothing : k ≡ t → SeenRest a l t k e f (Ok (record { list = 0; head = no_link }))
  rest_nothing h = record {
    seen = λ v o z. left_nothing a l v o (both_leaving a e f) z t k h 0 (link a no_link);
    ready = λ n. absurd (n h);
    five = tt;
  }

  -- it goes to list j
  module _ (n : k ≡ t → ⊥) (j : ℕ) (g : j ≡ list_of (t - k)) where
    -- there is none
    pub rest_unlisted : lists ≤ j → SeenRest a l t k e f (Err Damaged)
    rest_unlisted h = record { seen = λ v o z. left_unlisted a l v o (both_leaving a e f) z t k n j g h; ready = tt; five = refl }

    module _ (h : j < lists) where
      -- what is beside its head doesn't agree
      pub rest_headless : (r : Refusal) → SeenHead a l j (Err r) → SeenRest a l t k e f (Err r)
      rest_headless r s = record {
        seen = λ v o z. left_headless a l v o (both_leaving a e f) z t k n j g h (number r) (s v o);
        ready = tt;
        five = stops_with (λ (i : ℕ). i ≡ 5) (held a l [] []) (see_head (grains 8 a) j) (stops_head (λ (i : ℕ). i ≡ 5) refl (grains 8 a) j) (sym (s [] []));
      }

      -- the head is the one that stands there when both neighbours left
      pub rest_headed : length a < 18446744073709551616 → Known a e → Known a f → (y : ℕ) → SeenHead a l j (Ok y)
          → SeenRest a l t k e f (Ok (record { list = j; head = headed_both e f j y }))
      rest_headed few i d y s = record {
        seen = λ v o z. left_listed a l v o (both_leaving a e f) z t k n j g h y _ (s v o) (head_both a e f j y few i d);
        ready = λ _. (h, both_leads a e f j y i d (head_leads a l j y few s));
        five = tt;
      }

-- ---- the block of t grains at z, of which k are kept for a payload at place d

module _ (a l : List ℕ) (z t : ℕ) (e : Option Neighbour) (f : Neighbour) (d p k : ℕ) (j : k ≡ keeps d p) where
  -- what is kept, from the multiple
  kept : (m : ℕ) → d ≡ place m z → keeps (place m z) p ≡ k
  kept m i = ap (λ (g : ℕ). keeps g p) (sym i) ∙ sym j

  -- the writes of both that leave
  abbrev gone : List Write
  gone = both_leaving a e (Some f)

  -- it is too small
  pub down_short : t < k → Downs a l z t e f d p (Ok None)
  unfolding down_script
  down_short h = record {
    answers = λ q u m i v o. sym (ap (run (held a l v o)) (le_no (keeps (place m z) p) t _ _ (λ n. omega (arith, kept m i))));
    able = tt;
    joined = tt;
  }

  -- the payload at q is planned to move to place g, u half grains of it, after the writes w
  abbrev moved : ℕ → ℕ → ℕ → List Write → Plan
  moved q u g w = record { answer = 2 * z + g; moved = u; early = length gone; writes = w ++ turn_writes q z g }

  module _ (h : k ≤ t) where
    enough : (q u m : ℕ) → d ≡ place m z → (v o : List ℕ) → run (held a l v o) (down_script (grains 8 a) classes q p m u z t gone)
        ≡ run (held a l v o) (leave_script (grains 8 a) classes gone z t k >>= λ w. done (moved q u d w))
    unfolding down_script
    enough q u m i v o =
        let c = held a l v o in
        let n = grains 8 a in
        ap (run c) (le_yes (keeps (place m z) p) t _ _ (omega (arith, kept m i)))
        ∙ ap (λ (g : ℕ). run c (leave_script n classes gone z t g >>= λ w. done (moved q u (place m z) w))) (kept m i)
        ∙ ap (λ (g : ℕ). run c (leave_script n classes gone z t k >>= λ w. done (moved q u g w))) (sym i)

    -- the list of what is left doesn't agree
    pub down_damaged : (r : Refusal) → SeenRest a l t k e (Some f) (Err r) → Downs a l z t e f d p (Err r)
    down_damaged r s = record {
      answers = λ q u m i v o. sym (enough q u m i v o ∙ halts (held a l v o) (leave_script (grains 8 a) classes gone z t k) _ (sym (s.seen v o z)));
      able = tt;
      joined = tt;
    }

    -- all agrees
    pub down_made : (y : Rest) → SeenRest a l t k e (Some f) (Ok y) → 0 < d → z + t < grains 8 a → Known a e → Linked a f
        → Downs a l z t e f d p (Ok (Some (record { at = z; grains = t; behind = e; before = Some f; place = d; keep = k; list = y.list; head = y.head })))
    down_made y s pos inside ke kf = record {
      answers = λ q u m i v o.
          ap (λ (w : List Write). ok (record { answer = 2 * z + d; moved = u; early = length gone; writes = w })) (sym (append_assoc gone (left_behind z t k y.list (link a y.head)) (turn_writes q z d)))
          ∙ sym (enough q u m i v o ∙ goes (held a l v o) (leave_script (grains 8 a) classes gone z t k) _ (sym (s.seen v o z))
          ∙ gives_done (held a l v o) _);
      able = record {
        behind = ke;
        before = kf;
        there = refl;
        makeable = record { inside = inside; kept = h; rest = s.ready; some = pos; pad = omega (arith, j, keeps_holds d p) };
        keep = j;
      };
      joined = (refl, refl, refl);
    }

-- ---- the plan of the whole

module _ (a l : List ℕ) (x s : ℕ) (e : Option Neighbour) (p m : ℕ) (b : Behind a x s e) where
  -- what was seen before the block doesn't agree
  pub slide_damaged : (r : Refusal) → SeenBefore a l x (Err r) → Slides a l x s e p m (Err r)
  unfolding move_script
  slide_damaged r g = record {
    answers = λ q v o. sym (halts (held a l v o) (see_before (grains 8 a) classes x) _ (sym (g.answer v o)));
    able = tt;
    joined = tt;
  }

  -- the script behind it
  before : (f : Option Neighbour) → SeenBefore a l x (Ok f) → (q : ℕ) (v o : List ℕ) → run (held a l v o) (move_script (grains 8 a) classes q p m x s (seen_of a e))
      ≡ run (held a l v o) (if_eq (room_of (seen_of a f)) 0 (elsewhere_script (grains 8 a) classes q p m (2 * (x + s) - q))
      (down_script (grains 8 a) classes q p m (2 * (x + s) - q) (x - room_of (seen_of a f)) (room_of (seen_of a f) + (s + room_of (seen_of a e))) (both_leave (seen_of a e) (x - room_of (seen_of a f)) (seen_of a f))))
  unfolding move_script
  before f g q v o = goes (held a l v o) (see_before (grains 8 a) classes x) _ (sym (g.answer v o))

  -- nobody is there
  pub slide_alone : SeenBefore a l x (Ok None) → Slides a l x s e p m (Ok None)
  slide_alone g = record {
    answers = λ q v o. sym (before None g q v o ∙ ap (run (held a l v o)) (eq_yes 0 0 _ _ refl));
    able = tt;
    joined = tt;
  }

  -- a free block is, and the payload's place in the joined block is k
  pub slide_joined : (f : Neighbour) → SeenBefore a l x (Ok (Some f)) → 1 ≤ f.grains → f.grains ≤ x → (k : ℕ) → length a < 18446744073709551616 → k ≡ place m (x - f.grains)
      → (r : Result (Option PlanAnswer) Refusal) → Downs a l (x - f.grains) (f.grains + (s + grains_of e)) e (second_of e (x - f.grains) f) k p r → Slides a l x s e p m r
  slide_joined f g some le k few j r h = record {
    answers = λ q v o.
        let c = held a l v o in
        let u = 2 * (x + s) - q in
        h.answers q u m j v o
        ∙ sym (before (Some f) g q v o
        ∙ ap (run c) (eq_no f.grains 0 _ _ (λ z. omega arith))
        ∙ ap (λ (w : ℕ). run c (down_script (grains 8 a) classes q p m u (x - f.grains) (f.grains + (s + w)) (both_leave (seen_of a e) (x - f.grains) (seen_of a (Some f))))) (room_is a e)
        ∙ ap (λ (w : List Write). run c (down_script (grains 8 a) classes q p m u (x - f.grains) (f.grains + (s + grains_of e)) w))
        (both_leave_lem a e f (x - f.grains) few (omega (arith, b.inside)) b.list g.block.list));
    able = h.able;
    joined = go r h.joined;
  }
    where
      go : (r : Result (Option PlanAnswer) Refusal) → IfOk r (λ y. IfSome y (λ t. (t.at ≡ x - f.grains) × (t.grains ≡ f.grains + (s + grains_of e)) × (t.place ≡ k))) → IfOk r (λ y. IfSome y (Joined x s e m))
      go (Ok None) w = tt
      go (Ok (Some y)) w = (omega (arith, w.0), omega (arith, w.0, w.1), w.2 ∙ j ∙ ap (place m) (sym w.0))
      go (Err y) w = tt
