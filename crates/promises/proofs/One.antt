-- A call asks for one thing, and what it does is one thing: so to say that a call does this says which it is. A call that goes on
-- is refused exactly where its script is.
use Rattle.std.specs.Prelude.{ℕ, ◌≡◌, refl}
use Rattle.std.proofs.Common.{arith, ap, sym, ◌∙◌}
use Rattle.definition.specs.Units.{halves, multiple}
use Rattle.script.specs.Script.{Result, ok, no}
use Rattle.machine.specs.Machine.{half, classes}
use Rattle.plans.specs.Deeds.{Plan}
use Rattle.plans.specs.Calls.{Call, Reallocate}
use Rattle.refines.specs.Runs.{Reply, yes, not, Model, answers, next}
use Rattle.lent.specs.Slices.{Slices}
use Rattle.lent.specs.Kept.{Lengths}
use Rattle.promises.specs.Bytes.{ByteCall, Wrong, range, between, resize_range, resize_unsuited, resize_between, Asks, take, back, resize, give, follow, bytes, in_bytes}
use Rattle.promises.specs.Performs.{outcome, Early, short, Goes, stored, Performs, early, refused, granted, Defines}
use Rattle.promises.proofs.Carrying.{stored_lengths}

-- a call asks for one thing
pub asks_one : (k : ByteCall) (K L : Call) → Asks k K → Asks k L → K ≡ L
asks_one k K L (take r) (take s) = refl
asks_one k K L (back r) (back s) = refl
asks_one k K L (resize {n = n} {a = a} r s) (resize u v) = ap (λ (q : ℕ). Reallocate q (halves half n) (multiple half a)) (s.number ∙ sym v.number)
asks_one k K L give give = refl
asks_one k K L follow follow = refl

-- or is wrong
pub asks_right : (k : ByteCall) (K : Call) (i : ℕ) → Asks k K → Wrong k i → ⊥
asks_right _ _ i (give {b = b} {n = n}) x4 = elim x4 [ ]
asks_right _ _ i (follow {b = b} {n = n}) x5 = elim x5 [ ]
asks_right k K i (take r) (range n) = n r
asks_right k K i (back e) (between n) = n e
asks_right k K i (resize r s) (resize_range n) = n r
asks_right k K i (resize r s) (resize_unsuited u n) = n s.suits
asks_right k K i (resize r s) (resize_between u v n) = n s.kind

-- in one way
pub wrong_one : (k : ByteCall) (i j : ℕ) → Wrong k i → Wrong k j → i ≡ j
wrong_one k i j (range n) (range m) = refl
wrong_one k i j (between n) (between m) = refl
wrong_one k i j (resize_range n) (resize_range m) = refl
wrong_one k i j (resize_range n) (resize_unsuited u m) = refl
wrong_one k i j (resize_range n) (resize_between u v m) = absurd (n u)
wrong_one k i j (resize_unsuited u n) (resize_range m) = refl
wrong_one k i j (resize_unsuited u n) (resize_unsuited v m) = refl
wrong_one k i j (resize_unsuited u n) (resize_between v w m) = absurd (n w)
wrong_one k i j (resize_between u v n) (resize_range m) = absurd (m u)
wrong_one k i j (resize_between u v n) (resize_unsuited w m) = absurd (m v)
wrong_one k i j (resize_between u v n) (resize_between w x m) = refl

-- so the definition has one answer
pub defines_one : (most : ℕ) (s : Model) (k : ByteCall) (r q : Reply) (f g : Model) → Defines most s k r f → Defines most s k q g → (r ≡ q) × (f ≡ g)
defines_one most s k r q f g (Defines.wrong i a) (Defines.wrong j b) = (ap not (wrong_one k i j a b), refl)
defines_one most s k r q f g (Defines.wrong i a) (Defines.asked K b) = absurd (asks_right k K i b a)
defines_one most s k r q f g (Defines.asked K a) (Defines.wrong j b) = absurd (asks_right k K j a b)
defines_one most s k r q f g (Defines.asked K a) (Defines.asked L b) =
    let e = asks_one k K L a b in
    (ap (λ (M : Call). in_bytes k (answers classes most M s)) e, ap (λ (M : Call). next classes most M s) e)

-- ---- on slices

-- a script answers or refuses
pub no_ok : (r : Result Plan) (i : ℕ) (t : Plan) → r ≡ no i → r ≡ ok t → ⊥
no_ok r i t e f = let z : ◌≡◌ {A = ℕ} 0 1 = cc in omega arith

module _ (S : Slices) (k : ByteCall) where
  -- it is the same script for whatever was asked
  same_outcome : (K L : Call) (r s : Result Plan) → Goes S k K → Goes S k L → outcome S K ≡ r → outcome S L ≡ s → r ≡ s
  same_outcome K L r s a b e f = sym e ∙ ap (outcome S) (asks_one k K L a.asks b.asks) ∙ f

  -- what goes on is not refused early
  pub goes_late : (K : Call) (i : ℕ) → Goes S k K → Early S k i → ⊥
  goes_late K i g (short n) = n g.long
  goes_late K i g (Early.wrong j l w) = asks_right k K i g.asks w

  -- and what is, is with one number
  early_one : (i j : ℕ) → Early S k i → Early S k j → i ≡ j
  early_one i j (short n) (short m) = refl
  early_one i j (short n) (Early.wrong h l w) = absurd (n l)
  early_one i j (Early.wrong h l w) (short m) = absurd (m l)
  early_one i j (Early.wrong h l w) (Early.wrong g m v) = wrong_one k i j w v

  -- so what a call does is one thing
  pub performs_one : (r s : Reply) (T U : Slices) → Performs S k r T → Performs S k s U → (r ≡ s) × (T ≡ U)
  performs_one r s T U (early i a) (early j b) = (ap not (early_one i j a b), refl)
  performs_one r s T U (early i a) (refused L j b f) = absurd (goes_late L i b a)
  performs_one r s T U (early i a) (granted L q b f) = absurd (goes_late L i b a)
  performs_one r s T U (refused K i a e) (early j b) = absurd (goes_late K j a b)
  performs_one r s T U (refused K i a e) (refused L j b f) = let z = same_outcome K L (no i) (no j) a b e f in (cc, refl)
  performs_one r s T U (refused K i a e) (granted L q b f) = absurd (no_ok (no i) i q refl (same_outcome K L (no i) (ok q) a b e f))
  performs_one r s T U (granted K p a e) (early j b) = absurd (goes_late K j a b)
  performs_one r s T U (granted K p a e) (refused L j b f) = absurd (no_ok (no j) j p refl (same_outcome L K (no j) (ok p) b a f e))
  performs_one r s T U (granted K p a e) (granted L q b f) =
      let z = same_outcome K L (ok p) (ok q) a b e f in
      let u : p ≡ q = cc in
      (ap (λ (v : Plan). yes (bytes k v.answer)) u, ap (stored S K) u ∙ ap (λ (M : Call). stored S M q) (asks_one k K L a.asks b.asks))

  -- ---- refusals

  -- the script refuses, so the call does
  pub refused_by : (K : Call) → Goes S k K → (r : Reply) (T : Slices) (i : ℕ) → Performs S k r T → outcome S K ≡ no i → r ≡ not i
  refused_by K g r T i p e = (performs_one r (not i) T S p (refused K i g e)).0

  -- the call does, so the script refuses
  pub refused_in : (K : Call) → Goes S k K → (r : Reply) (T : Slices) (i : ℕ) → Performs S k r T → r ≡ not i → outcome S K ≡ no i
  refused_in K g r T i (early j a) e = absurd (goes_late K j g a)
  refused_in K g r T i (refused L j f q) e =
      let z : j ≡ i = cc in
      ap (outcome S) (asks_one k K L g.asks f.asks) ∙ q ∙ ap no z
  refused_in K g r T i (granted L p f q) e = let z : ◌≡◌ {A = ℕ} 0 1 = cc in absurd (omega arith)

  -- T1: a refusal changes nothing
  pub refusal_unchanged : (r : Reply) (T : Slices) → Performs S k r T → (i : ℕ) → r ≡ not i → T ≡ S
  refusal_unchanged r T (early j a) i e = refl
  refusal_unchanged r T (refused K j g f) i e = refl
  refusal_unchanged r T (granted K t g f) i e = let z : ◌≡◌ {A = ℕ} 0 1 = cc in absurd (omega arith)

  -- all lengths stay
  pub performs_lengths : (r : Reply) (T : Slices) → Performs S k r T → Lengths S T
  performs_lengths r T (early i e) = record { arena = refl; lists = refl; tags = refl; regions = refl }
  performs_lengths r T (refused K i g e) = record { arena = refl; lists = refl; tags = refl; regions = refl }
  performs_lengths r T (granted K t g e) = stored_lengths S K t
