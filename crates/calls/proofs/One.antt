-- Only one reply is the definition's, with one heap, and what a call does to slices is one thing, too: so to say that a reply
-- is the definition's, or that a call does this, says which it is.
use Rattle.std.specs.Prelude.{ℕ, ◌≡◌, refl, List}
use Rattle.std.proofs.Common.{arith, ap, sym, ◌∙◌, subst}
use Rattle.definition.specs.Calls.{Heap}
use Rattle.definition.specs.Units.{halves, multiple}
use Rattle.sound.specs.Calls.{Call, Return, Resize, answer_of}
use Rattle.sound.specs.Runs.{Reply, yes, not, said, left}
use Rattle.calls.specs.Bytes.{ByteCall, bytes, Wrong, range, unsuited, unkind, resize_range, resize_unsuited, resize_unkind, Asks, take, back, resize, give, follow, in_bytes}
use Rattle.script.specs.Script.{Result, ok, no}
use Rattle.sound.specs.Plans.{Plan}
use Rattle.slices.specs.Slices.{Slices}
use Rattle.calls.specs.Performs.{Inside, grains_of, outcome, Early, short, outside, Goes, stored, Performs, early, refused, granted, Defines}
use Rattle.calls.specs.Runs.{DefinesAll}

-- a call asks for one thing
pub asks_one : (k : ByteCall) (K L : Call) → Asks k K → Asks k L → K ≡ L
asks_one k K L (take r) (take s) = refl
asks_one k K L (back r) (back s) = ap Return (r.number ∙ sym s.number)
asks_one k K L (resize {n = n} {a = a} r s) (resize u v) = ap (λ (q : ℕ). Resize q (halves 16 n) (multiple 16 a)) (s.number ∙ sym v.number)
asks_one k K L give give = refl
asks_one k K L follow follow = refl

-- or is wrong
pub asks_right : (k : ByteCall) (K : Call) (i : ℕ) → Asks k K → Wrong k i → ⊥
asks_right _ _ i (give {n = n}) w = elim w [ ]
asks_right _ _ i (follow {n = n}) w = elim w [ ]
asks_right k K i (take r) (range n) = n r
asks_right k K i (back s) (unsuited n) = n s.suits
asks_right k K i (back s) (unkind u n) = n s.kind
asks_right k K i (resize r s) (resize_range n) = n r
asks_right k K i (resize r s) (resize_unsuited u n) = n s.suits
asks_right k K i (resize r s) (resize_unkind u v n) = n s.kind

-- in one way
wrong_one : (k : ByteCall) (i j : ℕ) → Wrong k i → Wrong k j → i ≡ j
wrong_one k i j (range n) (range m) = refl
wrong_one k i j (unsuited n) (unsuited m) = refl
wrong_one k i j (unsuited n) (unkind u m) = absurd (n u)
wrong_one k i j (unkind u n) (unsuited m) = absurd (m u)
wrong_one k i j (unkind u n) (unkind v m) = refl
wrong_one k i j (resize_range n) (resize_range m) = refl
wrong_one k i j (resize_range n) (resize_unsuited u m) = refl
wrong_one k i j (resize_range n) (resize_unkind u v m) = absurd (n u)
wrong_one k i j (resize_unsuited u n) (resize_range m) = refl
wrong_one k i j (resize_unsuited u n) (resize_unsuited v m) = refl
wrong_one k i j (resize_unsuited u n) (resize_unkind v w m) = absurd (n w)
wrong_one k i j (resize_unkind u v n) (resize_range m) = absurd (m u)
wrong_one k i j (resize_unkind u v n) (resize_unsuited w m) = absurd (m v)
wrong_one k i j (resize_unkind u v n) (resize_unkind w x m) = refl

-- so the definition has one answer
pub defines_one : (h : Heap) (k : ByteCall) (r s : Reply) (f g : Heap) → Defines h k r f → Defines h k s g → (r ≡ s) × (f ≡ g)
defines_one h k r s f g (Defines.wrong i a) (Defines.wrong j b) = (ap not (wrong_one k i j a b), refl)
defines_one h k r s f g (Defines.wrong i a) (Defines.asked K b) = absurd (asks_right k K i b a)
defines_one h k r s f g (Defines.asked K a) (Defines.wrong j b) = absurd (asks_right k K j a b)
defines_one h k r s f g (Defines.asked K a) (Defines.asked L b) =
    let e = asks_one k K L a b in
    (ap (λ (M : Call). in_bytes k (said (answer_of 12 M h))) e, ap (λ (M : Call). left h (answer_of 12 M h)) e)

-- and one list of answers
pub defines_all_one : (h : Heap) (ks : List ByteCall) (rs qs : List Reply) (f g : Heap) → DefinesAll h ks rs f → DefinesAll h ks qs g → (rs ≡ qs) × (f ≡ g)
defines_all_one h ks rs qs f g DefinesAll.stop DefinesAll.stop = (refl, refl)
defines_all_one h ks rs qs f g (DefinesAll.step {g = a} {k = k} {r = r} {ks = js} {rs = us} p c) (DefinesAll.step {g = b} {r = s} {rs = vs} q d) =
    let e = defines_one h k r s a b p q in
    let i = defines_all_one a js us vs f g c (subst (λ (x : Heap). DefinesAll x js vs g) (sym e.1) d) in
    (cc (e.0, i.0), i.1)

-- ---- on slices

-- a script answers or refuses
no_ok : (r : Result Plan) (i : ℕ) (p : Plan) → r ≡ no i → r ≡ ok p → ⊥
no_ok r i p e f = let z : ◌≡◌ {A = ℕ} 0 1 = cc in omega arith

module _ (S : Slices) (k : ByteCall) where
  -- it is the same script for whatever was asked
  same_outcome : (K L : Call) (r s : Result Plan) → Goes S k K → Goes S k L → outcome S K ≡ r → outcome S L ≡ s → r ≡ s
  same_outcome K L r s a b e f = sym e ∙ ap (outcome S) (asks_one k K L a.asks b.asks) ∙ f

  -- what goes on is not refused early
  pub goes_late : (K : Call) (i : ℕ) → Goes S k K → Early S k i → ⊥
  goes_late K i g (short n) = n g.long
  goes_late K i g (Early.wrong j l w) = asks_right k K i g.asks w
  goes_late K i g (outside L l a n) = n (subst (Inside (grains_of S)) (asks_one k K L g.asks a) g.inside)

  -- and what is, is with one number
  early_one : (i j : ℕ) → Early S k i → Early S k j → i ≡ j
  early_one i j (short n) (short m) = refl
  early_one i j (short n) (Early.wrong h l w) = absurd (n l)
  early_one i j (short n) (outside L l a m) = absurd (n l)
  early_one i j (Early.wrong h l w) (short m) = absurd (m l)
  early_one i j (Early.wrong h l w) (Early.wrong g m v) = wrong_one k i j w v
  early_one i j (Early.wrong h l w) (outside L m a n) = absurd (asks_right k L i a w)
  early_one i j (outside K l a n) (short m) = absurd (m l)
  early_one i j (outside K l a n) (Early.wrong h m w) = absurd (asks_right k K j a w)
  early_one i j (outside K l a n) (outside L m b g) = refl

  -- so what a call does is one thing
  pub performs_one : (r s : Reply) (T U : Slices) → Performs S k r T → Performs S k s U → (r ≡ s) × (T ≡ U)
  performs_one r s T U (early i a) (early j b) = (ap not (early_one i j a b), refl)
  performs_one r s T U (early i a) (refused L j b f) = absurd (goes_late L i b a)
  performs_one r s T U (early i a) (granted L q b f) = absurd (goes_late L i b a)
  performs_one r s T U (refused K i a e) (early j b) = absurd (goes_late K j a b)
  performs_one r s T U (refused K i a e) (refused L j b f) = let z = same_outcome K L (no i) (no j) a b e f in (cc, refl)
  performs_one r s T U (refused K i a e) (granted L q b f) = absurd (no_ok (no i) i q refl (same_outcome K L (no i) (ok q) a b e f))
  performs_one r s T U (granted K p a e) (early j b) = absurd (goes_late K j a b)
  performs_one r s T U (granted K p a e) (refused L j b f) = absurd (no_ok (no j) j p refl (same_outcome L K (no j) (ok p) b a f e))
  performs_one r s T U (granted K p a e) (granted L q b f) =
      let z = same_outcome K L (ok p) (ok q) a b e f in
      let u : p ≡ q = cc in
      (ap (λ (v : Plan). yes (bytes k v.answer)) u, ap (stored S K) u ∙ ap (λ (M : Call). stored S M q) (asks_one k K L a.asks b.asks))
