-- What follows from specs/Payload.antt.
use Rattle.std.specs.Prelude.{ℕ, ◌+◌, ◌*◌, ◌≤◌, ◌<◌, ◌≡◌, List, [], ◌∷◌}
use Rattle.std.proofs.Common.{arith, inl, inr, ⊎_elim}
use Rattle.choice.specs.Choice.{le?}
use Rattle.word.specs.Number.{Apart}
use Rattle.script.specs.Memory.{Write}
use Rattle.sound.specs.Payloads.{InPayload, Spares}
use Rattle.slices.proofs.Fields.{by_field}
use Rattle.slices.specs.Kept.{Outside, AllOutside}
use Rattle.calls.specs.Payload.{InPayloadBytes}

module _ (j y s d : ℕ) (i : InPayloadBytes j y s d) where
  -- a word that is not the payload's does not have the byte
  word_apart : (f x : ℕ) → (InPayload f x y s d → ⊥) → Apart (8 * (4 * x + f)) 8 j 1
  word_apart f x n = ⊎_elim
      (λ (h : 8 * (4 * x + f) + 8 ≤ j). inl h)
      (λ (h : j < 8 * (4 * x + f) + 8). ⊎_elim
      (λ (g : j + 1 ≤ 8 * (4 * x + f)). inr g)
      (λ (g : 8 * (4 * x + f) < j + 1). absurd (n (omega arith, omega arith)))
      (le? (j + 1) (8 * (4 * x + f))))
      (le? (8 * (4 * x + f) + 8) j)

  -- so a write that spares the payload is outside the byte
  write_outside : (w : Write) → (w.field < 4 → InPayload w.field w.place y s d → ⊥) → Outside 8 j w
  write_outside w = by_field (λ f. (f < 4 → InPayload f x y s d → ⊥) → Outside 8 j (record { field = f; place = x; value = w.value }))
      (λ n. rw (at_zero x) (word_apart 0 x (n (omega arith))))
      (λ n. word_apart 1 x (n (omega arith)))
      (λ n. inr (word_apart 2 x (n (omega arith))))
      (λ n. word_apart 3 x (n (omega arith)))
      (λ _. tt) (λ _. tt) (λ _. tt) (λ f _. tt)
      w.field
    where
      x : ℕ
      x = w.place

      at_zero : (x : ℕ) → 8 * (4 * x) ≡ 8 * (4 * x + 0)
      at_zero x = omega arith

  pub writes_outside : (l : List Write) → Spares y s d l → AllOutside 8 j l
  writes_outside [] a = tt
  writes_outside (w ∷ l) a = (write_outside w a.0, writes_outside l a.1)
