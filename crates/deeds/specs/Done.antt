-- What code leaves that makes the early steps of a deed, the late ones, the guards and then the tags: what is stored for all
-- of the deed's writes.
use Rattle.std.specs.Prelude.{ℕ, ◌≡◌, refl, List, [], ◌∷◌}
use Rattle.std.proofs.Common.{ap, sym, ◌∙◌}
use Rattle.machine.specs.Machine.{guard_next, guard_prev}
use Rattle.tags.specs.Each.{Each}
use Rattle.tags.specs.Within.{ToTag}
use Rattle.plans.specs.Deeds.{Deed, guard_writes}
use Rattle.lent.specs.Slices.{Slices, put_next, put_prev, stores}
use Rattle.stamps.specs.Stores.{tag_stores, stores_tags}
use Rattle.entries.specs.Answers.{slices}
use Rattle.deeds.specs.Stored.{stepped, done, deed_stored}
use Rattle.deeds.specs.Runs.{Runs, CanRun, can_all}

-- the arena with the guard of the block at x; with some guards
abbrev pub guard : List ℕ → ℕ → List ℕ
guard a x = put_prev (put_next a x (guard_next x)) x (guard_prev x)

abbrev pub guarded : List ℕ → List ℕ → List ℕ
guarded a [] = a
guarded a (x ∷ l) = guarded (guard a x) l

pub guards_stored : (a ls t g l : List ℕ) → slices (guarded a l) ls t g ≡ stores (slices a ls t g) (guard_writes l)
guards_stored a ls t g [] = refl
guards_stored a ls t g (x ∷ l) = guards_stored (guard a x) ls t g l

-- a deed that moves no payload, and writes no table of regions
pub deed_done : (d : Deed) (a ls t g a1 l1 a2 l2 b u : List ℕ) → CanRun d.early a ls → Runs d.early a ls a1 l1 → Runs d.late a1 l1 a2 l2
    → b ≡ guarded a2 d.guards → Each ToTag d.records → u ≡ tag_stores t d.records → slices b l2 u g ≡ done (slices a ls t g) d
deed_done d a ls t g a1 l1 a2 l2 b u c r1 r2 e f h =
    ap (λ (v : List ℕ). slices v l2 u g) e
    ∙ ap (λ (v : List ℕ). slices (guarded a2 d.guards) l2 v g) h
    ∙ sym (stores_tags (slices (guarded a2 d.guards) l2 t g) d.records f)
    ∙ ap (λ (S : Slices). stores S d.records) (guards_stored a2 l2 t g d.guards)
    ∙ ap (λ (S : Slices). stores (stores S (guard_writes d.guards)) d.records) (r2.is t g ∙ ap (λ (S : Slices). stepped S d.late) (r1.is t g))
    ∙ sym (deed_stored (slices a ls t g) d (can_all d.early (slices a ls t g) (c t g)))
