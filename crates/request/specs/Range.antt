-- What a request in range leaves room for: its numbers meet what the functions that take them require, so that a call
-- which asked once tests nothing again.
use Rattle.std.specs.Prelude.{ℕ, ◌+◌, ◌^◌, ◌<◌}
use Rattle.std.proofs.Common.{arith, subst, sym}
use Rattle.align.specs.Align.{Power}
use Rattle.definition.specs.Calls.{place}
use Rattle.invariants.specs.Placing.{Align, place_most}
use Rattle.invariants.proofs.Placing.{align_pos}
use Rattle.request.specs.declared.Request.{Request}
use Rattle.request.specs.Alignment.{multiple_align, multiple_power, multiple_most}
use Rattle.request.specs.Asked.{Numbers, wanted_bytes}

module _ (n a : ℕ) (r : Request) (h : Numbers n a r) where
  -- the multiple is an alignment of the definition
  pub asked_align : Align r.multiple
  asked_align = subst Align (sym h.multiple) (multiple_align a h.range.alignment.power)

  -- and a power of two, as the place's code requires
  pub asked_power : Power r.multiple
  asked_power = subst Power (sym h.multiple) (multiple_power a h.range.alignment.power)

  -- what is looked for has a list where a search starts
  pub asked_wanted : (0 < r.wanted) × (r.wanted < 2 ^ 59)
  asked_wanted =
      let w = wanted_bytes n a h.range.alignment.power in
      (omega (arith, w, h.wanted), omega (arith, w, h.wanted, h.range.fits))

  -- place and payload make a sum that fits, wherever the block starts
  pub asked_keeps : (y : ℕ) → place r.multiple y + r.length + 1 < 2 ^ 64
  asked_keeps y =
      let m = multiple_most a h.range.alignment.most in
      let p = place_most r.multiple y (align_pos r.multiple asked_align) in
      omega (arith, m, p, h.multiple, h.length, h.range.fits)
