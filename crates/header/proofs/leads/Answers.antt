-- `header::leads`: one word leads to a grain, and the code compares with that word.
use mathlib.Core.Path.{◌∙◌, sym}
use Rattle.header.specs.Told.{says_eqb, leads_yes, leads_no}
use Rattle.header.proofs.leads.Goals as goal

pub returns : goal.returns
returns c =
    let s = c.args in
    says_eqb _ c.field.result c.bytes_of.result
    (λ e. leads_yes s.a.now s.g s.f c.field.result s.y 0 c.requires.0 c.requires.2 c.well_formed.0.0 c.field.ensures (e ∙ c.bytes_of.ensures))
    (λ n. leads_no s.a.now s.g s.f c.field.result s.y 0 c.requires.0 c.requires.2 c.well_formed.0.0 c.field.ensures (λ e. n (e ∙ sym c.bytes_of.ensures)))
