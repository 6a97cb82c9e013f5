use Rattle.std.proofs.Common.{◌∙◌, lit<}
use Rattle.field.specs.Field.{row}
use Rattle.elements.proofs.Blends.{blend_none, blend_all}
use Rattle.elements.proofs.lanes.blended.Goals as goal

pub stepped-sum-requires : goal.stepped-sum-requires
stepped-sum-requires g c = (lit< tt, blend_none (row g.row.A g.row.B g.row.C g.row.D) 32 c.args.w c.args.x c.args.y c.args.z c.fits-w.0)

pub returns : goal.returns
returns g c =
    c.stepped.ensures ∙ blend_all (row g.row.A g.row.B g.row.C g.row.D) 32 c.args.w c.args.x c.args.y c.args.z c.fits-w c.fits-x c.fits-y c.fits-z
