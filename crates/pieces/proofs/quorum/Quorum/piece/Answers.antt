use Rattle.std.proofs.Common.{◌∙◌}
use Rattle.pieces.proofs.Pieces.{rising_four, is_first, is_second, is_third, is_fourth, is_lost}
use Rattle.pieces.proofs.quorum.Quorum.piece.Goals as goal

pub returns-then-wanted-self : goal.returns-then-wanted-self
returns-then-wanted-self c = c.copy_from_slice.ensures.after ∙ is_first (rising_four c.args.self.now) c.args.wanted c.if-wanted-self.true

pub returns-then-wanted-self-2 : goal.returns-then-wanted-self-2
returns-then-wanted-self-2 c = c.copy_from_slice-then-wanted-self-2.ensures.after ∙ is_second (rising_four c.args.self.now) c.args.wanted c.if-wanted-self-2.true

pub returns-then-wanted-self-3 : goal.returns-then-wanted-self-3
returns-then-wanted-self-3 c = c.copy_from_slice-then-wanted-self-3.ensures.after ∙ is_third (rising_four c.args.self.now) c.args.wanted c.if-wanted-self-3.true

pub returns-then-wanted-self-4 : goal.returns-then-wanted-self-4
returns-then-wanted-self-4 c = c.copy_from_slice-then-wanted-self-4.ensures.after ∙ is_fourth (rising_four c.args.self.now) c.args.wanted c.if-wanted-self-4.true

pub returns-else-wanted-self-4 : goal.returns-else-wanted-self-4
returns-else-wanted-self-4 c =
    c.fill_lost.ensures
    ∙ is_lost (rising_four c.args.self.now) c.args.wanted c.requires.0 c.if-wanted-self.false c.if-wanted-self-2.false c.if-wanted-self-3.false c.if-wanted-self-4.false
