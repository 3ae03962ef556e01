use Rattle.std.proofs.Common.{◌*◌, pos, ap₂, ◌∙◌}
use Rattle.engine.specs.Fraction.{◌÷◌}
use Rattle.engine.specs.Tables.{round_up}
use Rattle.engine.proofs.PieceBounds.{quotient_up_is}
use Rattle.engine.proofs.table.piece.Piece.rise.Goals as goal

pub returns-in-Line : goal.returns-in-Line
returns-in-Line c =
    rw c.in-Line.is
    (c.div_ceil.ensures
    ∙ quotient_up_is c.height-in-Line.result c.width.result c.width.ensures.some
    ∙ ap₂ (λ d h. round_up (pos d ÷ h)) c.height-in-Line.ensures.is c.width.ensures.is)

pub returns-in-Cubic : goal.returns-in-Cubic
returns-in-Cubic c =
    rw c.in-Cubic.is
    (c.div_ceil-in-Cubic.ensures
    ∙ quotient_up_is (3 * c.height-in-Cubic.result) c.width-in-Cubic.result c.width-in-Cubic.ensures.some
    ∙ ap₂ (λ d h. round_up (pos (3 * d) ÷ h)) c.height-in-Cubic.ensures.is c.width-in-Cubic.ensures.is)
