use Rattle.engine.specs.Lists.{listed}
use Rattle.engine.specs.Lawfuls.{piece_after}
use Rattle.engine.proofs.table.list.KnotList.piece.Goals as goal

pub new-requires : goal.new-requires
new-requires c =
    let l = c.args.self.now in rw c.as_slice-ks.ensures (piece_after (listed l) l.ok c.args.i c.requires)
