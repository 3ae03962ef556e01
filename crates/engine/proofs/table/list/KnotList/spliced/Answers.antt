use Rattle.std.proofs.Common.{ap, ◌∙◌}
use Rattle.engine.specs.Knots.{lawful}
use Rattle.engine.proofs.Lists.{spliced_is}
use Rattle.engine.proofs.table.list.KnotList.spliced.Goals as goal

pub invariant_of-result-clause-ok : goal.invariant_of-result-clause-ok
invariant_of-result-clause-ok c =
    ap lawful
    (spliced_is c.args.self.now c.args.slot.start c.args.slot.end c.args.others.now c.requires.order c.requires.inside
    c.requires.few c.copy_within.new.self c.copy_from_slice.new.self c.copy_within.ensures.after
    c.copy_from_slice.ensures.after)
    ∙ c.requires.ok

pub returns : goal.returns
returns c =
    spliced_is c.args.self.now c.args.slot.start c.args.slot.end c.args.others.now c.requires.order c.requires.inside
    c.requires.few c.copy_within.new.self c.copy_from_slice.new.self c.copy_within.ensures.after
    c.copy_from_slice.ensures.after
