use Rattle.std.proofs.Common.{rules}
use Rattle.tabulate.proofs.Rows.{reading_fits}
use Rattle.tabulate.proofs.readings.Readings.get.Goals as goal

pub returns-then-i-len-clause-inside : goal.returns-then-i-len-clause-inside
returns-then-i-len-clause-inside c = search (rules, reading_fits c.args.self.now c.args.i)
