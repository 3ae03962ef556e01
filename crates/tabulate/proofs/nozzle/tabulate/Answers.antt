use Rattle.std.proofs.Common.{rules}
use Rattle.tabulate.proofs.Flows.{flow_law, flow_table}
use Rattle.tabulate.proofs.nozzle.tabulate.Goals as goal

pub returns-in_err-readings : goal.returns-in_err-readings
returns-in_err-readings c = search rules

pub returns-clause-answer : goal.returns-clause-answer
returns-clause-answer c =
    (search rules, flow_table _ _ (search rules) (search rules) (search rules) (search rules) (search rules))

pub returns-clause-law : goal.returns-clause-law
returns-clause-law c = (
  search rules,
  flow_law _ _ (flow_table _ _ (search rules) (search rules) (search rules) (search rules) (search rules)) (search rules),
)
