-- The job that the tables of the code make up.
use Rattle.rules.specs.Jobs.{Job}
use Rattle.tables.specs.declared.tables.Tables.TheInside.{Inside}

abbrev pub made_up : Inside → Job
made_up t = record { kinds = t.kinds.items; operations = t.operations.items; steps = t.steps; latency = t.latency }
