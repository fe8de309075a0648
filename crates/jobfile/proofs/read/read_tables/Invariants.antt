use Rattle.std.proofs.Common.{◌≡◌, ◌-◌, ◌<◌, length}
use Rattle.rules.specs.Files.{with_records, loaded}
use Rattle.jobfile.proofs.read.read_tables.Given as goal

-- what is left of the file makes of the tables what the whole file stands for
abbrev pub invariant-loop-rest : goal.invariant-loop-rest
invariant-loop-rest l =
    (with_records (length l.rest) l.tables (length l.file - length l.rest) l.rest ≡ loaded l.file)
    × (length l.rest < length l.file)

abbrev pub decreases-loop-rest : goal.decreases-loop-rest
decreases-loop-rest l = length l.rest
