use Rattle.std.proofs.Common.{sym, arith}
use Rattle.rules.proofs.Figures.{kind_of_kind}
use Rattle.rules.proofs.Outcomes.{kind_refused}
use Rattle.rules.proofs.kind.tested.KindTryFromFigures.try_from.Goals as goal

pub returns-then-figures-eq0 : goal.returns-then-figures-eq0
returns-then-figures-eq0 c = kind_refused c.args.figures (omega arith) (omega arith) (λ some within short few. omega arith)

pub returns-then-figures-gt-LONGEST_DURATION : goal.returns-then-figures-gt-LONGEST_DURATION
returns-then-figures-gt-LONGEST_DURATION c = kind_refused c.args.figures (omega arith) (omega arith) (λ some within short few. omega arith)

pub returns : goal.returns
returns c = sym (kind_of_kind _)
