-- The duration of an operation whose row is known.
use Rattle.std.proofs.Common.{◌≡◌, ℕ, Some}
use Rattle.rules.specs.declared.operation.Operation.{Operation}
use Rattle.rules.specs.Jobs.{Job, numbered, duration_of}
use Rattle.rules.specs.Frames.{duration_at}

pub duration_held : (j : Job) (n : ℕ) (o : Operation) → numbered j.operations n ≡ Some o → duration_at j n ≡ duration_of j o
duration_held j n o e = rw (e, duration_at)
