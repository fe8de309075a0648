-- Busy times of more than half the latency always meet.
use Rattle.std.specs.Prelude.{ℕ, ◌*◌, ◌%◌, ◌<◌}
use Rattle.std.proofs.Common.{⊎_elim, mod-lt, arith}
use Rattle.std.proofs.lemmas.Bool.{cases_lt}
use Rattle.plan.specs.Distance.{apart}
use Rattle.plan.specs.Plans.{Meet}
use Rattle.plan.proofs.Meets.{behind_meet, ahead_meet}

-- two stretches that do not fit into the latency together meet
pub long_meet : (l r a b : ℕ) → 0 < l → l < 2 * r → Meet l r a b
long_meet l r a b some much =
    ⊎_elim
    (λ near. behind_meet l r a b some near)
    (λ far. ahead_meet l r a b some (omega (arith, mod-lt (apart a b) some)))
    (cases_lt (apart a b % l) r)
