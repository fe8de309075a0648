-- Every frame that is worked out is as it is meant.
use Rattle.std.proofs.Common.{ℕ, zero, suc, ◌*◌, ◌<◌, ◌≤◌, length, ⊎_elim, arith}
use Rattle.rules.specs.Jobs.{Job, Valid}
use Rattle.rules.specs.Frames.{earliest_start, Framed}
use Rattle.rules.proofs.Durations.{duration_at_short}
use Rattle.rules.proofs.Numbered.{nth_within}
use Rattle.rules.proofs.Earliest.{from_one, behind_operands, earliest_met}
use Rattle.rules.proofs.Latest.{by_the_end, ahead_of_users, latest_met}

pub frames_right : (j : Job) → Valid j → (n : ℕ) → 1 ≤ n → n ≤ length j.operations → Framed j n
frames_right j valid zero some within = absurd (omega arith)
frames_right j valid (suc n) some within =
    let o = nth_within j.operations n within in
    record {
      from_one = from_one j valid n o.0 o.1;
      behind_operands = behind_operands j valid n o.0 o.1;
      earliest_met = earliest_met j valid n o.0 o.1;
      by_the_end = by_the_end j n o.0 o.1;
      ahead_of_users = ahead_of_users j n o.0 o.1 valid;
      latest_met = latest_met j n o.0 o.1;
    }

-- an earliest start is small: each operand is an earlier operation, and lasts 8 steps at most
pub earliest_small : (j : Job) → Valid j → (m n : ℕ) → n ≤ m → 1 ≤ n → n ≤ length j.operations → earliest_start j n ≤ 8 * n
earliest_small j valid zero n le some within = absurd (omega arith)
earliest_small j valid (suc m) n le some within =
    ⊎_elim
    (λ one. omega arith)
    (λ met.
    let p : ℕ = met.0 in
    let used = met.1 in
    let before = valid.earlier_operands n used.row used.held in
    let less : p < n = ⊎_elim (λ e. omega arith) (λ e. omega arith) used.operand in
    let rest : earliest_start j p ≤ 8 * p = earliest_small j valid m p (omega arith) used.inside (omega arith) in
    omega (arith, met.2, duration_at_short j p))
    (frames_right j valid n some within).earliest_met
