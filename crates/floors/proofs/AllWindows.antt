-- What bounds every window bounds the greatest of them.
use Rattle.std.specs.Prelude.{ℕ, zero, suc, ◌+◌, ◌-◌, ◌*◌, ◌<◌, ◌≤◌, cond, ◌&&◌, List, nat_lt}
use Rattle.std.proofs.Common.{zero-le, arith}
use Rattle.std.proofs.Math.Nat.{max-le}
use Rattle.std.proofs.lemmas.Bool.Decides.{nat_tests}
use Rattle.rules.specs.Jobs.{Job, figure}
use Rattle.plan.specs.declared.slot.Slot.{Slot}
use Rattle.windows.specs.Windows.{greatest, over_windows, of_kind, window, windows}

pub greatest_le : (b : ℕ) (f : ℕ → ℕ) (s n : ℕ) → ((i : ℕ) → f i ≤ b) → greatest f s n ≤ b
greatest_le b f s zero each = zero-le
greatest_le b f s (suc n) each = max-le (each (s + n)) (greatest_le b f s n each)

pub over_windows_le : (b t : ℕ) (f : ℕ → ℕ → ℕ) → ((s e : ℕ) → f s e ≤ b) → over_windows t f ≤ b
over_windows_le b t f each = greatest_le b (λ s. greatest (f s) s (t + 1 - s)) 1 t (λ s. greatest_le b (f s) s (t + 1 - s) (each s))

alone_counted : (l b n r : ℕ) → (0 < l → l < 2 * r → n ≤ b) → cond (nat_lt 0 l && nat_lt l (2 * r)) n 0 ≤ b
alone_counted l b n r alone = grind (arith, nat_tests)

pub windows_le : (j : Job) (p : List Slot) (k b : ℕ)
    → ((s e : ℕ) → window j p k (figure (λ kind. kind.busy) j.kinds k) s e ≤ b)
    → (0 < j.latency → j.latency < 2 * figure (λ kind. kind.busy) j.kinds k → of_kind k j.operations ≤ b) → windows j p k ≤ b
windows_le j p k b each alone =
    let r : ℕ = figure (λ kind. kind.busy) j.kinds k in
    max-le (over_windows_le b j.steps (window j p k r) each) (alone_counted j.latency b (of_kind k j.operations) r alone)
