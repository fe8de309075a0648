-- Quotients that are rounded up.
use Rattle.std.proofs.Common.{◌≡◌, ℕ, suc, ◌+◌, ◌-◌, ◌*◌, ◌/◌, ◌%◌, ◌<◌, ◌≤◌, min, ⊎_elim, suc-mul, div-lt_iff_lt-mul, mul-le-mul_left, le-div_iff_mul-le, arith}
use Rattle.std.proofs.lemmas.Bool.{cases_lt}
use Rattle.std.proofs.lemmas.Grind.{div_ceil_times}
use Rattle.windows.specs.Windows.{rounded_up}

module _ (floor work room : ℕ) (some : 1 ≤ room) where
  pub above : floor * room < work → floor < rounded_up work room
  above less =
      let e : suc floor * room ≡ floor * room + room = suc-mul floor room in
      let fits : suc floor * room ≤ work + (room - 1) = omega arith in
      (le-div_iff_mul-le {k = room} {x = suc floor} {y = work + (room - 1)} some).1 fits

  pub enough : work ≤ floor * room → rounded_up work room ≤ floor
  enough covered =
      let e : suc floor * room ≡ floor * room + room = suc-mul floor room in
      let fits : work + (room - 1) < suc floor * room = omega arith in
      let less : (work + (room - 1)) / room < suc floor = (div-lt_iff_lt-mul {k = room} {x = work + (room - 1)} {y = suc floor} some).1 fits in
      omega arith

covered : (work room : ℕ) → 1 ≤ room → work ≤ rounded_up work room * room
covered work room some =
    ⊎_elim
    (λ less. let none : ⊥ = omega (arith, above (rounded_up work room) work room some less) in absurd none)
    (λ more. more)
    (cases_lt (rounded_up work room * room) work)

-- less work and more room do not raise the quotient
pub no_greater : (less work room wide : ℕ) → less ≤ work → 1 ≤ room → room ≤ wide → rounded_up less wide ≤ rounded_up work room
no_greater less work room wide few some more =
    let holds : work ≤ rounded_up work room * room = covered work room some in
    let grows : rounded_up work room * room ≤ rounded_up work room * wide = mul-le-mul_left (rounded_up work room) more in
    enough (rounded_up work room) less wide (omega arith) (omega arith)

pub no_larger : (work room : ℕ) → 1 ≤ room → rounded_up work room ≤ work
no_larger work room some =
    let more : work * 1 ≤ work * room = mul-le-mul_left work some in
    enough work work room some (omega arith)

-- what `div_ceil` answers
pub rounded_up_is : (work room : ℕ) → 1 ≤ room → rounded_up work room ≡ work / room + min 1 (work % room)
rounded_up_is work room some = grind (arith, div_ceil_times work room some, above (work / room + min 1 (work % room) - 1) work room some, enough (work / room + min 1 (work % room)) work room some)
