use Rattle.std.proofs.Common.{◌∷◌, refl, ap₂}
use Rattle.cases.proofs.Computed.{known}
use Rattle.cases.proofs.refusal_numbers.Goals as goal

-- the numbers one by one, in the order of the enum
pub returns : goal.returns
returns c = record {
  exact =
      ap₂ ◌∷◌ c.number.ensures
      (ap₂ ◌∷◌ c.number-2.ensures
      (ap₂ ◌∷◌ c.number-3.ensures
      (ap₂ ◌∷◌ c.number-4.ensures
      (ap₂ ◌∷◌ c.number-5.ensures
      (ap₂ ◌∷◌ c.number-6.ensures
      (ap₂ ◌∷◌ c.number-7.ensures
      (ap₂ ◌∷◌ c.number-8.ensures
      (ap₂ ◌∷◌ c.number-9.ensures
      (ap₂ ◌∷◌ c.number-10.ensures
      (ap₂ ◌∷◌ c.number-11.ensures
      (ap₂ ◌∷◌ c.number-12.ensures
      (ap₂ ◌∷◌ c.number-13.ensures
      (ap₂ ◌∷◌ c.number-14.ensures
      (ap₂ ◌∷◌ c.number-15.ensures
      refl))))))))))))));
  hold = known;
}
