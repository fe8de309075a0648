-- Refusals, library and records, computed.
use Rattle.std.proofs.Common.{refl}
use Rattle.cases.specs.Known.{Known}

pub known : Known
known = record {
  numbers = refl;
  new = (refl, refl);
  by_library = refl;
  by_file = refl;
  by_library_file = refl;
  loaded_over = refl;
  refused_over = refl;
  refused_edits = refl;
}
