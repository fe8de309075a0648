-- The figures of a kind make that kind again.
use native.Mathlib.Bridge.{le_prop}
use Rattle.std.proofs.Common.{◌≡◌, leb, Ok, lit≤}
use Rattle.std.proofs.lemmas.Bool.{le-leb}
use Rattle.rules.specs.declared.kind.Kind.{Kind}
use Rattle.rules.specs.Edits.{kind_of}
use Rattle.rules.specs.Files.{figures}
use Rattle.rules.proofs.Tests.{where_on}

pub kind_of_kind : (k : Kind) → kind_of (figures k.duration k.busy k.cap k.area k.draw) ≡ Ok k
kind_of_kind k =
    where_on (λ r. r ≡ Ok k) (leb 1 k.busy) _ _ (le-leb 1 k.busy k.some_busy) (λ some.
    where_on (λ r. r ≡ Ok k) (leb k.busy k.duration) _ _ (le-leb k.busy k.duration k.busy_within) (λ within.
    where_on (λ r. r ≡ Ok k) (leb k.duration 8) _ _ (le-leb k.duration 8 k.short) (λ short.
    where_on (λ r. r ≡ Ok k) (leb k.cap 64) _ _ (le-leb k.cap 64 k.few) (λ few.
    where_on (λ r. r ≡ Ok k) (leb k.area 65535) _ _ (le-leb k.area 65535 k.area_range) (λ area.
    where_on (λ r. r ≡ Ok k) (leb k.draw 65535) _ _ (le-leb k.draw 65535 k.draw_range) (λ draw.
    λ i. Ok (record {
      duration = k.duration;
      busy = k.busy;
      cap = k.cap;
      area = k.area;
      draw = k.draw;
      some_busy = le_prop (lit≤ some) k.some_busy i;
      busy_within = le_prop (lit≤ within) k.busy_within i;
      short = le_prop (lit≤ short) k.short i;
      few = le_prop (lit≤ few) k.few i;
      area_range = le_prop (lit≤ area) k.area_range i;
      draw_range = le_prop (lit≤ draw) k.draw_range i;
    })))))))
