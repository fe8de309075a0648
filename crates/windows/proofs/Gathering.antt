-- The pass that gathers the operations of a kind, and the stays of those that keep within the steps.
use Rattle.std.proofs.Common.{◌≡◌, ℕ, ◌+◌, ◌<◌, ◌≤◌, Bool, true, false, cond, ◌&&◌, eqb, List, [], ◌∷◌, ◌++◌, length, get_or, drop, Some, None, sym, ap, ◌∙◌, ap₂, subst, arith}
use Rattle.std.proofs.ByRecursion.{All-push}
use Rattle.std.proofs.lemmas.List.{drop_more, at_drop_more, at_drop_all, length_push}
use Rattle.std.proofs.lemmas.List.Sums.{sum_by_push}
use Rattle.std.proofs.lemmas.Bool.Decides.{nat_tests}
use Rattle.rules.specs.declared.operation.Operation.{Operation}
use Rattle.windows.specs.declared.stay.Stay.{Stay}
use Rattle.windows.specs.Counts.{lies_within, held, Inside, Keeps, StandFor}
use Rattle.windows.specs.Windows.{Frame, kept_within, confined, of_kind}

-- what is gathered before operation i: n operations of kind k, and their stays
pub record Gathers (k r t : ℕ) (os : List Operation) (fs : List Frame) (i : ℕ) (ts : List Stay) (n : ℕ) : Type 0 where
  pub few : n ≤ i
  pub short : length ts ≤ i
  pub counted : n + of_kind k (drop i os) ≡ of_kind k os
  pub kept : (s e : ℕ) → s ≤ t → e ≤ t → held s e ts + confined k r s e (drop i os) (drop i fs) ≡ confined k r s e os fs
  pub inside : Inside t ts

pub gathers_none : (k r t : ℕ) (os : List Operation) (fs : List Frame) (ts : List Stay) → ts ≡ [] → Gathers k r t os fs 0 ts 0
gathers_none k r t os fs ts none = rw none (record {
  few = omega arith;
  short = omega arith;
  counted = omega arith;
  kept = λ s e low high. omega arith;
  inside = tt;
})

module _ {k r t : ℕ} {os : List Operation} {fs : List Frame} {i : ℕ} {ts : List Stay} {n : ℕ} (g : Gathers k r t os fs i ts n) where
  module _ (more : i < length os) (same : length fs ≡ length os) (o : Operation) (f d : Frame) (at : f ≡ get_or fs i d) where
    -- operation i, and those after it
    here : (s e : ℕ) (b : Bool) → (eqb (get_or os i o).kind k && kept_within r s e f) ≡ b → confined k r s e (drop i os) (drop i fs) ≡ cond b 1 0 + confined k r s e (drop (i + 1) os) (drop (i + 1) fs)
    here s e b is =
        ap₂ (confined k r s e) (drop_more os i o more) (drop_more fs i d (omega arith))
        ∙ ap (λ y. cond (eqb (get_or os i o).kind k && kept_within r s e y) 1 0 + confined k r s e (drop (i + 1) os) (drop (i + 1) fs)) (sym at)
        ∙ ap (λ x. cond x 1 0 + confined k r s e (drop (i + 1) os) (drop (i + 1) fs)) is

    of_kind_here : (b : Bool) → eqb (get_or os i o).kind k ≡ b → of_kind k (drop i os) ≡ cond b 1 0 + of_kind k (drop (i + 1) os)
    of_kind_here b is = at_drop_more (of_kind k) os i o more ∙ ap (λ x. cond x 1 0 + of_kind k (drop (i + 1) os)) is

    -- no window keeps it
    passed : (b : Bool) → eqb (get_or os i o).kind k ≡ b → ((s e : ℕ) → e ≤ t → (eqb (get_or os i o).kind k && kept_within r s e f) ≡ false) → Gathers k r t os fs (i + 1) ts (n + cond b 1 0)
    passed b is none = record {
      few = let one : cond {A = ℕ} b 1 0 ≤ 1 = grind (arith, nat_tests) in omega (arith, g.few);
      short = omega (arith, g.short);
      counted = omega (arith, g.counted, of_kind_here b is);
      kept = λ s e low high. omega (arith, here s e false (none s e high), g.kept s e low high);
      inside = g.inside;
    }

    pub gathers_other : eqb (get_or os i o).kind k ≡ false → Gathers k r t os fs (i + 1) ts n
    gathers_other other =
        let same : n + 0 ≡ n = omega arith in
        subst (Gathers k r t os fs (i + 1) ts) same (passed false other (λ s e high. ap (λ b. b && kept_within r s e f) other))

    module _ (is : eqb (get_or os i o).kind k ≡ true) where
      pub gathers_none_of : Keeps f r t None → Gathers k r t os fs (i + 1) ts (n + 1)
      gathers_none_of keeps = passed true is (λ s e high. ap₂ ◌&&◌ is (keeps s e high))

      pub gathers_stay : (x : Stay) → Keeps f r t (Some x) → Gathers k r t os fs (i + 1) (ts ++ (x ∷ [])) (n + 1)
      gathers_stay x keeps = record {
        few = omega (arith, g.few);
        short = omega (arith, g.short, length_push ts x);
        counted = omega (arith, g.counted, of_kind_here true is);
        kept = λ s e low high.
            omega (arith, here s e (lies_within s e x) (ap₂ ◌&&◌ is (keeps.2 s e low)), sum_by_push (λ y. cond (lies_within s e y) 1 0) ts x, g.kept s e low high);
        inside = All-push (λ y. (y.begin ≤ t) × (y.end ≤ t)) ts x g.inside (keeps.0, keeps.1);
      }

  -- at the end all are gathered
  pub all_counted : length os ≤ i → n ≡ of_kind k os
  all_counted done = let none : of_kind k (drop i os) ≡ 0 = at_drop_all (of_kind k) os i done in omega (arith, g.counted)

  pub gathers_all : length os ≤ i → StandFor k r t os fs ts
  gathers_all done s e low high =
      let none : confined k r s e (drop i os) (drop i fs) ≡ 0 = at_drop_all (λ xs. confined k r s e xs (drop i fs)) os i done in
      omega (arith, g.kept s e low high)
