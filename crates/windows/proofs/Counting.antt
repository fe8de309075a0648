-- How many stays a window holds.
use Rattle.std.proofs.Common.{◌≡◌, ℕ, zero, suc, ◌+◌, ◌<◌, ◌≤◌, Bool, false, cond, ◌&&◌, eqb, ltb, leb, List, [], ◌∷◌, length, get_or, take, set, sum, count_by, sym, refl, ap, ◌∙◌, ap₂, arith}
use Rattle.std.specs.List.{AllByRecursion}
use Rattle.std.proofs.lemmas.List.{take_all}
use Rattle.std.proofs.lemmas.List.Sums.{sum_by-cons, count_by-le-length}
use Rattle.std.proofs.lemmas.Bool.Decides.{nat_tests}
use Rattle.windows.specs.declared.stay.Stay.{Stay}
use Rattle.windows.specs.Counts.{lies_within, held, starting, Tallies, Inside}

module _ {X : Type 0} (p q : X → Bool) where
  -- what passes a test passes one of two others
  parts : (r : X → Bool) → ((x : X) → ◌≡◌ {A = ℕ} (cond (p x) 1 0) (cond (q x) 1 0 + cond (r x) 1 0)) → (xs : List X) → count_by p xs ≡ count_by q xs + count_by r xs
  parts r split [] = refl
  parts r split (x ∷ xs) =
      omega (arith, sum_by-cons (λ y. cond (p y) 1 0) x xs, sum_by-cons (λ y. cond (q y) 1 0) x xs, sum_by-cons (λ y. cond (r y) 1 0) x xs, split x, parts r split xs)

  same_where : (P : X → Type 0) → ((x : X) → P x → p x ≡ q x) → (xs : List X) → AllByRecursion P xs → count_by p xs ≡ count_by q xs
  same_where P same [] all = refl
  same_where P same (x ∷ xs) all =
      sum_by-cons (λ y. cond (p y) 1 0) x xs
      ∙ ap₂ (λ b n. cond b 1 0 + n) (same x all.0) (same_where P same xs all.1)
      ∙ sym (sum_by-cons (λ y. cond (q y) 1 0) x xs)

pub none_where : {X : Type 0} (p : X → Bool) (P : X → Type 0) → ((x : X) → P x → p x ≡ false) → (xs : List X) → AllByRecursion P xs → count_by p xs ≡ 0
none_where p P none [] all = refl
none_where p P none (x ∷ xs) all =
    sum_by-cons (λ y. cond (p y) 1 0) x xs ∙ ap₂ (λ b n. cond b 1 0 + n) (none x all.0) (none_where p P none xs all.1)

pub held_split : (s e : ℕ) (ts : List Stay) → held s e ts ≡ held (s + 1) e ts + starting s e ts
held_split s e ts = parts _ _ (λ t. eqb t.begin s && leb t.end e) (λ t. grind (arith, nat_tests)) ts

pub held_wider : (s e : ℕ) (ts : List Stay) → held s e ts ≤ held s (e + 1) ts
held_wider s e ts =
    omega (arith, parts (lies_within s (e + 1)) (lies_within s e) (λ t. leb s t.begin && eqb t.end (e + 1)) (λ t. grind (arith, nat_tests)) ts)

-- no stay begins after the last step, and all end by it
module _ (t : ℕ) (ts : List Stay) (inside : Inside t ts) where
  pub held_past : (e : ℕ) → held (t + 1) e ts ≡ 0
  held_past e = none_where (lies_within (t + 1) e) (λ x. (x.begin ≤ t) × (x.end ≤ t)) (λ x h. grind (arith, nat_tests)) ts inside

  pub held_all : (s : ℕ) → t ≤ 64 → held s 64 ts ≡ held s t ts
  held_all s few = same_where (lies_within s 64) (lies_within s t) (λ x. (x.begin ≤ t) × (x.end ≤ t)) (λ x h. grind (arith, nat_tests)) ts inside

-- one more at place i adds one to the sums that take it in
pub sum_one_more : (ns : List ℕ) (i n : ℕ) → i < length ns → sum (take n (set ns i (get_or ns i 0 + 1))) ≡ sum (take n ns) + cond (ltb i n) 1 0
sum_one_more [] i n place = absurd (omega arith)
sum_one_more (x ∷ ns) i zero place = grind (arith, nat_tests)
sum_one_more (x ∷ ns) zero (suc n) place =
    let one : cond {A = ℕ} (ltb 0 (suc n)) 1 0 ≡ 1 = grind (arith, nat_tests) in
    sum_by-cons (λ y. y) (x + 1) (take n ns) ∙ omega arith ∙ ap₂ ◌+◌ (sym (sum_by-cons (λ y. y) x (take n ns))) (sym one)
sum_one_more (x ∷ ns) (suc i) (suc n) place =
    let more = sum_one_more ns i n (omega arith) in
    let same : cond {A = ℕ} (ltb (suc i) (suc n)) 1 0 ≡ cond (ltb i n) 1 0 = grind (arith, nat_tests) in
    sum_by-cons (λ y. y) x (take n (set ns i (get_or ns i 0 + 1))) ∙ omega arith ∙ ap₂ ◌+◌ (sym (sum_by-cons (λ y. y) x (take n ns))) (sym same)

-- the sum over all steps
pub sum_all : (s : ℕ) (ends : List ℕ) (ts : List Stay) → length ends ≡ 65 → Tallies s ts ends → sum ends ≡ held s 64 ts
sum_all s ends ts whole tallied = ap sum (sym (take_all 65 ends (omega arith))) ∙ tallied 64 (omega arith)

pub held_few : (s e : ℕ) (ts : List Stay) → held s e ts ≤ length ts
held_few s e ts = count_by-le-length (lies_within s e) ts
