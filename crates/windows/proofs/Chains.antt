-- The chains of stays: one more stay, and one step along a chain.
use Rattle.std.proofs.Common.{◌≡◌, ℕ, zero, suc, ◌+◌, ◌-◌, ◌<◌, ◌≤◌, Bool, true, false, cond, ◌&&◌, eqb, ltb, leb, ◌≢◌, List, [], ◌∷◌, ◌++◌, length, get_or, take, set, sum, Some, None, Option, sym, refl, ap, ◌∙◌, subst, ap₂, add-one, arith}
use Rattle.std.proofs.lemmas.List.{get_or_default, get_or-set_same, get_or-set_other, get_or_append_left, get_or_at, get_or-map, length-map, length_push, map-append}
use Rattle.std.proofs.lemmas.List.Sums.{sum_by_more, count_by_more_no}
use Rattle.std.proofs.lemmas.Bool.{false≢true}
use Rattle.std.proofs.lemmas.Bool.Decides.{nat_tests}
use Rattle.std.specs.Option.{is_some}
use Rattle.windows.specs.declared.stay.Stay.{Stay}
use Rattle.windows.specs.declared.stays.Linked.{Linked}
use Rattle.windows.specs.Chains.{stays_of, no_stay, begin_at, last_at, number_of, Starts, Links}
use Rattle.windows.specs.Counts.{starting}
use Rattle.windows.proofs.Counting.{sum_one_more}

pub last_few : (ts : List Stay) (s m : ℕ) → last_at ts s m ≤ m
last_few ts s zero = omega arith
last_few ts s (suc m) = let more = last_few ts s m in grind (arith, nat_tests)

pub last_begins : (ts : List Stay) (s m : ℕ) → 1 ≤ last_at ts s m → begin_at ts (last_at ts s m - 1) ≡ s
last_begins ts s zero some = absurd (omega arith)
last_begins ts s (suc m) some = by_test (eqb (begin_at ts m) s) refl some (last_begins ts s m)
  where
    by_test : (b : Bool) → eqb (begin_at ts m) s ≡ b → 1 ≤ cond b (suc m) (last_at ts s m) → (1 ≤ last_at ts s m → begin_at ts (last_at ts s m - 1) ≡ s)
        → begin_at ts (cond b (suc m) (last_at ts s m) - 1) ≡ s
    by_test true q l more =
        let same : begin_at ts m ≡ s = grind (arith, nat_tests) in
        let here : suc m - 1 ≡ m = omega arith in
        ap (begin_at ts) here ∙ same
    by_test false q l more = more l

-- no stay after the last that begins at s begins there
pub starting_last : (s e : ℕ) (ts : List Stay) (m : ℕ) → m ≤ length ts → starting s e (take m ts) ≡ starting s e (take (last_at ts s m) ts)
starting_last s e ts zero few = refl
starting_last s e ts (suc m) few = by_test (starting_last s e ts m (omega arith)) (eqb (begin_at ts m) s) refl
  where
    by_test : starting s e (take m ts) ≡ starting s e (take (last_at ts s m) ts) → (b : Bool) → eqb (begin_at ts m) s ≡ b
        → starting s e (take (suc m) ts) ≡ starting s e (take (cond b (suc m) (last_at ts s m)) ts)
    by_test before true q = refl
    by_test before false q =
        ap (λ n. starting s e (take n ts)) (sym (add-one m))
        ∙ count_by_more_no _ ts m no_stay few (ap (λ b. b && leb (get_or ts m no_stay).end e) q)
        ∙ before

-- a step with no index has no stay
pub none_numbered : (o : Option ℕ) → is_some o ≡ false → number_of o ≡ 0
none_numbered None none = refl
none_numbered (Some i) some = absurd (false≢true (sym some))

-- ---- one more stay

last_kept : (ts us : List Stay) (s m : ℕ) → m ≤ length ts → last_at (ts ++ us) s m ≡ last_at ts s m
last_kept ts us s zero few = refl
last_kept ts us s (suc m) few = ap₂ (λ x l. cond (eqb x.begin s) (suc m) l) (get_or_append_left ts us no_stay m few) (last_kept ts us s m (omega arith))

last_new : (ts : List Stay) (t : Stay) (s : ℕ) → last_at (ts ++ (t ∷ [])) s (length ts + 1) ≡ cond (eqb t.begin s) (length ts + 1) (last_at ts s (length ts))
last_new ts t s =
    ap (last_at (ts ++ (t ∷ [])) s) (add-one (length ts))
    ∙ ap₂ (λ x l. cond (eqb x.begin s) (suc (length ts)) l) (get_or_at ts t [] no_stay (length ts) refl) (last_kept ts (t ∷ []) s (length ts) (omega arith))
    ∙ ap (λ k. cond (eqb t.begin s) k (last_at ts s (length ts))) (sym (add-one (length ts)))

module _ (ls : List Linked) (l : Linked) (last : List (Option ℕ)) (starts : Starts last ls) where
  abbrev t : Stay
  t = l.stay

  one_more : stays_of (ls ++ (l ∷ [])) ≡ stays_of ls ++ (t ∷ [])
  one_more = map-append (λ (x : Linked). x.stay) ls (l ∷ [])

  long : length (stays_of ls) ≡ length ls
  long = length-map ls (λ (x : Linked). x.stay)

  pub starts_more : length last ≡ 65 → Starts (set last t.begin (Some (length ls))) (ls ++ (l ∷ []))
  starts_more whole s low =
      by_test (eqb t.begin s) refl
      ∙ sym (ap₂ (λ ts n. last_at ts s n) one_more (length_push ls l ∙ ap (λ n. n + 1) (sym long)) ∙ last_new (stays_of ls) t s ∙ ap₂ (λ n m. cond (eqb t.begin s) (n + 1) (last_at (stays_of ls) s m)) long long)
    where
      by_test : (b : Bool) → eqb t.begin s ≡ b → number_of (get_or (set last t.begin (Some (length ls))) s None) ≡ cond b (length ls + 1) (last_at (stays_of ls) s (length ls))
      by_test true q =
          let same : t.begin ≡ s = grind (arith, nat_tests) in
          ap (λ x. number_of (get_or (set last t.begin (Some (length ls))) x None)) (sym same)
          ∙ ap number_of (get_or-set_same last t.begin (Some (length ls)) None (omega (arith, t.begin_range)))
          ∙ sym (add-one (length ls))
      by_test false q =
          let apart : s ≢ t.begin = grind (arith, nat_tests) in
          ap number_of (get_or-set_other last t.begin s (Some (length ls)) None apart) ∙ starts s low

  pub links_more : Links ls → l.before ≡ get_or last t.begin None → Links (ls ++ (l ∷ []))
  links_more links link i d low = by_place (eqb i (length ls)) refl
    where
      -- what stands before place i, and there
      kept : (k : ℕ) → i ≤ length ls → begin_at (stays_of (ls ++ (l ∷ []))) i ≡ k → last_at (stays_of ls) k i ≡ last_at (stays_of (ls ++ (l ∷ []))) (begin_at (stays_of (ls ++ (l ∷ []))) i) i
      kept k few begin = sym (ap₂ (λ ts b. last_at ts b i) one_more begin ∙ last_kept (stays_of ls) (t ∷ []) k i (omega (arith, long)))

      by_place : (b : Bool) → eqb i (length ls) ≡ b → number_of (get_or (ls ++ (l ∷ [])) i d).before ≡ last_at (stays_of (ls ++ (l ∷ []))) (begin_at (stays_of (ls ++ (l ∷ []))) i) i
      by_place true q =
          let same : i ≡ length ls = grind (arith, nat_tests) in
          ap (λ (x : Linked). number_of x.before) (get_or_at ls l [] d i (sym same))
          ∙ ap number_of link
          ∙ starts t.begin t.begin_range
          ∙ ap (last_at (stays_of ls) t.begin) (sym same)
          ∙ kept t.begin (omega arith) (ap (λ ts. begin_at ts i) one_more ∙ ap (λ (x : Stay). x.begin) (get_or_at (stays_of ls) t [] no_stay i (long ∙ sym same)))
      by_place false q =
          let apart : i ≢ length ls = grind (arith, nat_tests) in
          let before : i < length ls = omega (arith, low, length_push ls l) in
          ap (λ (x : Linked). number_of x.before) (get_or_append_left ls (l ∷ []) d i before)
          ∙ links i d before
          ∙ kept (begin_at (stays_of ls) i) (omega arith) (ap (λ ts. begin_at ts i) one_more ∙ ap (λ (x : Stay). x.begin) (get_or_append_left (stays_of ls) (t ∷ []) no_stay i (omega (arith, long))))

-- ---- one step along the chain of step s, at the stay numbered n

module _ (s n : ℕ) (ts : List Stay) (some : 1 ≤ n) (few : n ≤ length ts) (begins : begin_at ts (n - 1) ≡ s) (next : ℕ) (link : next ≡ last_at ts (begin_at ts (n - 1)) (n - 1)) where
  next_is : next ≡ last_at ts s (n - 1)
  next_is = link ∙ ap (λ x. last_at ts x (n - 1)) begins

  lower : next < n
  lower = omega (arith, next_is, last_few ts s (n - 1))

  next_begins : 1 ≤ next → begin_at ts (next - 1) ≡ s
  next_begins = subst (λ x. 1 ≤ x → begin_at ts (x - 1) ≡ s) (sym next_is) (last_begins ts s (n - 1))

  -- the stay goes over from those that are left to those that are counted
  counted : (d : Stay) (ends : List ℕ) → length ends ≡ 65 → (e : ℕ)
      → sum (take (e + 1) (set ends (get_or ts (n - 1) d).end (get_or ends (get_or ts (n - 1) d).end 0 + 1))) + starting s e (take next ts)
      ≡ sum (take (e + 1) ends) + starting s e (take n ts)
  counted d ends whole e =
      let here : n - 1 + 1 ≡ n = omega arith in
      let at : get_or ts (n - 1) no_stay ≡ get_or ts (n - 1) d = get_or_default ts (n - 1) no_stay d (omega arith) in
      let begin : (get_or ts (n - 1) d).begin ≡ s = ap (λ t. t.begin) (sym at) ∙ begins in
      let put = sum_one_more ends (get_or ts (n - 1) d).end (e + 1) (omega (arith, (get_or ts (n - 1) d).end_range)) in
      let left : starting s e (take n ts) ≡ starting s e (take (n - 1) ts) + cond (eqb (get_or ts (n - 1) d).begin s && leb (get_or ts (n - 1) d).end e) 1 0 =
      ap (λ k. starting s e (take k ts)) (sym here) ∙ sum_by_more _ ts (n - 1) d (omega arith) in
      let rest : starting s e (take (n - 1) ts) ≡ starting s e (take next ts) =
      starting_last s e ts (n - 1) (omega arith) ∙ ap (λ k. starting s e (take k ts)) (sym next_is) in
      let same : ◌≡◌ {A = ℕ} (cond (ltb (get_or ts (n - 1) d).end (e + 1)) 1 0) (cond (eqb (get_or ts (n - 1) d).begin s && leb (get_or ts (n - 1) d).end e) 1 0) = grind (arith, nat_tests) in
      omega (arith, put, left, rest, same)

  pub chain_turn : (d : Stay) (ends more : List ℕ) → length ends ≡ 65 → more ≡ set ends (get_or ts (n - 1) d).end (get_or ends (get_or ts (n - 1) d).end 0 + 1)
      → (next < n) × (1 ≤ next → begin_at ts (next - 1) ≡ s) × ((e : ℕ) → sum (take (e + 1) more) + starting s e (take next ts) ≡ sum (take (e + 1) ends) + starting s e (take n ts))
  chain_turn d ends more whole put = (
    lower,
    next_begins,
    λ e. ap (λ xs. sum (take (e + 1) xs) + starting s e (take next ts)) put ∙ counted d ends whole e,
  )

-- the same at the stay with index i
module _ (ls : List Linked) (links : Links ls) (s i : ℕ) (x : Linked) (at : get_or ls i x ≡ x) (low : i < length ls) (begins : begin_at (stays_of ls) i ≡ s) where
  pub link_turn : (ends more : List ℕ) → length ends ≡ 65 → more ≡ set ends x.stay.end (get_or ends x.stay.end 0 + 1)
      → (number_of x.before < suc i) × (1 ≤ number_of x.before → begin_at (stays_of ls) (number_of x.before - 1) ≡ s)
      × ((e : ℕ) → sum (take (e + 1) more) + starting s e (take (number_of x.before) (stays_of ls)) ≡ sum (take (e + 1) ends) + starting s e (take (suc i) (stays_of ls)))
  link_turn ends more whole put =
      let ts : List Stay = stays_of ls in
      let here : suc i - 1 ≡ i = omega arith in
      let long : length ts ≡ length ls = length-map ls (λ (l : Linked). l.stay) in
      let stay : get_or ts (suc i - 1) x.stay ≡ x.stay =
      ap (λ k. get_or ts k x.stay) here ∙ get_or-map (λ (l : Linked). l.stay) ls i x x.stay low ∙ ap (λ (l : Linked). l.stay) at in
      chain_turn s (suc i) ts (omega arith) (omega (arith, long)) (ap (begin_at ts) here ∙ begins) (number_of x.before)
      (ap (λ (l : Linked). number_of l.before) (sym at) ∙ links i x low ∙ ap (λ k. last_at ts (begin_at ts k) k) (sym here))
      x.stay ends more whole (put ∙ ap (λ (t : Stay). set ends t.end (get_or ends t.end 0 + 1)) (sym stay))
