use Rattle.std.proofs.Common.{◌≡◌, ◌+◌, ◌-◌, ◌≤◌, suc, length, take, sym, ap, ◌∙◌, subst, arith}
use Rattle.std.proofs.lemmas.List.{length-map, take_all}
use Rattle.windows.specs.declared.stays.Linked.{Linked}
use Rattle.windows.specs.Chains.{begin_at}
use Rattle.windows.specs.Counts.{listed, starting}
use Rattle.windows.proofs.Chains.{last_few, last_begins, starting_last, link_turn}
use Rattle.windows.proofs.Counting.{held_split, held_few, sum_all}
use Rattle.windows.proofs.tally.Tally.take_in.Goals as goal

pub loop-next-init : goal.loop-next-init
loop-next-init c =
    let stays = c.args.stays.now in
    let tally = c.args.self.now in
    let s = c.args.step in
    let many = length stays.linked.items in
    let ts = listed stays in
    let start = stays.starts s c.requires.range in
    let long : length ts ≡ many = length-map stays.linked.items (λ (l : Linked). l.stay) in
    let all = sum_all (s + 1) tally.ends ts tally.whole c.requires.later in (
      omega (arith, start, last_few ts s many),
      omega (arith, start, last_few ts s many, long, all, held_few (s + 1) 64 ts, tally.added, c.as_slice-linked.ensures.fits, ap length c.as_slice-linked.ensures.value),
      subst (λ n. 1 ≤ n → begin_at ts (n - 1) ≡ s) (sym start) (last_begins ts s many),
      λ e high.
          let same = ap (λ n. starting s e (take n ts)) start in
          let whole = ap (starting s e) (take_all many ts (omega (arith, long))) in
          omega (arith, same, whole, starting_last s e ts many (omega (arith, long)), held_split s e ts, c.requires.later e high),
    )

pub loop-next-smaller : goal.loop-next-smaller
loop-next-smaller c =
    let stays = c.args.stays.now in
    let i = c.in-Some.index in
    let here : suc i - 1 ≡ i = omega arith in
    let left = rw c.in-Some.is at c.loop-next.invariant in
    let turn =
    link_turn stays.linked.items stays.links c.args.step i c.index-linked-index.result (rw c.as_slice-linked.ensures.value at (sym c.index-linked-index.is)) (omega (arith, left.0))
    (ap (begin_at (listed stays)) (sym here) ∙ left.2 (omega arith)) c.loop-next.self.ends c.add.new.self.ends c.loop-next.self.whole c.add.ensures.ends in
    rw c.in-Some.is turn.0

pub loop-next-preserved : goal.loop-next-preserved
loop-next-preserved c =
    let stays = c.args.stays.now in
    let i = c.in-Some.index in
    let here : suc i - 1 ≡ i = omega arith in
    let left = rw c.in-Some.is at c.loop-next.invariant in
    let turn =
    link_turn stays.linked.items stays.links c.args.step i c.index-linked-index.result (rw c.as_slice-linked.ensures.value at (sym c.index-linked-index.is)) (omega (arith, left.0))
    (ap (begin_at (listed stays)) (sym here) ∙ left.2 (omega arith)) c.loop-next.self.ends c.add.new.self.ends c.loop-next.self.whole c.add.ensures.ends in (
      omega (arith, turn.0, left.0),
      omega (arith, turn.0, left.1, c.add.ensures.all),
      turn.1,
      λ e high. turn.2 e ∙ left.3 e high,
    )
