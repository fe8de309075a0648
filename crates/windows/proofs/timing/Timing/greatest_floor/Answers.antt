use Rattle.std.proofs.Common.{◌≡◌, ℕ, not, take, length, sym, ap, ◌∙◌, arith}
use Rattle.std.proofs.lemmas.List.{length-map, take_all}
use Rattle.windows.specs.declared.stays.Linked.{Linked}
use Rattle.windows.specs.Chains.{last_at}
use Rattle.windows.specs.Counts.{listed, starting}
use Rattle.windows.proofs.Chains.{starting_last, none_numbered}
use Rattle.windows.proofs.Counting.{held_all, sum_all}
use Rattle.windows.proofs.Rows.{done_none, done_passed, done_raised}
use Rattle.windows.proofs.timing.Timing.greatest_floor.Goals as goal

pub loop-begin-init : goal.loop-begin-init
loop-begin-init c = done_none _ _ _ _ c.requires c.new-tally.result.ends (sym c.new-tally.result.added ∙ c.new-tally.ensures)

pub raise_row-most-requires-clause-ended : goal.raise_row-most-requires-clause-ended
raise_row-most-requires-clause-ended c =
    let tally = c.take_in.new.self in
    let ts = listed c.args.stays.now in
    tally.added
    ∙ sum_all c.loop-begin.begin tally.ends ts tally.whole c.take_in.ensures
    ∙ held_all c.args.self.steps ts c.requires c.loop-begin.begin c.args.self.few_steps
    ∙ sym (c.take_in.ensures c.args.self.steps c.args.self.few_steps)

pub loop-begin-preserved-then-is_none : goal.loop-begin-preserved-then-is_none
loop-begin-preserved-then-is_none c =
    let stays = c.args.stays.now in
    let s = c.loop-begin.begin in
    let many = length stays.linked.items in
    let ts = listed stays in
    let long : length ts ≡ many = length-map stays.linked.items (λ (l : Linked). l.stay) in
    let last : last_at ts s many ≡ 0 = sym (stays.starts s (omega (arith, c.args.self.few_steps))) ∙ none_numbered _ (c.is_none.ensures ∙ ap not c.if-is_none.true) in
    let none : (e : ℕ) → starting s e ts ≡ 0 =
    λ e.
    ap (starting s e) (sym (take_all many ts (omega (arith, long))))
    ∙ starting_last s e ts many (omega (arith, long))
    ∙ ap (λ n. starting s e (take n ts)) last in
    done_passed _ _ _ _ c.loop-begin.invariant (omega arith) (omega arith) c.requires none

pub loop-begin-preserved : goal.loop-begin-preserved
loop-begin-preserved c =
    done_raised _ _ _ _ c.loop-begin.invariant (omega arith) c.args.self.few_steps c.take_in.new.self.ends c.take_in.ensures _ c.raise_row-most.ensures
