use Rattle.std.proofs.Common.{◌≡◌, suc, ◌-◌, ◌<◌, [], ◌∷◌, reverse, sym, ap, ◌∙◌, arith}
use Rattle.json_validity.proofs.Open.{after_lists, closes, goes_on, no_value, one_list, opens, reverse_push, stops, too_deep}
use Rattle.json_validity.proofs.text.pass_list.Goals as goal

pub loop-reader-init : goal.loop-reader-init
loop-reader-init c = (
  c.args.most - 1,
  rw c.new-outer.ensures.items (omega arith),
  rw c.new-outer.ensures.items (one_list (c.args.most - 1) c.args.outermost c.args.reader.now),
)

pub loop-reader-preserved-in-Leaf : goal.loop-reader-preserved-in-Leaf
loop-reader-preserved-in-Leaf c =
    let l = c.loop-reader in
    let i = l.invariant in
    let passed = goes_on i.0 l.innermost (reverse l.outer.items) l.reader c.next_in.new.reader c.begin.new.reader
    c.in-Member.ensures.next c.in-Leaf.ensures.begins in
    (i.0, i.1, i.2 ∙ passed)

pub returns-then-len-most : goal.returns-then-len-most
returns-then-len-most c =
    let i = c.loop-reader.invariant in
    i.2 ∙ too_deep i.0 c.loop-reader.innermost _ c.loop-reader.reader c.next_in.new.reader c.begin.new.reader c.in-List.bracket
    (omega (arith, i.1)) c.in-Member.ensures.next c.in-List.ensures.begins

pub loop-reader-preserved-in-List : goal.loop-reader-preserved-in-List
loop-reader-preserved-in-List c =
    let l = c.loop-reader in
    let i = l.invariant in
    let reversed = ap reverse c.in_ok-push-in-List.ensures.items ∙ reverse_push l.outer.items l.innermost in
    let room : 0 < i.0 = omega (arith, i.1) in
    let opened = opens i.0 l.innermost c.in-List.bracket (reverse l.outer.items) l.reader c.next_in.new.reader c.begin.new.reader room
    c.in-Member.ensures.next c.in-List.ensures.begins in
    let same = ap (λ bs. after_lists (i.0 - 1) (c.in-List.bracket ∷ bs) c.begin.new.reader) (sym reversed) in
    (i.0 - 1, omega (arith, i.1, c.in_ok-push-in-List.ensures.len), i.2 ∙ opened ∙ same)

pub returns-in-Nothing-begin : goal.returns-in-Nothing-begin
returns-in-Nothing-begin c =
    let i = c.loop-reader.invariant in
    i.2 ∙ no_value i.0 c.loop-reader.innermost _ c.loop-reader.reader c.next_in.new.reader c.begin.new.reader
    c.in-Member.ensures.next c.in-Nothing-begin.ensures.begins

pub loop-reader-preserved : goal.loop-reader-preserved
loop-reader-preserved c =
    let l = c.loop-reader in
    let i = l.invariant in
    let reversed = ap reverse c.in-Some.ensures.items ∙ reverse_push c.pop.new.self.items c.in-Some.bracket in
    let closed = closes i.0 l.innermost (reverse l.outer.items) l.reader c.next_in.new.reader c.in-End.ensures.next in
    let same = ap (λ bs. after_lists (suc i.0) bs c.next_in.new.reader) reversed in
    (suc i.0, omega (arith, i.1, c.in-Some.ensures.len), i.2 ∙ closed ∙ same)

pub returns-in-None : goal.returns-in-None
unfolding after_lists
returns-in-None c =
    let i = c.loop-reader.invariant in
    let none : c.loop-reader.outer.items ≡ [] = grind arith in
    i.2 ∙ closes i.0 c.loop-reader.innermost _ c.loop-reader.reader c.next_in.new.reader c.in-End.ensures.next
    ∙ ap (λ bs. after_lists (suc i.0) (reverse bs) c.next_in.new.reader) none

pub returns-in-Nothing : goal.returns-in-Nothing
returns-in-Nothing c =
    let i = c.loop-reader.invariant in
    i.2 ∙ stops i.0 c.loop-reader.innermost _ c.loop-reader.reader (c.in-Nothing.ensures.next i.0)
